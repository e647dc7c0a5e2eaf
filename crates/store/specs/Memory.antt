-- What a sharing layer remembers: the last 64 requests that were granted below, the oldest first.
use Rattle.std.specs.Prelude.{◌≡◌, ℕ, ◌+◌, ◌-◌, ◌%◌, ◌<◌, min, List, [], ◌∷◌, ◌++◌, length, take, drop, pos, Some, None, Option, ◌≢◌, slice_index_or}
use Rattle.code.specs.declared.construct.Handle.{Handle}
use Rattle.code.specs.declared.construct.Construct.{Construct}
use Rattle.code.specs.declared.construct.Construct.TheVariants.{Number}
use Rattle.store.specs.declared.memory.Remembered.{Remembered}
use Rattle.store.specs.Kept.{Kept, InOrder}
use Rattle.store.specs.Meaning.{Codes, Answers}

abbrev pub SameRequest : Remembered → Remembered → Type 0
SameRequest x y = x.request ≡ y.request

-- what a read past the end would give
abbrev pub blank : Remembered
blank = record { request = Number (pos 0); handle = record { number = 0 } }

abbrev pub entry : Kept → ℕ → Remembered
entry m k = slice_index_or m.entries k blank

abbrev pub count : Kept → ℕ
count m = m.count

-- a list begun at the place n, with what stands before n at its end
abbrev pub turned : {A : Type 0} → ℕ → List A → List A
turned n xs = drop n xs ++ take n xs

-- the entries, the oldest first
abbrev pub remembered : Kept → List Remembered
remembered m = turned m.next (take m.count m.entries)

-- the handle of the entry with the request, or that no entry has it
abbrev pub Asked : Kept → Construct → Option Handle → Type 0
Asked m x None = (k : ℕ) → k < count m → (entry m k).request ≢ x
Asked m x (Some h) = (k : ℕ) × (k < count m) × ((entry m k).request ≡ x) × ((entry m k).handle ≡ h)

-- the last n of a list
abbrev pub latest : {A : Type 0} → ℕ → List A → List A
latest n xs = drop (length xs - n) xs

-- one request more at the next place; past 64 the oldest is forgotten
pub record Noted (m : Kept) (x : Construct) (h : Handle) (n : Kept) : Type 0 where
  pub order : InOrder n
  pub count : count n ≡ min (count m + 1) 64
  pub next : n.next ≡ (m.next + 1) % 64
  pub newest : entry n m.next ≡ record { request = x; handle = h }
  pub others : (k : ℕ) → (k ≢ m.next) → entry n k ≡ entry m k
  pub remembers : remembered n ≡ latest 64 (remembered m ++ (record { request = x; handle = h } ∷ []))

-- nothing is remembered
pub record EmptyMemory (m : Kept) : Type 0 where
  pub count : count m ≡ 0
  pub next : m.next ≡ 0
  pub empty : remembered m ≡ []

-- each entry's handle stands for what its request asks for
pub record Remembers (code : Codes) (m : Kept) : Type 0 where
  pub order : InOrder m
  pub meant : (k : ℕ) → k < count m → Answers code (entry m k).request (entry m k).handle
