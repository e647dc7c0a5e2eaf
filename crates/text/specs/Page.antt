-- Text that is laid over an output.
use Rattle.std.specs.Prelude.{◌≡◌, ℕ, ◌+◌, ◌-◌, ◌^◌, ◌≤◌, min, List, ◌++◌, length, take, drop, codes, decimal}
use Rattle.std.specs.List.{flat_map}
use Rattle.std.specs.Borrow.{MutBor}
use Rattle.text.specs.declared.page.Page.{Page}

-- text laid over the output from a place on, as far as the output goes
unfoldable pub overlaid : List ℕ → ℕ → List ℕ → List ℕ
overlaid out at text = take (length out) (take at out ++ (text ++ drop (at + length text) out))

-- the text was laid at a place; the answer is the place after it, or the largest number of 64 bits
pub record Laid (out : List ℕ) (at : ℕ) (text out' : List ℕ) (r : ℕ) : Type 0 where
  pub bytes : out' ≡ overlaid out at text
  pub ends : r ≡ min (at + length text) (2 ^ 64 - 1)
  pub slice : length out ≤ 2 ^ 64 - 1

-- the output that a page lays text over, and the place where its text goes on
abbrev pub output_of : Page → MutBor (List ℕ)
output_of page = page.out

abbrev pub place_of : Page → ℕ
place_of page = page.place

-- the text was laid on the page from its place on
pub record Writes (old : Page) (text : List ℕ) (new : Page) : Type 0 where
  pub same_reference : new.out.ghost_name ≡ old.out.ghost_name
  pub laid : Laid old.out.now old.place text new.out.now new.place

-- a blank and the serial
abbrev pub after_blank : ℕ → List ℕ
after_blank s = codes " " ++ decimal s

-- a blank and its serial for each
abbrev pub listed : List ℕ → List ℕ
listed serials = flat_map after_blank serials
