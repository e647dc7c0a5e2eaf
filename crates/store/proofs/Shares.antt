-- What a call of `make` does to a sharing layer, by what it does to the store below.
use Rattle.std.proofs.Common.{◌≡◌, ℕ, ◌<◌, ◌⊎◌, Some, Ok, sym, refl, ap, ◌∙◌, inl, inr, arith}
use Rattle.std.proofs.lemmas.Bool.{cases_eq}
use Rattle.code.specs.declared.construct.Handle.{Handle}
use Rattle.code.specs.declared.construct.Construct.{Construct}
use Rattle.code.specs.Code.{Code}
use Rattle.store.specs.Kept.{Kept}
use Rattle.store.specs.Meaning.{Codes, wanted, Answers, Made}
use Rattle.store.specs.Memory.{entry, count, Asked, Noted, Remembers}
use Rattle.store.proofs.Meanings.{KnowsMore, answers_more, made_answers}

-- what is remembered stays true where codes are kept
pub remembers_more : (f g : Codes) (m : Kept) → KnowsMore f g → Remembers f m → Remembers g m
remembers_more f g m more v =
    record { order = v.order; meant = λ k lt. answers_more f g (entry m k).request (entry m k).handle more (v.meant k lt) }

remembers_note : (f : Codes) (m n : Kept) (x : Construct) (h : Handle) → Remembers f m → Noted m x h n → Answers f x h → Remembers f n
remembers_note f m n x h v a answers = record { order = a.order; meant = λ k lt. by k lt (cases_eq k m.next) }
  where
    older : (k : ℕ) → k < count n → (k ≡ m.next → ⊥) → k < count m
    older k lt other = grind (arith, a.count, v.order.filling, v.order.few, other)

    by : (k : ℕ) → k < count n → (k ≡ m.next) ⊎ (k ≡ m.next → ⊥) → Answers f (entry n k).request (entry n k).handle
    by k lt (inl e) = rw (e, a.newest) answers
    by k lt (inr other) = rw (a.others k other) (v.meant k (older k lt other))

-- a remembered handle answers the request
pub shared_found : (f : Codes) (m : Kept) (n : ℕ) (price : Code → ℕ) (x : Construct) (h : Handle) → Remembers f m → Asked m x (Some h) → Made f f n n price price x (Ok h)
shared_found f m n price x h v found =
    let e = v.meant found.0 found.1 in
    let some : wanted f x ≡ Ok e.0 = ap (wanted f) (sym found.2) ∙ e.1 in
    let is : f h ≡ Some e.0 = ap f (sym found.3) ∙ e.2 in
    record { kept = λ k c i. i; prices = λ c. refl; ends = rw some (is, omega arith, omega arith) }

-- the store below granted the request, and it is noted
pub shared_made : (f g : Codes) (m n : Kept) (had has : ℕ) (price priced : Code → ℕ) (x : Construct) (h : Handle) → Remembers f m → Made f g had has price priced x (Ok h) → Noted m x h n → Remembers g n
shared_made f g m n had has price priced x h v made a =
    remembers_note g m n x h (remembers_more f g m made.kept v) a (made_answers f g had has price priced x h made)
