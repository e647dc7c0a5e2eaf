-- Free names in their places, one more above them, and lists that a loop has written in part.
use Rattle.std.proofs.Common.{◌≡◌, ℕ, suc, ◌+◌, ◌-◌, ◌<◌, ◌≤◌, List, [], ◌∷◌, ◌++◌, length, take, drop, set, replicate, sym, refl, ap, ◌∙◌, arith, append_assoc, length-append}
use Rattle.std.proofs.lemmas.Grind.{common_steps}
use Rattle.std.proofs.lemmas.List.{length-set, length-take-le, take_more_set, drop-set-lt, drop_more, take-append-drop}
use mathlib.Core.HLevel.{is_prop→PathP}
use Rattle.code.specs.Names.{Ascending}
use Rattle.code.specs.Places.{IsLaidOut}
use Rattle.code.specs.PlacesLaw.{laid_out_prop}
use Rattle.code.specs.Serials.{names}
use Rattle.code.specs.declared.names.Names.{Names}

-- the front of an ascending list is ascending
ascending_front : (n : ℕ) (xs ys : List ℕ) → Ascending n (xs ++ ys) → Ascending n xs
ascending_front n [] ys up = tt
ascending_front n (x ∷ xs) ys up = (up.0, ascending_front (suc x) xs ys up.1)

-- one name more, above the others
pub laid_more : (serials : List ℕ) (count s : ℕ) → IsLaidOut serials count → count < 16 → Ascending 0 (take count serials ++ s ∷ []) → IsLaidOut (set serials count s) (count + 1)
laid_more serials count s laid room above =
    let lt : count < length serials = omega (arith, laid.sixteen) in
    let fewer : 16 - count ≡ suc (16 - (count + 1)) = omega arith in
    record {
      sixteen = length-set serials count s ∙ laid.sixteen;
      few = omega arith;
      ascending = rw (take_more_set serials count s lt) above;
      blank =
          drop-set-lt (count + 1) serials count s (omega arith) ∙ ap (drop 1) (sym (drop_more serials count 0 lt) ∙ laid.blank) ∙ ap (λ (n : ℕ). drop 1 (replicate n 0)) fewer;
    }

-- the first of what is left is above what is written
pub next_above : (front left rest whole : List ℕ) (x : ℕ) → front ++ left ≡ whole → left ≡ x ∷ rest → Ascending 0 whole → Ascending 0 (front ++ x ∷ [])
next_above front left rest whole x joins next up = ascending_front 0 (front ++ x ∷ []) rest (rw (append_assoc, ← next, joins) up)

-- places and a count that a loop writes, with what is left to write
pub record Writing (serials : List ℕ) (count : ℕ) (left whole : List ℕ) : Type 0 where
  pub laid : IsLaidOut serials count
  pub joins : take count serials ++ left ≡ whole

-- where more is left there is room
pub writing_room : (serials : List ℕ) (count x : ℕ) (left rest whole : List ℕ) → Writing serials count left whole → left ≡ x ∷ rest → length whole ≤ 16 → count < 16
writing_room serials count x left rest whole w next few =
    let written = length-take-le count serials (omega (arith, w.laid.sixteen, w.laid.few)) in
    omega (arith, length-append {A = ℕ}, written, ap length w.joins, ap length next)

-- the first of what is left is written
pub writing_more : (serials : List ℕ) (count x : ℕ) (left rest whole : List ℕ) → Writing serials count left whole → left ≡ x ∷ rest → length whole ≤ 16 → Ascending 0 whole → Writing (set serials count x) (count + 1) rest whole
writing_more serials count x left rest whole w next few up =
    let room = writing_room serials count x left rest whole w next few in
    let lt : count < length serials = omega (arith, w.laid.sixteen, room) in
    record {
      laid = laid_more serials count x w.laid room (next_above (take count serials) left rest whole x w.joins next up);
      joins = rw (take_more_set serials count x lt, append_assoc, ← next) w.joins;
    }

-- the names are as many as are counted
pub counted : (serials : List ℕ) (count : ℕ) (names : List ℕ) → IsLaidOut serials count → take count serials ≡ names → length names ≡ count
counted serials count names laid view_is = grind (arith, common_steps)

-- names of one list lie alike
pub names_told : (a b : Names) → names a ≡ names b → a ≡ b
names_told a b same = λ i. record { serials = places i; count = count i; laid_out = is_prop→PathP (λ i. IsLaidOut (places i) (count i)) (λ i. laid_out_prop (places i) (count i)) a.laid_out b.laid_out i }
  where
    count : a.count ≡ b.count
    count = sym (counted a.serials a.count (names a) a.laid_out refl) ∙ ap length same ∙ counted b.serials b.count (names b) b.laid_out refl

    whole : (n : Names) → names n ++ replicate (16 - n.count) 0 ≡ n.serials
    whole n = ap (λ (xs : List ℕ). names n ++ xs) (sym n.laid_out.blank) ∙ take-append-drop n.count n.serials

    places : a.serials ≡ b.serials
    places = sym (whole a) ∙ (λ i. same i ++ replicate (16 - count i) 0) ∙ whole b
