-- Every name in a spelling belongs to its binder.
use Rattle.std.proofs.Common.{◌≡◌, ℕ, ◌+◌, ◌^◌, ◌<◌, eqb, List, [], ◌∷◌, length, drop, sym, ap, subst, ⊎_elim, arith, rules}
use Rattle.std.proofs.lemmas.Bool.{cond_both, eqb-true, eqb-false, cases_eq}
use Rattle.std.proofs.lemmas.Bool.Decides.{nat_tests}
use Rattle.std.proofs.lemmas.Fmt.{decimal_injective}
use Rattle.code.specs.Members.{In, Among, first, later, Nearest, here, past}
use Rattle.code.specs.Code.{Code, size}
use Rattle.code.specs.Names.{without, free}
use Rattle.code.specs.Text.{name, number_of, spelled}
use Rattle.code.specs.Belong.{Belong, NamesBelong, named}
use Rattle.code.proofs.NameLists.{in_none, in_cons, first_at, merge_left, merge_right, without_keeps}

-- two binders whose names are equal have as many binders around them
pub same_name : (m n : ℕ) → m < 2 ^ 64 → n < 2 ^ 64 → name m ≡ name n → m ≡ n
same_name m n p q e = decimal_injective m n p q (ap (drop 1) e)

number_below : (around : List ℕ) (s : ℕ) → In s around → number_of around s < length around
number_below [] s i = absurd (in_none i)
number_below (x ∷ around) s i = grind (arith, nat_tests, in_cons i, number_below around s)

nearest_named : (around : List ℕ) (s : ℕ) → length around < 2 ^ 64 → In s around → Nearest (name (number_of around s)) s (named around)
nearest_named [] s l i = absurd (in_none i)
nearest_named (x ∷ around) s l i =
    cond_both (eqb x s) (length around) (number_of around s) (λ n. Nearest (name n) s (named (x ∷ around)))
    (λ e. rw (eqb-true x s e) here)
    (λ e. ⊎_elim (λ q. absurd (eqb-false x s e (sym q)))
    (λ j. let b = number_below around s j in past (λ q. omega (arith, same_name (length around) (number_of around s) (omega arith) (omega arith) q)) (nearest_named around s (omega arith) j))
    (in_cons i))

-- in the body of one more binder
under : (x : ℕ) (names around : List ℕ) → Among (without x names) around → Among names (x ∷ around)
under x names around i s j = ⊎_elim first_at (λ n. later (i s (without_keeps s x names n j))) (cases_eq s x)

pub belongs : (c : Code) (around : List ℕ) → length around + size c < 2 ^ 64 → Among (free c) around → Belong (named around) c (spelled around c)
belongs (Code.number n) around l i = Belong.in_number
belongs (Code.truth b) around l i = Belong.in_truth
belongs (Code.input j) around l i = Belong.in_input
belongs (Code.variable s) around l i = Belong.in_variable (nearest_named around s (omega arith) (i s first))
belongs (Code.join o a b) around l i = Belong.in_join (belongs a around (omega arith) (λ s j. i s (merge_left _ _ _ j))) (belongs b around (omega arith) (λ s j. i s (merge_right _ (free a) _ j)))
belongs (Code.choose a b d) around l i =
    Belong.in_choose (belongs a around (omega arith) (λ s j. i s (merge_left _ _ _ j))) (belongs b around (omega arith) (λ s j. i s (search (rules, merge_left, merge_right))))
    (belongs d around (omega arith) (λ s j. i s (search (rules, merge_left, merge_right))))
belongs (Code.apply f a) around l i = Belong.in_apply (belongs f around (omega arith) (λ s j. i s (merge_left _ _ _ j))) (belongs a around (omega arith) (λ s j. i s (merge_right _ (free f) _ j)))
belongs (Code.function x p b) around l i = Belong.in_function (belongs b (x ∷ around) (omega arith) (under x (free b) around i))
belongs (Code.letin x e b) around l i =
    Belong.in_letin (belongs e around (omega arith) (λ s j. i s (merge_left _ _ _ j))) (belongs b (x ∷ around) (omega arith) (under x (free b) around (λ s j. i s (merge_right _ (free e) _ j))))

pub names_belong : NamesBelong
names_belong = record {
  closed = λ c l e. belongs c [] (omega arith) (λ s i. subst (In s) e i);
  under = λ around c. belongs c around;
}
