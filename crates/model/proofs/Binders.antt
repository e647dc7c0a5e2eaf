-- Open binders: which names are open, and with which types.
use Rattle.std.proofs.Common.{◌≡◌, ℕ, ◌≤◌, true, ◌⊎◌, List, [], ◌∷◌, length, refl, arith, rules}
use Rattle.std.proofs.lemmas.Bool.Decides.{nat_tests}
use Rattle.code.specs.declared.types.Ty.{Ty}
use Rattle.code.specs.Names.{without, Ascending}
use Rattle.code.specs.Members.{In, first, later}
use Rattle.model.specs.Exact.{scope}
use Rattle.model.specs.Model.{Binder, serial, variable_type, is_open, escaping}
use Rattle.code.proofs.NameLists.{in_none, in_cons, in_without, ascending_without, without_most}

abbrev pub AllOpen : List Binder → List ℕ → Type 0
AllOpen bs names = (s : ℕ) → In s names → is_open bs s ≡ true

pub open_later : (b : Binder) (bs : List Binder) (s : ℕ) → is_open bs s ≡ true → is_open (b ∷ bs) s ≡ true
open_later b bs s h = grind (arith, nat_tests)

pub open_cases : (b : Binder) (bs : List Binder) (s : ℕ) → is_open (b ∷ bs) s ≡ true → (serial b ≡ s) ⊎ (is_open bs s ≡ true)
open_cases b bs s h = grind (arith, nat_tests)

-- the names that a binder does not bind are open without it
pub open_past : (b : Binder) (bs : List Binder) (names : List ℕ) → AllOpen (b ∷ bs) names → AllOpen bs (without (serial b) names)
open_past b bs names all s i = search (rules, in_without, all, open_cases)

-- no name escapes just where all are open
pub escaping_none : (bs : List Binder) (names : List ℕ) → length (escaping bs names) ≡ 0 → AllOpen bs names
escaping_none bs [] h s i = absurd (in_none i)
escaping_none bs (x ∷ names) h s i = search (rules, nat_tests, in_cons, escaping_none bs names)

pub none_escaping : (bs : List Binder) (names : List ℕ) → AllOpen bs names → length (escaping bs names) ≡ 0
none_escaping bs [] all = refl
none_escaping bs (x ∷ names) all = rw (all x first) (none_escaping bs names (λ s i. all s (later i)))

-- a name is open where one of the binders binds it
pub open_in : (bs : List Binder) (s : ℕ) (b : Binder) → In b bs → serial b ≡ s → is_open bs s ≡ true
open_in [] s b i e = absurd (in_none i)
open_in (x ∷ bs) s b i e = grind (arith, nat_tests, in_cons i, open_in bs s b)

-- each name of the scope is that of an open binder
pub in_scope : (bs : List Binder) (s : ℕ) (t : Ty) → In (s, t) (scope bs) → (b : Binder) × In b bs × (serial b ≡ s) × (variable_type b ≡ t)
in_scope [] s t i = absurd (in_none i)
in_scope (b ∷ bs) s t i = search (rules, in_cons, in_scope bs s t, first, later)

-- open names are no more than the open binders
pub open_few : (bs : List Binder) (names : List ℕ) → Ascending 0 names → AllOpen bs names → length names ≤ length bs
open_few [] [] a all = omega arith
open_few [] (x ∷ names) a all = absurd (let o = all x first in cc)
open_few (b ∷ bs) names a all =
    omega (arith, without_most 0 (serial b) names a, open_few bs (without (serial b) names) (ascending_without 0 (serial b) names a) (open_past b bs names all))

pub no_members : {A : Type 0} (xs : List A) → ((x : A) → In x xs → ⊥) → xs ≡ []
no_members [] h = refl
no_members (x ∷ xs) h = absurd (h x first)
