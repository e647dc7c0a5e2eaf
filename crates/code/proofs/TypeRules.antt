-- The computed type of a code is the one that the rules give, and depends only on the types of its free names.
use Rattle.std.proofs.Common.{◌≡◌, ℕ, List, [], ◌∷◌, Some, None, Option, sym, refl, ap, ◌∙◌, subst, ⊎_elim, arith, rules}
use Rattle.std.proofs.lemmas.Bool.Decides.{nat_tests}
use Rattle.std.proofs.lemmas.Option.{same_Some}
use Rattle.code.specs.declared.operator.Operator.{Operator}
use Rattle.code.specs.declared.types.Base.{Base}
use Rattle.code.specs.declared.types.Base.TheVariants.{Truth}
use Rattle.code.specs.declared.types.Ty.{Ty}
use Rattle.code.specs.declared.types.Ty.TheVariants.{Plain, Function}
use Rattle.code.specs.Code.{Code}
use Rattle.code.specs.Members.{In, first, Nearest, here, past}
use Rattle.code.specs.Names.{merge, without, free}
use Rattle.code.specs.Typing.{Scope, type_in, type_of, then, takes, gives, joined, chosen, applied, abstracted}
use Rattle.code.specs.Exact.{HasType, Agree, TypesExact}
use Rattle.code.specs.Exact
use Rattle.code.proofs.NameLists.{in_none, in_cons, in_merge, merge_left, merge_right, in_without, without_keeps}

-- the type that a scope tells of a name is that of the nearest binder
pub nearest_told : {s : ℕ} {t : Ty} {g : Scope} → Nearest s t g → type_in g s ≡ Some t
nearest_told {s = s} here = grind (arith, nat_tests)
nearest_told {s = s} (past n h) = grind (arith, nat_tests, n, nearest_told h)

pub told_nearest : (g : Scope) (s : ℕ) (t : Ty) → type_in g s ≡ Some t → Nearest s t g
told_nearest [] s t e = absurd cc
told_nearest (b ∷ g) s t e = search (rules, nat_tests, here, past, told_nearest g s t)

-- the types of a construct's parts, where it has one
joined_parts : (o : Operator) (u v t : Ty) → joined o u v ≡ Some t → (u ≡ Plain (takes o)) × (v ≡ Plain (takes o)) × (t ≡ Plain (gives o))
joined_parts o u v t e = search rules

chosen_parts : (c u v t : Ty) → chosen c u v ≡ Some t → (c ≡ Plain Truth) × (u ≡ t) × (v ≡ t)
chosen_parts c u v t e = search rules

applied_parts : (u v t : Ty) → applied u v ≡ Some t → (p : Base) × (r : Base) × (u ≡ Function p r) × (v ≡ Plain p) × (t ≡ Plain r)
applied_parts u v t e = search rules

abstracted_parts : (p : Base) (u t : Ty) → abstracted p u ≡ Some t → (r : Base) × (u ≡ Plain r) × (t ≡ Function p r)
abstracted_parts p u t e = search rules

pub typed_so : {g : Scope} {c : Code} {t : Ty} → HasType g c t → type_of g c ≡ Some t
typed_so Exact.number = refl
typed_so Exact.truth = refl
typed_so Exact.input = refl
typed_so (Exact.variable n) = nearest_told n
typed_so (Exact.join x y) = rw (typed_so x, typed_so y) (search rules)
typed_so (Exact.choose x y z) = rw (typed_so x, typed_so y, typed_so z) (search rules)
typed_so (Exact.apply x y) = rw (typed_so x, typed_so y) (search rules)
typed_so (Exact.function x) = rw (typed_so x)
typed_so (Exact.letin x y) = rw (typed_so x, typed_so y)

-- what a step gives, it gives of something
pub then_some : {A B : Type 0} (o : Option A) (f : A → Option B) (y : B) → then o f ≡ Some y → (x : A) × (o ≡ Some x) × (f x ≡ Some y)
then_some None f y e = absurd cc
then_some (Some x) f y e = (x, refl, e)

pub has_type : (c : Code) (g : Scope) (t : Ty) → type_of g c ≡ Some t → HasType g c t
has_type (Code.number n) g t e = subst (HasType g (Code.number n)) (same_Some _ _ e) Exact.number
has_type (Code.truth b) g t e = subst (HasType g (Code.truth b)) (same_Some _ _ e) Exact.truth
has_type (Code.input i) g t e = subst (HasType g (Code.input i)) (same_Some _ _ e) Exact.input
has_type (Code.variable s) g t e = Exact.variable (told_nearest g s t e)
has_type (Code.join o a b) g t e =
    let x = then_some (type_of g a) _ t e in
    let y = then_some (type_of g b) _ t x.2 in
    let h = joined_parts o x.0 y.0 t y.2 in
    rw h.2 (Exact.join (has_type a g _ (x.1 ∙ ap Some h.0)) (has_type b g _ (y.1 ∙ ap Some h.1)))
has_type (Code.choose a b d) g t e =
    let x = then_some (type_of g a) _ t e in
    let y = then_some (type_of g b) _ t x.2 in
    let z = then_some (type_of g d) _ t y.2 in
    let h = chosen_parts x.0 y.0 z.0 t z.2 in
    Exact.choose (has_type a g _ (x.1 ∙ ap Some h.0)) (has_type b g _ (y.1 ∙ ap Some h.1)) (has_type d g _ (z.1 ∙ ap Some h.2))
has_type (Code.apply f a) g t e =
    let x = then_some (type_of g f) _ t e in
    let y = then_some (type_of g a) _ t x.2 in
    let h = applied_parts x.0 y.0 t y.2 in
    rw h.4 (Exact.apply (has_type f g _ (x.1 ∙ ap Some h.2)) (has_type a g _ (y.1 ∙ ap Some h.3)))
has_type (Code.function s p b) g t e =
    let x = then_some (type_of ((s, Plain p) ∷ g) b) _ t e in
    let h = abstracted_parts p x.0 t x.2 in
    rw h.2 (Exact.function (has_type b ((s, Plain p) ∷ g) _ (x.1 ∙ ap Some h.1)))
has_type (Code.letin s v b) g t e =
    let x = then_some (type_of g v) _ t e in
    Exact.letin (has_type v g x.0 x.1) (has_type b ((s, x.0) ∷ g) t x.2)

under : (x : ℕ) (t : Ty) (g h : Scope) (names : List ℕ) → Agree g h (without x names) → Agree ((x, t) ∷ g) ((x, t) ∷ h) names
under x t g h names agree s i = grind (arith, nat_tests, agree s, without_keeps s x names)

pub same_types : (c : Code) (g h : Scope) → Agree g h (free c) → type_of g c ≡ type_of h c
same_types (Code.number n) g h agree = refl
same_types (Code.truth b) g h agree = refl
same_types (Code.input i) g h agree = refl
same_types (Code.variable s) g h agree = agree s first
same_types (Code.join o a b) g h agree =
    let p = same_types a g h (λ s i. agree s (merge_left _ _ _ i)) in
    let q = same_types b g h (λ s i. agree s (merge_right _ (free a) _ i)) in
    rw (p, q)
same_types (Code.choose a b d) g h agree =
    let p = same_types a g h (λ s i. agree s (merge_left _ _ _ i)) in
    let q = same_types b g h (λ s i. agree s (search (rules, merge_left, merge_right))) in
    let r = same_types d g h (λ s i. agree s (search (rules, merge_left, merge_right))) in
    rw (p, q, r)
same_types (Code.apply f a) g h agree =
    let p = same_types f g h (λ s i. agree s (merge_left _ _ _ i)) in
    let q = same_types a g h (λ s i. agree s (merge_right _ (free f) _ i)) in
    rw (p, q)
same_types (Code.function x p b) g h agree = rw (same_types b ((x, Plain p) ∷ g) ((x, Plain p) ∷ h) (under x (Plain p) g h (free b) agree))
same_types (Code.letin x e b) g h agree =
    let p = same_types e g h (λ s i. agree s (merge_left _ _ _ i)) in
    let q = λ (t : Ty). same_types b ((x, t) ∷ g) ((x, t) ∷ h) (under x t g h (free b) (λ s i. agree s (merge_right _ (free e) _ i))) in
    λ k. then (p k) (λ t. q t k)

-- each free name of a code with a type is in its scope
past_binder : (s x : ℕ) (t : Ty) (g : Scope) → (s ≡ x → ⊥) → (u : Ty) × Nearest s u ((x, t) ∷ g) → (u : Ty) × Nearest s u g
past_binder s x t g n (u, here) = absurd (n refl)
past_binder s x t g n (u, past m h) = (u, h)

pub in_scope : {g : Scope} {c : Code} {t : Ty} → HasType g c t → (s : ℕ) → In s (free c) → (u : Ty) × Nearest s u g
in_scope Exact.number s i = absurd (in_none i)
in_scope Exact.truth s i = absurd (in_none i)
in_scope Exact.input s i = absurd (in_none i)
in_scope {g} (Exact.variable {t = t} n) s i = (t, ⊎_elim (λ e. subst (λ (z : ℕ). Nearest z t g) (sym e) n) (λ j. absurd (in_none j)) (in_cons i))
in_scope (Exact.join {a = a} {b = b} x y) s i = ⊎_elim (in_scope x s) (in_scope y s) (in_merge s (free a) (free b) i)
in_scope (Exact.choose {a = a} {b = b} {d = d} x y z) s i =
    ⊎_elim (in_scope x s) (λ j. ⊎_elim (in_scope y s) (in_scope z s) (in_merge s (free b) (free d) j)) (in_merge s (free a) (merge (free b) (free d)) i)
in_scope (Exact.apply {f = f} {a = a} x y) s i = ⊎_elim (in_scope x s) (in_scope y s) (in_merge s (free f) (free a) i)
in_scope (Exact.function {g = g} {s = x} {p = p} {b = b} h) s i = let r = in_without s x (free b) i in past_binder s x (Plain p) g r.1 (in_scope h s r.0)
in_scope (Exact.letin {g = g} {s = x} {e = e} {b = b} {t = t} h k) s i =
    ⊎_elim (in_scope h s) (λ j. let r = in_without s x (free b) j in past_binder s x t g r.1 (in_scope k s r.0)) (in_merge s (free e) (without x (free b)) i)

pub types_exact : TypesExact
types_exact = record {
  told = λ g c t. has_type c g t;
  all = λ g c t. typed_so;
  one = λ g c t u x y. same_Some t u (sym (typed_so x) ∙ typed_so y);
  in_scope = λ g c t. in_scope;
  by_free = λ g h c. same_types c g h;
}
