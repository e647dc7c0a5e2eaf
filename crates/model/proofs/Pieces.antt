-- Sound pieces: what is true of a piece in a cell, and how each construct keeps it.
use Rattle.std.proofs.Common.{◌≡◌, ℕ, suc, ◌+◌, ◌<◌, ◌≤◌, true, ◌&&◌, List, [], ◌∷◌, length, drop, Some, sym, ◌∙◌, subst, ⊎_elim, arith, rules}
use Rattle.std.proofs.lemmas.Bool.{lt-ltb}
use Rattle.std.proofs.lemmas.Bool.Decides.{nat_tests}
use Rattle.code.specs.declared.operator.Operator.{Operator}
use Rattle.code.specs.declared.types.Base.{Base}
use Rattle.code.specs.declared.types.Ty.{Ty}
use Rattle.code.specs.Code.{Code, size, ranged}
use Rattle.code.specs.Names.{merge, without, free, Ascending}
use Rattle.code.specs.Typing.{Scope, type_of, then, joined, chosen, applied, abstracted}
use Rattle.code.specs.Members.{In}
use Rattle.model.specs.Model.{Piece, Binder, parameter, bound, serial, variable_type, is_open}
use Rattle.model.specs.Exact.{scope}
use Rattle.code.proofs.NameLists.{in_none, in_cons, in_merge, in_without, ascending_merge, ascending_without, without_shorter}
use Rattle.code.proofs.FreeNames.{free_ascending}
use Rattle.code.proofs.TypeRules.{same_types}
use Rattle.model.proofs.Binders.{AllOpen, open_later, open_cases, open_past, open_few}

-- a piece under open binders, where the serials below next are given
pub record Good (bs : List Binder) (next : ℕ) (p : Piece) : Type 0 where
  pub sized : p.size ≡ size p.code
  pub small : p.size ≤ 4096
  pub named : p.names ≡ free p.code
  pub below : (s : ℕ) → In s p.names → s < next
  pub few : length p.names ≤ 16
  pub in_range : ranged p.code ≡ true
  pub typed : AllOpen bs p.names → type_of (scope bs) p.code ≡ Some p.type

-- a let's bound piece is good, and all of its names are open
abbrev pub Bound : Binder → List Binder → Type 0
Bound (parameter s p) bs = Unit {0}
Bound (bound s e) bs = Good bs s e × AllOpen bs e.names

-- the serials of the open binders descend from below next
abbrev pub Opens : List Binder → ℕ → Type 0
Opens [] next = Unit {0}
Opens (b ∷ bs) next = (serial b < next) × (Bound b bs × Opens bs (serial b))

pub open_below : (bs : List Binder) (next s : ℕ) → Opens bs next → is_open bs s ≡ true → s < next
open_below [] next s o h = absurd cc
open_below (b ∷ bs) next s o h = grind (arith, nat_tests, o.0, open_below bs (serial b) s o.1.1)

pub opens_more : (bs : List Binder) (m n : ℕ) → m ≤ n → Opens bs m → Opens bs n
opens_more [] m n l o = tt
opens_more (b ∷ bs) m n l o = (omega (arith, o.0), o.1)

pub opens_drop : (k : ℕ) (bs : List Binder) (n : ℕ) → Opens bs n → Opens (drop k bs) n
opens_drop ℕ.zero bs n o = o
opens_drop (suc k) [] n o = tt
opens_drop (suc k) (b ∷ bs) n o = opens_drop k bs n (opens_more bs (serial b) n (omega (arith, o.0)) o.1.1)

pub names_ascending : (bs : List Binder) (n : ℕ) (x : Piece) → Good bs n x → Ascending 0 x.names
names_ascending bs n x g = subst (Ascending 0) (sym g.named) (free_ascending x.code)

-- a name that is not free in a code has no part in its type
pub weaken : (c : Code) (g : Scope) (x : ℕ) (t : Ty) → (In x (free c) → ⊥) → type_of ((x, t) ∷ g) c ≡ type_of g c
weaken c g x t new = same_types c ((x, t) ∷ g) g (λ s i. grind (arith, nat_tests, new))

-- a binder with a new serial leaves a good piece good
pub good_opened : (b : Binder) (bs : List Binder) (n : ℕ) (p : Piece) → serial b ≡ n → Good bs n p → Good (b ∷ bs) (n + 1) p
good_opened b bs n p e g = record {
  sized = g.sized;
  small = g.small;
  named = g.named;
  below = λ s i. omega (arith, g.below s i);
  few = g.few;
  in_range = g.in_range;
  typed = λ all.
      weaken p.code (scope bs) (serial b) (variable_type b) (λ i. absurd (new (serial b) e (subst (In (serial b)) (sym g.named) i)))
      ∙ g.typed (λ s i. ⊎_elim (λ q. absurd (new s (sym q ∙ e) i)) (λ h. h) (open_cases b bs s (all s i)));
}
  where
    new : (s : ℕ) → s ≡ n → In s p.names → ⊥
    new s q i = omega (arith, g.below s i)

-- with the latest binder gone, too
pub good_closed : (b : Binder) (bs : List Binder) (n : ℕ) (p : Piece) → Opens bs (serial b) → Good (b ∷ bs) n p → Good bs n p
good_closed b bs n p o g = record {
  sized = g.sized;
  small = g.small;
  named = g.named;
  below = g.below;
  few = g.few;
  in_range = g.in_range;
  typed = λ all.
      sym (weaken p.code (scope bs) (serial b) (variable_type b)
      (λ i. let l = open_below bs (serial b) (serial b) o (all (serial b) (subst (In (serial b)) (sym g.named) i)) in omega arith))
      ∙ g.typed (λ s i. open_later b bs s (all s i));
}

pub good_drop : (k : ℕ) (bs : List Binder) (n m : ℕ) (p : Piece) → Opens bs m → Good bs n p → Good (drop k bs) n p
good_drop ℕ.zero bs n m p o g = g
good_drop (suc k) [] n m p o g = g
good_drop (suc k) (b ∷ bs) n m p o g = good_drop k bs n (serial b) p o.1.1 (good_closed b bs n p o.1.1 g)

pub good_leaf : (bs : List Binder) (n : ℕ) (c : Code) (t : Ty) → size c ≡ 1 → free c ≡ [] → ranged c ≡ true → ((g : Scope) → type_of g c ≡ Some t) → Good bs n (record { code = c; type = t; size = 1; names = [] })
good_leaf bs n c t z f r ty = search (rules, in_none, ty)

pub good_variable : (b : Binder) (bs : List Binder) (n : ℕ) → serial b ≡ n → n < 4096 → Good (b ∷ bs) (n + 1) (record { code = Code.variable n; type = variable_type b; size = 1; names = n ∷ [] })
good_variable b bs n e l = search (rules, nat_tests, in_none, in_cons)

module _ (bs : List Binder) (n : ℕ) (x y : Piece) (gx : Good bs n x) (gy : Good bs n y) (ox : AllOpen bs x.names) (oy : AllOpen bs y.names) (small : 1 + x.size + y.size ≤ 4096) (deep : length bs ≤ 16) where
  below_both : (s : ℕ) → In s (merge x.names y.names) → s < n
  below_both s i = search (rules, in_merge, gx.below, gy.below)

  few_both : length (merge x.names y.names) ≤ 16
  few_both = omega (arith, open_few bs (merge x.names y.names) (ascending_merge 0 _ _ (names_ascending bs n x gx) (names_ascending bs n y gy)) (search (rules, in_merge, ox, oy)))

  pub good_join : (o : Operator) (t : Ty) → joined o x.type y.type ≡ Some t → Good bs n (record { code = Code.join o x.code y.code; type = t; size = 1 + x.size + y.size; names = merge x.names y.names })
  good_join o t e = record {
    sized = λ i. 1 + gx.sized i + gy.sized i;
    small = small;
    named = λ i. merge (gx.named i) (gy.named i);
    below = below_both;
    few = few_both;
    in_range = λ i. gx.in_range i && gy.in_range i;
    typed = λ _. (λ i. then (gx.typed ox i) (λ u. then (gy.typed oy i) (joined o u))) ∙ e;
  }

  pub good_apply : (t : Ty) → applied x.type y.type ≡ Some t → Good bs n (record { code = Code.apply x.code y.code; type = t; size = 1 + x.size + y.size; names = merge x.names y.names })
  good_apply t e = record {
    sized = λ i. 1 + gx.sized i + gy.sized i;
    small = small;
    named = λ i. merge (gx.named i) (gy.named i);
    below = below_both;
    few = few_both;
    in_range = λ i. gx.in_range i && gy.in_range i;
    typed = λ _. (λ i. then (gx.typed ox i) (λ u. then (gy.typed oy i) (applied u))) ∙ e;
  }

pub good_choose : (bs : List Binder) (n : ℕ) (x y z : Piece) → Good bs n x → Good bs n y → Good bs n z → AllOpen bs x.names → AllOpen bs y.names → AllOpen bs z.names → 1 + x.size + y.size + z.size ≤ 4096 → length bs ≤ 16 → (t : Ty) → chosen x.type y.type z.type ≡ Some t → Good bs n (record { code = Code.choose x.code y.code z.code; type = t; size = 1 + x.size + y.size + z.size; names = merge x.names (merge y.names z.names) })
good_choose bs n x y z gx gy gz ox oy oz small deep t e = record {
  sized = λ i. 1 + gx.sized i + gy.sized i + gz.sized i;
  small = small;
  named = λ i. merge (gx.named i) (merge (gy.named i) (gz.named i));
  below = λ s i. search (rules, in_merge, gx.below, gy.below, gz.below);
  few =
      omega (
        arith,
        open_few bs (merge x.names (merge y.names z.names))
            (ascending_merge 0 _ _ (names_ascending bs n x gx) (ascending_merge 0 _ _ (names_ascending bs n y gy) (names_ascending bs n z gz)))
            (search (rules, in_merge, ox, oy, oz)),
      );
  in_range = λ i. gx.in_range i && gy.in_range i && gz.in_range i;
  typed = λ _. (λ i. then (gx.typed ox i) (λ c. then (gy.typed oy i) (λ u. then (gz.typed oz i) (chosen c u)))) ∙ e;
}

pub good_function : (bs : List Binder) (n s : ℕ) (p : Base) (x : Piece) → s < 4096 → Good (parameter s p ∷ bs) n x → AllOpen (parameter s p ∷ bs) x.names → 1 + x.size ≤ 4096 → (t : Ty) → abstracted p x.type ≡ Some t → Good bs n (record { code = Code.function s p x.code; type = t; size = 1 + x.size; names = without s x.names })
good_function bs n s p x l g all small t e = record {
  sized = λ i. 1 + g.sized i;
  small = small;
  named = λ i. without s (g.named i);
  below = λ y i. g.below y (in_without y s x.names i).0;
  few = omega (arith, g.few, without_shorter s x.names);
  in_range = λ i. lt-ltb s 4096 l i && g.in_range i;
  typed = λ _. (λ i. then (g.typed all i) (abstracted p)) ∙ e;
}

pub good_let : (bs : List Binder) (n s : ℕ) (e x : Piece) → s < n → s < 4096 → Bound (bound s e) bs → Good (bound s e ∷ bs) n x → AllOpen (bound s e ∷ bs) x.names → 1 + e.size + x.size ≤ 4096 → length bs ≤ 16 → Good bs n (record { code = Code.letin s e.code x.code; type = x.type; size = 1 + e.size + x.size; names = merge e.names (without s x.names) })
good_let bs n s e x m l b g all small deep = record {
  sized = λ i. 1 + b.0.sized i + g.sized i;
  small = small;
  named = λ i. merge (b.0.named i) (without s (g.named i));
  below = λ y i. ⊎_elim (λ j. omega (arith, b.0.below y j)) (λ j. g.below y (in_without y s x.names j).0) (in_merge y e.names (without s x.names) i);
  few =
      omega (
        arith,
        open_few bs (merge e.names (without s x.names))
            (ascending_merge 0 _ _ (names_ascending bs s e b.0) (ascending_without 0 s x.names (names_ascending (bound s e ∷ bs) n x g)))
            (search (rules, in_merge, b.1, open_past (bound s e) bs x.names all)),
      );
  in_range = λ i. lt-ltb s 4096 l i && b.0.in_range i && g.in_range i;
  typed = λ _. (λ i. then (b.0.typed b.1 i) (λ u. type_of ((s, u) ∷ scope bs) x.code)) ∙ g.typed all;
}
