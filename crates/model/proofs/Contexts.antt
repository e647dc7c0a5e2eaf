-- A code with all its names open stands in a program, under just the open binders; and a free name of a code in a program is bound by a binder around it.
use Rattle.std.proofs.Common.{◌≡◌, ℕ, ◌<◌, ◌≤◌, true, false, ◌&&◌, ◌⊎◌, List, [], ◌∷◌, pos, Some, sym, refl, ◌∙◌, subst, inl, ⊎_elim, arith, rules}
use Rattle.std.proofs.lemmas.Option.{same_Some}
use Rattle.std.proofs.lemmas.Bool.{lt-ltb, false≢true, cases_eq}
use Rattle.code.specs.declared.types.Base.{Base}
use Rattle.code.specs.declared.types.Base.TheVariants.{Number, Truth}
use Rattle.code.specs.declared.types.Ty.{Ty}
use Rattle.code.specs.declared.types.Ty.TheVariants.{Plain, Function}
use Rattle.code.specs.Code.{Code, ranged}
use Rattle.code.specs.Names.{without, free}
use Rattle.code.specs.Typing.{Scope, type_of, then, abstracted}
use Rattle.code.specs.Members.{In, first, later}
use Rattle.model.specs.Model.{State, Piece, Binder, parameter, bound}
use Rattle.model.specs.Finish.{Program, Context, here, join_left, join_right, choose_if, choose_then, choose_else, apply_function, apply_argument, function_body, let_bound, let_body, plug, around, Holds, Finishable}
use Rattle.model.specs.Exact.{scope}
use Rattle.code.proofs.NameLists.{in_none, in_merge, merge_left, merge_right, without_keeps}
use Rattle.code.proofs.TypeRules.{then_some}
use Rattle.model.proofs.Binders.{no_members, AllOpen, open_past, open_in, in_scope}
use Rattle.model.proofs.Pieces.{Good, Bound, Opens}
use Rattle.model.proofs.Sound.{Sound}

-- the binders that are around a context are around its place
around_keeps : (k : Context) (g h : Scope) (x : ℕ × Ty) → around g k ≡ Some h → In x g → In x h
around_keeps here g h x e i = subst (In x) (same_Some _ _ e) i
around_keeps (join_left o k b) g h x e i = around_keeps k g h x e i
around_keeps (join_right o a k) g h x e i = around_keeps k g h x e i
around_keeps (choose_if k b d) g h x e i = around_keeps k g h x e i
around_keeps (choose_then a k d) g h x e i = around_keeps k g h x e i
around_keeps (choose_else a b k) g h x e i = around_keeps k g h x e i
around_keeps (apply_function k a) g h x e i = around_keeps k g h x e i
around_keeps (apply_argument f k) g h x e i = around_keeps k g h x e i
around_keeps (function_body s p k) g h x e i = around_keeps k ((s, Plain p) ∷ g) h x e (later i)
around_keeps (let_bound s k b) g h x e i = around_keeps k g h x e i
around_keeps (let_body s v k) g h x e i =
    let r = then_some (type_of g v) _ h e in around_keeps k ((s, r.0) ∷ g) h x r.2 (later i)

-- a free name of the code at the place is free in the whole, or bound by a binder around the place
module _ (c : Code) (s : ℕ) (i : In s (free c)) where
  abbrev Reached : Code → Scope → Type 0
  Reached d h = In s (free d) ⊎ ((t : Ty) × In (s, t) h)

  past : (h : Scope) (x : ℕ) (t : Ty) (d e : Code) → In (x, t) h → (In s (without x (free d)) → In s (free e)) → Reached d h → Reached e h
  past h x t d e i f r = search (rules, without_keeps, cases_eq s x, f)

  free_around : (k : Context) (g h : Scope) → around g k ≡ Some h → Reached (plug k c) h
  free_around here g h e = inl i
  free_around (join_left o k b) g h e = search (rules, merge_left, free_around k g h e)
  free_around (join_right o a k) g h e = search (rules, merge_right, free_around k g h e)
  free_around (choose_if k b d) g h e = search (rules, merge_left, free_around k g h e)
  free_around (choose_then a k d) g h e = search (rules, merge_left, merge_right, free_around k g h e)
  free_around (choose_else a b k) g h e = search (rules, merge_right, free_around k g h e)
  free_around (apply_function k a) g h e = search (rules, merge_left, free_around k g h e)
  free_around (apply_argument f k) g h e = search (rules, merge_right, free_around k g h e)
  free_around (function_body x p k) g h e =
      past h x (Plain p) (plug k c) (Code.function x p (plug k c)) (around_keeps k ((x, Plain p) ∷ g) h (x, Plain p) e first) (λ j. j) (free_around k ((x, Plain p) ∷ g) h e)
  free_around (let_bound x k b) g h e = search (rules, merge_left, free_around k g h e)
  free_around (let_body x v k) g h e =
      let r = then_some (type_of g v) _ h e in
      past h x r.0 (plug k c) (Code.letin x v (plug k c)) (around_keeps k ((x, r.0) ∷ g) h (x, r.0) r.2 first) (merge_right s (free v) (without x (free (plug k c)))) (free_around k ((x, r.0) ∷ g) h r.2)

-- code that can be finished has all its names open
pub finishable_open : (st : State) (x : Piece) → Good st.open_binders st.next x → Finishable st x.code → AllOpen st.open_binders x.names
finishable_open st x g f s i =
    let holds = f.1 in
    ⊎_elim (λ j. absurd (in_none (subst (In s) holds.program.closed j)))
    (λ r. ⊎_elim (λ o. open_in st.open_binders s o.0 o.1 o.2) (λ l. absurd (let b = g.below s i in omega arith)) (holds.allowed s r.0 r.1))
    (free_around x.code s (subst (In s) g.named i) f.0 [] holds.binders holds.these)

-- a code under open binders that bind all its free names
pub record Fits (bs : List Binder) (c : Code) (t : Ty) : Type 0 where
  pub typed : type_of (scope bs) c ≡ Some t
  pub all_open : AllOpen bs (free c)
  pub in_range : ranged c ≡ true

-- a code of each type with no names
abbrev pub literal : Base → Code
literal Number = Code.number (pos 0)
literal Truth = Code.truth false

fits_applied : (bs : List Binder) (c : Code) (q r : Base) → Fits bs c (Function q r) → Fits bs (Code.apply c (literal q)) (Plain r)
fits_applied bs c q r f = search (rules, in_merge, in_none, f.typed, f.all_open, f.in_range)

fits_function : (s : ℕ) (p : Base) (bs : List Binder) (c : Code) (r : Base) → s < 4096 → Fits (parameter s p ∷ bs) c (Plain r) → Fits bs (Code.function s p c) (Function p r)
fits_function s p bs c r l f = record {
  typed = λ i. then (f.typed i) (abstracted p);
  all_open = open_past (parameter s p) bs (free c) f.all_open;
  in_range = λ i. lt-ltb s 4096 l i && f.in_range i;
}

fits_let : (s : ℕ) (v : Piece) (bs : List Binder) (c : Code) (t : Ty) → s < 4096 → Bound (bound s v) bs → Fits (bound s v ∷ bs) c t → Fits bs (Code.letin s v.code c) t
fits_let s v bs c t l b f = record {
  typed = (λ i. then (b.0.typed b.1 i) (λ u. type_of ((s, u) ∷ scope bs) c)) ∙ f.typed;
  all_open = λ y i. ⊎_elim (λ j. b.1 y (subst (In y) (sym b.0.named) j)) (open_past (bound s v) bs (free c) f.all_open y) (in_merge y (free v.code) (without s (free c)) i);
  in_range = λ i. lt-ltb s 4096 l i && b.0.in_range i && f.in_range i;
}

-- a code of a function type is first applied to a literal
abbrev pub begin : Ty → Context
begin (Plain b) = here
begin (Function q r) = apply_function here (literal q)

abbrev pub begun : Ty → Base
begun (Plain b) = b
begun (Function q r) = r

-- then each open binder is closed, the latest first; a function made so is applied to a literal
abbrev pub wrapped : List Binder → Context → Context
wrapped [] k = k
wrapped (parameter s p ∷ bs) k = wrapped bs (apply_function (function_body s p k) (literal p))
wrapped (bound s v ∷ bs) k = wrapped bs (let_body s v.code k)

fits_begin : (bs : List Binder) (c : Code) (t : Ty) → Fits bs c t → Fits bs (plug (begin t) c) (Plain (begun t))
fits_begin bs c (Plain b) f = f
fits_begin bs c (Function q r) f = fits_applied bs c q r f

around_begin : (g : Scope) (t : Ty) → around g (begin t) ≡ Some g
around_begin g (Plain b) = refl
around_begin g (Function q r) = refl

wrapped_program : (bs : List Binder) (n : ℕ) (k : Context) (c : Code) (r : Base) → Opens bs n → n ≤ 4096 → Fits bs (plug k c) (Plain r) → Program (plug (wrapped bs k) c)
wrapped_program [] n k c r o l f = record {
  closed = no_members (free (plug k c)) (λ s i. false≢true (f.all_open s i));
  type = Plain r;
  well_typed = f.typed;
  in_range = f.in_range;
}
wrapped_program (parameter s p ∷ bs) n k c r o l f =
    wrapped_program bs s (apply_function (function_body s p k) (literal p)) c r o.1.1 (omega (arith, o.0))
    (fits_applied bs (Code.function s p (plug k c)) p r (fits_function s p bs (plug k c) r (omega (arith, o.0)) f))
wrapped_program (bound s v ∷ bs) n k c r o l f =
    wrapped_program bs s (let_body s v.code k) c r o.1.1 (omega (arith, o.0)) (fits_let s v bs (plug k c) (Plain r) (omega (arith, o.0)) o.1.0 f)

wrapped_around : (bs : List Binder) (n : ℕ) (k : Context) (h : Scope) → Opens bs n → around (scope bs) k ≡ Some h → around [] (wrapped bs k) ≡ Some h
wrapped_around [] n k h o e = e
wrapped_around (parameter s p ∷ bs) n k h o e = wrapped_around bs s (apply_function (function_body s p k) (literal p)) h o.1.1 e
wrapped_around (bound s v ∷ bs) n k h o e =
    wrapped_around bs s (let_body s v.code k) h o.1.1 ((λ i. then (o.1.0.0.typed o.1.0.1 i) (λ t. around ((s, t) ∷ scope bs) k)) ∙ e)

-- a piece with all its names open can be finished, by the open binders alone
pub open_holds : (st : State) (x : Piece) → Sound st → Good st.open_binders st.next x → AllOpen st.open_binders x.names → Holds st x.code (wrapped st.open_binders (begin x.type))
open_holds st x h g all = record {
  program = wrapped_program st.open_binders st.next (begin x.type) x.code (begun x.type) h.binders h.serials
      (fits_begin st.open_binders x.code x.type (record { typed = g.typed all; all_open = λ s i. all s (subst (In s) (sym g.named) i); in_range = g.in_range }));
  binders = scope st.open_binders;
  these = wrapped_around st.open_binders st.next (begin x.type) (scope st.open_binders) h.binders (around_begin (scope st.open_binders) x.type);
  allowed = λ s t i. inl (in_scope st.open_binders s t i);
}
