-- A call is refused as escaped just where a cell that it uses can't be finished.
use Rattle.std.proofs.Common.{◌≡◌, ℕ, ◌+◌, Bool, true, false, ◌&&◌, eqb, ltb, leb, List, [], ◌∷◌, ◌++◌, length, Some, None, Ok, Err, Option, Result, sym, refl, ap, ◌∙◌, subst, subst₂, ⊎_elim, rules}
use Rattle.std.proofs.lemmas.Bool.{eqb-true, eqb-false, and_parts}
use Rattle.code.specs.declared.operator.Operator.{Operator}
use Rattle.code.specs.Code.{Code}
use Rattle.code.specs.Names.{merge}
use Rattle.code.specs.Text.{text}
use Rattle.code.specs.Typing.{joined, chosen, applied}
use Rattle.code.specs.Numbers.{operator}
use Rattle.code.specs.Members.{In, first, later}
use Rattle.model.specs.Model.{State, Piece, bound, Plan, Refusal, Fault, escape_cell, stated, cell, judged, judge, full, typed, lawful, usable, escaping, escaped, bad_argument, too_large, not_closed, short_output, into, opened, close_latest}
use Rattle.model.specs.Calls.{Sheet, made, does, kept}
use Rattle.model.specs.declared.call.Call.{Call}
use Rattle.model.specs.Finish.{uses, Full, Finishable, Escapes, Unfinishable, EscapeExact, FirstUnfinishable, EscapeFirst}
use Rattle.model.specs.declared.call.Call.TheVariants as call
use Rattle.code.proofs.NameLists.{in_none, in_cons, first_at}
use Rattle.model.proofs.Numbers.{operator_lawful}
use Rattle.model.proofs.Binders.{AllOpen, escaping_none, none_escaping}
use Rattle.model.proofs.Sound.{Sound, grown_sound}
use Rattle.model.proofs.Contexts.{finishable_open, open_holds}

-- a result that is no refusal as escaped
abbrev pub NoEscape : {A : Type 0} → Result A Fault → Type 0
NoEscape (Ok x) = Unit {0}
NoEscape (Err f) = escape_cell f ≡ None

abbrev Escaped : {A : Type 0} → Result A Fault → Type 0
Escaped r = (i : ℕ) × (n : ℕ) × (r ≡ Err (escaped i n))

abbrev ClosedOff : State → Piece → Type 0
ClosedOff st x = AllOpen st.open_binders x.names → ⊥

module _ {A : Type 0} where
  no_escape : (r : Result A Fault) → NoEscape r → Escaped r → ⊥
  no_escape r h e = search rules

  -- the used cells are judged one after the other, and then the rest
  abbrev chain : State → List (ℕ × Piece) → Result A Fault → Result A Fault
  chain st [] r = r
  chain st (x ∷ xs) r = usable st x.0 x.1 (chain st xs r)

  escape_chain : (st : State) (xs : List (ℕ × Piece)) (r : Result A Fault) → NoEscape r → Escaped (chain st xs r) → (x : ℕ × Piece) × In x xs × ClosedOff st x.1
  escape_chain st [] r h e = absurd (no_escape r h e)
  escape_chain st (x ∷ xs) r h e = go (eqb n 0) refl (escape_chain st xs r h) e
    where
      n : ℕ
      n = length (escaping st.open_binders x.1.names)

      go : (b : Bool) → eqb n 0 ≡ b → (Escaped (chain st xs r) → (y : ℕ × Piece) × In y xs × ClosedOff st y.1) → Escaped (judged b (escaped x.0 n) (chain st xs r)) → (y : ℕ × Piece) × In y (x ∷ xs) × ClosedOff st y.1
      go true q more w = let t = more w in (t.0, later t.1, t.2)
      go false q more w = (x, first, λ all. eqb-false n 0 q (none_escaping st.open_binders x.1.names all))

  chain_escapes : (st : State) (xs : List (ℕ × Piece)) (r : Result A Fault) (x : ℕ × Piece) → In x xs → ClosedOff st x.1 → Escaped (chain st xs r)
  chain_escapes st [] r x i c = absurd (in_none i)
  chain_escapes st (y ∷ xs) r x i c = go (eqb n 0) refl (λ j. chain_escapes st xs r x j c)
    where
      n : ℕ
      n = length (escaping st.open_binders y.1.names)

      go : (b : Bool) → eqb n 0 ≡ b → (In x xs → Escaped (chain st xs r)) → Escaped (judged b (escaped y.0 n) (chain st xs r))
      go true q more =
          more (⊎_elim (λ e. absurd (c (subst (λ (z : ℕ × Piece). AllOpen st.open_binders z.1.names) (sym e) (escaping_none st.open_binders y.1.names (eqb-true n 0 q))))) (λ j. j) (in_cons i))
      go false q more = (y.0, n, refl)

-- the used cells with their pieces
abbrev used : (st : State) (is : List ℕ) → ((i : ℕ) → In i is → Full st i) → List (ℕ × Piece)
used st [] f = []
used st (i ∷ is) f = (i, (f i first).0) ∷ used st is (λ j h. f j (later h))

in_used : (st : State) (is : List ℕ) (f : (i : ℕ) → In i is → Full st i) (x : ℕ × Piece) → In x (used st is f) → In x.0 is × (cell st x.0 ≡ Some x.1)
in_used st [] f x h = absurd (in_none h)
in_used st (i ∷ is) f x h = search (rules, in_cons, in_used st is (λ j h. f j (later h)) x, first, later, f i first)

used_in : (st : State) (is : List ℕ) (f : (i : ℕ) → In i is → Full st i) (i : ℕ) (p : Piece) → In i is → cell st i ≡ Some p → In (i, p) (used st is f)
used_in st [] f i p h e = absurd (in_none h)
used_in st (j ∷ is) f i p h e =
    ⊎_elim (λ q. let w = (f j first).1 in let v = ap (cell st) q in let z : p ≡ (f j first).0 = cc in first_at (λ k. (q k, z k)))
    (λ g. later (used_in st is (λ j h. f j (later h)) i p g e)) (in_cons h)

-- a call that judges the used cells, in any order of its own, and then refuses nothing as escaped
module _ (output : Sheet) (st : State) (h : Sound st) (c : Call) (f : (i : ℕ) → In i (uses c) → Full st i) where
  exact_by : {A : Type 0} (m : Result A Fault → Result State Fault) → ((g : Fault) → m (Err g) ≡ Err g) → ((x : A) (g : Fault) → m (Ok x) ≡ Err g → ⊥) → (r : Result A Fault) → NoEscape r
      → does stated output st c ≡ m (chain st (used st (uses c) f) r) → (Escapes output st c → Unfinishable st c) × (Unfinishable st c → Escapes output st c)
  exact_by {A} m refused granted r n e = (
    λ x. let t = escape_chain st (used st (uses c) f) r n (x.0, x.1, back (chain st (used st (uses c) f) r) (escaped x.0 x.1) (sym e ∙ x.2)) in
        let u = in_used st (uses c) f t.0 t.1 in
        (t.0.0, t.0.1, u.0, u.1, λ z. t.2 (finishable_open st t.0.1 (h.pieces t.0.0 t.0.1 u.1) z)),
    λ d. let t = chain_escapes st (used st (uses c) f) r (d.0, d.1) (used_in st (uses c) f d.0 d.1 d.2 d.3) (λ all. d.4 (_, open_holds st d.1 h (h.pieces d.0 d.1 d.3) all)) in
        (t.0, t.1, e ∙ ap m t.2 ∙ refused (escaped t.0 t.1)),
  )
    where
      back : (w : Result A Fault) (g : Fault) → m w ≡ Err g → w ≡ Err g
      back (Ok x) g q = absurd (granted x g q)
      back (Err k) g q = let u = sym (refused k) ∙ q in let z : k ≡ g = cc in ap Err z

made_granted : (p : Plan) (g : Fault) → made None (Ok p) ≡ Err g → ⊥
made_granted p g e = cc

-- what each call does once the used cells are judged
module _ (st : State) (c : ℕ) where
  abbrev join_rest : Operator → Piece → Piece → Result Plan Fault
  join_rest op x y =
      typed (joined op x.type y.type) λ t.
      judge (leb (1 + x.size + y.size) 4096) too_large
      (into st c (record { code = Code.join op x.code y.code; type = t; size = 1 + x.size + y.size; names = merge x.names y.names }))

  abbrev choose_rest : Piece → Piece → Piece → Result Plan Fault
  choose_rest x y z =
      typed (chosen x.type y.type z.type) λ t.
      judge (leb (1 + x.size + y.size + z.size) 4096) too_large
      (into st c (record { code = Code.choose x.code y.code z.code; type = t; size = 1 + x.size + y.size + z.size; names = merge x.names (merge y.names z.names) }))

  abbrev apply_rest : Piece → Piece → Result Plan Fault
  apply_rest x y =
      typed (applied x.type y.type) λ t.
      judge (leb (1 + x.size + y.size) 4096) too_large
      (into st c (record { code = Code.apply x.code y.code; type = t; size = 1 + x.size + y.size; names = merge x.names y.names }))

abbrev line : Piece → List ℕ
line x = text [] x.code ++ (10 ∷ [])

-- a call that uses no code is not refused as escaped
quiet : (output : Sheet) (st : State) (c : Call) → uses c ≡ [] → NoEscape (does stated output st c)
quiet output st c e = search rules

exact_none : (output : Sheet) (st : State) (c : Call) → uses c ≡ [] → (Escapes output st c → Unfinishable st c) × (Unfinishable st c → Escapes output st c)
exact_none output st c e = (λ x. absurd (no_escape (does stated output st c) (quiet output st c e) x), λ d. absurd (in_none (subst (In d.0) e d.2)))

pub escape_exact : EscapeExact
escape_exact st grown output (call.Num c n) l f = exact_none output st (call.Num c n) refl
escape_exact st grown output (call.Truth c b) l f = exact_none output st (call.Truth c b) refl
escape_exact st grown output (call.Input c i) l f = exact_none output st (call.Input c i) refl
escape_exact st grown output (call.Fun c p) l f = exact_none output st (call.Fun c p) refl
escape_exact st grown output (call.Let c a) l f =
    let x = f a first in
    exact_by output st (grown_sound grown) (call.Let c a) f (made None) (λ g. refl) made_granted (opened stated st c (bound st.next x.0)) (search rules)
    (λ k. made None (judge (l k) bad_argument (full (x.1 k) λ p. usable st a p (opened stated st c (bound st.next p)))))
escape_exact st grown output (call.Close c a) l f =
    let x = f a first in
    exact_by output st (grown_sound grown) (call.Close c a) f (made None) (λ g. refl) made_granted (close_latest stated st c x.0 st.open_binders) (search rules)
    (λ k. made None (judge (l k) bad_argument (full (x.1 k) λ p. usable st a p (close_latest stated st c p st.open_binders))))
escape_exact st grown output (call.Copy c a) l f = exact_none output st (call.Copy c a) refl
escape_exact st grown output (call.Join c o a b) l f =
    let x = f a first in
    let y = f b (later first) in
    let ab = and_parts (ltb c 16 && ltb o 7 && ltb a 16) (ltb b 16) l in
    let aa = and_parts (ltb c 16 && ltb o 7) (ltb a 16) ab.0 in
    let co = and_parts (ltb c 16) (ltb o 7) aa.0 in
    let op = operator_lawful o co.1 in
    exact_by output st (grown_sound grown) (call.Join c o a b) f (made None) (λ g. refl) made_granted (join_rest st c op.0 x.0 y.0)
    (search rules)
    (λ k. made None (judge (co.0 k && aa.1 k && ab.1 k) bad_argument (lawful (op.1 k) λ w. full (x.1 k) λ p. full (y.1 k) λ q. usable st a p (usable st b q (join_rest st c w p q)))))
escape_exact st grown output (call.Choose c a b d) l f =
    let x = f a first in
    let y = f b (later first) in
    let z = f d (later (later first)) in
    exact_by output st (grown_sound grown) (call.Choose c a b d) f (made None) (λ g. refl) made_granted (choose_rest st c x.0 y.0 z.0)
    (search rules)
    (λ k. made None (judge (l k) bad_argument (full (x.1 k) λ p. full (y.1 k) λ q. full (z.1 k) λ r. usable st a p (usable st b q (usable st d r (choose_rest st c p q r))))))
escape_exact st grown output (call.Apply c g a) l f =
    let x = f g first in
    let y = f a (later first) in
    exact_by output st (grown_sound grown) (call.Apply c g a) f (made None) (λ g. refl) made_granted (apply_rest st c x.0 y.0)
    (search rules)
    (λ k. made None (judge (l k) bad_argument (full (x.1 k) λ p. full (y.1 k) λ q. usable st g p (usable st a q (apply_rest st c p q)))))
escape_exact st grown output (call.Clear c) l f = exact_none output st (call.Clear c) refl
escape_exact st grown output call.Mark l f = exact_none output st call.Mark refl
escape_exact st grown output call.Finish l f = exact_none output st call.Finish refl
escape_exact st grown output call.Leave l f = exact_none output st call.Leave refl
escape_exact st grown output (call.Print a) l f =
    let x = f a first in
    exact_by output st (grown_sound grown) (call.Print a) f (kept st) (λ g. refl) (λ s g e. cc)
    (judge (eqb (length x.0.names) 0) not_closed (judge (leb (output.at + length (line x.0)) (length output.bytes)) short_output (Ok (line x.0))))
    (search rules)
    (λ k. kept st (judge (l k) bad_argument (full (x.1 k) λ p. usable st a p
    (judge (eqb (length p.names) 0) not_closed (judge (leb (output.at + length (line p)) (length output.bytes)) short_output (Ok (line p)))))))

-- P of the cell and the number that a refusal as escaped names
abbrev Tells : {A : Type 0} → Result A Fault → (ℕ → ℕ → Type 0) → Type 0
Tells (Ok x) P = Unit {0}
Tells (Err f) P = (i n : ℕ) → f ≡ escaped i n → P i n

module _ (P : ℕ → ℕ → Type 0) where
  tells_no : {A : Type 0} (r : Result A Fault) → NoEscape r → Tells r P
  tells_no (Ok x) h = tt
  tells_no (Err f) h = λ i n e. absurd cc

  tells_judge : {A : Type 0} (b : Bool) (f : Refusal) (r : Result A Fault) → Tells r P → Tells (judge b f r) P
  tells_judge true f r h = h
  tells_judge false f r h = λ i n e. absurd cc

  tells_full : {A : Type 0} (o : Option Piece) (k : Piece → Result A Fault) → ((x : Piece) → o ≡ Some x → Tells (k x) P) → Tells (full o k) P
  tells_full None k h = λ i n e. absurd cc
  tells_full (Some x) k h = h x refl

  tells_lawful : {A B : Type 0} (o : Option B) (k : B → Result A Fault) → ((x : B) → Tells (k x) P) → Tells (lawful o k) P
  tells_lawful None k h = λ i n e. absurd cc
  tells_lawful (Some x) k h = h x

  tells_usable : {A : Type 0} (st : State) (i : ℕ) (x : Piece) (r : Result A Fault) → (ClosedOff st x → P i (length (escaping st.open_binders x.names))) → (AllOpen st.open_binders x.names → Tells r P) → Tells (usable st i x r) P
  tells_usable {A} st i x r off more = go (eqb n 0) refl
    where
      n : ℕ
      n = length (escaping st.open_binders x.names)

      go : (b : Bool) → eqb n 0 ≡ b → Tells (judged b (escaped i n) r) P
      go true q = more (escaping_none st.open_binders x.names (eqb-true n 0 q))
      go false q = λ j k e.
          let u : i ≡ j = cc in
          let v : n ≡ k = cc in
          subst₂ P u v (off (λ all. eqb-false n 0 q (none_escaping st.open_binders x.names all)))

  tells_made : (r : Result Plan Fault) → Tells r P → Tells (made None r) P
  tells_made (Ok x) h = tt
  tells_made (Err f) h = h

  tells_kept : {A : Type 0} (st : State) (r : Result A Fault) → Tells r P → Tells (kept st r) P
  tells_kept st (Ok x) h = tt
  tells_kept st (Err f) h = h

module _ (output : Sheet) (st : State) (h : Sound st) where
  abbrev CanFinish : ℕ → Type 0
  CanFinish j = (p : Piece) × (cell st j ≡ Some p) × Finishable st p.code

  can_finish : (j : ℕ) (x : Piece) → cell st j ≡ Some x → AllOpen st.open_binders x.names → CanFinish j
  can_finish j x e all = (x, e, (_, open_holds st x h (h.pieces j x e) all))

  doomed_at : (c : Call) (earlier others : List ℕ) (i : ℕ) (x : Piece) → uses c ≡ earlier ++ i ∷ others → ((j : ℕ) → In j earlier → CanFinish j) → cell st i ≡ Some x → ClosedOff st x
      → FirstUnfinishable st c i (length (escaping st.open_binders x.names))
  doomed_at c earlier others i x order fine e off = record {
    earlier = earlier;
    others = others;
    order = order;
    finishable = fine;
    piece = x;
    held = e;
    doomed = λ z. off (finishable_open st x (h.pieces i x e) z);
    number = ap (λ (l : List ℕ). length (escaping st.open_binders l)) (h.pieces i x e).named;
  }

  before_none : (j : ℕ) → In j [] → CanFinish j
  before_none j i = absurd (in_none i)

  before_more : (k : ℕ) (ks : List ℕ) → CanFinish k → ((j : ℕ) → In j ks → CanFinish j) → (j : ℕ) → In j (k ∷ ks) → CanFinish j
  before_more k ks a more j i = ⊎_elim (λ e. subst CanFinish (sym e) a) (more j) (in_cons i)

  tells_call : (c : Call) → Tells (does stated output st c) (FirstUnfinishable st c)
  tells_call (call.Num c n) = tells_no _ _ (quiet output st (call.Num c n) refl)
  tells_call (call.Truth c b) = tells_no _ _ (quiet output st (call.Truth c b) refl)
  tells_call (call.Input c i) = tells_no _ _ (quiet output st (call.Input c i) refl)
  tells_call (call.Fun c p) = tells_no _ _ (quiet output st (call.Fun c p) refl)
  tells_call (call.Copy c a) = tells_no _ _ (quiet output st (call.Copy c a) refl)
  tells_call (call.Clear c) = tells_no _ _ (quiet output st (call.Clear c) refl)
  tells_call call.Mark = tells_no _ _ (quiet output st call.Mark refl)
  tells_call call.Finish = tells_no _ _ (quiet output st call.Finish refl)
  tells_call call.Leave = tells_no _ _ (quiet output st call.Leave refl)
  tells_call (call.Let c a) =
      let P = FirstUnfinishable st (call.Let c a) in
      tells_made P _ (tells_judge P (ltb c 16 && ltb a 16) _ _ (tells_full P (cell st a) _ λ x ex.
      tells_usable P st a x _ (doomed_at (call.Let c a) [] [] a x refl before_none ex) λ _. tells_no P (opened stated st c (bound st.next x)) (search rules)))
  tells_call (call.Close c a) =
      let P = FirstUnfinishable st (call.Close c a) in
      tells_made P _ (tells_judge P (ltb c 16 && ltb a 16) _ _ (tells_full P (cell st a) _ λ x ex.
      tells_usable P st a x _ (doomed_at (call.Close c a) [] [] a x refl before_none ex) λ _. tells_no P (close_latest stated st c x st.open_binders) (search rules)))
  tells_call (call.Join c o a b) =
      let P = FirstUnfinishable st (call.Join c o a b) in
      tells_made P _ (tells_judge P (ltb c 16 && ltb a 16 && ltb b 16) _ _ (tells_lawful P (operator o) _ λ op.
      tells_full P (cell st a) _ λ x ex. tells_full P (cell st b) _ λ y ey.
      tells_usable P st a x _ (doomed_at (call.Join c o a b) [] (b ∷ []) a x refl before_none ex) λ ox.
      tells_usable P st b y _ (doomed_at (call.Join c o a b) (a ∷ []) [] b y refl (before_more a [] (can_finish a x ex ox) before_none) ey) λ _.
      tells_no P (join_rest st c op x y) (search rules)))
  tells_call (call.Choose c a b d) =
      let P = FirstUnfinishable st (call.Choose c a b d) in
      tells_made P _ (tells_judge P (ltb c 16 && ltb a 16 && ltb b 16 && ltb d 16) _ _ (
      tells_full P (cell st a) _ λ x ex. tells_full P (cell st b) _ λ y ey. tells_full P (cell st d) _ λ z ez.
      tells_usable P st a x _ (doomed_at (call.Choose c a b d) [] (b ∷ d ∷ []) a x refl before_none ex) λ ox.
      tells_usable P st b y _ (doomed_at (call.Choose c a b d) (a ∷ []) (d ∷ []) b y refl (before_more a [] (can_finish a x ex ox) before_none) ey) λ oy.
      tells_usable P st d z _ (doomed_at (call.Choose c a b d) (a ∷ b ∷ []) [] d z refl (before_more a (b ∷ []) (can_finish a x ex ox) (before_more b [] (can_finish b y ey oy) before_none)) ez) λ _.
      tells_no P (choose_rest st c x y z) (search rules)))
  tells_call (call.Apply c f a) =
      let P = FirstUnfinishable st (call.Apply c f a) in
      tells_made P _ (tells_judge P (ltb c 16 && ltb f 16 && ltb a 16) _ _ (
      tells_full P (cell st f) _ λ x ex. tells_full P (cell st a) _ λ y ey.
      tells_usable P st f x _ (doomed_at (call.Apply c f a) [] (a ∷ []) f x refl before_none ex) λ ox.
      tells_usable P st a y _ (doomed_at (call.Apply c f a) (f ∷ []) [] a y refl (before_more f [] (can_finish f x ex ox) before_none) ey) λ _.
      tells_no P (apply_rest st c x y) (search rules)))
  tells_call (call.Print a) =
      let P = FirstUnfinishable st (call.Print a) in
      tells_kept P st _ (tells_judge P (ltb a 16 && leb output.at (length output.bytes)) _ _ (tells_full P (cell st a) _ λ x ex.
      tells_usable P st a x _ (doomed_at (call.Print a) [] [] a x refl before_none ex) λ _.
      tells_no P (judge (eqb (length x.names) 0) not_closed (judge (leb (output.at + length (line x)) (length output.bytes)) short_output (Ok (line x))))
      (search rules)))

pub escape_first : EscapeFirst
escape_first st grown output c i n e =
    (subst (λ (r : Result State Fault). Tells r (FirstUnfinishable st c)) e (tells_call output st (grown_sound grown) c)) i n refl
