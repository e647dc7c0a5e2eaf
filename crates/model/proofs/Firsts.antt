-- Each call is refused with the first refusal that applies.
use Rattle.std.proofs.Common.{◌≡◌, ℕ, ◌+◌, ◌<◌, ◌≤◌, Bool, true, false, ◌&&◌, eqb, ltb, leb, ◌⊎◌, List, [], ◌∷◌, ◌++◌, length, ℤ, Some, None, Ok, Err, Option, Result, sym, refl, ap, ◌∙◌, subst, arith, rules}
use Rattle.std.proofs.lemmas.Bool.{ltb-true, ltb-false, leb-true, leb-false, eqb-true, eqb-false, and_left, and_right, and_from}
use Rattle.std.proofs.lemmas.Option.{some_pair_parts}
use Rattle.code.specs.declared.operator.Operator.{Operator}
use Rattle.code.specs.declared.types.Base.{Base}
use Rattle.code.specs.declared.types.Ty.{Ty}
use Rattle.code.specs.Code.{in_range32}
use Rattle.code.specs.Text.{text}
use Rattle.code.specs.Typing.{joined, chosen, applied, abstracted}
use Rattle.code.specs.Numbers.{operator, base}
use Rattle.code.specs.Members.{In}
use Rattle.model.specs.Model
use Rattle.model.specs.Model.{State, Piece, Binder, parameter, bound, Plan, Refusal, Fault, plain, escaped, no_room, refusal, number, stated, cell, judged, judge, full, typed, lawful, usable, escaping, floor, closed_with, close_latest, finish_mark, leave_mark}
use Rattle.model.specs.Calls.{Sheet, Fate, Deed, deed, made, does, kept, settled, answered, refused}
use Rattle.model.specs.declared.call.Call.{Call}
use Rattle.model.specs.Finish.{uses, lawful_arguments}
use Rattle.model.specs.Refusals.{reads, first_escape, Applies, First, FirstRefusal, RefusalsInOrder}
use Rattle.model.specs.Refusals
use Rattle.model.specs.declared.call.Call.TheVariants as call
use Rattle.code.proofs.NameLists.{in_none, in_cons}
use Rattle.model.proofs.Numbers.{operator_none, operator_some, base_none, base_some}

-- the refusals are told by their numbers, which are 1 to 17
same_plain : (r s : Refusal) → number r ≡ number s → r ≡ s
same_plain r s e = search rules

not_seven : (r : Refusal) → number r ≡ 7 → ⊥
not_seven r e = search rules

low : (f : Fault) → 1 ≤ refusal f
low f = search rules

high : (f : Fault) → refusal f ≤ 17
high f = search rules

-- a result that is the first of what applies, or granted where nothing does
module _ (P : Fault → Type 0) where
  abbrev Below : ℕ → Type 0
  Below k = (g : Fault) → P g → k ≤ refusal g

  abbrev Right : {A : Type 0} → Result A Fault → Type 0
  Right (Ok x) = Below 18
  Right (Err f) = P f × Below (refusal f)

  right_judged : {A : Type 0} (b : Bool) (f : Fault) (r : Result A Fault) → (b ≡ false → P f) → Below (refusal f) → (b ≡ true → Right r) → Right (judged b f r)
  right_judged true f r p l k = k refl
  right_judged false f r p l k = (p refl, l)

  right_bad : {A : Type 0} (b : Bool) (r : Result A Fault) → (b ≡ false → P (plain Model.bad_argument)) → (b ≡ true → Right r) → Right (judge b Model.bad_argument r)
  right_bad b r p k = right_judged b (plain Model.bad_argument) r p (λ g _. low g) k

  right_lawful : {A B : Type 0} (o : Option B) (r : B → Result A Fault) → (o ≡ None → P (plain Model.bad_argument)) → ((x : B) → o ≡ Some x → Right (r x)) → Right (lawful o r)
  right_lawful None r p k = (p refl, λ g _. low g)
  right_lawful (Some x) r p k = k x refl

  right_full : {A : Type 0} (o : Option Piece) (r : Piece → Result A Fault) → (o ≡ None → P (plain Model.empty_cell)) → Below 6 → ((x : Piece) → o ≡ Some x → Right (r x)) → Right (full o r)
  right_full None r p l k = (p refl, l)
  right_full (Some x) r p l k = k x refl

  right_typed : {A : Type 0} (o : Option Ty) (r : Ty → Result A Fault) → (o ≡ None → P (plain Model.wrong_type)) → Below 12 → ((t : Ty) → o ≡ Some t → Right (r t)) → Right (typed o r)
  right_typed None r p l k = (p refl, l)
  right_typed (Some t) r p l k = k t refl

  right_usable : {A : Type 0} (st : State) (i : ℕ) (x : Piece) (r : Result A Fault) → (eqb (length (escaping st.open_binders x.names)) 0 ≡ false → P (escaped i (length (escaping st.open_binders x.names))))
      → Below 7 → (eqb (length (escaping st.open_binders x.names)) 0 ≡ true → Right r) → Right (usable st i x r)
  right_usable st i x r p l k = right_judged (eqb (length (escaping st.open_binders x.names)) 0) _ r p l k

  right_made : (r : Result Plan Fault) → Right r → Right (made None r)
  right_made (Ok x) h = h
  right_made (Err f) h = h

  right_kept : {A : Type 0} (st : State) (r : Result A Fault) → Right r → Right (kept st r)
  right_kept st (Ok x) h = h
  right_kept st (Err f) h = h

-- the cells read are full
abbrev Fulls : State → List ℕ → Type 0
Fulls st is = (i : ℕ) → In i is → cell st i ≡ None → ⊥

module _ (page : Sheet) (st : State) where
  -- k is no more than the number of each refusal from 8 on that applies to a call
  abbrev Rest : Call → ℕ → Type 0
  Rest (call.Num c n) k = Unit {0}
  Rest (call.Truth c b) k = Unit {0}
  Rest (call.Input c i) k = Unit {0}
  Rest (call.Fun c p) k = (16 ≤ length st.open_binders → k ≤ 13) × (4096 ≤ st.next → k ≤ 14)
  Rest (call.Let c a) k = (16 ≤ length st.open_binders → k ≤ 13) × (4096 ≤ st.next → k ≤ 14)
  Rest (call.Close c a) k =
      (length st.open_binders ≤ floor st.marks → k ≤ 8)
      × ((s : ℕ) (p : Base) (x : Piece) (rest : List Binder) → cell st a ≡ Some x → st.open_binders ≡ parameter s p ∷ rest → abstracted p x.type ≡ None → k ≤ 12)
      × ((s : ℕ) (p : Base) (x : Piece) (rest : List Binder) → cell st a ≡ Some x → st.open_binders ≡ parameter s p ∷ rest → 4096 < 1 + x.size → k ≤ 15)
      × ((s : ℕ) (e x : Piece) (rest : List Binder) → cell st a ≡ Some x → st.open_binders ≡ bound s e ∷ rest → 4096 < 1 + e.size + x.size → k ≤ 15)
  Rest (call.Copy c a) k = Unit {0}
  Rest (call.Join c o a b) k =
      ((op : Operator) (x y : Piece) → operator o ≡ Some op → cell st a ≡ Some x → cell st b ≡ Some y → joined op x.type y.type ≡ None → k ≤ 12)
      × ((x y : Piece) → cell st a ≡ Some x → cell st b ≡ Some y → 4096 < 1 + x.size + y.size → k ≤ 15)
  Rest (call.Choose c a b d) k =
      ((x y z : Piece) → cell st a ≡ Some x → cell st b ≡ Some y → cell st d ≡ Some z → chosen x.type y.type z.type ≡ None → k ≤ 12)
      × ((x y z : Piece) → cell st a ≡ Some x → cell st b ≡ Some y → cell st d ≡ Some z → 4096 < 1 + x.size + y.size + z.size → k ≤ 15)
  Rest (call.Apply c f a) k =
      ((x y : Piece) → cell st f ≡ Some x → cell st a ≡ Some y → applied x.type y.type ≡ None → k ≤ 12)
      × ((x y : Piece) → cell st f ≡ Some x → cell st a ≡ Some y → 4096 < 1 + x.size + y.size → k ≤ 15)
  Rest (call.Clear c) k = Unit {0}
  Rest call.Mark k = 8 ≤ length st.marks → k ≤ 13
  Rest call.Finish k = (st.marks ≡ [] → k ≤ 9) × (floor st.marks < length st.open_binders → k ≤ 10)
  Rest call.Leave k = st.marks ≡ [] → k ≤ 9
  Rest (call.Print a) k =
      ((x : Piece) → cell st a ≡ Some x → 0 < length x.names → k ≤ 11)
      × ((x : Piece) → cell st a ≡ Some x → length page.bytes < page.at + length (text [] x.code ++ (10 ∷ [])) → k ≤ 17)

  rest_low : (c : Call) (k : ℕ) → k ≤ 8 → Rest c k
  rest_low c k l = search rules

  below : (c : Call) (k : ℕ) → (lawful_arguments page c ≡ false → k ≤ 1) → ((i : ℕ) → In i (reads c) → cell st i ≡ None → k ≤ 6) → ((i n : ℕ) → first_escape st (uses c) ≡ Some (i, n) → k ≤ 7) → Rest c k
      → (g : Fault) → Applies page st c g → k ≤ refusal g
  below c k b e s r g (Refusals.bad q) = b q
  below c k b e s r g (Refusals.empty m q) = e _ m q
  below c k b e s r g (Refusals.escape q) = s _ _ q
  below c k b e s r g (Refusals.unbound q) = r.0 q
  below c k b e s r g (Refusals.unmarked_finish q) = r.0 q
  below c k b e s r g (Refusals.unmarked_leave q) = r q
  below c k b e s r g (Refusals.binder_open q) = r.1 q
  below c k b e s r g (Refusals.names_left p q) = r.0 _ p q
  below c k b e s r g (Refusals.ill_joined m n p q) = r.0 _ _ _ m n p q
  below c k b e s r g (Refusals.ill_chosen m n p q) = r.0 _ _ _ m n p q
  below c k b e s r g (Refusals.ill_applied n p q) = r.0 _ _ n p q
  below c k b e s r g (Refusals.ill_closed n p q) = r.1 _ _ _ _ n p q
  below c k b e s r g (Refusals.deep_fun q) = r.0 q
  below c k b e s r g (Refusals.deep_let q) = r.0 q
  below c k b e s r g (Refusals.deep_mark q) = r q
  below c k b e s r g (Refusals.spent_fun q) = r.1 q
  below c k b e s r g (Refusals.spent_let q) = r.1 q
  below c k b e s r g (Refusals.large_join n p q) = r.1 _ _ n p q
  below c k b e s r g (Refusals.large_choose m n p q) = r.1 _ _ _ m n p q
  below c k b e s r g (Refusals.large_apply n p q) = r.1 _ _ n p q
  below c k b e s r g (Refusals.large_function n p q) = r.2 _ _ _ _ n p q
  below c k b e s r g (Refusals.large_let n p q) = r.3 _ _ _ _ n p q
  below c k b e s r g (Refusals.no_space p q) = r.1 _ p q

  -- the arguments are lawful; and the cells read are full; and no used code escapes
  six : (c : Call) → lawful_arguments page c ≡ true → Below (Applies page st c) 6
  six c u = below c 6 (λ z. absurd cc) (λ i m q. omega arith) (λ i n q. omega arith) (rest_low c 6 (omega arith))

  seven : (c : Call) → lawful_arguments page c ≡ true → Fulls st (reads c) → Below (Applies page st c) 7
  seven c u f = below c 7 (λ z. absurd cc) (λ i m q. absurd (f i m q)) (λ i n q. omega arith) (rest_low c 7 (omega arith))

  past : (c : Call) (k : ℕ) → lawful_arguments page c ≡ true → Fulls st (reads c) → first_escape st (uses c) ≡ None → Rest c k → Below (Applies page st c) k
  past c k u f e = below c k (λ z. absurd cc) (λ i m q. absurd (f i m q)) (λ i n q. absurd cc)

  right_num : (c : ℕ) (n : ℤ) → Right (Applies page st (call.Num c n)) (does stated page st (call.Num c n))
  right_num c n =
      let P = Applies page st (call.Num c n) in
      right_made P _ (right_bad P (in_range32 n) _ (λ e. Refusals.bad (and_right (ltb c 16) (in_range32 n) e)) λ u. right_bad P (ltb c 16) _ (λ e. Refusals.bad (and_left (ltb c 16) (in_range32 n) e)) λ v.
      past (call.Num c n) 18 (and_from (ltb c 16) (in_range32 n) v u) (λ i m q. in_none m) refl tt)

  right_truth : (c b : ℕ) → Right (Applies page st (call.Truth c b)) (does stated page st (call.Truth c b))
  right_truth c b =
      let P = Applies page st (call.Truth c b) in
      right_made P _ (right_bad P (ltb b 2) _ (λ e. Refusals.bad (and_right (ltb c 16) (ltb b 2) e)) λ u. right_bad P (ltb c 16) _ (λ e. Refusals.bad (and_left (ltb c 16) (ltb b 2) e)) λ v.
      past (call.Truth c b) 18 (and_from (ltb c 16) (ltb b 2) v u) (λ i m q. in_none m) refl tt)

  right_input : (c i : ℕ) → Right (Applies page st (call.Input c i)) (does stated page st (call.Input c i))
  right_input c i =
      let P = Applies page st (call.Input c i) in
      right_made P _ (right_bad P (ltb i 8) _ (λ e. Refusals.bad (and_right (ltb c 16) (ltb i 8) e)) λ u. right_bad P (ltb c 16) _ (λ e. Refusals.bad (and_left (ltb c 16) (ltb i 8) e)) λ v.
      past (call.Input c i) 18 (and_from (ltb c 16) (ltb i 8) v u) (λ i m q. in_none m) refl tt)

  right_clear : (c : ℕ) → Right (Applies page st (call.Clear c)) (does stated page st (call.Clear c))
  right_clear c = right_bad (Applies page st (call.Clear c)) (ltb c 16) _ (λ e. Refusals.bad e) λ u. past (call.Clear c) 18 u (λ i m q. in_none m) refl tt

  right_copy : (c a : ℕ) → Right (Applies page st (call.Copy c a)) (does stated page st (call.Copy c a))
  right_copy c a =
      let P = Applies page st (call.Copy c a) in
      right_bad P (ltb c 16 && ltb a 16) _ (λ e. Refusals.bad e) λ u. right_full P (cell st a) _ (λ e. Refusals.empty In.first e) (six (call.Copy c a) u) λ x ex.
      past (call.Copy c a) 18 u (λ i m q. search (rules, in_cons, in_none)) refl tt

  right_fun : (c p : ℕ) → Right (Applies page st (call.Fun c p)) (does stated page st (call.Fun c p))
  right_fun c p =
      let P = Applies page st (call.Fun c p) in
      right_made P _ (right_bad P (ltb c 16) _ (λ e. Refusals.bad (and_left (ltb c 16) (ltb p 2) e)) λ u. right_lawful P (base p) _ (λ e. Refusals.bad (and_right (ltb c 16) (ltb p 2) (base_none p e))) λ t v.
      let past_fun = λ (k : ℕ). past (call.Fun c p) k (and_from (ltb c 16) (ltb p 2) u (base_some p t v)) (λ i m q. in_none m) refl in
      right_judged P (ltb (length st.open_binders) 16) _ _ (λ e. Refusals.deep_fun (ltb-false _ _ e)) (past_fun 13 (search rules)) λ d.
      right_judged P (ltb st.next 4096) _ _ (λ e. Refusals.spent_fun (ltb-false _ _ e)) (past_fun 14 (search (rules, ltb-true _ _ d))) λ s.
      past_fun 18 (search (rules, ltb-true _ _ d, ltb-true _ _ s)))

  right_let : (c a : ℕ) → Right (Applies page st (call.Let c a)) (does stated page st (call.Let c a))
  right_let c a =
      let P = Applies page st (call.Let c a) in
      right_made P _ (right_bad P (ltb c 16 && ltb a 16) _ (λ e. Refusals.bad e) λ u. right_full P (cell st a) _ (λ e. Refusals.empty In.first e) (six (call.Let c a) u) λ x ex.
      let full : Fulls st (a ∷ []) = λ i m q. search (rules, in_cons, in_none) in
      right_usable P st a x _ (λ e. Refusals.escape (cc)) (seven (call.Let c a) u full) λ ox.
      let past_let = λ (k : ℕ). past (call.Let c a) k u full (cc) in
      right_judged P (ltb (length st.open_binders) 16) _ _ (λ e. Refusals.deep_let (ltb-false _ _ e)) (past_let 13 (search rules)) λ d.
      right_judged P (ltb st.next 4096) _ _ (λ e. Refusals.spent_let (ltb-false _ _ e)) (past_let 14 (search (rules, ltb-true _ _ d))) λ s.
      past_let 18 (search (rules, ltb-true _ _ d, ltb-true _ _ s)))

  right_join : (c o a b : ℕ) → Right (Applies page st (call.Join c o a b)) (does stated page st (call.Join c o a b))
  right_join c o a b =
      let P = Applies page st (call.Join c o a b) in
      right_made P _ (right_bad P (ltb c 16 && ltb a 16 && ltb b 16) _ (λ e. Refusals.bad (search rules)) λ u. right_lawful P (operator o) _ (λ e. Refusals.bad (search (rules, operator_none o e))) λ op v.
      let w : lawful_arguments page (call.Join c o a b) ≡ true = search (rules, operator_some o op v) in
      right_full P (cell st a) _ (λ e. Refusals.empty In.first e) (six (call.Join c o a b) w) λ x ex.
      right_full P (cell st b) _ (λ e. Refusals.empty (In.later In.first) e) (six (call.Join c o a b) w) λ y ey.
      let full : Fulls st (a ∷ b ∷ []) = λ i m q. search (rules, in_cons, in_none) in
      right_usable P st a x _ (λ e. Refusals.escape (cc)) (seven (call.Join c o a b) w full) λ ox.
      right_usable P st b y _ (λ e. Refusals.escape (cc)) (seven (call.Join c o a b) w full) λ oy.
      let past_join = λ (k : ℕ). past (call.Join c o a b) k w full (cc) in
      right_typed P (joined op x.type y.type) _ (λ e. Refusals.ill_joined v ex ey e) (past_join 12 (search rules)) λ t et.
      right_judged P (leb (1 + x.size + y.size) 4096) _ _ (λ e. Refusals.large_join ex ey (leb-false _ _ e)) (past_join 15 (search rules)) λ z.
      past_join 18 (search (rules, leb-true _ _ z)))

  right_choose : (c a b d : ℕ) → Right (Applies page st (call.Choose c a b d)) (does stated page st (call.Choose c a b d))
  right_choose c a b d =
      let P = Applies page st (call.Choose c a b d) in
      right_made P _ (right_bad P (ltb c 16 && ltb a 16 && ltb b 16 && ltb d 16) _ (λ e. Refusals.bad e) λ u.
      right_full P (cell st a) _ (λ e. Refusals.empty In.first e) (six (call.Choose c a b d) u) λ x ex.
      right_full P (cell st b) _ (λ e. Refusals.empty (In.later In.first) e) (six (call.Choose c a b d) u) λ y ey.
      right_full P (cell st d) _ (λ e. Refusals.empty (In.later (In.later In.first)) e) (six (call.Choose c a b d) u) λ z ez.
      let full : Fulls st (a ∷ b ∷ d ∷ []) = λ i m q. search (rules, in_cons, in_none) in
      right_usable P st a x _ (λ e. Refusals.escape (cc)) (seven (call.Choose c a b d) u full) λ ox.
      right_usable P st b y _ (λ e. Refusals.escape (cc)) (seven (call.Choose c a b d) u full) λ oy.
      right_usable P st d z _ (λ e. Refusals.escape (cc)) (seven (call.Choose c a b d) u full) λ oz.
      let past_choose = λ (k : ℕ). past (call.Choose c a b d) k u full (cc) in
      right_typed P (chosen x.type y.type z.type) _ (λ e. Refusals.ill_chosen ex ey ez e) (past_choose 12 (search rules)) λ t et.
      right_judged P (leb (1 + x.size + y.size + z.size) 4096) _ _ (λ e. Refusals.large_choose ex ey ez (leb-false _ _ e)) (past_choose 15 (search rules)) λ w.
      past_choose 18 (search (rules, leb-true _ _ w)))

  right_apply : (c f a : ℕ) → Right (Applies page st (call.Apply c f a)) (does stated page st (call.Apply c f a))
  right_apply c f a =
      let P = Applies page st (call.Apply c f a) in
      right_made P _ (right_bad P (ltb c 16 && ltb f 16 && ltb a 16) _ (λ e. Refusals.bad e) λ u.
      right_full P (cell st f) _ (λ e. Refusals.empty In.first e) (six (call.Apply c f a) u) λ x ex.
      right_full P (cell st a) _ (λ e. Refusals.empty (In.later In.first) e) (six (call.Apply c f a) u) λ y ey.
      let full : Fulls st (f ∷ a ∷ []) = λ i m q. search (rules, in_cons, in_none) in
      right_usable P st f x _ (λ e. Refusals.escape (cc)) (seven (call.Apply c f a) u full) λ ox.
      right_usable P st a y _ (λ e. Refusals.escape (cc)) (seven (call.Apply c f a) u full) λ oy.
      let past_apply = λ (k : ℕ). past (call.Apply c f a) k u full (cc) in
      right_typed P (applied x.type y.type) _ (λ e. Refusals.ill_applied ex ey e) (past_apply 12 (search rules)) λ t et.
      right_judged P (leb (1 + x.size + y.size) 4096) _ _ (λ e. Refusals.large_apply ex ey (leb-false _ _ e)) (past_apply 15 (search rules)) λ w.
      past_apply 18 (search (rules, leb-true _ _ w)))

  right_mark : Right (Applies page st call.Mark) (does stated page st call.Mark)
  right_mark =
      right_judged (Applies page st call.Mark) (ltb (length st.marks) 8) _ _ (λ e. Refusals.deep_mark (ltb-false _ _ e)) (past call.Mark 13 refl (λ i m q. in_none m) refl (search rules)) λ d.
      past call.Mark 18 refl (λ i m q. in_none m) refl (search (rules, ltb-true _ _ d))

  right_finish : (ms : List ℕ) → st.marks ≡ ms → Right (Applies page st call.Finish) (finish_mark stated st ms)
  right_finish [] e = (Refusals.unmarked_finish e, past call.Finish 9 refl (λ i m q. in_none m) refl (search rules))
  right_finish (m ∷ ms) e =
      let past_finish = λ (k : ℕ). past call.Finish k refl (λ i n q. in_none n) refl in
      right_judged (Applies page st call.Finish) (leb (length st.open_binders) m) _ _ (λ q. Refusals.binder_open (rw e (leb-false _ _ q))) (past_finish 10 (λ z. absurd cc, λ z. omega arith)) λ q.
      past_finish 18 (λ z. absurd cc, λ z. absurd (let f = ap floor e in omega (arith, leb-true _ _ q)))

  right_leave : (ms : List ℕ) → st.marks ≡ ms → Right (Applies page st call.Leave) (leave_mark stated st ms)
  right_leave [] e = (Refusals.unmarked_leave e, past call.Leave 9 refl (λ i m q. in_none m) refl (search rules))
  right_leave (m ∷ ms) e = past call.Leave 18 refl (λ i m q. in_none m) refl (λ z. absurd cc)

  right_print : (a : ℕ) → Right (Applies page st (call.Print a)) (does stated page st (call.Print a))
  right_print a =
      let P = Applies page st (call.Print a) in
      right_kept P st _ (right_bad P (ltb a 16 && leb page.at (length page.bytes)) _ (λ e. Refusals.bad e) λ u. right_full P (cell st a) _ (λ e. Refusals.empty In.first e) (six (call.Print a) u) λ x ex.
      let full : Fulls st (a ∷ []) = λ i m q. search (rules, in_cons, in_none) in
      right_usable P st a x _ (λ e. Refusals.escape (cc)) (seven (call.Print a) u full) λ ox.
      let past_print = λ (k : ℕ). past (call.Print a) k u full (cc) in
      right_judged P (eqb (length x.names) 0) _ _ (λ e. Refusals.names_left ex (let n = eqb-false _ _ e in omega arith)) (past_print 11 (search rules)) λ n.
      right_judged P (leb (page.at + length (text [] x.code ++ (10 ∷ []))) (length page.bytes)) _ _ (λ e. Refusals.no_space ex (leb-false _ _ e)) (past_print 17 (search (rules, eqb-true _ _ n))) λ w.
      past_print 18 (search (rules, eqb-true _ _ n, leb-true _ _ w)))

  right_closed_with : (c a : ℕ) (x : Piece) (b : Binder) (rest : List Binder) → lawful_arguments page (call.Close c a) ≡ true → Fulls st (a ∷ []) → first_escape st (a ∷ []) ≡ None → cell st a ≡ Some x → st.open_binders ≡ b ∷ rest → floor st.marks ≤ length rest
      → Right (Applies page st (call.Close c a)) (closed_with stated st c x b rest)
  right_closed_with c a x (parameter s p) rest u full none ex eb l =
      let P = Applies page st (call.Close c a) in
      right_typed P (abstracted p x.type) _ (λ e. Refusals.ill_closed ex eb e) (past (call.Close c a) 12 u full none (search (rules, ap length eb))) λ t et.
      right_judged P (leb (1 + x.size) 4096) _ _ (λ e. Refusals.large_function ex eb (leb-false _ _ e)) (past (call.Close c a) 15 u full none (search (rules, ap length eb))) λ w.
      past (call.Close c a) 18 u full none (search (rules, ap length eb, leb-true _ _ w))
  right_closed_with c a x (bound s v) rest u full none ex eb l =
      right_judged (Applies page st (call.Close c a)) (leb (1 + v.size + x.size) 4096) _ _ (λ e. Refusals.large_let ex eb (leb-false _ _ e)) (past (call.Close c a) 15 u full none (search (rules, ap length eb))) λ w.
      past (call.Close c a) 18 u full none (search (rules, ap length eb, leb-true _ _ w))

  right_latest : (c a : ℕ) (x : Piece) (bs : List Binder) → lawful_arguments page (call.Close c a) ≡ true → Fulls st (a ∷ []) → first_escape st (a ∷ []) ≡ None → cell st a ≡ Some x → st.open_binders ≡ bs
      → Right (Applies page st (call.Close c a)) (close_latest stated st c x bs)
  right_latest c a x [] u full none ex eb = (Refusals.unbound (omega (arith, ap length eb)), past (call.Close c a) 8 u full none (rest_low (call.Close c a) 8 (omega arith)))
  right_latest c a x (b ∷ rest) u full none ex eb =
      right_judged (Applies page st (call.Close c a)) (leb (floor st.marks) (length rest)) _ _ (λ e. Refusals.unbound (omega (arith, leb-false _ _ e, ap length eb))) (past (call.Close c a) 8 u full none (rest_low (call.Close c a) 8 (omega arith))) λ l.
      right_closed_with c a x b rest u full none ex eb (leb-true _ _ l)

  right_close : (c a : ℕ) → Right (Applies page st (call.Close c a)) (does stated page st (call.Close c a))
  right_close c a =
      let P = Applies page st (call.Close c a) in
      right_made P _ (right_bad P (ltb c 16 && ltb a 16) _ (λ e. Refusals.bad e) λ u. right_full P (cell st a) _ (λ e. Refusals.empty In.first e) (six (call.Close c a) u) λ x ex.
      let full : Fulls st (a ∷ []) = λ i m q. search (rules, in_cons, in_none) in
      right_usable P st a x _ (λ e. Refusals.escape (cc)) (seven (call.Close c a) u full) λ ox.
      right_latest c a x st.open_binders u full (cc) ex refl)

  right_call : (c : Call) → Right (Applies page st c) (does stated page st c)
  right_call (call.Num c n) = right_num c n
  right_call (call.Truth c b) = right_truth c b
  right_call (call.Input c i) = right_input c i
  right_call (call.Fun c p) = right_fun c p
  right_call (call.Let c a) = right_let c a
  right_call (call.Close c a) = right_close c a
  right_call (call.Copy c a) = right_copy c a
  right_call (call.Join c o a b) = right_join c o a b
  right_call (call.Choose c a b d) = right_choose c a b d
  right_call (call.Apply c f a) = right_apply c f a
  right_call (call.Clear c) = right_clear c
  right_call call.Mark = right_mark
  right_call call.Finish = right_finish st.marks refl
  right_call call.Leave = right_leave st.marks refl
  right_call (call.Print a) = right_print a

  escape_told : (c : Call) (i n : ℕ) → Applies page st c (escaped i n) → first_escape st (uses c) ≡ Some (i, n)
  escape_told c i n (Refusals.escape e) = e

  no_rooms : (c : Call) (w u : ℕ) → Applies page st c (no_room w u) → ⊥
  no_rooms c w u a = elim a [ ]

  same : (c : Call) (f g : Fault) → Applies page st c f → Applies page st c g → refusal f ≡ refusal g → f ≡ g
  same c (plain r) (plain s) a b e = ap plain (same_plain r s e)
  same c (plain r) (escaped i n) a b e = absurd (not_seven r e)
  same c (plain r) (no_room w u) a b e = absurd (no_rooms c w u b)
  same c (escaped i n) (plain s) a b e = absurd (not_seven s (sym e))
  same c (escaped i n) (escaped j m) a b e = let h = some_pair_parts i j n m (sym (escape_told c i n a) ∙ escape_told c j m b) in λ k. escaped (h.0 k) (h.1 k)
  same c (escaped i n) (no_room w u) a b e = absurd (no_rooms c w u b)
  same c (no_room w u) g a b e = absurd (no_rooms c w u a)

  right_err : (c : Call) (f : Fault) → does stated page st c ≡ Err f → Applies page st c f × ((g : Fault) → Applies page st c g → refusal f ≤ refusal g)
  right_err c f e = subst (λ (r : Result State Fault). Right (Applies page st c) r) e (right_call c)

  right_ok : (c : Call) (s : State) → does stated page st c ≡ Ok s → (g : Fault) → Applies page st c g → ⊥
  right_ok c s e g a = let h : 18 ≤ refusal g = (subst (λ (r : Result State Fault). Right (Applies page st c) r) e (right_call c)) g a in omega (arith, high g)

pub first_refusal : FirstRefusal
first_refusal page st c = record {
  refused_first = λ f e. let h = right_err page st c f e in record { applies = h.0; least = h.1 };
  first_refused = λ f h. go f h (does stated page st c) refl;
  granted_none = λ s e. right_ok page st c s e;
  none_granted = λ h. none h (does stated page st c) refl;
}
  where
    go : (f : Fault) → First page st c f → (r : Result State Fault) → does stated page st c ≡ r → does stated page st c ≡ Err f
    go f h (Ok s) e = absurd (right_ok page st c s e f h.applies)
    go f h (Err g) e =
        let k = right_err page st c g e in
        let a = h.least g k.0 in
        let b = k.1 f h.applies in
        e ∙ ap Err (same page st c g f k.0 h.applies (omega arith))

    none : ((f : Fault) → Applies page st c f → ⊥) → (r : Result State Fault) → does stated page st c ≡ r → (s : State) × (does stated page st c ≡ Ok s)
    none h (Ok s) e = (s, e)
    none h (Err g) e = absurd (h g (right_err page st c g e).0)

-- over a store
abbrev Told : State → Fate → Fault → Deed → Type 0
Told st fate f d = (settled st None d ≡ Err f) ⊎ ((w : ℕ) × (u : ℕ) × (fate ≡ Some (w, u)) × (f ≡ no_room w u) × ((s : State) × (settled st None d ≡ Ok s)))

store_told : (st : State) (page : Sheet) (fate : Fate) (f : Fault) (d : Deed) → (answered st page fate d).answer ≡ refused f → Told st fate f d
store_told st page fate f d e = search rules

own_told : (st : State) (page : Sheet) (fate : Fate) (f : Fault) (d : Deed) → settled st None d ≡ Err f → (answered st page fate d).answer ≡ refused f
own_told st page fate f d e = search rules

pub refusals_in_order : RefusalsInOrder
refusals_in_order = record {
  first_refusal = first_refusal;
  store_last = λ page st c fate f. record { told = store_told st page fate f (deed stated page st c); own = own_told st page fate f (deed stated page st c) };
}
