-- What is true of the generator's state after any calls.
use Rattle.std.proofs.Common.{◌≡◌, ℕ, suc, ◌+◌, ◌-◌, ◌<◌, ◌≤◌, Bool, true, false, ◌&&◌, eqb, ltb, leb, List, [], ◌∷◌, length, drop, Some, None, Ok, Err, Option, Result, refl, ◌∙◌, subst, ⊎_elim, arith, rules, length-drop, length-set}
use Rattle.std.proofs.lemmas.Grind.{common_steps}
use Rattle.std.proofs.lemmas.Option.{same_Some}
use Rattle.std.proofs.lemmas.Bool.{leb-true, ltb-true, eqb-true}
use Rattle.code.specs.declared.types.Base.TheVariants.{Number, Truth}
use Rattle.code.specs.declared.types.Ty.{Ty}
use Rattle.code.specs.declared.types.Ty.TheVariants.{Plain}
use Rattle.code.specs.Code.{Code, in_range32}
use Rattle.code.specs.Numbers.{operator}
use Rattle.model.specs.Model
use Rattle.model.specs.Model.{State, Piece, Binder, parameter, bound, serial, Plan, Refusal, Fault, plain, stated, cell, put, judged, judge, full, typed, lawful, usable, escaping, opened, closed_with, close_latest, finish_mark, leave_mark, print_plan}
use Rattle.model.specs.Calls.{Sheet, made, Deed, makes, moves, prints, deed, settled, does, kept}
use Rattle.model.specs.declared.call.Call.{Call}
use Rattle.model.specs.Finish.{after, Grown}
use Rattle.model.specs.Finish
use Rattle.model.specs.declared.call.Call.TheVariants as call
use Rattle.model.proofs.Binders.{AllOpen, escaping_none}
use Rattle.model.proofs.Pieces.{Good, Opens, Bound, opens_drop, opens_more, good_opened, good_drop, good_leaf, good_variable, good_join, good_apply, good_choose, good_function, good_let}

-- the marks descend from at most n
abbrev pub Marked : List ℕ → ℕ → Type 0
Marked [] n = Unit {0}
Marked (m ∷ ms) n = (m ≤ n) × Marked ms m

pub record Sound (st : State) : Type 0 where
  pub sixteen : length st.cells ≡ 16
  pub pieces : (i : ℕ) (p : Piece) → cell st i ≡ Some p → Good st.open_binders st.next p
  pub binders : Opens st.open_binders st.next
  pub marks : Marked st.marks (length st.open_binders)
  pub serials : st.next ≤ 4096
  pub deep : length st.open_binders ≤ 16

-- a plan that leads to a sound state, and makes a good piece
abbrev pub Made : Plan → Type 0
Made p = Sound p.after × Good p.after.open_binders p.after.next p.piece

pub marked_more : (ms : List ℕ) (m n : ℕ) → m ≤ n → Marked ms m → Marked ms n
marked_more [] m n l h = tt
marked_more (k ∷ ms) m n l h = (omega (arith, h.0), h.1)

-- P of what a result grants
abbrev pub Granted : {A : Type 0} → Result A Fault → (A → Type 0) → Type 0
Granted (Ok x) P = P x
Granted (Err f) P = Unit {0}

module _ {A : Type 0} (P : A → Type 0) where
  pub granted_judged : (b : Bool) (f : Fault) (r : Result A Fault) → (b ≡ true → Granted r P) → Granted (judged b f r) P
  granted_judged true f r k = k refl
  granted_judged false f r k = tt

  pub granted_judge : (b : Bool) (f : Refusal) (r : Result A Fault) → (b ≡ true → Granted r P) → Granted (judge b f r) P
  granted_judge b f r k = granted_judged b (plain f) r k

  pub granted_full : (o : Option Piece) (r : Piece → Result A Fault) → ((x : Piece) → o ≡ Some x → Granted (r x) P) → Granted (full o r) P
  granted_full None r k = tt
  granted_full (Some x) r k = k x refl

  pub granted_typed : (o : Option Ty) (r : Ty → Result A Fault) → ((t : Ty) → o ≡ Some t → Granted (r t) P) → Granted (typed o r) P
  granted_typed None r k = tt
  granted_typed (Some t) r k = k t refl

  pub granted_lawful : {B : Type 0} (o : Option B) (r : B → Result A Fault) → ((x : B) → o ≡ Some x → Granted (r x) P) → Granted (lawful o r) P
  granted_lawful None r k = tt
  granted_lawful (Some x) r k = k x refl

  pub granted_usable : (st : State) (i : ℕ) (x : Piece) (r : Result A Fault) → (AllOpen st.open_binders x.names → Granted r P) → Granted (usable st i x r) P
  granted_usable st i x r k =
      granted_judged (eqb (length (escaping st.open_binders x.names)) 0) _ r
      (λ e. k (escaping_none st.open_binders x.names (eqb-true (length (escaping st.open_binders x.names)) 0 e)))

pub granted_made : (P : State → Type 0) (r : Result Plan Fault) → Granted r (λ p. P p.after) → Granted (made None r) P
granted_made P (Ok p) h = h
granted_made P (Err f) h = tt

sound_made : (r : Result Plan Fault) → Granted r Made → Granted (made None r) Sound
sound_made r h = search rules

-- a good piece put into a cell, or none
sound_put : (st : State) (c : ℕ) (o : Option Piece) → Sound st → ((p : Piece) → o ≡ Some p → Good st.open_binders st.next p) → Sound (put st c o)
sound_put st c o h g = record {
  sixteen = length-set st.cells c o ∙ h.sixteen;
  pieces = λ i p e. ⊎_elim (g p) (h.pieces i p) (grind (arith, common_steps));
  binders = h.binders;
  marks = h.marks;
  serials = h.serials;
  deep = h.deep;
}

sound_copy : (st : State) (c : ℕ) (x : Piece) → Sound st → Good st.open_binders st.next x → Sound (put st c (Some x))
sound_copy st c x h g = sound_put st c (Some x) h (λ p e. subst (Good st.open_binders st.next) (same_Some x p e) g)

sound_piece : (st : State) (c : ℕ) (x : Piece) → Sound st → Good st.open_binders st.next x → Sound (put st c (Some x)) × Good st.open_binders st.next x
sound_piece st c x h g = (sound_copy st c x h g, g)

-- with the latest binders gone
sound_fewer : (st : State) (k : ℕ) (ms : List ℕ) → Sound st → Marked ms (length (drop k st.open_binders)) → Sound (record { cells = st.cells; open_binders = drop k st.open_binders; marks = ms; next = st.next })
sound_fewer st k ms h m = record {
  sixteen = h.sixteen;
  pieces = λ i p e. good_drop k st.open_binders st.next st.next p h.binders (h.pieces i p e);
  binders = opens_drop k st.open_binders st.next h.binders;
  marks = m;
  serials = h.serials;
  deep = omega (arith, h.deep, length-drop k st.open_binders);
}

-- with other marks
sound_marks : (st : State) (ms : List ℕ) → Sound st → Marked ms (length st.open_binders) → Sound (record { cells = st.cells; open_binders = st.open_binders; marks = ms; next = st.next })
sound_marks st ms h m = sound_fewer st 0 ms h m

sound_opened : (st : State) (c : ℕ) (b : Binder) → serial b ≡ st.next → Bound b st.open_binders → Sound st → Granted (opened stated st c b) Made
sound_opened st c b e bd h =
    granted_judge Made (ltb (length st.open_binders) 16) _ _ λ d.
    granted_judge Made (ltb st.next 4096) _ _ λ l.
    let below : st.next < 4096 = ltb-true st.next 4096 l in
    let bs : List Binder = st.open_binders in
    let wide : Sound (record { cells = st.cells; open_binders = b ∷ bs; marks = st.marks; next = st.next + 1 }) = record {
      sixteen = h.sixteen;
      pieces = λ i p q. good_opened b bs st.next p e (h.pieces i p q);
      binders = (omega arith, (bd, opens_more bs st.next (serial b) (omega arith) h.binders));
      marks = marked_more st.marks (length bs) (suc (length bs)) (omega arith) h.marks;
      serials = omega arith;
      deep = ltb-true (length bs) 16 d;
    } in
    sound_piece (record { cells = st.cells; open_binders = b ∷ bs; marks = st.marks; next = st.next + 1 }) c _ wide (good_variable b bs st.next e below)

lower_marks : (ms : List ℕ) (n m : ℕ) → Marked ms n → Model.floor ms ≤ m → Marked ms m
lower_marks ms n m h l = search rules

sound_closed_with : (st : State) (c : ℕ) (x : Piece) (b : Binder) (rest : List Binder) → Bound b rest → serial b < st.next → st.next ≤ 4096
    → Sound (record { cells = st.cells; open_binders = rest; marks = st.marks; next = st.next })
    → Good (b ∷ rest) st.next x → AllOpen (b ∷ rest) x.names → Granted (closed_with stated st c x b rest) Made
sound_closed_with st c x (parameter s p) rest bd l k h g all =
    granted_typed Made _ _ λ t e.
    granted_judge Made _ _ _ λ small.
    sound_piece _ c _ h (good_function rest st.next s p x (omega arith) g all (leb-true (1 + x.size) 4096 small) t e)
sound_closed_with st c x (bound s v) rest bd l k h g all =
    granted_judge Made _ _ _ λ small.
    sound_piece _ c _ h (good_let rest st.next s v x l (omega arith) bd g all (leb-true (1 + v.size + x.size) 4096 small) h.deep)

abbrev pub state : List (Option Piece) → List Binder → List ℕ → ℕ → State
state cells bs ms n = record { cells = cells; open_binders = bs; marks = ms; next = n }

sound_close : (cells : List (Option Piece)) (bs : List Binder) (ms : List ℕ) (n : ℕ) (c : ℕ) (x : Piece) → Sound (state cells bs ms n) → Good bs n x → AllOpen bs x.names → Granted (close_latest stated (state cells bs ms n) c x bs) Made
sound_close cells [] ms n c x h g all = tt
sound_close cells (b ∷ rest) ms n c x h g all =
    granted_judge Made _ _ _ λ l.
    sound_closed_with (state cells (b ∷ rest) ms n) c x b rest h.binders.1.0 h.binders.0 h.serials
    (sound_fewer (state cells (b ∷ rest) ms n) 1 ms h (lower_marks ms (suc (length rest)) (length rest) h.marks (leb-true (Model.floor ms) (length rest) l))) g all

sound_finish : (st : State) (ms : List ℕ) → Marked ms (length st.open_binders) → Sound st → Granted (finish_mark stated st ms) Sound
sound_finish st ms m h = search (rules, sound_marks, marked_more)

sound_leave : (st : State) (ms : List ℕ) → Marked ms (length st.open_binders) → Sound st → Granted (leave_mark stated st ms) Sound
sound_leave st [] m h = tt
sound_leave st (k ∷ ms) m h =
    sound_fewer st (length st.open_binders - k) ms h
    (marked_more ms k (length (drop (length st.open_binders - k) st.open_binders)) (omega (arith, m.0, length-drop (length st.open_binders - k) st.open_binders)) m.1)

sound_kept : {A : Type 0} (st : State) (r : Result A Fault) → Sound st → Granted (kept st r) Sound
sound_kept st r h = search rules

-- what each call comes to in a sound state: a good piece, and a sound state after it
abbrev pub SoundDeed : Deed → Type 0
SoundDeed (makes r) = Granted r Made
SoundDeed (moves r) = Granted r Sound
SoundDeed (prints r) = Unit {0}

pub sound_deed : (output : Sheet) (st : State) (c : Call) → Sound st → SoundDeed (deed stated output st c)
sound_deed output st (call.Num c n) h =
    granted_judge Made (in_range32 n) _ _ λ r. granted_judge Made (ltb c 16) _ _ λ _.
    sound_piece st c _ h (good_leaf st.open_binders st.next (Code.number n) (Plain Number) refl refl r (λ g. refl))
sound_deed output st (call.Truth c b) h =
    granted_judge Made (ltb b 2) _ _ λ _. granted_judge Made (ltb c 16) _ _ λ _.
    sound_piece st c _ h (good_leaf st.open_binders st.next (Code.truth (eqb b 1)) (Plain Truth) refl refl refl (λ g. refl))
sound_deed output st (call.Input c i) h =
    granted_judge Made (ltb i 8) _ _ λ l. granted_judge Made (ltb c 16) _ _ λ _.
    sound_piece st c _ h (good_leaf st.open_binders st.next (Code.input i) (Plain Number) refl refl l (λ g. refl))
sound_deed output st (call.Fun c p) h = search (rules, sound_opened)
sound_deed output st (call.Let c a) h = search (rules, sound_opened, h.pieces, escaping_none, eqb-true)
sound_deed output st (call.Close c a) h =
    granted_judge Made (ltb c 16 && ltb a 16) _ _ λ _. granted_full Made (cell st a) _ λ x e. granted_usable Made st a x _ λ all.
    sound_close st.cells st.open_binders st.marks st.next c x h (h.pieces a x e) all
sound_deed output st (call.Copy c a) h = search (rules, sound_copy, h.pieces)
sound_deed output st (call.Join c o a b) h =
    granted_judge Made (ltb c 16 && ltb a 16 && ltb b 16) _ _ λ _. granted_lawful Made (operator o) _ λ op _.
    granted_full Made (cell st a) _ λ x ex. granted_full Made (cell st b) _ λ y ey.
    granted_usable Made st a x _ λ ox. granted_usable Made st b y _ λ oy.
    granted_typed Made _ _ λ t e. granted_judge Made (leb (1 + x.size + y.size) 4096) _ _ λ small.
    sound_piece st c _ h (good_join st.open_binders st.next x y (h.pieces a x ex) (h.pieces b y ey) ox oy (leb-true (1 + x.size + y.size) 4096 small) h.deep op t e)
sound_deed output st (call.Choose c a b d) h =
    granted_judge Made (ltb c 16 && ltb a 16 && ltb b 16 && ltb d 16) _ _ λ _.
    granted_full Made (cell st a) _ λ x ex. granted_full Made (cell st b) _ λ y ey. granted_full Made (cell st d) _ λ z ez.
    granted_usable Made st a x _ λ ox. granted_usable Made st b y _ λ oy. granted_usable Made st d z _ λ oz.
    granted_typed Made _ _ λ t e. granted_judge Made (leb (1 + x.size + y.size + z.size) 4096) _ _ λ small.
    sound_piece st c _ h (good_choose st.open_binders st.next x y z (h.pieces a x ex) (h.pieces b y ey) (h.pieces d z ez) ox oy oz (leb-true (1 + x.size + y.size + z.size) 4096 small) h.deep t e)
sound_deed output st (call.Apply c f a) h =
    granted_judge Made (ltb c 16 && ltb f 16 && ltb a 16) _ _ λ _.
    granted_full Made (cell st f) _ λ x ex. granted_full Made (cell st a) _ λ y ey.
    granted_usable Made st f x _ λ ox. granted_usable Made st a y _ λ oy.
    granted_typed Made _ _ λ t e. granted_judge Made (leb (1 + x.size + y.size) 4096) _ _ λ small.
    sound_piece st c _ h (good_apply st.open_binders st.next x y (h.pieces f x ex) (h.pieces a y ey) ox oy (leb-true (1 + x.size + y.size) 4096 small) h.deep t e)
sound_deed output st (call.Clear c) h = search (rules, sound_put)
sound_deed output st call.Mark h = search (rules, sound_marks, h.marks)
sound_deed output st call.Finish h = sound_finish st st.marks h.marks h
sound_deed output st call.Leave h = sound_leave st st.marks h.marks h
sound_deed output st (call.Print a) h = tt

sound_settled : (st : State) (d : Deed) → Sound st → SoundDeed d → Granted (settled st None d) Sound
sound_settled st d h g = search rules

-- each call keeps a sound state sound
pub sound_call : (output : Sheet) (st : State) (c : Call) → Sound st → Granted (does stated output st c) Sound
sound_call output st c h = sound_settled st (deed stated output st c) h (sound_deed output st c h)

sound_after : (st : State) (r : Result State Fault) → Sound st → Granted r Sound → Sound (after st r)
sound_after st (Ok s) h g = g
sound_after st (Err f) h g = h

pub grown_sound : {st : State} → Grown st → Sound st
grown_sound Finish.new = record { sixteen = refl; pieces = λ i p e. absurd (grind (arith, common_steps)); binders = tt; marks = tt; serials = omega arith; deep = omega arith }
grown_sound (Finish.grows {st} output c g) = let h = grown_sound g in sound_after st (does stated output st c) h (sound_call output st c h)
