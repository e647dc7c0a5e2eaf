-- Code that can be finished is finished by further calls, and printed.
use Rattle.std.proofs.Common.{◌≡◌, ℕ, suc, ◌+◌, ◌<◌, ◌≤◌, ◌≢◌, List, [], ◌∷◌, ◌++◌, length, get_or, set, replicate, pos, Some, None, Ok, Option, Result, refl, ap, ◌∙◌, ⊎_elim, arith, rules, length-set}
use Rattle.std.proofs.lemmas.Bool.{lt-ltb, le-leb, cases_lt, false≢true}
use Rattle.std.proofs.lemmas.Bool.Decides.{nat_tests}
use Rattle.std.proofs.lemmas.Grind.{common_steps}
use Rattle.std.proofs.lemmas.List.{get_or-set_same, get_or-set_other, get_or_past}
use Rattle.code.specs.declared.types.Base.{Base}
use Rattle.code.specs.declared.types.Base.TheVariants.{Number, Truth}
use Rattle.code.specs.declared.types.Ty.{Ty}
use Rattle.code.specs.declared.types.Ty.TheVariants.{Plain, Function}
use Rattle.code.specs.Code.{Code}
use Rattle.code.specs.Names.{merge, without}
use Rattle.code.specs.Text.{text}
use Rattle.code.specs.Typing.{applied}
use Rattle.model.specs.Model
use Rattle.model.specs.Model.{State, Piece, Binder, parameter, bound, Plan, Fault, unlimited, cell, put, judged, judge, full, typed, usable, escaping, escaped, bad_argument, still_open, no_binder, not_closed, short_output, into, closed_with, close_latest, print_plan}
use Rattle.model.specs.Finish.{Context, plug, apply_function, function_body, let_body, granted_in_order, Finishing}
use Rattle.model.specs.Calls
use Rattle.model.specs.Calls.{sheet, made, does}
use Rattle.model.specs.declared.call.Call.{Call}
use Rattle.model.specs.declared.call.Call.TheVariants as call
use Rattle.code.proofs.NameLists.{in_none, in_merge}
use Rattle.model.proofs.Binders.{no_members, AllOpen, none_escaping, open_past}
use Rattle.model.proofs.Pieces.{Opens}
use Rattle.model.proofs.Sound.{Sound, Marked, marked_more, state, grown_sound}
use Rattle.model.proofs.Contexts.{literal, begin, begun, wrapped, finishable_open, open_holds}

-- calls that are granted one after the other
data Reaches : State → State → Type 0 where
  done : {st : State} → Reaches st st
  step : {st s e : State} (c : Call) → does unlimited (sheet [] 0) st c ≡ Ok s → Reaches s e → Reaches st e

and_then : {a b c : State} → Reaches a b → Reaches b c → Reaches a c
and_then done q = q
and_then (step c e p) q = step c e (and_then p q)

calls_of : {a b : State} → Reaches a b → (calls : List Call) × (granted_in_order unlimited a calls ≡ Some b)
calls_of done = ([], refl)
calls_of (step c e p) = let r = calls_of p in (c ∷ r.0, rw (e, granted_in_order) r.1)

-- cell i holds a piece of this code and type, with all its names open
record Ready (cells : List (Option Piece)) (bs : List Binder) (i : ℕ) (c : Code) (t : Ty) : Type 0 where
  sixteen : length cells ≡ 16
  size : ℕ
  names : List ℕ
  holds : get_or cells i None ≡ Some (record { code = c; type = t; size = size; names = names })
  all_open : AllOpen bs names

-- calls lead there
record Led (from : State) (bs : List Binder) (ms : List ℕ) (n i : ℕ) (c : Code) (t : Ty) : Type 0 where
  cells : List (Option Piece)
  reaches : Reaches from (state cells bs ms n)
  ready : Ready cells bs i c t

led_after : {a b : State} {bs : List Binder} {ms : List ℕ} {n i : ℕ} {c : Code} {t : Ty} → Reaches a b → Led b bs ms n i c t → Led a bs ms n i c t
led_after p l = record { cells = l.cells; reaches = and_then p l.reaches; ready = l.ready }

-- no binder is open any more; some marks may be left
abbrev ClosedUp : State → ℕ → ℕ → Code → Ty → Type 0
ClosedUp from n i c t = (left : List ℕ) × Led from [] left n i c t

closed_after : {a b : State} {n i : ℕ} {c : Code} {t : Ty} → Reaches a b → ClosedUp b n i c t → ClosedUp a n i c t
closed_after p r = (r.0, led_after p r.1)

usable_open : {A : Type 0} (st : State) (i : ℕ) (x : Piece) (r : Result A Fault) → AllOpen st.open_binders x.names → usable st i x r ≡ r
usable_open st i x r all = rw (none_escaping st.open_binders x.names all)

module _ (st : State) (i : ℕ) (li : i < 16) where
  -- a literal into a cell
  literal_call : (q : Base) → (c : Call) × (does unlimited (sheet [] 0) st c ≡ Ok (put st i (Some (record { code = literal q; type = Plain q; size = 1; names = [] }))))
  literal_call Number = (call.Num i (pos 0), rw (lt-ltb i 16 li))
  literal_call Truth = (call.Truth i 0, rw (lt-ltb i 16 li))

  apply_call : (j : ℕ) (x y : Piece) (t : Ty) → j < 16 → cell st i ≡ Some x → cell st j ≡ Some y → AllOpen st.open_binders x.names → AllOpen st.open_binders y.names → applied x.type y.type ≡ Some t
      → does unlimited (sheet [] 0) st (call.Apply i i j) ≡ Ok (put st i (Some (record { code = Code.apply x.code y.code; type = t; size = 1 + x.size + y.size; names = merge x.names y.names })))
  apply_call j x y t lj ex ey ox oy e = rw (lt-ltb i 16 li, lt-ltb j 16 lj, ex, ey, none_escaping st.open_binders x.names ox, none_escaping st.open_binders y.names oy, e)

  close_call : (x : Piece) (b : Binder) (rest : List Binder) → cell st i ≡ Some x → AllOpen st.open_binders x.names → st.open_binders ≡ b ∷ rest → Model.floor st.marks ≤ length rest
      → does unlimited (sheet [] 0) st (call.Close i i) ≡ made None (closed_with unlimited st i x b rest)
  close_call x b rest ex ox e l = rw (lt-ltb i 16 li, ex, none_escaping st.open_binders x.names ox, e, le-leb _ _ l)

-- a piece put into a cell is there
put_ready : (cells : List (Option Piece)) (bs : List Binder) (i : ℕ) (c : Code) (t : Ty) (z : ℕ) (names : List ℕ) → i < 16 → length cells ≡ 16 → AllOpen bs names
    → Ready (set cells i (Some (record { code = c; type = t; size = z; names = names }))) bs i c t
put_ready cells bs i c t z names l s all = record {
  sixteen = length-set cells i (Some (record { code = c; type = t; size = z; names = names })) ∙ s;
  size = z;
  names = names;
  holds = get_or-set_same cells i (Some (record { code = c; type = t; size = z; names = names })) None (omega arith);
  all_open = all;
}

-- i is the cell, and j another
module _ (n i j : ℕ) (li : i < 16) (lj : j < 16) (apart : i ≢ j) where
  -- a function is applied to a literal
  use_function : (cells : List (Option Piece)) (bs : List Binder) (ms : List ℕ) (c : Code) (q r : Base) → Ready cells bs i c (Function q r) → Led (state cells bs ms n) bs ms n i (Code.apply c (literal q)) (Plain r)
  use_function cells bs ms c q r w =
      let lit : Piece = record { code = literal q; type = Plain q; size = 1; names = [] } in
      let x : Piece = record { code = c; type = Function q r; size = w.size; names = w.names } in
      let with_literal : List (Option Piece) = set cells j (Some lit) in
      let sixteen : length with_literal ≡ 16 = length-set cells j (Some lit) ∙ w.sixteen in
      let put_literal = literal_call (state cells bs ms n) j lj q in
      let l : j < length cells = omega (arith, w.sixteen) in
      record {
        cells = set with_literal i (Some (record { code = Code.apply c (literal q); type = Plain r; size = 1 + w.size + 1; names = merge w.names [] }));
        reaches = step put_literal.0 put_literal.1
            (step (call.Apply i i j)
            (apply_call (state with_literal bs ms n) i li j x lit (Plain r) lj (get_or-set_other cells j i (Some lit) None apart ∙ w.holds) (get_or-set_same cells j (Some lit) None l) w.all_open (λ s k. absurd (in_none k)) (search rules))
            done);
        ready = put_ready with_literal bs i (Code.apply c (literal q)) (Plain r) (1 + w.size + 1) (merge w.names []) li sixteen
            (λ s k. ⊎_elim (w.all_open s) (λ m. absurd (in_none m)) (in_merge s w.names [] k));
      }

  close_parameter : (cells : List (Option Piece)) (s : ℕ) (p : Base) (bs : List Binder) (ms : List ℕ) (c : Code) (r : Base) → Model.floor ms ≤ length bs
      → Ready cells (parameter s p ∷ bs) i c (Plain r) → Led (state cells (parameter s p ∷ bs) ms n) bs ms n i (Code.function s p c) (Function p r)
  close_parameter cells s p bs ms c r l w =
      let x : Piece = record { code = c; type = Plain r; size = w.size; names = w.names } in
      record {
        cells = set cells i (Some (record { code = Code.function s p c; type = Function p r; size = 1 + w.size; names = without s w.names }));
        reaches = step (call.Close i i) (close_call (state cells (parameter s p ∷ bs) ms n) i li x (parameter s p) bs w.holds w.all_open refl l) done;
        ready = put_ready cells bs i (Code.function s p c) (Function p r) (1 + w.size) (without s w.names) li w.sixteen (open_past (parameter s p) bs w.names w.all_open);
      }

  close_let : (cells : List (Option Piece)) (s : ℕ) (v : Piece) (bs : List Binder) (ms : List ℕ) (c : Code) (t : Ty) → Model.floor ms ≤ length bs → AllOpen bs v.names
      → Ready cells (bound s v ∷ bs) i c t → Led (state cells (bound s v ∷ bs) ms n) bs ms n i (Code.letin s v.code c) t
  close_let cells s v bs ms c t l all w =
      let x : Piece = record { code = c; type = t; size = w.size; names = w.names } in
      record {
        cells = set cells i (Some (record { code = Code.letin s v.code c; type = t; size = 1 + v.size + w.size; names = merge v.names (without s w.names) }));
        reaches = step (call.Close i i) (close_call (state cells (bound s v ∷ bs) ms n) i li x (bound s v) bs w.holds w.all_open refl l) done;
        ready = put_ready cells bs i (Code.letin s v.code c) t (1 + v.size + w.size) (merge v.names (without s w.names)) li w.sixteen
            (λ y k. ⊎_elim (all y) (open_past (bound s v) bs w.names w.all_open y) (in_merge y v.names (without s w.names) k));
      }

  -- marks with no binder opened since them are finished
  unmark : (cells : List (Option Piece)) (bs : List Binder) (m : ℕ) (ms : List ℕ) → length bs ≡ suc m → Marked ms (length bs)
      → (left : List ℕ) × Reaches (state cells bs ms n) (state cells bs left n) × (Model.floor left ≤ m) × Marked left m
  unmark cells bs m [] e h = ([], done, omega arith, tt)
  unmark cells bs m (x ∷ ms) e h =
      ⊎_elim
      (λ l. let r = unmark cells bs m ms e (marked_more ms x (length bs) h.0 h.1) in
      (r.0, step call.Finish (rw (le-leb (length bs) x (omega arith))) r.1, r.2, r.3))
      (λ l. (x ∷ ms, done, l, (l, h.1)))
      (cases_lt m x)

  -- every open binder is closed
  close_all : (cells : List (Option Piece)) (bs : List Binder) (ms : List ℕ) (o : ℕ) (k : Context) (c : Code) (r : Base) → Opens bs o → Marked ms (length bs) → Ready cells bs i (plug k c) (Plain r)
      → ClosedUp (state cells bs ms n) n i (plug (wrapped bs k) c) (Plain r)
  close_all cells [] ms o k c r opens marks w = (ms, record { cells = cells; reaches = done; ready = w })
  close_all cells (parameter s p ∷ bs) ms o k c r opens marks w =
      let u = unmark cells (parameter s p ∷ bs) (length bs) ms refl marks in
      let f = close_parameter cells s p bs u.0 (plug k c) r u.2 w in
      let a = use_function f.cells bs u.0 (Code.function s p (plug k c)) p r f.ready in
      closed_after u.1 (closed_after f.reaches (closed_after a.reaches
      (close_all a.cells bs u.0 s (apply_function (function_body s p k) (literal p)) c r opens.1.1 u.3 a.ready)))
  close_all cells (bound s v ∷ bs) ms o k c r opens marks w =
      let u = unmark cells (bound s v ∷ bs) (length bs) ms refl marks in
      let f = close_let cells s v bs u.0 (plug k c) (Plain r) u.2 opens.1.0.1 w in
      closed_after u.1 (closed_after f.reaches (close_all f.cells bs u.0 s (let_body s v.code k) c r opens.1.1 u.3 f.ready))

  make_plain : (cells : List (Option Piece)) (bs : List Binder) (ms : List ℕ) (c : Code) (t : Ty) → Ready cells bs i c t → Led (state cells bs ms n) bs ms n i (plug (begin t) c) (Plain (begun t))
  make_plain cells bs ms c (Plain b) w = record { cells = cells; reaches = done; ready = w }
  make_plain cells bs ms c (Function q r) w = use_function cells bs ms c q r w

  print_closed : (cells : List (Option Piece)) (ms : List ℕ) (c : Code) (t : Ty) → Ready cells [] i c t
      → print_plan (state cells [] ms n) i 0 (replicate (length (text [] c ++ (10 ∷ []))) 0) ≡ Ok (text [] c ++ (10 ∷ []))
  print_closed cells ms c t w =
      rw (lt-ltb i 16 li, w.holds, no_members w.names (λ s m. false≢true (w.all_open s m))) (grind (arith, nat_tests, common_steps))

another : (i : ℕ) → (j : ℕ) × (j < 16) × (i ≢ j)
another ℕ.zero = (1, omega arith, omega arith)
another (suc i) = (0, omega arith, omega arith)

cell_below : (st : State) (i : ℕ) (p : Piece) → Sound st → cell st i ≡ Some p → i < 16
cell_below st i p h e =
    ⊎_elim (λ l. l) (λ l. absurd (let q = get_or_past st.cells i None (omega (arith, h.sixteen)) in cc)) (cases_lt i 16)

pub finishing : Finishing
finishing st grown i p e f =
    let h = grown_sound grown in
    let g = h.pieces i p e in
    let all = finishable_open st p g f in
    let li = cell_below st i p h e in
    let j = another i in
    let a = make_plain st.next i j.0 li j.1 j.2 st.cells st.open_binders st.marks p.code p.type (record { sixteen = h.sixteen; size = p.size; names = p.names; holds = e; all_open = all }) in
    let t = close_all st.next i j.0 li j.1 j.2 a.cells st.open_binders st.marks st.next (begin p.type) p.code (begun p.type) h.binders h.marks a.ready in
    let calls = calls_of (and_then a.reaches t.1.reaches) in
    let code : Code = plug (wrapped st.open_binders (begin p.type)) p.code in
    record {
      calls = calls.0;
      end = state t.1.cells [] t.0 st.next;
      granted = calls.1;
      at = i;
      piece = record { code = code; type = Plain (begun p.type); size = t.1.ready.size; names = t.1.ready.names };
      held = t.1.ready.holds;
      context = wrapped st.open_binders (begin p.type);
      whole = refl;
      holds = open_holds st p h g all;
      output = replicate (length (text [] code ++ (10 ∷ []))) 0;
      line = text [] code ++ (10 ∷ []);
      prints = print_closed st.next i j.0 li j.1 j.2 t.1.cells t.0 code (Plain (begun p.type)) t.1.ready;
      print_granted = ap (Calls.kept (state t.1.cells [] t.0 st.next)) (print_closed st.next i j.0 li j.1 j.2 t.1.cells t.0 code (Plain (begun p.type)) t.1.ready);
    }
