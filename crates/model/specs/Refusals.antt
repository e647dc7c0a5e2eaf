-- Which refusals apply to a call, one clause for each; and that a call is refused with the first that applies.
use Rattle.std.specs.Prelude.{◌≡◌, ℕ, ◌+◌, ◌<◌, ◌≤◌, false, cond, ◌⊎◌, List, [], ◌∷◌, ◌++◌, length, Some, None, Ok, Err, Option, ◌==◌}
use Rattle.code.specs.declared.operator.Operator.{Operator}
use Rattle.code.specs.declared.types.Base.{Base}
use Rattle.code.specs.Members.{In}
use Rattle.code.specs.Numbers.{operator}
use Rattle.code.specs.Text.{text}
use Rattle.code.specs.Typing.{joined, chosen, applied, abstracted}
use Rattle.model.specs.Model
use Rattle.model.specs.Model.{State, Piece, Binder, parameter, bound, Fault, plain, escaped, no_room, refusal, stated, cell, escaping, floor}
use Rattle.model.specs.declared.call.Call.{Call}
use Rattle.model.specs.declared.call.Call.TheVariants as call
use Rattle.model.specs.Calls.{Sheet, Fate, does, called, refused}
use Rattle.model.specs.Finish.{uses, lawful_arguments}

-- the cells that a call reads
abbrev pub reads : Call → List ℕ
reads (call.Num c n) = []
reads (call.Truth c b) = []
reads (call.Input c i) = []
reads (call.Fun c p) = []
reads (call.Let c a) = a ∷ []
reads (call.Close c a) = a ∷ []
reads (call.Copy c a) = a ∷ []
reads (call.Join c o a b) = a ∷ b ∷ []
reads (call.Choose c a b d) = a ∷ b ∷ d ∷ []
reads (call.Apply c f a) = f ∷ a ∷ []
reads (call.Clear c) = []
reads call.Mark = []
reads call.Finish = []
reads call.Leave = []
reads (call.Print a) = a ∷ []

-- the free names of the code in a cell
abbrev pub names_in : Option Piece → List ℕ
names_in None = []
names_in (Some p) = p.names

-- cell i, which holds o, where its code has names that are not open, and their number; else the rest
abbrev pub escape_at : State → Option Piece → ℕ → Option (ℕ × ℕ) → Option (ℕ × ℕ)
escape_at st o i rest = cond (length (escaping st.open_binders (names_in o)) == 0) rest (Some (i, length (escaping st.open_binders (names_in o))))

-- of some cells, in argument order, the first whose code has names that are not open, and their number
abbrev pub first_escape : State → List ℕ → Option (ℕ × ℕ)
first_escape st [] = None
first_escape st (i ∷ is) = escape_at st (cell st i) i (first_escape st is)

-- the refusals that apply to a call, with their numbers
pub data Applies (page : Sheet) (st : State) : Call → Fault → Type 0 where
  -- 1: a cell over 15, an operator over 6, an input over 7, a parameter type or truth over 1, a place beyond the output
  bad : {c : Call} → lawful_arguments page c ≡ false → Applies page st c (plain Model.bad_argument)
  -- 6: a cell read that is empty
  empty : {c : Call} {i : ℕ} → In i (reads c) → cell st i ≡ None → Applies page st c (plain Model.empty_cell)
  -- 7: a free name, in code used, that is not open: the first such cell in argument order, and its number of such names
  escape : {c : Call} {i n : ℕ} → first_escape st (uses c) ≡ Some (i, n) → Applies page st c (escaped i n)
  -- 8: a CLOSE with no binder open since the latest mark
  unbound : {c a : ℕ} → length st.open_binders ≤ floor st.marks → Applies page st (call.Close c a) (plain Model.no_binder)
  -- 9: a FINISH or LEAVE without a mark
  unmarked_finish : st.marks ≡ [] → Applies page st call.Finish (plain Model.no_mark)
  unmarked_leave : st.marks ≡ [] → Applies page st call.Leave (plain Model.no_mark)
  -- 10: a FINISH with a binder open since the latest mark
  binder_open : floor st.marks < length st.open_binders → Applies page st call.Finish (plain Model.still_open)
  -- 11: a PRINT of code with free names
  names_left : {a : ℕ} {x : Piece} → cell st a ≡ Some x → 0 < length x.names → Applies page st (call.Print a) (plain Model.not_closed)
  -- 12: a construct that would not be well typed
  ill_joined : {c o a b : ℕ} {op : Operator} {x y : Piece} → operator o ≡ Some op → cell st a ≡ Some x → cell st b ≡ Some y → joined op x.type y.type ≡ None → Applies page st (call.Join c o a b) (plain Model.wrong_type)
  ill_chosen : {c a b d : ℕ} {x y z : Piece} → cell st a ≡ Some x → cell st b ≡ Some y → cell st d ≡ Some z → chosen x.type y.type z.type ≡ None → Applies page st (call.Choose c a b d) (plain Model.wrong_type)
  ill_applied : {c f a : ℕ} {x y : Piece} → cell st f ≡ Some x → cell st a ≡ Some y → applied x.type y.type ≡ None → Applies page st (call.Apply c f a) (plain Model.wrong_type)
  ill_closed : {c a s : ℕ} {p : Base} {x : Piece} {rest : List Binder} → cell st a ≡ Some x → st.open_binders ≡ parameter s p ∷ rest → abstracted p x.type ≡ None → Applies page st (call.Close c a) (plain Model.wrong_type)
  -- 13: a 17th open binder or a 9th mark
  deep_fun : {c p : ℕ} → 16 ≤ length st.open_binders → Applies page st (call.Fun c p) (plain Model.too_deep)
  deep_let : {c a : ℕ} → 16 ≤ length st.open_binders → Applies page st (call.Let c a) (plain Model.too_deep)
  deep_mark : 8 ≤ length st.marks → Applies page st call.Mark (plain Model.too_deep)
  -- 14: an opening after 4,096 serials
  spent_fun : {c p : ℕ} → 4096 ≤ st.next → Applies page st (call.Fun c p) (plain Model.names_spent)
  spent_let : {c a : ℕ} → 4096 ≤ st.next → Applies page st (call.Let c a) (plain Model.names_spent)
  -- 15: a code of size over 4,096
  large_join : {c o a b : ℕ} {x y : Piece} → cell st a ≡ Some x → cell st b ≡ Some y → 4096 < 1 + x.size + y.size → Applies page st (call.Join c o a b) (plain Model.too_large)
  large_choose : {c a b d : ℕ} {x y z : Piece} → cell st a ≡ Some x → cell st b ≡ Some y → cell st d ≡ Some z → 4096 < 1 + x.size + y.size + z.size → Applies page st (call.Choose c a b d) (plain Model.too_large)
  large_apply : {c f a : ℕ} {x y : Piece} → cell st f ≡ Some x → cell st a ≡ Some y → 4096 < 1 + x.size + y.size → Applies page st (call.Apply c f a) (plain Model.too_large)
  large_function : {c a s : ℕ} {p : Base} {x : Piece} {rest : List Binder} → cell st a ≡ Some x → st.open_binders ≡ parameter s p ∷ rest → 4096 < 1 + x.size → Applies page st (call.Close c a) (plain Model.too_large)
  large_let : {c a s : ℕ} {e x : Piece} {rest : List Binder} → cell st a ≡ Some x → st.open_binders ≡ bound s e ∷ rest → 4096 < 1 + e.size + x.size → Applies page st (call.Close c a) (plain Model.too_large)
  -- 17: a text that does not fit
  no_space : {a : ℕ} {x : Piece} → cell st a ≡ Some x → length page.bytes < page.at + length (text [] x.code ++ (10 ∷ [])) → Applies page st (call.Print a) (plain Model.short_output)

-- f applies, and nothing with a smaller number does
pub record First (page : Sheet) (st : State) (c : Call) (f : Fault) : Type 0 where
  pub applies : Applies page st c f
  pub least : (g : Fault) → Applies page st c g → refusal f ≤ refusal g

-- a call is refused exactly with the first refusal that applies, and granted exactly when none does
pub record FirstRefused (page : Sheet) (st : State) (c : Call) : Type 0 where
  pub refused_first : (f : Fault) → does stated page st c ≡ Err f → First page st c f
  pub first_refused : (f : Fault) → First page st c f → does stated page st c ≡ Err f
  pub granted_none : (s : State) → does stated page st c ≡ Ok s → (f : Fault) → Applies page st c f → ⊥
  pub none_granted : ((f : Fault) → Applies page st c f → ⊥) → (s : State) × (does stated page st c ≡ Ok s)

abbrev pub FirstRefusal : Type 0
FirstRefusal = (page : Sheet) (st : State) (c : Call) → FirstRefused page st c

-- over a store: a call is refused as it is by the generator itself, or, where nothing of that applies, with the store's own refusal of its make
pub record StoreRefused (page : Sheet) (st : State) (c : Call) (fate : Fate) (f : Fault) : Type 0 where
  pub told : (called st page fate c).answer ≡ refused f → (does stated page st c ≡ Err f) ⊎ ((w : ℕ) × (u : ℕ) × (fate ≡ Some (w, u)) × (f ≡ no_room w u) × ((s : State) × (does stated page st c ≡ Ok s)))
  pub own : does stated page st c ≡ Err f → (called st page fate c).answer ≡ refused f

abbrev pub StoreLast : Type 0
StoreLast = (page : Sheet) (st : State) (c : Call) (fate : Fate) (f : Fault) → StoreRefused page st c fate f

-- the first refusal of the generator, or else that of the store
pub record RefusalsInOrder : Type 0 where
  pub first_refusal : FirstRefusal
  pub store_last : StoreLast
