-- When code can still be finished: some closed, well typed program holds it, under binders that are open or still to come.
use Rattle.std.specs.Prelude.{◌≡◌, ℕ, ◌≤◌, Bool, true, ◌&&◌, ◌⊎◌, List, [], ◌∷◌, ◌++◌, length, Some, None, Ok, Err, Option, Result, nat_le, nat_lt}
use Rattle.code.specs.declared.operator.Operator.{Operator}
use Rattle.code.specs.declared.types.Base.{Base}
use Rattle.code.specs.declared.types.Ty.{Ty}
use Rattle.code.specs.declared.types.Ty.TheVariants.{Plain}
use Rattle.code.specs.Members.{In}
use Rattle.code.specs.Code.{Code, in_range32, ranged}
use Rattle.code.specs.Names.{free}
use Rattle.code.specs.Text.{spelled, text}
use Rattle.code.specs.Typing.{Scope, type_of, then}
use Rattle.code.specs.Belong.{Belong}
use Rattle.model.specs.declared.call.Call.{Call}
use Rattle.model.specs.declared.call.Call.TheVariants as call
use Rattle.model.specs.Model.{State, Piece, Binder, serial, variable_type, Fault, Limits, stated, unlimited, fresh, escaped, cell, print_plan, escaping}
use Rattle.model.specs.Calls.{Sheet, sheet, does}

-- a closed, well typed program
pub record Program (c : Code) : Type 0 where
  pub closed : free c ≡ []
  pub type : Ty
  pub well_typed : type_of [] c ≡ Some type
  pub in_range : ranged c ≡ true

-- a code with one place left open
pub data Context : Type 0 where
  here : Context
  join_left : Operator → Context → Code → Context
  join_right : Operator → Code → Context → Context
  choose_if : Context → Code → Code → Context
  choose_then : Code → Context → Code → Context
  choose_else : Code → Code → Context → Context
  apply_function : Context → Code → Context
  apply_argument : Code → Context → Context
  function_body : ℕ → Base → Context → Context
  let_bound : ℕ → Context → Code → Context
  let_body : ℕ → Code → Context → Context

-- the code with c at that place
abbrev pub plug : Context → Code → Code
plug here c = c
plug (join_left o k b) c = Code.join o (plug k c) b
plug (join_right o a k) c = Code.join o a (plug k c)
plug (choose_if k b d) c = Code.choose (plug k c) b d
plug (choose_then a k d) c = Code.choose a (plug k c) d
plug (choose_else a b k) c = Code.choose a b (plug k c)
plug (apply_function k a) c = Code.apply (plug k c) a
plug (apply_argument f k) c = Code.apply f (plug k c)
plug (function_body s p k) c = Code.function s p (plug k c)
plug (let_bound s k b) c = Code.letin s (plug k c) b
plug (let_body s e k) c = Code.letin s e (plug k c)

-- the binders with the place in their bodies, the nearest first, with their variables' types
abbrev pub around : Scope → Context → Option Scope
around g here = Some g
around g (join_left o k b) = around g k
around g (join_right o a k) = around g k
around g (choose_if k b d) = around g k
around g (choose_then a k d) = around g k
around g (choose_else a b k) = around g k
around g (apply_function k a) = around g k
around g (apply_argument f k) = around g k
around g (function_body s p k) = around ((s, Plain p) ∷ g) k
around g (let_bound s k b) = around g k
around g (let_body s e k) = then (type_of g e) (λ t. around ((s, t) ∷ g) k)

-- open now with that type, or not yet given
abbrev pub Allowed : State → ℕ → Ty → Type 0
Allowed st s t = ((b : Binder) × In b st.open_binders × (serial b ≡ s) × (variable_type b ≡ t)) ⊎ (st.next ≤ s)

-- the program that context makes of c holds c under allowed binders only
pub record Holds (st : State) (c : Code) (context : Context) : Type 0 where
  pub program : Program (plug context c)
  pub binders : Scope
  pub these : around [] context ≡ Some binders
  pub allowed : (s : ℕ) (t : Ty) → In (s, t) binders → Allowed st s t

-- some program holds c so
abbrev pub Finishable : State → Code → Type 0
Finishable st c = (context : Context) × Holds st c context

-- a refused call leaves the state as it is
abbrev pub after : State → Result State Fault → State
after st (Ok s) = s
after st (Err f) = st

-- a state that calls from a fresh generator lead to; a store may refuse any make, which changes nothing
pub data Grown : State → Type 0 where
  new : Grown fresh
  grows : {st : State} (output : Sheet) (c : Call) → Grown st → Grown (after st (does stated output st c))

-- the cells that a call uses the code of, in argument order
abbrev pub uses : Call → List ℕ
uses (call.Num c n) = []
uses (call.Truth c b) = []
uses (call.Input c i) = []
uses (call.Fun c p) = []
uses (call.Let c a) = a ∷ []
uses (call.Close c a) = a ∷ []
uses (call.Copy c a) = []
uses (call.Join c o a b) = a ∷ b ∷ []
uses (call.Choose c a b d) = a ∷ b ∷ d ∷ []
uses (call.Apply c f a) = f ∷ a ∷ []
uses (call.Clear c) = []
uses call.Mark = []
uses call.Finish = []
uses call.Leave = []
uses (call.Print a) = a ∷ []

-- the arguments are lawful: cells below 16, the other numbers in their ranges, and the place within the output
abbrev pub lawful_arguments : Sheet → Call → Bool
lawful_arguments output (call.Num c n) = nat_lt c 16 && in_range32 n
lawful_arguments output (call.Truth c b) = nat_lt c 16 && nat_lt b 2
lawful_arguments output (call.Input c i) = nat_lt c 16 && nat_lt i 8
lawful_arguments output (call.Fun c p) = nat_lt c 16 && nat_lt p 2
lawful_arguments output (call.Let c a) = nat_lt c 16 && nat_lt a 16
lawful_arguments output (call.Close c a) = nat_lt c 16 && nat_lt a 16
lawful_arguments output (call.Copy c a) = nat_lt c 16 && nat_lt a 16
lawful_arguments output (call.Join c o a b) = nat_lt c 16 && nat_lt o 7 && nat_lt a 16 && nat_lt b 16
lawful_arguments output (call.Choose c a b d) = nat_lt c 16 && nat_lt a 16 && nat_lt b 16 && nat_lt d 16
lawful_arguments output (call.Apply c f a) = nat_lt c 16 && nat_lt f 16 && nat_lt a 16
lawful_arguments output (call.Clear c) = nat_lt c 16
lawful_arguments output call.Mark = true
lawful_arguments output call.Finish = true
lawful_arguments output call.Leave = true
lawful_arguments output (call.Print a) = nat_lt a 16 && nat_le output.at (length output.bytes)

-- cell i holds a code
abbrev pub Full : State → ℕ → Type 0
Full st i = (p : Piece) × (cell st i ≡ Some p)

-- the call is refused as escaped
abbrev pub Escapes : Sheet → State → Call → Type 0
Escapes output st c = (i : ℕ) × (n : ℕ) × (does stated output st c ≡ Err (escaped i n))

-- the call uses a cell whose code can't be finished
abbrev pub Unfinishable : State → Call → Type 0
Unfinishable st c = (i : ℕ) × (p : Piece) × In i (uses c) × (cell st i ≡ Some p) × (Finishable st p.code → ⊥)

-- a call whose arguments are lawful, and whose used cells are full, is refused as escaped exactly when some cell used can't be finished
abbrev pub EscapeExact : Type 0
EscapeExact = (st : State) → Grown st → (output : Sheet) (c : Call) → lawful_arguments output c ≡ true → ((i : ℕ) → In i (uses c) → Full st i) → (Escapes output st c → Unfinishable st c) × (Unfinishable st c → Escapes output st c)

-- cell i is the first that the call uses and that can't be finished, and n of its free names are not open
pub record FirstUnfinishable (st : State) (c : Call) (i n : ℕ) : Type 0 where
  pub earlier : List ℕ
  pub others : List ℕ
  pub order : uses c ≡ earlier ++ i ∷ others
  pub finishable : (j : ℕ) → In j earlier → (p : Piece) × (cell st j ≡ Some p) × Finishable st p.code
  pub piece : Piece
  pub held : cell st i ≡ Some piece
  pub doomed : Finishable st piece.code → ⊥
  pub number : n ≡ length (escaping st.open_binders (free piece.code))

-- a call refused as escaped names the first such cell and the number of such names
abbrev pub EscapeFirst : Type 0
EscapeFirst = (st : State) → Grown st → (output : Sheet) (c : Call) (i n : ℕ) → does stated output st c ≡ Err (escaped i n) → FirstUnfinishable st c i n

-- what a list of calls without a print leads to where each is granted
abbrev pub granted_in_order : Limits → State → List Call → Option State
granted_in_order l st [] = Some st
granted_in_order l st (c ∷ cs) = elim (does l (sheet [] 0) st c) [ Ok s ↦ granted_in_order l s cs | Err f ↦ None ]

-- further calls, the limits struck out, make a program that holds c, and print it
pub record PrintedBy (st : State) (c : Code) : Type 0 where
  pub calls : List Call
  pub end : State
  pub granted : granted_in_order unlimited st calls ≡ Some end
  pub at : ℕ
  pub piece : Piece
  pub held : cell end at ≡ Some piece
  pub context : Context
  pub whole : piece.code ≡ plug context c
  pub holds : Holds st c context
  pub output : List ℕ
  pub line : List ℕ
  pub prints : print_plan end at 0 output ≡ Ok line
  -- PRINT of that cell at place 0 is granted
  pub print_granted : does unlimited (sheet output 0) end (call.Print at) ≡ Ok end

-- so it is in every state that calls lead to
abbrev pub Finishing : Type 0
Finishing = (st : State) → Grown st → (i : ℕ) (p : Piece) → cell st i ≡ Some p → Finishable st p.code → PrintedBy st p.code

-- in the text of a program, which is this spelling's bytes, every printed name belongs to its binder
abbrev pub Belongs : Code → Type 0
Belongs c = Belong [] c (spelled [] c)

-- each granted print is the text of the code in the cell, which is a program in which every printed name belongs to its binder
abbrev pub PrintsPrograms : Type 0
PrintsPrograms = (st : State) → Grown st → (a place : ℕ) (output line : List ℕ) → print_plan st a place output ≡ Ok line
    → (p : Piece) × (cell st a ≡ Some p) × Program p.code × (line ≡ text [] p.code ++ (10 ∷ [])) × Belongs p.code
