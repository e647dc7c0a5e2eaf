-- What each call comes to: the state after it, the output and the answer.
use Rattle.std.specs.Prelude.{ℕ, ◌+◌, List, ◌++◌, length, take, drop, ℤ, Some, None, Ok, Err, Option, Result, ◌==◌, nat_lt}
use Rattle.code.specs.declared.types.Base.TheVariants.{Number, Truth}
use Rattle.code.specs.declared.types.Ty.TheVariants.{Plain}
use Rattle.code.specs.Code.{in_range32}
use Rattle.code.specs.Code
use Rattle.model.specs.declared.call.Call.{Call}
use Rattle.model.specs.declared.call.Call.TheVariants as call
use Rattle.model.specs.Model.{State, Plan, Fault, Limits, stated, bad_argument, no_room, judge, leaf, join_plan, choose_plan, apply_plan, fun_plan, let_plan, close_plan, copied, cleared, marked, finished, left, print_plan}

-- the output, and the place of it to print at
pub record Sheet : Type 0 where
  pub bytes : List ℕ
  pub at : ℕ

abbrev pub sheet : List ℕ → ℕ → Sheet
sheet bytes at = record { bytes = bytes; at = at }

-- what the store says to a make: none for granted, or the price and the free units of its refusal
abbrev pub Fate : Type 0
Fate = Option (ℕ × ℕ)

-- a plan carried out where the store grants it
abbrev pub made : Fate → Result Plan Fault → Result State Fault
made fate (Err f) = Err f
made None (Ok p) = Ok p.after
made (Some r) (Ok p) = Err (no_room r.0 r.1)

-- the numbers are of 32 bits
abbrev pub num_plan : State → ℕ → ℤ → Result Plan Fault
num_plan st c n = judge (in_range32 n) bad_argument (leaf st c (Code.number n) (Plain Number))

-- 0 is false, 1 is true
abbrev pub truth_plan : State → ℕ → ℕ → Result Plan Fault
truth_plan st c b = judge (nat_lt b 2) bad_argument (leaf st c (Code.truth (b == 1)) (Plain Truth))

-- the inputs are 0 to 7
abbrev pub input_plan : State → ℕ → ℕ → Result Plan Fault
input_plan st c i = judge (nat_lt i 8) bad_argument (leaf st c (Code.input i) (Plain Number))

-- what a call comes to: a code that the store is asked to make, a move of the generator alone, or a line for the output
pub data Deed : Type 0 where
  makes : Result Plan Fault → Deed
  moves : Result State Fault → Deed
  prints : Result (List ℕ) Fault → Deed

-- what each call comes to, in a state and with an output
abbrev pub deed : Limits → Sheet → State → Call → Deed
deed l output st (call.Num c n) = makes (num_plan st c n)
deed l output st (call.Truth c b) = makes (truth_plan st c b)
deed l output st (call.Input c i) = makes (input_plan st c i)
deed l output st (call.Fun c p) = makes (fun_plan l st c p)
deed l output st (call.Let c a) = makes (let_plan l st c a)
deed l output st (call.Close c a) = makes (close_plan l st c a)
deed l output st (call.Copy c a) = moves (copied l st c a)
deed l output st (call.Join c o a b) = makes (join_plan l st c o a b)
deed l output st (call.Choose c a b d) = makes (choose_plan l st c a b d)
deed l output st (call.Apply c f a) = makes (apply_plan l st c f a)
deed l output st (call.Clear c) = moves (cleared l st c)
deed l output st call.Mark = moves (marked l st)
deed l output st call.Finish = moves (finished l st)
deed l output st call.Leave = moves (left l st)
deed l output st (call.Print a) = prints (print_plan st a output.at output.bytes)

-- a print leaves the state as it is
abbrev pub kept : {A : Type 0} → State → Result A Fault → Result State Fault
kept st (Ok x) = Ok st
kept st (Err f) = Err f

-- the state after it, or the refusal
abbrev pub settled : State → Fate → Deed → Result State Fault
settled st fate (makes p) = made fate p
settled st fate (moves r) = r
settled st fate (prints r) = kept st r

-- where the store grants every make
abbrev pub does : Limits → Sheet → State → Call → Result State Fault
does l output st c = settled st None (deed l output st c)

-- a line put into the output at a place
abbrev pub written : List ℕ → ℕ → List ℕ → List ℕ
written output at line = take at output ++ line ++ drop (at + length line) output

-- what a call answers: granted, FUN and LET with the serial that they give; for PRINT the end; or its refusal
pub data Answer : Type 0 where
  granted : Option ℕ → Answer
  printed : ℕ → Answer
  refused : Fault → Answer

-- the state and the output after a call, and its answer
pub record Done : Type 0 where
  pub state : State
  pub output : List ℕ
  pub answer : Answer

-- a refused call changes nothing
abbrev pub made_answer : State → List ℕ → Fate → Result Plan Fault → Done
made_answer st output fate (Err f) = record { state = st; output = output; answer = refused f }
made_answer st output None (Ok p) = record { state = p.after; output = output; answer = granted p.given }
made_answer st output (Some r) (Ok p) = record { state = st; output = output; answer = refused (no_room r.0 r.1) }

abbrev pub moved_answer : State → List ℕ → Result State Fault → Done
moved_answer st output (Err f) = record { state = st; output = output; answer = refused f }
moved_answer st output (Ok s) = record { state = s; output = output; answer = granted None }

abbrev pub printed_answer : State → Sheet → Result (List ℕ) Fault → Done
printed_answer st page (Err f) = record { state = st; output = page.bytes; answer = refused f }
printed_answer st page (Ok line) = record { state = st; output = written page.bytes page.at line; answer = printed (page.at + length line) }

abbrev pub answered : State → Sheet → Fate → Deed → Done
answered st page fate (makes r) = made_answer st page.bytes fate r
answered st page fate (moves r) = moved_answer st page.bytes r
answered st page fate (prints r) = printed_answer st page r

-- a call by itself or as a step of a run: where PRINT writes is given with it
abbrev pub called : State → Sheet → Fate → Call → Done
called st page fate c = answered st page fate (deed stated page st c)
