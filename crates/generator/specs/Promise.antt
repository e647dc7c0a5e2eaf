-- What a call of a generator over a store does, by the definition.
use Rattle.std.specs.Prelude.{◌≡◌, ℕ, ◌+◌, ◌<◌, ◌≤◌, List, Some, None, Ok, Err, Result}
use Rattle.code.specs.declared.construct.Handle.{Handle}
use Rattle.code.specs.Code.{Code}
use Rattle.store.specs.declared.meaning.StoreFault.TheVariants.{NoRoom}
use Rattle.store.specs.Meaning.{Codes}
use Rattle.generator.specs.declared.fault.GeneratorFault.{GeneratorFault}
use Rattle.generator.specs.declared.fault.GeneratorFault.TheVariants.{Store}
use Rattle.generator.specs.declared.plan.Plan.{Plan as Sketch}
use Rattle.generator.specs.declared.table.Table.{Table}
use Rattle.model.specs.declared.call.Call.{Call}
use Rattle.model.specs.Model.{State, Fault, stated}
use Rattle.model.specs.Calls.{Sheet, Fate, deed, Answer, granted, printed, refused, called}
use Rattle.model.specs.Makes.{asked, Honest}
use Rattle.generator.specs.Reads.{read, read_fault}
use Rattle.generator.specs.Standing.{Known}
use Rattle.generator.specs.Planning.{made_piece, planned}

-- a generator and its store at one moment: what handles stand for, the free units, the prices, and the table
pub record Moment : Type 0 where
  pub codes : Codes
  pub units : ℕ
  pub prices : Code → ℕ
  pub table : Table

abbrev pub moment : Codes → ℕ → (Code → ℕ) → Table → Moment
moment codes units prices table = record { codes = codes; units = units; prices = prices; table = table }

-- the state that the generator is then in, each handle read as its code
abbrev pub state_at : Moment → State
state_at m = read m.codes m.table

-- nothing changed at all
pub record Unchanged (m n : Moment) : Type 0 where
  pub codes : (h : Handle) → n.codes h ≡ m.codes h
  pub units : n.units ≡ m.units
  pub table : n.table ≡ m.table

-- a call from m to n with an output to print on: what the store said to its make is open, which handle it chose and how many units it spent; nothing else is
pub record Did (m : Moment) (page : Sheet) (c : Call) (a : Answer) (output : List ℕ) (n : Moment) : Type 0 where
  -- what the store said to the make, where the call has one
  pub fate : Fate
  -- the state after it, the output and the answer are the definition's
  pub does : called (state_at m) page fate c ≡ record { state = state_at n; output = output; answer = a }
  -- the store refuses only for want of room, with the price of the very code that the definition makes and the units free, and spends at most that price
  pub honest : Honest m.prices m.units (asked fate (deed stated page (state_at m) c)) n.units
  pub kept : (h : Handle) (x : Code) → m.codes h ≡ Some x → n.codes h ≡ Some x
  pub prices : (x : Code) → n.prices x ≡ m.prices x
  pub refused_unchanged : (f : Fault) → a ≡ refused f → Unchanged m n

-- a call that does not print leaves any output as it is
abbrev pub DidAlone : Moment → Call → Answer → Moment → Type 0
DidAlone m c a n = (page : Sheet) → Did m page c a page.bytes n

-- the answers of the calls
abbrev pub plainly : Result (Unit {0}) GeneratorFault → Answer
plainly (Ok u) = granted None
plainly (Err f) = refused (read_fault f)

abbrev pub with_serial : Result ℕ GeneratorFault → Answer
with_serial (Ok s) = granted (Some s)
with_serial (Err f) = refused (read_fault f)

abbrev pub with_end : Result ℕ GeneratorFault → Answer
with_end (Ok end) = printed end
with_end (Err f) = refused (read_fault f)

-- a plan carried out: the state read after it is the plan's, or the store had no room and nothing changed
pub record CarriedOut (m : Moment) (p : Sketch) (n : Moment) : Type 0 where
  pub state : state_at n ≡ (planned m.codes m.table p).after
  pub spent : n.units ≤ m.units
  pub fair : m.units ≤ n.units + m.prices (made_piece m.codes p).code

pub record TurnedDown (m : Moment) (p : Sketch) (f : GeneratorFault) (n : Moment) : Type 0 where
  pub no_room : f ≡ Store (NoRoom (m.prices (made_piece m.codes p).code) m.units)
  pub short : m.units < m.prices (made_piece m.codes p).code
  pub unchanged : Unchanged m n

abbrev pub CarriedOr : Moment → Sketch → Result (Unit {0}) GeneratorFault → Moment → Type 0
CarriedOr m p (Ok u) n = CarriedOut m p n
CarriedOr m p (Err f) n = TurnedDown m p f n

pub record Carried (m : Moment) (p : Sketch) (r : Result (Unit {0}) GeneratorFault) (n : Moment) : Type 0 where
  pub ends : CarriedOr m p r n
  pub known : Known n.codes n.table
  pub kept : (h : Handle) (x : Code) → m.codes h ≡ Some x → n.codes h ≡ Some x
  pub prices : (x : Code) → n.prices x ≡ m.prices x
