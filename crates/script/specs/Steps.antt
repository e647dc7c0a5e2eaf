-- The steps of a script, read from its bytes.
use Rattle.std.specs.Prelude.{ℕ, ◌+◌, ◌-◌, ◌*◌, ◌^◌, List, [], ◌∷◌, length, ℤ, pos, negsuc, Some, None, Ok, Err, Option, Result, nat_le, nat_lt, ok_or, slice_index, if◌then◌else◌}
use Rattle.code.specs.Numbers.{with_number}
use Rattle.code.specs.declared.refusal.Refusal.{Refusal}
use Rattle.code.specs.declared.refusal.Refusal.TheVariants as refusal
use Rattle.model.specs.declared.call.Call.TheVariants as call
use Rattle.script.specs.declared.kind.Kind.{Kind}
use Rattle.script.specs.declared.kind.Kind.TheVariants as kind
use Rattle.script.specs.declared.step.Step.{Step}
use Rattle.script.specs.declared.step.Step.TheVariants as step
use Rattle.script.specs.declared.step.Misread.{Misread}
use Rattle.script.specs.declared.step.Misread.TheVariants.{UnknownKind, CutShort}

-- the number that 32 bits spell
abbrev pub signed32 : ℕ → ℤ
signed32 n = if nat_lt n (2 ^ 31) then pos n else negsuc (2 ^ 32 - 1 - n)

-- the number that four bytes spell, the low byte first
abbrev pub little : ℕ → ℕ → ℕ → ℕ → ℤ
little a b c d = signed32 (a + 256 * b + 65536 * c + 16777216 * d)

-- of a kind: its byte, how many bytes the body has, and the step that these give
pub record Form : Type 0 where
  pub byte : ℕ
  pub body : ℕ
  pub step : (ℕ → ℕ) → Step

abbrev pub form : Kind → Form
form kind.Num = record { byte = 0x01; body = 5; step = λ b. step.Call (call.Num (b 0) (little (b 1) (b 2) (b 3) (b 4))) }
form kind.Truth = record { byte = 0x02; body = 2; step = λ b. step.Call (call.Truth (b 0) (b 1)) }
form kind.Input = record { byte = 0x03; body = 2; step = λ b. step.Call (call.Input (b 0) (b 1)) }
form kind.Join = record { byte = 0x04; body = 4; step = λ b. step.Call (call.Join (b 0) (b 1) (b 2) (b 3)) }
form kind.Choose = record { byte = 0x05; body = 4; step = λ b. step.Call (call.Choose (b 0) (b 1) (b 2) (b 3)) }
form kind.Apply = record { byte = 0x06; body = 3; step = λ b. step.Call (call.Apply (b 0) (b 1) (b 2)) }
form kind.Fun = record { byte = 0x07; body = 2; step = λ b. step.Call (call.Fun (b 0) (b 1)) }
form kind.Let = record { byte = 0x08; body = 2; step = λ b. step.Call (call.Let (b 0) (b 1)) }
form kind.Close = record { byte = 0x09; body = 2; step = λ b. step.Call (call.Close (b 0) (b 1)) }
form kind.Copy = record { byte = 0x0a; body = 2; step = λ b. step.Call (call.Copy (b 0) (b 1)) }
form kind.Clear = record { byte = 0x0b; body = 1; step = λ b. step.Call (call.Clear (b 0)) }
form kind.Print = record { byte = 0x0c; body = 1; step = λ b. step.Call (call.Print (b 0)) }
form kind.Begin = record { byte = 0x10; body = 1; step = λ b. step.Begin (b 0) }
form kind.End = record { byte = 0x11; body = 0; step = λ b. step.End }
form kind.Leave = record { byte = 0x12; body = 0; step = λ b. step.Leave }

abbrev pub kinds : List Kind
kinds =
    kind.Num ∷ kind.Truth ∷ kind.Input ∷ kind.Join ∷ kind.Choose ∷ kind.Apply ∷ kind.Fun ∷ kind.Let ∷ kind.Close
    ∷ kind.Copy ∷ kind.Clear ∷ kind.Print ∷ kind.Begin ∷ kind.End ∷ kind.Leave ∷ []

-- the kind that has the byte
abbrev pub kind_of : ℕ → Option Kind
kind_of = with_number (λ k. (form k).byte) kinds

-- the same, or that no kind has the byte
abbrev pub known_kind : ℕ → Result Kind Misread
known_kind byte = ok_or (kind_of byte) UnknownKind

-- the step that a body begins with, or that the body runs past the end
abbrev pub step_of_body : Form → List ℕ → Result Step Misread
step_of_body f body = if nat_le f.body (length body) then Ok (f.step (λ i. slice_index body i)) else Err CutShort

-- what is read at a place
pub data Read : Type 0 where
  misread : Misread → Read
  -- a step, and the place after it
  step_to : Step → ℕ → Read

abbrev pub read_kind : List ℕ → ℕ → Option Kind → Read
read_kind script place None = misread UnknownKind
read_kind script place (Some k) =
    if nat_le (place + 1 + (form k).body) (length script)
    then step_to ((form k).step (λ i. slice_index script (place + 1 + i))) (place + 1 + (form k).body)
    else misread CutShort

-- the step that stands at a place; past the end there is none
abbrev pub read_step : List ℕ → ℕ → Read
read_step script place = read_kind script place (kind_of (slice_index script place))

-- the step, or why there is none
abbrev pub read_value : Read → Result Step Misread
read_value (misread m) = Err m
read_value (step_to s after) = Ok s

-- the place after the step, or the place where none was read
abbrev pub read_place : ℕ → Read → ℕ
read_place place (misread m) = place
read_place place (step_to s after) = after

-- a misreading as a refusal
abbrev pub refusal_of : Misread → Refusal
refusal_of UnknownKind = refusal.UnknownKind
refusal_of CutShort = refusal.CutShort
