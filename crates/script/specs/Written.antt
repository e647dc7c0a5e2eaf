-- The bytes that a step is written with, and that it is read back from them.
use Rattle.std.specs.Prelude.{◌≡◌, ℕ, ◌+◌, ◌-◌, ◌/◌, ◌%◌, ◌^◌, ◌<◌, true, All, List, [], ◌∷◌, ◌++◌, length, take, drop, ℤ, pos, negsuc}
use Rattle.code.specs.Code.{in_range32}
use Rattle.model.specs.declared.call.Call.TheVariants as call
use Rattle.script.specs.declared.step.Step.{Step}
use Rattle.script.specs.declared.step.Step.TheVariants as step
use Rattle.script.specs.Steps.{read_step, step_to}

-- a number as 32 bits
abbrev pub bits32 : ℤ → ℕ
bits32 (pos n) = n
bits32 (negsuc n) = 2 ^ 32 - 1 - n

-- 32 bits as four bytes, the low byte first
abbrev pub four : ℕ → List ℕ
four n = n % 256 ∷ n / 256 % 256 ∷ n / 65536 % 256 ∷ n / 16777216 % 256 ∷ []

-- scripts have no bytes for three of the calls, which blocks make
abbrev pub bytes_of : Step → List ℕ
bytes_of (step.Call (call.Num c n)) = 0x01 ∷ c ∷ four (bits32 n)
bytes_of (step.Call (call.Truth c b)) = 0x02 ∷ c ∷ b ∷ []
bytes_of (step.Call (call.Input c i)) = 0x03 ∷ c ∷ i ∷ []
bytes_of (step.Call (call.Join c o a b)) = 0x04 ∷ c ∷ o ∷ a ∷ b ∷ []
bytes_of (step.Call (call.Choose c a b d)) = 0x05 ∷ c ∷ a ∷ b ∷ d ∷ []
bytes_of (step.Call (call.Apply c f a)) = 0x06 ∷ c ∷ f ∷ a ∷ []
bytes_of (step.Call (call.Fun c p)) = 0x07 ∷ c ∷ p ∷ []
bytes_of (step.Call (call.Let c a)) = 0x08 ∷ c ∷ a ∷ []
bytes_of (step.Call (call.Close c a)) = 0x09 ∷ c ∷ a ∷ []
bytes_of (step.Call (call.Copy c a)) = 0x0a ∷ c ∷ a ∷ []
bytes_of (step.Call (call.Clear c)) = 0x0b ∷ c ∷ []
bytes_of (step.Call call.Mark) = []
bytes_of (step.Call call.Finish) = []
bytes_of (step.Call call.Leave) = []
bytes_of (step.Call (call.Print a)) = 0x0c ∷ a ∷ []
bytes_of (step.Begin n) = 0x10 ∷ n ∷ []
bytes_of step.End = 0x11 ∷ []
bytes_of step.Leave = 0x12 ∷ []

-- a number has 32 bits, and the call is none of the three
abbrev pub Writable : Step → Type 0
Writable (step.Call (call.Num c n)) = in_range32 n ≡ true
Writable (step.Call (call.Truth c b)) = Unit {0}
Writable (step.Call (call.Input c i)) = Unit {0}
Writable (step.Call (call.Join c o a b)) = Unit {0}
Writable (step.Call (call.Choose c a b d)) = Unit {0}
Writable (step.Call (call.Apply c f a)) = Unit {0}
Writable (step.Call (call.Fun c p)) = Unit {0}
Writable (step.Call (call.Let c a)) = Unit {0}
Writable (step.Call (call.Close c a)) = Unit {0}
Writable (step.Call (call.Copy c a)) = Unit {0}
Writable (step.Call (call.Clear c)) = Unit {0}
Writable (step.Call call.Mark) = ⊥
Writable (step.Call call.Finish) = ⊥
Writable (step.Call call.Leave) = ⊥
Writable (step.Call (call.Print a)) = Unit {0}
Writable (step.Begin n) = Unit {0}
Writable step.End = Unit {0}
Writable step.Leave = Unit {0}

-- a step's bytes, whatever stands before and after them, are read as that step, and it ends with them
abbrev pub ReadsBack : Type 0
ReadsBack =
    (s : Step) (before rest : List ℕ) → Writable s
    → read_step (before ++ (bytes_of s ++ rest)) (length before) ≡ step_to s (length before + length (bytes_of s))

-- from a place to the place after stand the bytes of the step, and no others
pub record Stands (script : List ℕ) (place after : ℕ) (s : Step) : Type 0 where
  pub writable : Writable s
  pub ends : after ≡ place + length (bytes_of s)
  pub bytes : script ≡ take place script ++ (bytes_of s ++ drop after script)

-- a step is read only where its bytes stand
abbrev pub ReadsOnly : Type 0
ReadsOnly =
    (script : List ℕ) (place after : ℕ) (s : Step) → All (λ b. b < 256) script → read_step script place ≡ step_to s after
    → Stands script place after s
