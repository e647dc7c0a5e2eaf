-- The numbers of operators, types, constructs and refusals. Each stands here once, and every promise goes through these.
use Rattle.std.specs.Prelude.{◌≡◌, ℕ, ◌+◌, ◌*◌, cond, List, [], ◌∷◌, Some, None, Option, Result, ◌==◌}
use Rattle.std.specs.Option.{ok_or}
use Rattle.code.specs.declared.operator.Operator.{Operator}
use Rattle.code.specs.declared.operator.UnknownNumber.{UnknownNumber}
use Rattle.code.specs.declared.operator.Operator.TheVariants.{Add, Subtract, Multiply, Less, Equal, And, Or}
use Rattle.code.specs.declared.types.Base.{Base}
use Rattle.code.specs.declared.types.Base.TheVariants.{Number, Truth}
use Rattle.code.specs.declared.types.Ty.{Ty}
use Rattle.code.specs.declared.types.Ty.TheVariants.{Plain, Function}
use Rattle.code.specs.declared.refusal.Refusal.{Refusal}
use Rattle.code.specs.declared.refusal.Refusal.TheVariants as refusal
use Rattle.code.specs.declared.construct.Construct.{Construct}
use Rattle.code.specs.declared.construct.Construct.TheVariants as construct

abbrev pub operator_number : Operator → ℕ
operator_number Add = 0
operator_number Subtract = 1
operator_number Multiply = 2
operator_number Less = 3
operator_number Equal = 4
operator_number And = 5
operator_number Or = 6

abbrev pub base_number : Base → ℕ
base_number Number = 0
base_number Truth = 1

-- a plain type has its own number, a function from p to r has 2 + 2p + r
abbrev pub type_number : Ty → ℕ
type_number (Plain b) = base_number b
type_number (Function p r) = 2 + 2 * base_number p + base_number r

abbrev pub kind : Construct → ℕ
kind (construct.Number n) = 0
kind (construct.Truth b) = 1
kind (construct.Input i) = 2
kind (construct.Variable s) = 3
kind (construct.Join o a b) = 4
kind (construct.Choose a b d) = 5
kind (construct.Apply f a) = 6
kind (construct.Function s p b) = 7
kind (construct.Let s e b) = 8

-- the refusals, in checking order
abbrev pub refusal_number : Refusal → ℕ
refusal_number refusal.BadArgument = 1
refusal_number refusal.UnknownKind = 2
refusal_number refusal.CutShort = 3
refusal_number refusal.NoBlock = 4
refusal_number refusal.StepsSpent = 5
refusal_number refusal.EmptyCell = 6
refusal_number refusal.Escaped = 7
refusal_number refusal.NoBinder = 8
refusal_number refusal.NoMark = 9
refusal_number refusal.StillOpen = 10
refusal_number refusal.NotClosed = 11
refusal_number refusal.WrongType = 12
refusal_number refusal.TooDeep = 13
refusal_number refusal.NamesSpent = 14
refusal_number refusal.TooLarge = 15
refusal_number refusal.NoRoom = 16
refusal_number refusal.ShortOutput = 17

-- the first of a list that has the number
abbrev pub with_number : {A : Type 0} → (A → ℕ) → List A → ℕ → Option A
with_number number [] n = None
with_number number (x ∷ xs) n = cond (number x == n) (Some x) (with_number number xs n)

-- the operator with this number, or that none has it
abbrev pub operator : ℕ → Option Operator
operator = with_number operator_number (Add ∷ Subtract ∷ Multiply ∷ Less ∷ Equal ∷ And ∷ Or ∷ [])

abbrev pub base : ℕ → Option Base
base = with_number base_number (Number ∷ Truth ∷ [])

abbrev pub read_operator : ℕ → Result Operator UnknownNumber
read_operator n = ok_or (operator n) (record { number = n })

abbrev pub read_base : ℕ → Result Base UnknownNumber
read_base n = ok_or (base n) (record { number = n })

-- each operator and each plain type is read back from its number, and from no other
pub record NumbersExact : Type 0 where
  pub operator_back : (o : Operator) → operator (operator_number o) ≡ Some o
  pub operator_told : (n : ℕ) (o : Operator) → operator n ≡ Some o → operator_number o ≡ n
  pub base_back : (b : Base) → base (base_number b) ≡ Some b
  pub base_told : (n : ℕ) (b : Base) → base n ≡ Some b → base_number b ≡ n
  pub type_apart : (t u : Ty) → type_number t ≡ type_number u → t ≡ u
