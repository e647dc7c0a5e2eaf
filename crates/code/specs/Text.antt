-- The one text of a code.
use Rattle.std.specs.Prelude.{ℕ, Bool, true, false, cond, List, [], ◌∷◌, ◌++◌, length, ℤ, codes, decimal, ◌==◌}
use Rattle.std.specs.Fmt.{signed_decimal}
use Rattle.code.specs.declared.operator.Operator.{Operator}
use Rattle.code.specs.declared.operator.Operator.TheVariants.{Add, Subtract, Multiply, Less, Equal, And, Or}
use Rattle.code.specs.declared.types.Base.{Base}
use Rattle.code.specs.declared.types.Base.TheVariants.{Number, Truth}
use Rattle.code.specs.Code.{Code}

abbrev pub sign : Operator → List ℕ
sign Add = codes "+"
sign Subtract = codes "-"
sign Multiply = codes "*"
sign Less = codes "<"
sign Equal = codes "="
sign And = codes "&"
sign Or = codes "|"

abbrev pub letter : Base → List ℕ
letter Number = codes "n"
letter Truth = codes "t"

abbrev pub word : Bool → List ℕ
word true = codes "true"
word false = codes "false"

-- the number of the nearest binder of s, where around has the serials of the binders in whose bodies a place stands, the nearest first
abbrev pub number_of : List ℕ → ℕ → ℕ
number_of [] s = 0
number_of (x ∷ around) s = cond (x == s) (length around) (number_of around s)

abbrev pub name : ℕ → List ℕ
name n = codes "v" ++ decimal n

-- a code with spellings in place of serials
pub data Spelled : Type 0 where
  number : ℤ → Spelled
  truth : Bool → Spelled
  input : ℕ → Spelled
  variable : List ℕ → Spelled
  join : Operator → Spelled → Spelled → Spelled
  choose : Spelled → Spelled → Spelled → Spelled
  apply : Spelled → Spelled → Spelled
  function : List ℕ → Base → Spelled → Spelled
  letin : List ℕ → Spelled → Spelled → Spelled

-- a binder that stands in n bodies is named v and n, a variable like the nearest binder of its serial
abbrev pub spelled : List ℕ → Code → Spelled
spelled around (Code.number n) = number n
spelled around (Code.truth b) = truth b
spelled around (Code.input i) = input i
spelled around (Code.variable s) = variable (name (number_of around s))
spelled around (Code.join o a b) = join o (spelled around a) (spelled around b)
spelled around (Code.choose a b d) = choose (spelled around a) (spelled around b) (spelled around d)
spelled around (Code.apply f a) = apply (spelled around f) (spelled around a)
spelled around (Code.function s p b) = function (name (length around)) p (spelled (s ∷ around) b)
spelled around (Code.letin s e b) = letin (name (length around)) (spelled around e) (spelled (s ∷ around) b)

-- an operator between its operands, and what stands before a function's body and a let's bound part
abbrev pub between : Operator → List ℕ
between o = codes " " ++ sign o ++ codes " "

abbrev pub fun_head : List ℕ → Base → List ℕ
fun_head v p = codes "(fun " ++ v ++ (codes ":" ++ letter p ++ codes " . ")

abbrev pub let_head : List ℕ → List ℕ
let_head v = codes "(let " ++ v ++ codes " = "

-- its bytes, brackets and blanks
abbrev pub flat : Spelled → List ℕ
flat (number n) = signed_decimal n
flat (truth b) = word b
flat (input i) = codes "i" ++ decimal i
flat (variable v) = v
flat (join o a b) = codes "(" ++ flat a ++ between o ++ flat b ++ codes ")"
flat (choose a b d) = codes "(if " ++ flat a ++ codes " then " ++ flat b ++ codes " else " ++ flat d ++ codes ")"
flat (apply f a) = codes "(" ++ flat f ++ codes " @ " ++ flat a ++ codes ")"
flat (function v p b) = fun_head v p ++ flat b ++ codes ")"
flat (letin v e b) = let_head v ++ flat e ++ codes " in " ++ flat b ++ codes ")"

abbrev pub text : List ℕ → Code → List ℕ
text around c = flat (spelled around c)
