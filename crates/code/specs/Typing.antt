-- The type of a code under the types of the names around it, where it has one.
use Rattle.std.specs.Prelude.{ℕ, Bool, true, false, cond, ◌&&◌, List, [], ◌∷◌, Some, None, Option, ◌==◌}
use Rattle.code.specs.declared.operator.Operator.{Operator}
use Rattle.code.specs.declared.operator.Operator.TheVariants.{Add, Subtract, Multiply, Less, Equal, And, Or}
use Rattle.code.specs.declared.types.Base.{Base}
use Rattle.code.specs.declared.types.Base.TheVariants.{Number, Truth}
use Rattle.code.specs.declared.types.Ty.{Ty}
use Rattle.code.specs.declared.types.Ty.TheVariants.{Plain, Function}
use Rattle.code.specs.Code.{Code}

abbrev pub takes : Operator → Base
takes Add = Number
takes Subtract = Number
takes Multiply = Number
takes Less = Number
takes Equal = Number
takes And = Truth
takes Or = Truth

abbrev pub gives : Operator → Base
gives Add = Number
gives Subtract = Number
gives Multiply = Number
gives Less = Truth
gives Equal = Truth
gives And = Truth
gives Or = Truth

abbrev pub same_base : Base → Base → Bool
same_base Number Number = true
same_base Number Truth = false
same_base Truth Number = false
same_base Truth Truth = true

abbrev pub same_type : Ty → Ty → Bool
same_type (Plain a) (Plain b) = same_base a b
same_type (Plain a) (Function p r) = false
same_type (Function p r) (Plain b) = false
same_type (Function p r) (Function q t) = same_base p q && same_base r t

-- the type of a construct, from those of its parts
abbrev pub joined : Operator → Ty → Ty → Option Ty
joined o t u = cond (same_type t (Plain (takes o)) && same_type u (Plain (takes o))) (Some (Plain (gives o))) None

abbrev pub chosen : Ty → Ty → Ty → Option Ty
chosen c t u = cond (same_type c (Plain Truth) && same_type t u) (Some t) None

abbrev pub applied : Ty → Ty → Option Ty
applied (Plain b) u = None
applied (Function p r) u = cond (same_type u (Plain p)) (Some (Plain r)) None

abbrev pub abstracted : Base → Ty → Option Ty
abstracted p (Plain r) = Some (Function p r)
abstracted p (Function q r) = None

abbrev pub then : {A B : Type 0} → Option A → (A → Option B) → Option B
then None f = None
then (Some x) f = f x

-- the names around a place with their types, the nearest first
abbrev pub Scope : Type 0
Scope = List (ℕ × Ty)

abbrev pub type_in : Scope → ℕ → Option Ty
type_in [] s = None
type_in (b ∷ g) s = cond (b.0 == s) (Some b.1) (type_in g s)

abbrev pub type_of : Scope → Code → Option Ty
type_of g (Code.number n) = Some (Plain Number)
type_of g (Code.truth b) = Some (Plain Truth)
type_of g (Code.input i) = Some (Plain Number)
type_of g (Code.variable s) = type_in g s
type_of g (Code.join o a b) = then (type_of g a) (λ t. then (type_of g b) (joined o t))
type_of g (Code.choose a b d) = then (type_of g a) (λ c. then (type_of g b) (λ t. then (type_of g d) (chosen c t)))
type_of g (Code.apply f a) = then (type_of g f) (λ t. then (type_of g a) (applied t))
type_of g (Code.function s p b) = then (type_of ((s, Plain p) ∷ g) b) (abstracted p)
type_of g (Code.letin s e b) = then (type_of g e) (λ t. type_of ((s, t) ∷ g) b)
