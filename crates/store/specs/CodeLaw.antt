-- Codes, and what is known of them, are equal in one way at most.
use Rattle.std.specs.Prelude.{Option, Result}
use Rattle.std.proofs.Math.Bool.{Bool-set}
use Rattle.std.proofs.Math.IntN.{ℤ_set}
use Rattle.std.proofs.Math.Nat.{ℕ_set}
use Rattle.std.proofs.Props.{props}
use mathlib.Core.Sum.{⊎_set}
use Rattle.code.specs.Code.{Code, Code-set}
use Rattle.code.specs.declared.operator.Operator.{Operator}
use Rattle.code.specs.declared.types.Base.{Base}
use Rattle.store.specs.declared.meaning.StoreFault.{StoreFault}

operator_set : IsSet Operator
operator_set = hlevel ⊎_set

base_set : IsSet Base
base_set = hlevel ⊎_set

code_set : IsSet Code
code_set = Code-set ℤ_set Bool-set ℕ_set operator_set base_set

fault_set : IsSet StoreFault
fault_set = hlevel (ℕ_set, ⊎_set)

pub wanted_set : IsSet (Result Code StoreFault)
wanted_set = hlevel (props, fault_set, code_set)

pub known_set : IsSet (Option Code)
known_set = hlevel (props, code_set)
