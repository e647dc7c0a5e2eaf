-- The numbers that stand for an operator or a plain type.
use Rattle.std.proofs.Common.{◌≡◌, ℕ, true, false, ltb, Some, None, Option, refl, arith}
use Rattle.std.proofs.lemmas.Bool.Decides.{nat_tests}
use Rattle.code.specs.declared.operator.Operator.{Operator}
use Rattle.code.specs.declared.types.Base.{Base}
use Rattle.code.specs.Numbers.{operator, base}

pub operator_none : (o : ℕ) → operator o ≡ None → ltb o 7 ≡ false
operator_none o e = grind (arith, nat_tests)

pub operator_some : (o : ℕ) (op : Operator) → operator o ≡ Some op → ltb o 7 ≡ true
operator_some o op e = grind (arith, nat_tests)

pub base_none : (p : ℕ) → base p ≡ None → ltb p 2 ≡ false
base_none p e = grind (arith, nat_tests)

pub base_some : (p : ℕ) (b : Base) → base p ≡ Some b → ltb p 2 ≡ true
base_some p b e = grind (arith, nat_tests)

pub operator_lawful : (o : ℕ) → ltb o 7 ≡ true → (op : Operator) × (operator o ≡ Some op)
operator_lawful o l = go (operator o) refl
  where
    go : (r : Option Operator) → operator o ≡ r → (op : Operator) × (operator o ≡ Some op)
    go None e = absurd (let n = operator_none o e in cc)
    go (Some op) e = (op, e)
