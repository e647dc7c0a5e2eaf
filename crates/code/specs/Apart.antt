-- What different things are written as differs.
use Rattle.std.specs.Prelude.{◌≡◌, ℕ, ◌+◌, ◌^◌, ◌<◌, Bool, true, List, length, ℤ}
use Rattle.std.specs.Fmt.{signed_decimal}
use Rattle.code.specs.declared.operator.Operator.{Operator}
use Rattle.code.specs.declared.types.Base.{Base}
use Rattle.code.specs.Code.{Code, size, in_range32, ranged}
use Rattle.code.specs.Text.{sign, letter, word, name, spelled, text}

pub record TextsApart : Type 0 where
  pub one_sign : (o : Operator) → length (sign o) ≡ 1
  pub signs : (o u : Operator) → sign o ≡ sign u → o ≡ u
  pub one_letter : (p : Base) → length (letter p) ≡ 1
  pub letters : (p q : Base) → letter p ≡ letter q → p ≡ q
  pub words : (a b : Bool) → word a ≡ word b → a ≡ b
  pub names : (m n : ℕ) → m < 2 ^ 64 → n < 2 ^ 64 → name m ≡ name n → m ≡ n
  pub numbers : (m n : ℤ) → in_range32 m ≡ true → in_range32 n ≡ true → signed_decimal m ≡ signed_decimal n → m ≡ n
  -- equal texts are of codes that are spelled alike, and so differ in nothing but their serials
  pub texts : (around : List ℕ) (c d : Code) → ranged c ≡ true → ranged d ≡ true → length around + size c < 2 ^ 64 → length around + size d < 2 ^ 64
      → text around c ≡ text around d → spelled around c ≡ spelled around d
