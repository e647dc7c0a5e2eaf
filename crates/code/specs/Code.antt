-- A code is one construct with its parts, which are codes.
use Rattle.std.specs.Prelude.{ℕ, ◌+◌, ◌^◌, Bool, true, ◌&&◌, ℤ, pos, negsuc, nat_lt}
use Rattle.code.specs.declared.operator.Operator.{Operator}
use Rattle.code.specs.declared.types.Base.{Base}

pub data Code : Type 0 where
  number : ℤ → Code
  truth : Bool → Code
  input : ℕ → Code
  variable : ℕ → Code
  join : Operator → Code → Code → Code
  choose : Code → Code → Code → Code
  apply : Code → Code → Code
  function : ℕ → Base → Code → Code
  letin : ℕ → Code → Code → Code
  deriving IsSet as Code-set

-- the number of constructs
abbrev pub size : Code → ℕ
size (number n) = 1
size (truth b) = 1
size (input i) = 1
size (variable s) = 1
size (join o a b) = 1 + size a + size b
size (choose a b d) = 1 + size a + size b + size d
size (apply f a) = 1 + size f + size a
size (function s p b) = 1 + size b
size (letin s e b) = 1 + size e + size b

-- the numbers of 32 bits
abbrev pub in_range32 : ℤ → Bool
in_range32 (pos n) = nat_lt n (2 ^ 31)
in_range32 (negsuc n) = nat_lt n (2 ^ 31)

-- every number, input and serial of a code lies in its range
abbrev pub ranged : Code → Bool
ranged (number n) = in_range32 n
ranged (truth b) = true
ranged (input i) = nat_lt i 8
ranged (variable s) = nat_lt s 4096
ranged (join o a b) = ranged a && ranged b
ranged (choose a b d) = ranged a && ranged b && ranged d
ranged (apply f a) = ranged f && ranged a
ranged (function s p b) = nat_lt s 4096 && ranged b
ranged (letin s e b) = nat_lt s 4096 && ranged e && ranged b
