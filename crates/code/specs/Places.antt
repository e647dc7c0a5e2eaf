-- How free names lie in the 16 places of their record: the names in the first places, ascending, and zeros in the others.
use Rattle.std.specs.Prelude.{◌≡◌, ℕ, ◌-◌, ◌≤◌, List, length, take, drop, replicate}
use Rattle.code.specs.Names.{Ascending}

pub record IsLaidOut (serials : List ℕ) (count : ℕ) : Type 0 where
  pub sixteen : length serials ≡ 16
  pub few : count ≤ 16
  pub ascending : Ascending 0 (take count serials)
  pub blank : drop count serials ≡ replicate (16 - count) 0
