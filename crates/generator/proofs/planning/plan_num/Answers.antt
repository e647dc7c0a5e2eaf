use Rattle.std.proofs.Common.{◌≡◌, ◌^◌, ◌<◌, true, ℤ, pos, negsuc, Some, ap, to_z-of_z, w32}
use lib.Signed.{mag}
use Rattle.std.proofs.lemmas.Bool.{lt-ltb}
use Rattle.code.specs.Code.{Code, in_range32}
use Rattle.generator.proofs.Sketches.{judged_lawful}
use Rattle.generator.proofs.planning.plan_num.Goals as goal

in_range : (z : ℤ) → mag z < 2 ^ 31 → in_range32 z ≡ true
in_range (pos n) h = lt-ltb n (2 ^ 31) h
in_range (negsuc n) h = lt-ltb n (2 ^ 31) h

pub returns-clause-planned : goal.returns-clause-planned
returns-clause-planned c code t =
    let z = c.args.value in
    judged_lawful code t _ c.plan_leaf.result (in_range z c.ranges.value.sfits)
    (c.plan_leaf.ensures.planned code t (Code.number z) (ap (λ (n : ℤ). Some (Code.number n)) (to_z-of_z {w = w32} {z = z} c.ranges.value)))
