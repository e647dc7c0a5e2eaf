use Rattle.std.proofs.Common.{◌≡◌, ◌-◌, ◌++◌, length}
use Rattle.code.specs.Names.{merge, Ascending}
use Rattle.code.specs.Serials.{names}
use Rattle.code.proofs.names.Names.merge.Given as goal

abbrev pub invariant-loop-merged : goal.invariant-loop-merged
invariant-loop-merged l =
    record {
      joins : names l.merged ++ merge l.left l.right ≡ merge (names l.self) (names l.other);
      left_up : Ascending 0 l.left;
      right_up : Ascending 0 l.right;
    }

abbrev pub decreases-loop-merged : goal.decreases-loop-merged
decreases-loop-merged l = 16 - length (names l.merged)
