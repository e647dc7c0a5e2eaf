use Rattle.std.proofs.Common.{drop}
use Rattle.code.specs.Names.{without}
use Rattle.code.specs.Serials.{names}
use Rattle.code.proofs.Layouts.{Writing}
use Rattle.code.proofs.names.Names.without.Given as goal

abbrev pub invariant-loop-name : goal.invariant-loop-name
invariant-loop-name l = Writing l.serials l.count (without l.serial (drop l.name-index l.name-items)) (without l.serial (names l.self))
