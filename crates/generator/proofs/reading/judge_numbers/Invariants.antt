use Rattle.std.proofs.Common.{◌≡◌, drop}
use Rattle.generator.specs.Reading.{slot_of, judge_each}
use Rattle.generator.proofs.reading.judge_numbers.Given as goal

-- what is left to judge decides
abbrev pub invariant-loop-cell : goal.invariant-loop-cell
invariant-loop-cell l = judge_each slot_of l.cells ≡ judge_each slot_of (drop l.cell-index l.cells)
