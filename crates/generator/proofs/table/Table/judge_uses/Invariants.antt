use Rattle.std.proofs.Common.{◌≡◌, map}
use Rattle.std.specs.Slice.Iter.{iter_rest}
use Rattle.std.specs.Iterator.Adapters.{zip_first, zip_second}
use Rattle.store.specs.Meaning.{Codes}
use Rattle.generator.specs.Reads.{read, read_piece}
use Rattle.generator.specs.Reading.{may_use_each}
use Rattle.generator.proofs.table.Table.judge_uses.Given as goal

-- what is left to judge decides
abbrev pub invariant-loop-cell : goal.invariant-loop-cell
invariant-loop-cell l =
    (code : Codes)
    → may_use_each (read code l.self) l.cells (map (read_piece code) l.pieces)
    ≡ may_use_each (read code l.self) (iter_rest (zip_first l.cell-iterator)) (map (read_piece code) (iter_rest (zip_second l.cell-iterator)))
