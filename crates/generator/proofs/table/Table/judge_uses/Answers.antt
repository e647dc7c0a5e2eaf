use Rattle.std.proofs.Common.{sym, ◌∙◌}
use Rattle.std.proofs.lemmas.Slice.Zip.{either_empty_from_Zip}
use Rattle.std.specs.Slice.Iter.{iter_rest}
use Rattle.std.specs.Iterator.Adapters.{zip_first, zip_second}
use Rattle.generator.specs.Reads.{read}
use Rattle.generator.proofs.Judging.{may_use_each-none}
use Rattle.generator.proofs.table.Table.judge_uses.Goals as goal

pub returns : goal.returns
returns c code =
    let left = c.loop-cell.cell-iterator in
    let none = either_empty_from_Zip left c.next.new.self c.next.result c.in-None.is c.next.ensures.steps in
    sym (c.loop-cell.invariant code ∙ may_use_each-none (read code c.args.self.now) (iter_rest (zip_first left)) code (iter_rest (zip_second left)) none)
