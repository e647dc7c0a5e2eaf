use Rattle.std.proofs.Common.{rules}
use Rattle.code.specs.Serials.{no_names}
use Rattle.code.proofs.Layouts.{names_told}
use Rattle.generator.proofs.cell.PieceDefault.default.Goals as goal

pub returns : goal.returns
returns c = search (rules, names_told c.none.result no_names c.none.ensures)
