use Rattle.std.proofs.Common.{sym, ◌∙◌, arith}
use Rattle.store.proofs.Sizes.{unknown_part}
use Rattle.store.proofs.ledger.Ledger.size_over.Goals as goal

pub returns-in_err-row : goal.returns-in_err-row
returns-in_err-row g c =
    c.from_residual.ensures ∙ sym (unknown_part _ _ c.args.parts c.loop-part.part-index _ (omega arith) c.in_err-row.ensures)
