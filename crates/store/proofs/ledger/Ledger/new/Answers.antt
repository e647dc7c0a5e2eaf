use Rattle.std.proofs.Common.{arith}
use Rattle.store.proofs.Rows.{code_none}
use Rattle.store.proofs.ledger.Ledger.new.Goals as goal

pub returns : goal.returns
returns c = record { none = code_none; units = omega arith }
