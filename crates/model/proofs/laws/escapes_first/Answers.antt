use Rattle.model.proofs.Escapes.{escape_first}
use Rattle.model.proofs.laws.escapes_first.Goals as goal

pub returns : goal.returns
returns c = escape_first
