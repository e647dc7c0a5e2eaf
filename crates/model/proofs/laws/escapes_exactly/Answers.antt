use Rattle.model.proofs.Escapes.{escape_exact}
use Rattle.model.proofs.laws.escapes_exactly.Goals as goal

pub returns : goal.returns
returns c = escape_exact
