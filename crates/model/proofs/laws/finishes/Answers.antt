use Rattle.model.proofs.Finishers.{finishing}
use Rattle.model.proofs.laws.finishes.Goals as goal

pub returns : goal.returns
returns c = finishing
