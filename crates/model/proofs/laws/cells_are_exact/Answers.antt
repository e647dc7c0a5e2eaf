use Rattle.model.proofs.Exacts.{all_exact}
use Rattle.model.proofs.laws.cells_are_exact.Goals as goal

pub returns : goal.returns
returns c = all_exact
