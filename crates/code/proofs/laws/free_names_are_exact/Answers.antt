use Rattle.code.proofs.FreeNames.{names_exact}
use Rattle.code.proofs.laws.free_names_are_exact.Goals as goal

pub returns : goal.returns
returns c = names_exact
