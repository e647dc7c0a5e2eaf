use Rattle.code.proofs.TypeRules.{types_exact}
use Rattle.code.proofs.laws.types_are_exact.Goals as goal

pub returns : goal.returns
returns c = types_exact
