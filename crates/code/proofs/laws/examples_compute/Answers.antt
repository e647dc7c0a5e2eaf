use Rattle.code.proofs.Examples.{examples_computed}
use Rattle.code.proofs.laws.examples_compute.Goals as goal

pub returns : goal.returns
returns c = examples_computed
