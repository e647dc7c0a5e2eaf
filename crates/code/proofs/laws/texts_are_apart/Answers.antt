use Rattle.code.proofs.Aparts.{texts_apart}
use Rattle.code.proofs.laws.texts_are_apart.Goals as goal

pub returns : goal.returns
returns c = texts_apart
