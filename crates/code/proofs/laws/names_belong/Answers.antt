use Rattle.code.proofs.Belongings.{names_belong}
use Rattle.code.proofs.laws.names_belong.Goals as goal

pub returns : goal.returns
returns c = names_belong
