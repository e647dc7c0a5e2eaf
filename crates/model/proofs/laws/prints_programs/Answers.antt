use Rattle.model.proofs.Prints.{prints_programs}
use Rattle.model.proofs.laws.prints_programs.Goals as goal

pub returns : goal.returns
returns c = prints_programs
