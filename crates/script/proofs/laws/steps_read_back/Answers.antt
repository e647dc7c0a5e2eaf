use Rattle.script.proofs.Writings.{reads_back}
use Rattle.script.proofs.laws.steps_read_back.Goals as goal

pub returns : goal.returns
returns c = reads_back
