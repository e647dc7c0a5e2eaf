use Rattle.script.proofs.Standings.{reads_only}
use Rattle.script.proofs.laws.steps_read_only_their_bytes.Goals as goal

pub returns : goal.returns
returns c = reads_only
