use Rattle.model.proofs.Firsts.{refusals_in_order}
use Rattle.model.proofs.laws.refuses_first.Goals as goal

pub returns : goal.returns
returns c = refusals_in_order
