use Rattle.text.proofs.Laying.{◌⨾◌}
use Rattle.text.proofs.page.Page.put_let_head.Goals as goal

pub returns : goal.returns
returns c = c.put.ensures ⨾ c.put_name.ensures ⨾ c.put-2.ensures
