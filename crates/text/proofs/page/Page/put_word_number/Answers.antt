use Rattle.text.proofs.Laying.{◌⨾◌}
use Rattle.text.proofs.page.Page.put_word_number.Goals as goal

pub returns : goal.returns
returns g c = c.put.ensures ⨾ c.put_number.ensures
