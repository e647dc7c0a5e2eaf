use Rattle.std.proofs.Common.{List, ◌++◌, codes, ap}
use Rattle.code.specs.Text.{name}
use Rattle.text.proofs.Laying.{◌⨾◌, writes_same}
use Rattle.text.proofs.page.Page.put_fun_head.Goals as goal

pub returns : goal.returns
returns c =
    writes_same (ap (λ (l : List _). codes "(fun " ++ name c.args.level ++ (codes ":" ++ l ++ codes " . ")) c.letter.ensures)
    (c.put.ensures ⨾ c.put_name.ensures ⨾ c.put-2.ensures)
