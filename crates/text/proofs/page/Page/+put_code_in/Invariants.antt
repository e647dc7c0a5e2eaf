use Rattle.std.proofs.Common.{◌+◌, ◌*◌}
use Rattle.text.specs.Printing.{size_of}
use Rattle.text.proofs.page.Page.+put_code_in.Given as goal

abbrev pub decreases-put_code_in : goal.decreases-put_code_in
decreases-put_code_in g l = 2 * size_of (g.S.Store.code l.store.now l.handle)

abbrev pub decreases-put_body : goal.decreases-put_body
decreases-put_body g l = 2 * size_of (g.S.Store.code l.store.now l.body) + 1
