use Rattle.std.proofs.Common.{◌≡◌, ℕ, min, take, ap, arith, rules}
use Rattle.text.specs.Page.{listed}
use Rattle.text.proofs.Laying.{◌⨾◌, writes_same}
use Rattle.script.proofs.report.put_tail.Goals as goal

pub returns-in-Generator-Escaped : goal.returns-in-Generator-Escaped
returns-in-Generator-Escaped c =
    let e : c.min.result ≡ min c.in-Generator-Escaped.names 16 = omega (arith, c.min.ensures) in
    let p = c.put_word_number.ensures ⨾ c.put.ensures ⨾ writes_same (ap (λ (k : ℕ). listed (take k c.args.serials.now)) e) c.put_serials.ensures in
    search rules

pub returns-in-Generator-Store-NoRoom : goal.returns-in-Generator-Store-NoRoom
returns-in-Generator-Store-NoRoom c = let p = c.put_word_number-in-Generator-Store-NoRoom.ensures ⨾ c.put_word_number-in-Generator-Store-NoRoom-2.ensures in search rules
