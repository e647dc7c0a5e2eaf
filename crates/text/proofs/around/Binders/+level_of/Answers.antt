use Rattle.std.proofs.Common.{drop, ap, ◌∙◌, ℕ, ◌-◌}
use Rattle.text.specs.Around.{serials}
use Rattle.text.proofs.Nearest.{number_in, number_around}
use Rattle.text.proofs.around.Binders.+level_of.Goals as goal

pub returns-in-Some : goal.returns-in-Some
returns-in-Some t c =
    let block = c.in-Nearest.block in
    let e = number_in (drop block.first block.places) (serials c.in-Nearest.outer.now) c.args.serial c.in-Some.nearer c.in-Some.ensures in
    ap (λ (n : ℕ). n - 1 - c.in-Some.nearer) c.requires ∙ (rw c.in-Nearest.is e)

pub returns-in-None : goal.returns-in-None
returns-in-None t c =
    let block = c.in-Nearest.block in
    let e = number_around (drop block.first block.places) (serials c.in-Nearest.outer.now) c.args.serial c.in-None.ensures in
    c.level_of.ensures ∙ (rw c.in-Nearest.is e)
