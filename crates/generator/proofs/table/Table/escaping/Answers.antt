use Rattle.std.proofs.Common.{◌≡◌, rules, sym, ◌∙◌, not}
use Rattle.std.specs.List.{count_by}
use Rattle.code.specs.Serials.{names}
use Rattle.model.specs.Model.{is_open}
use Rattle.generator.specs.Reads.{read_binders}
use Rattle.generator.proofs.Opens.{length-escaping}
use Rattle.generator.proofs.table.Table.escaping.Goals as goal

pub returns : goal.returns
returns c code =
    let open_binders = read_binders code c.args.self.now in
    let counted : c.count.result ≡ count_by (λ s. not (is_open open_binders s)) (names c.args.used.now) = search rules in
    counted ∙ sym (length-escaping open_binders (names c.args.used.now))
