use Rattle.std.proofs.Common.{rules}
use Rattle.script.proofs.Readings.{read_refused}
use Rattle.script.proofs.cursor.Cursor.step.Goals as goal

pub returns-in_err-step-clause-value : goal.returns-in_err-step-clause-value
returns-in_err-step-clause-value c =
    let at = c.args.self.now in
    let e = read_refused at.script.now c.rest.result.now at.place c.rest.ensures c.in_ok-kind.kind c.in_err-step.field-0.0 c.in_ok-kind.ensures c.in_err-step.ensures in
    search rules
