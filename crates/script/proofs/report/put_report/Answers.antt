use Rattle.std.proofs.Common.{ℕ, [], ◌∷◌, ◌++◌, codes, decimal, Option, sym, ap, ◌∙◌}
use Rattle.code.specs.Numbers.{refusal_number}
use Rattle.text.proofs.Laying.{◌⨾◌, writes_same}
use Rattle.script.specs.declared.fault.RunFault.{RunFault}
use Rattle.script.specs.Report.{line_of, tail}
use Rattle.script.proofs.report.put_report.Goals as goal
use Rattle.script.proofs.report.put_report.Goals.{in-None, in-Some}

pub returns : goal.returns
returns c =
    let told = λ (o : Option RunFault). line_of c.args.answer.now.steps o c.args.serials.now in
    elim c.match-answer.branch [
      | in-None w ↦ writes_same (sym (ap told w.in-None.is)) (w.put_word_number.ensures ⨾ (rw w.page-is at c.put.ensures))
      | in-Some w ↦ (let f = w.in-Some.fault in
          let number = w.from-in-Some.ensures ∙ ap refusal_number w.from.ensures in
          writes_same
          (ap (λ (n : ℕ). (codes "refused " ++ decimal n) ++ (codes " at " ++ decimal f.place) ++ tail f.cause c.args.serials.now ++ (10 ∷ [])) number ∙ sym (ap told w.in-Some.is))
          (w.put_word_number-in-Some.ensures ⨾ w.put_word_number-in-Some-2.ensures ⨾ w.put_tail.ensures ⨾ (rw w.page-is at c.put.ensures)))
    ]
