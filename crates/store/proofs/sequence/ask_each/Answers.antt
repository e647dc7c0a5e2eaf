use Rattle.std.proofs.Common.{refl, arith}
use Rattle.std.proofs.lemmas.List.{get_or-take, length-take-le}
use Rattle.store.specs.Sequence.{no_request}
use Rattle.store.proofs.Sequences.{asked_none, asked_next, rest_next}
use Rattle.store.proofs.sequence.ask_each.Goals as goal

pub loop-at-init : goal.loop-at-init
loop-at-init g c = record { asked = asked_none _; rest = refl }

pub loop-at-preserved : goal.loop-at-preserved
loop-at-preserved g c =
    let count = c.min-count.result in
    let requests = c.args.requests.now in
    let far = length-take-le count requests (omega arith) in
    let told = rw (get_or-take count requests c.loop-at.at no_request (omega (arith, far))) at c.ask.ensures.told in
    let before = c.loop-at.invariant in
    record {
      asked = asked_next _ _ _ requests c.loop-at.answers c.loop-at.at c.ask.result (omega (arith, far)) (omega (arith, far)) before.asked told;
      rest = rest_next c.loop-at.answers c.args.answers.now c.loop-at.at c.ask.result before.rest;
    }
