use Rattle.std.proofs.Common.{◌≡◌, take, drop}
use Rattle.store.specs.Moment.{moment}
use Rattle.store.specs.Sequence.{AskedEach}
use Rattle.store.proofs.sequence.ask_each.Given as goal

abbrev pub invariant-loop-at : goal.invariant-loop-at
invariant-loop-at g l = record {
  asked : AskedEach (moment g.S.Store l.initial.store) (take l.at l.requests) (take l.at l.answers) (moment g.S.Store l.store);
  rest : drop l.at l.answers ≡ drop l.at l.initial.answers;
}
