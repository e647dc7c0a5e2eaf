use Rattle.std.specs.Cmp.{ranked}
use Rattle.std.specs.declared.cmp.Ordering.TheVariants.{Less, Equal, Greater}
use Rattle.code.proofs.Merges.{left_alone, right_alone, left_first, right_first, both_first}
use Rattle.code.proofs.names.least.Goals as goal
use Rattle.code.proofs.names.least.Goals.{in-Less, in-Greater, in-Equal}

pub returns-in_default-clause-some : goal.returns-in_default-clause-some
returns-in_default-clause-some c = right_alone c.in_ok-y.ensures.cases.0 c.requires.b c.in_default.ensures.cases

pub returns-in_default-split_first-clause-some : goal.returns-in_default-split_first-clause-some
returns-in_default-split_first-clause-some c = left_alone c.in-Some.ensures.cases.0 c.requires.a c.in_default-split_first.ensures.cases

pub returns-clause-some : goal.returns-clause-some
returns-clause-some c =
    let a = c.in-Some.ensures.cases.0 in
    let b = c.in-Some-split_first.ensures.cases.0 in
    elim c.match-cmp.branch [
      | in-Less w ↦ rw w.result-is (left_first a b c.requires.a c.requires.b (ranked _ _ Less w.in-Less.ensures))
      | in-Greater w ↦ rw w.result-is (right_first a b c.requires.a c.requires.b (ranked _ _ Greater w.in-Greater.ensures))
      | in-Equal w ↦ rw w.result-is (both_first a b c.requires.a c.requires.b (ranked _ _ Equal w.in-Equal.ensures))
    ]
