use Rattle.std.proofs.Common.{◌<◌, eqb, refl, arith}
use Rattle.std.proofs.lemmas.Bool.{lt-ltb}
use Rattle.code.specs.Code
use Rattle.generator.proofs.Sketches.{judged_lawful}
use Rattle.generator.proofs.planning.plan_truth.Goals as goal

pub returns-clause-planned : goal.returns-clause-planned
returns-clause-planned c code t =
    let small : c.args.truth < 2 = omega arith in
    judged_lawful code t _ c.plan_leaf.result (lt-ltb c.args.truth 2 small) (c.plan_leaf.ensures.planned code t (Code.truth (eqb c.args.truth 1)) refl)
