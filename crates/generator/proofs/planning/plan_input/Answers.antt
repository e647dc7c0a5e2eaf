use Rattle.std.proofs.Common.{◌<◌, refl, arith}
use Rattle.std.proofs.lemmas.Bool.{lt-ltb}
use Rattle.code.specs.Code
use Rattle.generator.proofs.Sketches.{judged_lawful}
use Rattle.generator.proofs.planning.plan_input.Goals as goal

pub returns-clause-planned : goal.returns-clause-planned
returns-clause-planned c code t =
    let small : c.args.input < 8 = omega arith in
    judged_lawful code t _ c.plan_leaf.result (lt-ltb c.args.input 8 small) (c.plan_leaf.ensures.planned code t (Code.input c.args.input) refl)
