use Rattle.std.proofs.Common.{◌<◌, arith, refl}
use Rattle.code.specs.Serials.{names}
use Rattle.code.proofs.Layouts.{counted, laid_more}
use Rattle.code.proofs.names.Names.push.Goals as goal

pub invariant_of-self : goal.invariant_of-self
invariant_of-self c =
    let n = c.args.self.now in
    let room : n.count < 16 = omega (arith, counted n.serials n.count (names n) n.laid_out refl) in
    record { laid_out = laid_more n.serials n.count c.args.serial n.laid_out room c.requires.above }
