-- The examples compute.
use Rattle.std.proofs.Common.{◌≡◌, true, refl}
use Rattle.std.specs.Fmt.{digits}
use Rattle.code.specs.Examples.{examples_hold, plain_codes_hold, binders_hold, open_codes_hold, untyped_hold, ranges_hold}

pub examples_computed : examples_hold ≡ true
unfolding examples_hold plain_codes_hold binders_hold open_codes_hold untyped_hold ranges_hold digits
examples_computed = refl
