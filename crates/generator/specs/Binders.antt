-- Binders by their serial, and the type of what they bind.
use Rattle.std.specs.Prelude.{◌≡◌}
use Rattle.code.specs.declared.types.Ty.{Ty}
use Rattle.code.specs.declared.types.Ty.TheVariants.{Plain}
use Rattle.generator.specs.declared.binder.Binder.{Binder}
use Rattle.generator.specs.declared.binder.Binding.{Binding}
use Rattle.generator.specs.declared.binder.Binding.TheVariants.{Parameter, Bound}

abbrev pub SameSerial : Binder → Binder → Type 0
SameSerial x y = x.serial ≡ y.serial

abbrev pub type_bound : Binding → Ty
type_bound (Parameter p) = Plain p
type_bound (Bound e) = e.ty
