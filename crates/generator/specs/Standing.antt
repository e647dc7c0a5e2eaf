-- When a generator stands: calls led to it from a fresh one, and each handle that it holds is known to its store.
use Rattle.std.specs.Prelude.{◌≡◌, take, Some, All, IfSome}
use Rattle.code.specs.declared.construct.Handle.{Handle}
use Rattle.code.specs.Code.{Code}
use Rattle.store.specs.Meaning.{Codes}
use Rattle.generator.specs.declared.cell.Cell.{Cell}
use Rattle.generator.specs.declared.binder.Binder.{Binder}
use Rattle.generator.specs.declared.binder.Binding.{Binding}
use Rattle.generator.specs.declared.binder.Binding.TheVariants.{Parameter, Bound}
use Rattle.generator.specs.declared.table.Table.{Table}
use Rattle.model.specs.Finish.{Grown}
use Rattle.generator.specs.Reads.{read}

-- the handle stands for a code
abbrev pub StandsForSome : Codes → Handle → Type 0
StandsForSome code h = (c : Code) × (code h ≡ Some c)

abbrev pub CellKnown : Codes → Cell → Type 0
CellKnown code c = IfSome c.content λ p. StandsForSome code p.handle

abbrev pub BindingKnown : Codes → Binding → Type 0
BindingKnown code (Parameter p) = Unit {0}
BindingKnown code (Bound e) = StandsForSome code e.handle

abbrev pub BinderKnown : Codes → Binder → Type 0
BinderKnown code b = BindingKnown code b.binding

-- the handles of full cells and of open lets are known
pub record Known (code : Codes) (t : Table) : Type 0 where
  pub cells : All (CellKnown code) t.cells
  pub bounds : All (BinderKnown code) (take t.depth t.binders)

-- sizes, names and types are then exact, as they are in every state that calls lead to
pub record Stands (code : Codes) (t : Table) : Type 0 where
  pub grown : Grown (read code t)
  pub known : Known code t
