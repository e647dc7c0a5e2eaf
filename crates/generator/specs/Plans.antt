-- When a table has room for what a plan does to its binders.
use Rattle.std.specs.Prelude.{◌≡◌, ◌<◌, Ok, Err, Result}
use Rattle.generator.specs.declared.binder.Binder.{Binder}
use Rattle.generator.specs.declared.fault.GeneratorFault.{GeneratorFault}
use Rattle.generator.specs.declared.plan.Plan.{Plan}
use Rattle.generator.specs.declared.plan.Scope.{Scope}
use Rattle.generator.specs.declared.plan.Scope.TheVariants.{Kept, Opened, Closed}
use Rattle.generator.specs.declared.table.Table.{Table}

abbrev pub RoomFor : Table → Scope → Type 0
RoomFor t Kept = Unit {0}
RoomFor t (Opened b) = (t.depth < 16) × (t.next < 4096)
RoomFor t Closed = 0 < t.depth

abbrev pub Ready : Table → Result Plan GeneratorFault → Type 0
Ready t (Ok p) = RoomFor t p.scope
Ready t (Err f) = Unit {0}

-- a plan that closes the latest binder
abbrev pub Closing : Result Plan GeneratorFault → Type 0
Closing (Ok p) = p.scope ≡ Closed
Closing (Err f) = Unit {0}

-- a binder is found only where one is open
abbrev pub SomeOpen : Table → Result Binder GeneratorFault → Type 0
SomeOpen t (Ok b) = 0 < t.depth
SomeOpen t (Err f) = Unit {0}

-- a plan that leaves the binders as they are
abbrev pub Keeping : Result Plan GeneratorFault → Type 0
Keeping (Ok p) = p.scope ≡ Kept
Keeping (Err f) = Unit {0}
