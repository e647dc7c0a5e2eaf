-- The latest open binder, where it was opened since the latest mark.
use Rattle.std.specs.Prelude.{◌≡◌, ℕ, ◌-◌, Bool, List, [], ◌∷◌, length, take, Some, Ok, Err, Result, nat_le, slice_get}
use Rattle.store.specs.Meaning.{Codes}
use Rattle.generator.specs.declared.binder.Binder.{Binder as Opened}
use Rattle.generator.specs.declared.fault.GeneratorFault.{GeneratorFault}
use Rattle.generator.specs.declared.table.Table.{Table}
use Rattle.model.specs.Model.{State, Binder, Fault, plain, no_binder, judge}
use Rattle.model.specs.Model
use Rattle.generator.specs.Reads.{read, read_binder, read_binders, read_fault}
use Rattle.generator.specs.Planning.{but_latest}

abbrev pub one_of : Bool → Binder → List Binder → Result (Binder × List Binder) Fault
one_of q b rest = judge q no_binder (Ok (b, rest))

abbrev pub latest_in : List ℕ → List Binder → Result (Binder × List Binder) Fault
latest_in marks [] = Err (plain no_binder)
latest_in marks (b ∷ rest) = one_of (nat_le (Model.floor marks) (length rest)) b rest

-- the latest binder and those before it, or that none is open since the latest mark
abbrev pub latest_of : State → Result (Binder × List Binder) Fault
latest_of st = latest_in st.marks st.open_binders

-- the table's latest binder is the definition's
pub record LatestIs (t : Table) (b : Opened) : Type 0 where
  pub last : slice_get (take t.depth t.binders) (t.depth - 1) ≡ Some b
  pub found : (code : Codes) → latest_of (read code t) ≡ Ok (read_binder code b, but_latest (read_binders code t))

abbrev pub Latest : Table → Result Opened GeneratorFault → Type 0
Latest t (Ok b) = LatestIs t b
Latest t (Err f) = (code : Codes) → latest_of (read code t) ≡ Err (read_fault f)
