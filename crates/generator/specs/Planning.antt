-- What a plan of the table is by the definition, read through the store.
use Rattle.std.specs.Prelude.{◌≡◌, ℕ, ◌+◌, List, [], ◌∷◌, map, Some, None, Ok, Err, Option, Result, slice_set}
use Rattle.code.specs.Code.{Code}
use Rattle.code.specs.Serials.{names}
use Rattle.store.specs.Meaning.{Codes, meant, wanted}
use Rattle.generator.specs.declared.plan.Plan.{Plan as Sketch}
use Rattle.generator.specs.declared.plan.Scope.{Scope}
use Rattle.generator.specs.declared.plan.Scope.TheVariants.{Kept, Opened, Closed}
use Rattle.generator.specs.declared.table.Table.{Table}
use Rattle.generator.specs.declared.fault.GeneratorFault.{GeneratorFault}
use Rattle.model.specs.Model.{Piece, Binder, Plan, Fault}
use Rattle.generator.specs.Reads.{known_code, read_cell, read_binding, read_binders, read_marks, read_fault}
use Rattle.generator.specs.Standing.{Known, BindingKnown}
use Rattle.generator.specs.Plans.{RoomFor}

-- the piece that a plan makes
abbrev pub made_piece : Codes → Sketch → Piece
made_piece code p = record { code = known_code (meant code p.construct); type = p.ty; size = p.size; names = names p.names }

abbrev pub but_latest : List Binder → List Binder
but_latest [] = []
but_latest (b ∷ bs) = bs

-- the open binders after it
abbrev pub binders_after : Codes → Table → Scope → List Binder
binders_after code t Kept = read_binders code t
binders_after code t (Opened b) = read_binding code t.next b ∷ read_binders code t
binders_after code t Closed = but_latest (read_binders code t)

abbrev pub next_after : Table → Scope → ℕ
next_after t Kept = t.next
next_after t (Opened b) = t.next + 1
next_after t Closed = t.next

abbrev pub serial_given : Table → Scope → Option ℕ
serial_given t Kept = None
serial_given t (Opened b) = Some t.next
serial_given t Closed = None

-- the definition's plan that makes a piece into a cell, with this done to the binders
abbrev pub plan_of : Codes → Table → ℕ → Piece → Scope → Plan
plan_of code t to piece scope =
    record {
      piece = piece;
      after =
          record {
            cells = slice_set (map (read_cell code) t.cells) to (Some piece);
            open_binders = binders_after code t scope;
            marks = read_marks t;
            next = next_after t scope;
          };
      given = serial_given t scope;
    }

-- the definition's plan that a plan of the table is
abbrev pub planned : Codes → Table → Sketch → Plan
planned code t p = plan_of code t p.to.at (made_piece code p) p.scope

-- a let that is opened binds a known handle
abbrev pub ScopeKnown : Codes → Scope → Type 0
ScopeKnown code Kept = Unit {0}
ScopeKnown code (Opened b) = BindingKnown code b
ScopeKnown code Closed = Unit {0}

-- the definition plans the same, and the parts of the construct are known
pub record Sketched (code : Codes) (t : Table) (plan : Result Plan Fault) (p : Sketch) : Type 0 where
  pub granted : plan ≡ Ok (planned code t p)
  pub code_made : Code
  pub meant_as : meant code p.construct ≡ Some code_made
  pub scope_known : ScopeKnown code p.scope
  pub room : RoomFor t p.scope

-- a plan is refused as the definition refuses it, and granted as it plans
abbrev pub Planned : Codes → Table → Result Plan Fault → Result Sketch GeneratorFault → Type 0
Planned code t plan (Err f) = plan ≡ Err (read_fault f)
Planned code t plan (Ok p) = Sketched code t plan p

-- a plan that a generator can carry out: the store is asked for a lawful code
pub record Carriable (code : Codes) (t : Table) (p : Sketch) : Type 0 where
  pub known : Known code t
  pub asks : wanted code p.construct ≡ Ok (made_piece code p).code
  pub scope_known : ScopeKnown code p.scope
  pub room : RoomFor t p.scope
