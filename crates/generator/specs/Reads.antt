-- A generator read through its store: each handle as the code that it stands for.
use Rattle.std.specs.Prelude.{ℕ, List, map, reverse, take, pos, Some, None, Ok, Err, Option, Result, option_map}
use Rattle.code.specs.Code.{Code}
use Rattle.code.specs.Serials.{names}
use Rattle.store.specs.Meaning.{Codes}
use Rattle.store.specs.declared.meaning.StoreFault.{StoreFault}
use Rattle.store.specs.declared.meaning.StoreFault.TheVariants as store
use Rattle.generator.specs.declared.cell.Piece.{Piece as Held}
use Rattle.generator.specs.declared.cell.Cell.{Cell}
use Rattle.generator.specs.declared.binder.Binder.{Binder as Opened}
use Rattle.generator.specs.declared.binder.Binding.{Binding}
use Rattle.generator.specs.declared.binder.Binding.TheVariants.{Parameter, Bound}
use Rattle.generator.specs.declared.table.Table.{Table}
use Rattle.generator.specs.declared.fault.GeneratorFault.{GeneratorFault}
use Rattle.generator.specs.declared.fault.GeneratorFault.TheVariants as fault
use Rattle.model.specs.Model.{Piece, Binder, parameter, bound, State, Fault, plain, escaped, no_room, bad_argument, empty_cell, no_binder, no_mark, still_open, not_closed, wrong_type, too_deep, names_spent, too_large, short_output}

-- the code of a known handle; each handle that a generator holds is known
abbrev pub known_code : Option Code → Code
known_code None = Code.number (pos 0)
known_code (Some c) = c

abbrev pub read_piece : Codes → Held → Piece
read_piece code p = record { code = known_code (code p.handle); type = p.ty; size = p.size; names = names p.names }

abbrev pub read_cell : Codes → Cell → Option Piece
read_cell code c = option_map (read_piece code) c.content

abbrev pub read_binding : Codes → ℕ → Binding → Binder
read_binding code s (Parameter p) = parameter s p
read_binding code s (Bound e) = bound s (read_piece code e)

abbrev pub read_binder : Codes → Opened → Binder
read_binder code b = read_binding code b.serial b.binding

-- the table keeps binders and marks in order of opening, the state has the latest first
abbrev pub read_binders : Codes → Table → List Binder
read_binders code t = reverse (map (read_binder code) (take t.depth t.binders))

abbrev pub read_marks : Table → List ℕ
read_marks t = reverse (take t.marked t.marks)

abbrev pub read : Codes → Table → State
read code t =
    record {
      cells = map (read_cell code) t.cells;
      open_binders = read_binders code t;
      marks = read_marks t;
      next = t.next;
    }

abbrev pub read_store_fault : StoreFault → Fault
read_store_fault store.BadArgument = plain bad_argument
read_store_fault store.TooLarge = plain too_large
read_store_fault (store.NoRoom wanted units) = no_room wanted units

abbrev pub read_fault : GeneratorFault → Fault
read_fault fault.BadArgument = plain bad_argument
read_fault fault.EmptyCell = plain empty_cell
read_fault (fault.Escaped cell names) = escaped cell names
read_fault fault.NoBinder = plain no_binder
read_fault fault.NoMark = plain no_mark
read_fault fault.StillOpen = plain still_open
read_fault fault.NotClosed = plain not_closed
read_fault fault.WrongType = plain wrong_type
read_fault fault.TooDeep = plain too_deep
read_fault fault.NamesSpent = plain names_spent
read_fault fault.TooLarge = plain too_large
read_fault fault.ShortOutput = plain short_output
read_fault (fault.Store f) = read_store_fault f

-- an answer, read: what is granted by f, a fault as a fault
abbrev pub read_result : {A B : Type 0} → (A → B) → Result A GeneratorFault → Result B Fault
read_result f (Ok x) = Ok (f x)
read_result f (Err e) = Err (read_fault e)
