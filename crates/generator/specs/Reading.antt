-- What a call reads first: its cells, and that none of the codes that it uses has escaped.
use Rattle.std.specs.Prelude.{◌≡◌, ℕ, ◌<◌, ◌≤◌, List, [], ◌∷◌, map, None, Ok, Err, Result, nat_lt, slice_index_or, ok_or, if◌then◌else◌}
use Rattle.std.specs.List.{AllZip}
use Rattle.store.specs.Meaning.{Codes}
use Rattle.generator.specs.declared.cell.Cell.{Cell}
use Rattle.generator.specs.declared.cell.Piece.{Piece as Held}
use Rattle.generator.specs.declared.slot.Slot.{Slot}
use Rattle.generator.specs.declared.table.Table.{Table}
use Rattle.generator.specs.declared.fault.GeneratorFault.{GeneratorFault}
use Rattle.generator.specs.declared.fault.GeneratorFault.TheVariants.{BadArgument, EmptyCell}
use Rattle.model.specs.Model.{Piece, State, Fault, bad_argument, judge, full, usable, cell}
use Rattle.generator.specs.Reads.{read, read_piece, read_fault}

-- one judgement after another: the first refusal is the answer
abbrev pub and_then : {A B : Type 0} → Result A Fault → (A → Result B Fault) → Result B Fault
and_then (Ok x) k = k x
and_then (Err f) k = Err f

-- a cell's number, judged
abbrev pub slot_of : ℕ → Result ℕ Fault
slot_of a = judge (nat_lt a 16) bad_argument (Ok a)

-- a cell's number is its place, below 16
abbrev pub IsSlot : ℕ → Result Slot GeneratorFault → Type 0
IsSlot c (Ok slot) = (slot.at ≡ c) × (slot.at < 16)
IsSlot c (Err f) = (f ≡ BadArgument) × (16 ≤ c)

-- a cell with no code
abbrev pub empty : Cell
empty = record { content = None }

-- the code in a cell
abbrev pub held : Cell → Result Held GeneratorFault
held c = ok_or c.content EmptyCell

-- the code in the cell of this number
abbrev pub held_at : Table → ℕ → Result Held GeneratorFault
held_at t a = if nat_lt a 16 then held (slice_index_or t.cells a empty) else Err BadArgument

abbrev pub held_in : State → ℕ → Result Piece Fault
held_in st a = full (cell st a) Ok

-- whether code may be used
abbrev pub may_use : State → ℕ → Piece → Result (Unit {0}) Fault
may_use st a x = usable st a x (Ok tt)

-- each judged in turn: the first refusal is the answer
abbrev pub each_of : {A B : Type 0} → (A → Result B Fault) → List A → Result (List B) Fault
each_of judged [] = Ok []
each_of judged (x ∷ xs) = and_then (judged x) λ y. and_then (each_of judged xs) λ ys. Ok (y ∷ ys)

abbrev pub judge_each : {A B : Type 0} → (A → Result B Fault) → List A → Result (Unit {0}) Fault
judge_each judged [] = Ok tt
judge_each judged (x ∷ xs) = and_then (judged x) λ _. judge_each judged xs

-- whether each cell's code may be used
abbrev pub may_use_each : State → List ℕ → List Piece → Result (Unit {0}) Fault
may_use_each st (a ∷ cells) (x ∷ pieces) = and_then (may_use st a x) λ _. may_use_each st cells pieces
may_use_each st [] pieces = Ok tt
may_use_each st (a ∷ cells) [] = Ok tt

-- the codes of the cells that a call uses: every number is judged before any cell, and every cell before any code
abbrev pub used : State → List ℕ → Result (List Piece) Fault
used st cells =
    and_then (judge_each slot_of cells) λ _. and_then (each_of (held_in st) cells) λ pieces.
    and_then (may_use_each st cells pieces) λ _. Ok pieces

-- what was read of a table's cells: the pieces that they hold, and the definition's pieces by whatever codes the handles are read
pub record PiecesOf (t : Table) (cells : List ℕ) (pieces : List Held) : Type 0 where
  pub held_there : AllZip (λ a p. held_at t a ≡ Ok p) cells pieces
  pub used_pieces : (code : Codes) → used (read code t) cells ≡ Ok (map (read_piece code) pieces)

abbrev pub ReadEach : Table → List ℕ → Result (List Held) GeneratorFault → Type 0
ReadEach t cells (Ok pieces) = PiecesOf t cells pieces
ReadEach t cells (Err f) = (code : Codes) → used (read code t) cells ≡ Err (read_fault f)
