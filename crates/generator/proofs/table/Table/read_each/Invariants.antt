use Rattle.std.proofs.Common.{◌≡◌, ℕ, ◌<◌, length, slice_index, slice_index_or, Ok}
use Rattle.generator.specs.declared.cell.Piece.{Piece}
use Rattle.generator.specs.Reading.{held_at}
use Rattle.generator.proofs.table.Table.read_each.Given as goal

abbrev pub invariant-loop-i : goal.invariant-loop-i
invariant-loop-i g l = record {
  whole : length l.pieces ≡ length l.cell-items;
  held : (k : ℕ) (d : Piece) → k < l.i → held_at l.self (slice_index l.cell-items k) ≡ Ok (slice_index_or l.pieces k d);
}
