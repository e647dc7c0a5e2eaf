-- The binders around a place.
use Rattle.std.specs.Prelude.{ℕ, List, [], ◌++◌, drop}
use Rattle.text.specs.declared.around.Binders.{Binders, Nothing, Nearest'}

-- their serials, the nearest first: a block's, and those around it
abbrev pub serials : Binders → List ℕ
serials Nothing = []
serials (Nearest' block at outer) = drop block.first block.places ++ serials outer
