-- The serials that a record of free names holds: as many as it counts.
use Rattle.std.specs.Prelude.{ℕ, List, take, replicate}
use Rattle.code.specs.PlacesLaw.{none_laid_out}
use Rattle.code.specs.declared.names.Names.{Names}

abbrev pub names : Names → List ℕ
names n = take n.count n.serials

abbrev pub no_names : Names
no_names = record { serials = replicate 16 0; count = 0; laid_out = none_laid_out }
