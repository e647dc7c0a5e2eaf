-- The refusal that a generator's fault is.
use Rattle.code.specs.declared.refusal.Refusal.{Refusal}
use Rattle.code.specs.declared.refusal.Refusal.TheVariants as refusal
use Rattle.store.specs.Meaning
use Rattle.generator.specs.declared.fault.GeneratorFault.{GeneratorFault}
use Rattle.generator.specs.declared.fault.GeneratorFault.TheVariants.{BadArgument, EmptyCell, Escaped, NoBinder, NoMark, StillOpen, NotClosed, WrongType, TooDeep, NamesSpent, TooLarge, ShortOutput, Store}

abbrev pub refused_as : GeneratorFault → Refusal
refused_as BadArgument = refusal.BadArgument
refused_as EmptyCell = refusal.EmptyCell
refused_as (Escaped cell names) = refusal.Escaped
refused_as NoBinder = refusal.NoBinder
refused_as NoMark = refusal.NoMark
refused_as StillOpen = refusal.StillOpen
refused_as NotClosed = refusal.NotClosed
refused_as WrongType = refusal.WrongType
refused_as TooDeep = refusal.TooDeep
refused_as NamesSpent = refusal.NamesSpent
refused_as TooLarge = refusal.TooLarge
refused_as ShortOutput = refusal.ShortOutput
refused_as (Store f) = Meaning.refused_as f
