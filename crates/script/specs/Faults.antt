-- The refusal that a script's fault is.
use Rattle.std.specs.Prelude.{ℕ, Option, Some, None, unwrap_or}
use Rattle.code.specs.declared.refusal.Refusal.{Refusal}
use Rattle.code.specs.declared.refusal.Refusal.TheVariants as refusal
use Rattle.generator.specs.declared.fault.GeneratorFault.{GeneratorFault}
use Rattle.generator.specs.declared.fault.GeneratorFault.TheVariants as generator
use Rattle.generator.specs.Faults
use Rattle.script.specs.declared.fault.Cause.{Cause}
use Rattle.script.specs.declared.fault.Cause.TheVariants.{BadArgument, Misread, Generator}
use Rattle.script.specs.Steps.{refusal_of}

abbrev pub refused_as : Cause → Refusal
refused_as BadArgument = refusal.BadArgument
refused_as (Misread m) = refusal_of m
refused_as (Generator f) = Faults.refused_as f

-- how many names an escape holds that are not open
abbrev pub escape_names : GeneratorFault → Option ℕ
escape_names generator.BadArgument = None
escape_names generator.EmptyCell = None
escape_names (generator.Escaped cell names) = Some names
escape_names generator.NoBinder = None
escape_names generator.NoMark = None
escape_names generator.StillOpen = None
escape_names generator.NotClosed = None
escape_names generator.WrongType = None
escape_names generator.TooDeep = None
escape_names generator.NamesSpent = None
escape_names generator.TooLarge = None
escape_names generator.ShortOutput = None
escape_names (generator.Store f) = None

abbrev pub escaped : Cause → Option ℕ
escaped BadArgument = None
escaped (Misread m) = None
escaped (Generator f) = escape_names f

-- the same, 0 where it is none
abbrev pub escape_count : Cause → ℕ
escape_count c = unwrap_or (escaped c) 0
