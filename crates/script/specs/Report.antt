-- The report line of a run.
use Rattle.std.specs.Prelude.{ℕ, min, List, [], ◌∷◌, ◌++◌, take, Some, None, codes, decimal, Option}
use Rattle.code.specs.declared.refusal.Refusal.{Refusal}
use Rattle.code.specs.declared.refusal.Refusal.TheVariants as refusal
use Rattle.code.specs.Numbers.{refusal_number}
use Rattle.store.specs.declared.meaning.StoreFault.{StoreFault}
use Rattle.store.specs.declared.meaning.StoreFault.TheVariants as store
use Rattle.generator.specs.declared.fault.GeneratorFault.{GeneratorFault}
use Rattle.generator.specs.declared.fault.GeneratorFault.TheVariants as generator
use Rattle.text.specs.Page.{listed}
use Rattle.script.specs.declared.fault.Cause.{Cause}
use Rattle.script.specs.declared.fault.Cause.TheVariants.{BadArgument, Misread, Generator}
use Rattle.script.specs.declared.fault.RunFault.{RunFault}
use Rattle.script.specs.declared.playing.RunAnswer.{RunAnswer}
use Rattle.script.specs.declared.report.ReportFault.{ReportFault}
use Rattle.script.specs.declared.report.ReportFault.TheVariants as report
use Rattle.script.specs.Faults

abbrev pub refused_as : ReportFault → Refusal
refused_as report.BadArgument = refusal.BadArgument
refused_as report.ShortOutput = refusal.ShortOutput

abbrev pub store_tail : StoreFault → List ℕ
store_tail store.BadArgument = []
store_tail store.TooLarge = []
store_tail (store.NoRoom wanted units) = (codes ": wanted " ++ decimal wanted) ++ (codes " free " ++ decimal units)

abbrev pub generator_tail : GeneratorFault → List ℕ → List ℕ
generator_tail generator.BadArgument serials = []
generator_tail generator.EmptyCell serials = []
generator_tail (generator.Escaped cell names) serials = (codes " cell " ++ decimal cell) ++ codes ":" ++ listed (take (min names 16) serials)
generator_tail generator.NoBinder serials = []
generator_tail generator.NoMark serials = []
generator_tail generator.StillOpen serials = []
generator_tail generator.NotClosed serials = []
generator_tail generator.WrongType serials = []
generator_tail generator.TooDeep serials = []
generator_tail generator.NamesSpent serials = []
generator_tail generator.TooLarge serials = []
generator_tail generator.ShortOutput serials = []
generator_tail (generator.Store f) serials = store_tail f

-- an escape tells its cell and the serials, a want of room the price and the free units
abbrev pub tail : Cause → List ℕ → List ℕ
tail BadArgument serials = []
tail (Misread m) serials = []
tail (Generator f) serials = generator_tail f serials

abbrev pub fault_line : RunFault → List ℕ → List ℕ
fault_line f serials = (codes "refused " ++ decimal (refusal_number (Faults.refused_as f.cause))) ++ (codes " at " ++ decimal f.place) ++ tail f.cause serials ++ (10 ∷ [])

abbrev pub line_of : ℕ → Option RunFault → List ℕ → List ℕ
line_of steps None serials = (codes "done " ++ decimal steps) ++ (10 ∷ [])
line_of steps (Some f) serials = fault_line f serials

abbrev pub report_line : RunAnswer → List ℕ → List ℕ
report_line a serials = line_of a.steps a.fault serials
