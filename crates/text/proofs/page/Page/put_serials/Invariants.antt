use Rattle.std.proofs.Common.{◌≤◌, length, take}
use Rattle.text.specs.Page.{Writes, listed}
use Rattle.text.proofs.page.Page.put_serials.Given as goal

abbrev pub invariant-loop-serial : goal.invariant-loop-serial
invariant-loop-serial l = (l.serial-index ≤ length l.serials) × Writes l.initial.self (listed (take l.serial-index l.serials)) l.self
