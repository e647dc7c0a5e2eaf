use Rattle.std.proofs.Common.{◌≡◌, ◌≤◌, ◌+◌, ◌*◌, take, Some}
use Rattle.store.specs.Sizes.{size_over}
use Rattle.store.specs.Ledger.{code_of}
use Rattle.store.proofs.ledger.Ledger.size_over.Given as goal

abbrev pub invariant-loop-part : goal.invariant-loop-part
invariant-loop-part g l = record {
  bounded : l.size ≤ 1 + l.part-index * 65535;
  added : size_over (code_of l.self) (take l.part-index l.part-items) ≡ Some l.size;
}
