-- The law that a ledger owes as a store, proved.
use Rattle.std.specs.Prelude.{◌≡◌, ◌≤◌, take, Some}
use Rattle.code.specs.declared.construct.Handle.{Handle}
use Rattle.code.specs.Code.{Code, size}
use Rattle.store.specs.declared.ledger.Ledger.{Ledger}
use Rattle.store.specs.Ledger.{code_of}
use Rattle.store.specs.RowsLaw.{rows_small}

-- a ledger knows no code that is too large
pub ledger_small : (s : Ledger) (h : Handle) (c : Code) → code_of s h ≡ Some c → size c ≤ 4096
ledger_small s h c e = rows_small (take s.used s.rows.now) h c s.sound e
