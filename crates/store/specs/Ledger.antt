-- What a ledger means, by the rows that it uses.
use Rattle.std.specs.Prelude.{◌≡◌, ℕ, ◌-◌, min, List, length, take, None}
use Rattle.code.specs.declared.construct.Handle.{Handle}
use Rattle.code.specs.Code.{Code}
use Rattle.store.specs.declared.row.Row.{Row}
use Rattle.store.specs.declared.ledger.Ledger.{Ledger}
use Rattle.store.specs.Meaning.{Codes}
use Rattle.store.specs.Rows.{rows_code}

abbrev pub code_of : Ledger → Codes
code_of s h = rows_code (take s.used s.rows.now) h

-- a ledger uses at most the first 65,536 rows
abbrev pub units_left : Ledger → ℕ
units_left s = min (length s.rows.now) 65536 - s.used

abbrev pub one_each : Ledger → Code → ℕ
one_each s c = 1

-- a fresh ledger knows nothing and has a unit for each row that it may use
pub record Fresh (s : Ledger) (rows : List Row) : Type 0 where
  pub none : (h : Handle) → code_of s h ≡ None
  pub units : units_left s ≡ min (length rows) 65536
