-- What an exact store spends.
use Rattle.std.specs.Prelude.{◌≡◌, ℕ, ◌+◌, ◌<◌, Ok, Err, Result}
use Rattle.code.specs.declared.construct.Handle.{Handle}
use Rattle.code.specs.declared.construct.Construct.{Construct}
use Rattle.code.specs.Code.{Code}
use Rattle.store.specs.declared.meaning.StoreFault.{StoreFault}
use Rattle.store.specs.declared.meaning.StoreFault.TheVariants.{NoRoom}
use Rattle.store.specs.Meaning.{Codes, wanted}

-- a code that was made has cost its price, and one whose price exceeds the units left is always refused
pub record Spends (before : Codes) (had has : ℕ) (price : Code → ℕ) (x : Construct) (r : Result Handle StoreFault) : Type 0 where
  pub grants : (c : Code) (h : Handle) → wanted before x ≡ Ok c → r ≡ Ok h → has + price c ≡ had
  pub refuses : (c : Code) → wanted before x ≡ Ok c → had < price c → r ≡ Err (NoRoom (price c) had)
