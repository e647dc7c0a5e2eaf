-- A store at one moment.
use Rattle.std.specs.Prelude.{ℕ}
use Rattle.code.specs.Code.{Code}
use Rattle.store.specs.declared.meaning.Store.{Ghosts}
use Rattle.store.specs.Meaning.{Codes}

pub record Moment : Type 0 where
  pub codes : Codes
  pub units : ℕ
  pub prices : Code → ℕ

abbrev pub moment : {S : Type 0} → Ghosts S → S → Moment
moment store s = record { codes = store.code s; units = store.units s; prices = store.price s }
