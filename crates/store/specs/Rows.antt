-- What rows mean: each row by the rows before it.
use Rattle.std.specs.Prelude.{◌≡◌, ℕ, ◌<◌, ◌≤◌, List, [], ◌∷◌, ◌++◌, length, pos, Some, None, Option, slice_index_or}
use Rattle.code.specs.declared.construct.Handle.{Handle}
use Rattle.code.specs.declared.construct.Construct.TheVariants.{Number}
use Rattle.code.specs.Code.{Code, size}
use Rattle.store.specs.declared.row.Row.{Row}
use Rattle.store.specs.Meaning.{Codes, meant}
use Rattle.store.specs.Sizes.{size_of}

abbrev pub at : List (Option Code) → Codes
at cs h = slice_index_or cs h.number None

-- the codes of cs, and those of the rows after them
unfoldable pub onto : List (Option Code) → List Row → List (Option Code)
onto cs [] = cs
onto cs (row ∷ rows) = onto (cs ++ (meant (at cs) row.construct ∷ [])) rows

unfoldable pub rows_code : List Row → Codes
rows_code rows h = at (onto [] rows) h

-- what a read past the end would give
abbrev pub blank : Row
blank = record { construct = Number (pos 0); size = 0 }

-- the row at a place stands for a code, has its size, and is not too large
pub record RowSound (rows : List Row) (k : ℕ) : Type 0 where
  pub code : Code
  pub stands : rows_code rows (record { number = k }) ≡ Some code
  pub sizes : (slice_index_or rows k blank).size ≡ size code
  pub small : size code ≤ 4096

-- each row is sound
pub record Sound (rows : List Row) : Type 0 where
  pub each : (k : ℕ) → k < length rows → RowSound rows k

-- what is found behind a handle: a row that stands for its code and has its size, or none for an unknown handle
abbrev pub RowBehind : Codes → Handle → Option Row → Type 0
RowBehind code h None = code h ≡ None
RowBehind code h (Some row) = (code h ≡ meant code row.construct) × (size_of (code h) ≡ Some row.size)
