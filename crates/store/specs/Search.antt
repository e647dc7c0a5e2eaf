-- What is answered where an entry is looked for: the first place of one the same as the wanted one, or that there is none.
use Rattle.std.specs.Prelude.{ℕ, ◌<◌, List, length, Some, None, Option, slice_index_or}

-- no entry before the place n is the same as w
abbrev pub NoneBefore : {E : Type 0} → (E → E → Type 0) → E → List E → ℕ → Type 0
NoneBefore {E} same w xs n = (k : ℕ) (d : E) → k < n → same (slice_index_or xs k d) w → ⊥

abbrev pub First : {E : Type 0} → (E → E → Type 0) → E → List E → Option ℕ → Type 0
First {E} same w xs None = NoneBefore same w xs (length xs)
First {E} same w xs (Some i) = (i < length xs) × ((d : E) → same (slice_index_or xs i d) w) × NoneBefore same w xs i
