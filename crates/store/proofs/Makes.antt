-- What one row more does to a ledger.
use Rattle.std.proofs.Common.{◌≡◌, ℕ, ◌+◌, ◌-◌, ◌<◌, ◌≤◌, min, List, [], ◌∷◌, ◌++◌, length, take, set, Some, Ok, sym, refl, ap, ◌∙◌, arith, length-set}
use Rattle.std.proofs.lemmas.List.{take_more_set, length-take-le}
use Rattle.std.proofs.lemmas.Bool.{le-leb}
use Rattle.code.specs.declared.construct.Handle.{Handle}
use Rattle.code.specs.declared.construct.Construct.{Construct}
use Rattle.store.specs.declared.row.Row.{Row}
use Rattle.store.specs.Meaning.{Made}
use Rattle.store.specs.Sizes.{size_asked}
use Rattle.store.specs.Rows.{rows_code, Sound}
use Rattle.store.proofs.Rows.{code_kept, code_newest, sound_push}
use Rattle.store.proofs.Sizes.{asked_some}

-- rows with one more after the first used ones, for a construct of size n
abbrev pub more : List Row → ℕ → Construct → ℕ → List Row
more rows used x n = set rows used (record { construct = x; size = n })

-- rows stay sound with one more, of the size that was asked
pub sound_more : (rows : List Row) (used n : ℕ) (x : Construct) → Sound (take used rows) → Some n ≡ size_asked (rows_code (take used rows)) x → n ≤ 4096 → used < length rows → Sound (take (used + 1) (more rows used x n))
sound_more rows used n x v e le lt =
    let z = asked_some (rows_code (take used rows)) x n e in
    rw (take_more_set rows used _ lt) (sound_push (take used rows) _ z.asked v z.means (sym z.sizes) (omega (arith, z.sizes)))

pub made_more : (rows : List Row) (used n : ℕ) (x : Construct) (h : Handle) → Some n ≡ size_asked (rows_code (take used rows)) x → n ≤ 4096 → used < min (length rows) 65536 → h.number ≡ used → Made (rows_code (take used rows)) (rows_code (take (used + 1) (more rows used x n))) (min (length rows) 65536 - used) (min (length (more rows used x n)) 65536 - (used + 1)) (λ c. 1) (λ c. 1) x (Ok h)
made_more rows used n x h e le room is =
    let z = asked_some (rows_code (take used rows)) x n e in
    let row : Row = record { construct = x; size = n } in
    let far : length (take used rows) ≡ used = length-take-le used rows (omega arith) in
    let next : take (used + 1) (set rows used row) ≡ take used rows ++ (row ∷ []) = take_more_set rows used row (omega arith) in
    let long : length (set rows used row) ≡ length rows = length-set rows used row in
    let stands : rows_code (take (used + 1) (set rows used row)) h ≡ Some z.asked = ap (λ (l : List Row). rows_code l h) next ∙ code_newest (take used rows) row h (is ∙ sym far) ∙ z.means in
    record {
      kept = λ k c i. ap (λ (l : List Row). rows_code l k) next ∙ code_kept (take used rows) row k c i;
      prices = λ c. refl;
      ends = rw (z.wants, le-leb n 4096 le) (stands, omega arith, omega arith);
    }
