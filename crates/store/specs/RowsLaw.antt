-- Rows know nothing past their end, and so sound ones no code that is too large; they are sound in one way.
use Rattle.std.specs.Prelude.{◌≡◌, ℕ, ◌+◌, ◌<◌, ◌≤◌, List, [], ◌∷◌, ◌++◌, length, Some, None, Option, unwrap_or, suc, slice_index_or}
use Rattle.std.proofs.Common.{sym, ap, ◌∙◌, subst, ◌⊎◌, inl, inr}
use Rattle.std.proofs.Math.Bridge.{le_prop}
use Rattle.std.proofs.Math.Nat.{zero-add, add-zero, add_assoc, suc-add, ℕ_set}
use Rattle.std.proofs.lemmas.List.{get_or_past, length_push}
use Rattle.std.proofs.lemmas.Bool.{cases_lt}
use Rattle.std.proofs.lemmas.Option.{none-some}
use mathlib.Core.HLevel.{is_prop→PathP}
use Rattle.code.specs.declared.construct.Handle.{Handle}
use Rattle.code.specs.Code.{Code, size}
use Rattle.store.specs.declared.row.Row.{Row}
use Rattle.store.specs.Meaning.{meant}
use Rattle.store.specs.CodeLaw.{known_set}
use Rattle.store.specs.Rows.{at, onto, rows_code, blank, RowSound, Sound}

-- a code for each row, after those at hand
pub length_onto : (cs : List (Option Code)) (rows : List Row) → length (onto cs rows) ≡ length cs + length rows
unfolding onto
length_onto cs [] = sym (add-zero (length cs))
length_onto cs (r ∷ rows) =
    length_onto (cs ++ (meant (at cs) r.construct ∷ [])) rows
    ∙ ap (λ (n : ℕ). n + length rows) (length_push cs (meant (at cs) r.construct))
    ∙ add_assoc (length cs) 1 (length rows)
    ∙ ap (λ (n : ℕ). length cs + n) (suc-add 0 (length rows) ∙ ap (λ (n : ℕ). suc n) (zero-add (length rows)))

-- past the rows nothing is known
pub code_past : (rows : List Row) (h : Handle) → length rows ≤ h.number → rows_code rows h ≡ None
unfolding rows_code
code_past rows h le =
    get_or_past (onto [] rows) h.number None
    (subst (λ (n : ℕ). n ≤ h.number) (sym (length_onto [] rows ∙ zero-add (length rows))) le)

-- what is known stands in the rows
pub known_within : (rows : List Row) (h : Handle) (c : Code) → rows_code rows h ≡ Some c → h.number < length rows
known_within rows h c e = by (cases_lt h.number (length rows))
  where
    by : (h.number < length rows) ⊎ (length rows ≤ h.number) → h.number < length rows
    by (inl lt) = lt
    by (inr le) = absurd (none-some c (sym (code_past rows h le) ∙ e))

-- sound rows know no code that is too large
pub rows_small : (rows : List Row) (h : Handle) (c : Code) → Sound rows → rows_code rows h ≡ Some c → size c ≤ 4096
rows_small rows h c v e =
    let row = v.each h.number (known_within rows h c e) in
    let same : row.code ≡ c = ap (λ (o : Option Code). unwrap_or o c) (sym row.stands ∙ e) in
    subst (λ (d : Code). size d ≤ 4096) same row.small

row_sound_prop : (rows : List Row) (k : ℕ) → IsProp (RowSound rows k)
row_sound_prop rows k a b =
    let one : a.code ≡ b.code = ap (λ (o : Option Code). unwrap_or o b.code) (sym a.stands ∙ b.stands) in
    λ i. record {
      code = one i;
      stands = is_prop→PathP (λ i. rows_code rows (record { number = k }) ≡ Some (one i)) (λ i. known_set _ _) a.stands b.stands i;
      sizes = is_prop→PathP (λ i. (slice_index_or rows k blank).size ≡ size (one i)) (λ i. ℕ_set _ _) a.sizes b.sizes i;
      small = is_prop→PathP (λ i. size (one i) ≤ 4096) (λ i. le_prop) a.small b.small i;
    }

pub sound_prop : (rows : List Row) → IsProp (Sound rows)
sound_prop rows = hlevel (row_sound_prop rows)
