-- What a row more does to what the handles stand for.
use Rattle.std.proofs.Common.{◌≡◌, ℕ, ◌+◌, ◌<◌, ◌≤◌, ◌⊎◌, inl, inr, slice_get, List, [], ◌∷◌, ◌++◌, length, get_or, take, drop, Some, None, Option, sym, refl, ap, ◌∙◌, append_assoc, arith}
use Rattle.std.proofs.lemmas.List.{get_or_append_left, get_or_push, length_push, append-nil, take_more, take-append-drop, length-take-le}
use Rattle.std.proofs.lemmas.Bool.{cases_lt}
use Rattle.std.proofs.lemmas.Option.{slice_get-get_or, slice_get_past}
use Rattle.code.specs.declared.construct.Handle.{Handle}
use Rattle.code.specs.Code.{Code, size}
use Rattle.store.specs.declared.row.Row.{Row}
use Rattle.store.specs.Meaning.{meant}
use Rattle.store.specs.Sizes.{size_of}
use Rattle.store.specs.Rows.{at, onto, rows_code, blank, RowSound, Sound, RowBehind}
use Rattle.store.specs.RowsLaw.{length_onto, code_past, known_within}
use Rattle.store.proofs.Meanings.{KnowsMore, meant_more}

onto_push : (cs : List (Option Code)) (rows : List Row) (row : Row) → onto cs (rows ++ (row ∷ [])) ≡ onto cs rows ++ (meant (at (onto cs rows)) row.construct ∷ [])
unfolding onto
onto_push cs [] row = refl
onto_push cs (r ∷ rows) row = onto_push (cs ++ (meant (at cs) r.construct ∷ [])) rows row

-- no row, no code
pub code_none : (h : Handle) → rows_code [] h ≡ None
unfolding rows_code onto
code_none h = refl

-- older handles stand for what they did
pub code_older : (rows : List Row) (row : Row) (h : Handle) → h.number < length rows → rows_code (rows ++ (row ∷ [])) h ≡ rows_code rows h
unfolding rows_code
code_older rows row h lt =
    ap (λ (cs : List (Option Code)). at cs h) (onto_push [] rows row)
    ∙ get_or_append_left (onto [] rows) (meant (at (onto [] rows)) row.construct ∷ []) None h.number (omega (arith, length_onto [] rows))

-- the new handle stands for the new row
pub code_newest : (rows : List Row) (row : Row) (h : Handle) → h.number ≡ length rows → rows_code (rows ++ (row ∷ [])) h ≡ meant (rows_code rows) row.construct
unfolding rows_code
code_newest rows row h is =
    ap (λ (cs : List (Option Code)). at cs h) (onto_push [] rows row)
    ∙ get_or_push (onto [] rows) (meant (at (onto [] rows)) row.construct) None h.number (omega (arith, length_onto [] rows))

pub code_kept : (rows : List Row) (row : Row) → KnowsMore (rows_code rows) (rows_code (rows ++ (row ∷ [])))
code_kept rows row h c e = code_older rows row h (known_within rows h c e) ∙ e

-- older handles stand for what they did over any number of rows
code_front : (xs ys : List Row) (h : Handle) → h.number < length xs → rows_code (xs ++ ys) h ≡ rows_code xs h
code_front xs [] h lt = ap (λ (l : List Row). rows_code l h) (append-nil xs)
code_front xs (y ∷ ys) h lt =
    ap (λ (l : List Row). rows_code l h) (sym (append_assoc xs (y ∷ []) ys))
    ∙ code_front (xs ++ (y ∷ [])) ys h (omega (arith, length_push xs y))
    ∙ code_older xs y h lt

-- a handle stands for its row, by the rows before it
code_row : (rows : List Row) (h : Handle) (d : Row) → h.number < length rows → rows_code rows h ≡ meant (rows_code (take h.number rows)) (get_or rows h.number d).construct
code_row rows h d lt =
    let n : ℕ = h.number in
    let whole : take n rows ++ (get_or rows n d ∷ []) ++ drop (n + 1) rows ≡ rows = ap (λ (l : List Row). l ++ drop (n + 1) rows) (sym (take_more rows n d lt)) ∙ take-append-drop (n + 1) rows in
    let far : length (take n rows) ≡ n = length-take-le n rows (omega arith) in
    ap (λ (l : List Row). rows_code l h) (sym whole)
    ∙ code_front (take n rows ++ (get_or rows n d ∷ [])) (drop (n + 1) rows) h (omega (arith, length_push (take n rows) (get_or rows n d)))
    ∙ code_newest (take n rows) (get_or rows n d) h (sym far)

-- a handle stands for its row, by all the rows
pub code_is : (rows : List Row) (h : Handle) (d : Row) (c : Code) → rows_code rows h ≡ Some c → meant (rows_code rows) (get_or rows h.number d).construct ≡ Some c
code_is rows h d c e =
    meant_more (rows_code (take h.number rows)) (rows_code rows) (get_or rows h.number d).construct c older (sym (code_row rows h d (known_within rows h c e)) ∙ e)
  where
    older : KnowsMore (rows_code (take h.number rows)) (rows_code rows)
    older k b is =
        ap (λ (l : List Row). rows_code l k) (sym (take-append-drop h.number rows))
        ∙ code_front (take h.number rows) (drop h.number rows) k (known_within (take h.number rows) k b is)
        ∙ is

-- what stands at a handle's place is found there
pub row_behind : (rows : List Row) (h : Handle) → Sound rows → RowBehind (rows_code rows) h (slice_get rows h.number)
row_behind rows h v = by (cases_lt h.number (length rows))
  where
    by : (h.number < length rows) ⊎ (length rows ≤ h.number) → RowBehind (rows_code rows) h (slice_get rows h.number)
    by (inl lt) =
        let r = v.each h.number lt in
        rw (slice_get-get_or rows h.number blank lt) (r.stands ∙ sym (code_is rows h blank r.code r.stands), ap size_of r.stands ∙ ap Some (sym r.sizes))
    by (inr le) = rw (slice_get_past rows h.number le) (code_past rows h le)

-- each row stays sound, and so is a new one that has its code's size
pub sound_push : (rows : List Row) (row : Row) (c : Code) → Sound rows → meant (rows_code rows) row.construct ≡ Some c → row.size ≡ size c → size c ≤ 4096 → Sound (rows ++ (row ∷ []))
sound_push rows row c v m z small = record { each = λ k lt. by k (omega (arith, length_push rows row)) (cases_lt k (length rows)) }
  where
    by : (k : ℕ) → k < length rows + 1 → (k < length rows) ⊎ (length rows ≤ k) → RowSound (rows ++ (row ∷ [])) k
    by k lt (inl l) =
        let r = v.each k l in
        record {
          code = r.code;
          stands = code_older rows row (record { number = k }) l ∙ r.stands;
          sizes = ap (λ (y : Row). y.size) (get_or_append_left rows (row ∷ []) blank k l) ∙ r.sizes;
          small = r.small;
        }
    by k lt (inr l) =
        let last : k ≡ length rows = omega arith in
        record {
          code = c;
          stands = code_newest rows row (record { number = k }) last ∙ m;
          sizes = ap (λ (y : Row). y.size) (get_or_push rows row blank k (sym last)) ∙ z;
          small = small;
        }
