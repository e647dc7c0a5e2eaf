-- Text laid over an output: one text after another is the two joined.
use Rattle.std.proofs.Common.{◌≡◌, ℕ, suc, ◌+◌, ◌-◌, ◌^◌, ◌<◌, ◌≤◌, min, List, [], ◌∷◌, ◌++◌, length, get_or, take, drop, sym, refl, ap, ◌∙◌, inl, inr, add-zero, add-suc, suc-add, arith}
use lib.Seq.{take-append-add, take-length}
use borrow.Rule.Slice.PartMut.{put_mid}
use Rattle.std.proofs.lemmas.List.{append-nil, length-take, length-drop, length-append, take-append-drop, take_all, take_at, take-append-le, take_more, flat_map_more, drop-drop, drop_all}
use Rattle.std.proofs.lemmas.Bool.{cases_lt}
use Rattle.text.specs.declared.page.Page.{Page}
use Rattle.text.specs.Page.{overlaid, Laid, Writes, after_blank, listed}

pub length_overlaid : (out : List ℕ) (at : ℕ) (text : List ℕ) → length (overlaid out at text) ≡ length out
unfolding overlaid
length_overlaid out at text = simp (length-take, length-append, length-drop) (omega arith)

-- where there is room for the text, it stands there whole
pub overlaid_fits : (out : List ℕ) (at : ℕ) (text : List ℕ) → at + length text ≤ length out → overlaid out at text ≡ take at out ++ (text ++ drop (at + length text) out)
unfolding overlaid
overlaid_fits out at text room = take_all _ _ (simp (length-take, length-append, length-drop) (omega arith))

pub overlaid_empty : (at : ℕ) (text : List ℕ) → overlaid [] at text ≡ []
unfolding overlaid
overlaid_empty at text = refl

pub overlaid_none : (out : List ℕ) (at : ℕ) → overlaid out at [] ≡ out
unfolding overlaid
overlaid_none out at = rw (add-zero, take-append-drop) (take-length out)

-- past the output nothing is laid
pub overlaid_past : (out : List ℕ) (at : ℕ) (text : List ℕ) → length out ≤ at → overlaid out at text ≡ out
unfolding overlaid
overlaid_past out at text past = ap (λ (l : List ℕ). take (length out) (l ++ (text ++ drop (at + length text) out))) (take_all at out past) ∙ take_at out _ (length out) refl

overlaid_later : (x : ℕ) (out : List ℕ) (at : ℕ) (text : List ℕ) → overlaid (x ∷ out) (suc at) text ≡ x ∷ overlaid out at text
unfolding overlaid
overlaid_later x out at text = rw suc-add

overlaid_here : (x : ℕ) (out : List ℕ) (t : ℕ) (text : List ℕ) → overlaid (x ∷ out) 0 (t ∷ text) ≡ t ∷ overlaid out 0 text
unfolding overlaid
overlaid_here x out t text = rw add-suc

-- laid where the text before ends
pub overlaid_then : (out : List ℕ) (at : ℕ) (a b : List ℕ) → overlaid (overlaid out at a) (at + length a) b ≡ overlaid out at (a ++ b)
overlaid_then [] at a b = ap (λ (l : List ℕ). overlaid l (at + length a) b) (overlaid_empty at a) ∙ overlaid_empty (at + length a) b ∙ sym (overlaid_empty at (a ++ b))
overlaid_then (x ∷ out) (suc at) a b = rw (overlaid_later x out at a, suc-add, overlaid_later x (overlaid out at a)) (ap (λ (l : List ℕ). x ∷ l) (overlaid_then out at a b) ∙ sym (overlaid_later x out at (a ++ b)))
overlaid_then (x ∷ out) ℕ.zero [] b = ap (λ (l : List ℕ). overlaid l 0 b) (overlaid_none (x ∷ out) 0)
overlaid_then (x ∷ out) ℕ.zero (t ∷ a) b = rw (overlaid_here x out t a, add-suc, overlaid_later) (ap (λ (l : List ℕ). t ∷ l) (overlaid_then out 0 a b) ∙ sym (overlaid_here x out t (a ++ b)))

-- two places past the output are the same to it
overlaid_at : (out : List ℕ) (m n : ℕ) (text : List ℕ) → min m (length out) ≡ min n (length out) → overlaid out m text ≡ overlaid out n text
overlaid_at out m n text is =
    elim (cases_lt m (length out)) [
      | inl h ↦ ap (λ (k : ℕ). overlaid out k text) (omega arith)
      | inr h ↦ overlaid_past out m text (omega arith) ∙ sym (overlaid_past out n text (omega arith))
    ]

pub laid_then : {o o1 o2 a b : List ℕ} {at m r : ℕ} → Laid o at a o1 m → Laid o1 m b o2 r → Laid o at (a ++ b) o2 r
laid_then {o} {o1} {o2} {a} {b} {at} {m} {r} x y =
    record {
      bytes = y.bytes ∙ overlaid_at o1 m (at + length a) b (omega (arith, x.ends, y.slice)) ∙ ap (λ (l : List ℕ). overlaid l (at + length a) b) x.bytes ∙ overlaid_then o at a b;
      ends = simp length-append (omega arith);
      slice = x.slice;
    }

-- one serial more
pub listed_more : (serials : List ℕ) (i : ℕ) → i < length serials → listed (take i serials) ++ after_blank (get_or serials i 0) ≡ listed (take (i + 1) serials)
listed_more serials i lt = flat_map_more after_blank [] (take i serials) (get_or serials i 0) ∙ ap listed (sym (take_more serials i 0 lt))

-- what a copy of the front that fits leaves
pub copied : (out : List ℕ) (at k : ℕ) (text : List ℕ) → at ≤ length out → k ≡ min (length text) (length out - at) → put_mid at k out (take k text) ≡ overlaid out at text
unfolding overlaid
copied out at k text within fits =
    ap (λ (l : List ℕ). take at out ++ (take k text ++ l)) (drop-drop k at out) ∙
    elim (cases_lt (length text) (length out - at)) [
      | inl h ↦ rw (take_all k text (omega arith)) (let e : k ≡ length text = omega arith in rw e (sym (overlaid_fits out at text (omega arith))))
      | inr h ↦ (let rest = drop (at + length text) out in
          ap (λ (l : List ℕ). take at out ++ (take k text ++ l)) (drop_all (at + k) out (omega arith)) ∙
          ap (λ (l : List ℕ). take at out ++ l) (append-nil (take k text) ∙ sym (take-append-le k text rest (omega arith))) ∙
          sym (take-append-add (take at out) (text ++ rest) k) ∙
          ap (λ (n : ℕ). take n (take at out ++ (text ++ rest))) (simp length-take (omega arith)))
    ]

-- the front of the text that fits, copied to the place, or to the output's end where that is nearer
pub laid_copy : {out text part : List ℕ} {at start fits r : ℕ} → length out ≤ 2 ^ 64 - 1 → start ≡ min at (length out) → fits ≡ min (length text) (length out - start) → part ≡ take fits text → r ≡ min (at + length text) (2 ^ 64 - 1) → Laid out at text (put_mid start fits out part) r
laid_copy {out} {text} {part} {at} {start} {fits} {r} slice starts fit front ends = record {
  bytes = ap (put_mid start fits out) front ∙ copied out start fits text (omega arith) fit ∙ overlaid_at out start at text (omega arith);
  ends = ends;
  slice = slice;
}

-- past the output nothing is laid, and the place moves on
pub laid_past : {out text : List ℕ} {at r : ℕ} → length out ≤ 2 ^ 64 - 1 → length out ≤ at → r ≡ min (at + length text) (2 ^ 64 - 1) → Laid out at text out r
laid_past {out} {text} {at} {r} slice past ends = record { bytes = sym (overlaid_past out at text past); ends = ends; slice = slice }

-- nothing laid
pub writes_none : {p : Page} → p.place ≤ 2 ^ 64 - 1 → length p.out.now ≤ 2 ^ 64 - 1 → Writes p [] p
writes_none {p} place small = record { same_reference = refl; laid = record { bytes = sym (overlaid_none p.out.now p.place); ends = omega arith; slice = small } }

-- one text after another
infixl 60 ◌⨾◌
pub ◌⨾◌ : {p q r : Page} {a b : List ℕ} → Writes p a q → Writes q b r → Writes p (a ++ b) r
x ⨾ y = record { same_reference = y.same_reference ∙ x.same_reference; laid = laid_then x.laid y.laid }

-- a text said otherwise
pub writes_same : {p q : Page} {a b : List ℕ} → a ≡ b → Writes p a q → Writes p b q
writes_same {p} {q} {a} {b} e x = rw e at x
