-- What is read at a place, by the bytes that are left there.
use Rattle.std.proofs.Common.{◌≡◌, ℕ, ◌+◌, ◌-◌, ◌≤◌, leb, List, length, get_or, take, drop, Some, None, Ok, Err, Option, ok_or, sym, refl, ap, ◌∙◌, add-zero, arith, length-drop}
use Rattle.std.proofs.lemmas.List.{get_or-drop, drop-drop, take_rest}
use Rattle.std.proofs.lemmas.Bool.{cond-true, cond-false, cond_both, le-leb, lt-leb, leb-true, leb-false}
use Rattle.script.specs.declared.kind.Kind.{Kind}
use Rattle.script.specs.declared.step.Step.{Step}
use Rattle.script.specs.declared.step.Misread.{Misread}
use Rattle.script.specs.declared.step.Misread.TheVariants.{UnknownKind}
use Rattle.script.specs.Steps.{form, kind_of, known_kind, step_of_body, read_kind, read_step, read_value, step_to}

module _ (script rest : List ℕ) (place : ℕ) (left : rest ≡ drop place script) where
  -- the bytes after the first
  abbrev pub body : List ℕ
  body = take (length rest - 1) (drop 1 rest)

  body_is : body ≡ drop (place + 1) script
  body_is = take_rest rest 1 ∙ ap (drop 1) left ∙ drop-drop 1 place script

  body_length : length body ≡ length script - (place + 1)
  body_length = ap length body_is ∙ length-drop (place + 1) script

  -- the kind is that of the first byte
  by_kind : (o : Option Kind) → o ≡ kind_of (get_or rest 0 0) → read_step script place ≡ read_kind script place o
  by_kind o e =
      ap (λ (b : ℕ). read_kind script place (kind_of b)) (sym (ap (λ (xs : List ℕ). get_or xs 0 0) left ∙ get_or-drop place script 0 0 ∙ ap (λ (n : ℕ). get_or script n 0) (add-zero place)))
      ∙ ap (read_kind script place) (sym e)

  -- what the kind doesn't read is a misreading of the step
  pub read_refused : (k : Kind) (m : Misread) → Ok k ≡ known_kind (get_or rest 0 0) → Err m ≡ step_of_body (form k) body → Err m ≡ read_value (read_step script place)
  read_refused k m kind =
      cond_both (leb (form k).body (length body)) _ _ (λ r. Err m ≡ r → Err m ≡ read_value (read_step script place)) (λ t e. absurd cc)
      (λ f e. e ∙ sym (ap read_value (by_kind (Some k) (some (kind_of (get_or rest 0 0)) kind) ∙ cond-false _ _ _ (lt-leb (place + 1 + (form k).body) (length script) (omega (arith, body_length, leb-false _ _ f))))))
    where
      some : (o : Option Kind) → Ok k ≡ ok_or o UnknownKind → Some k ≡ o
      some None q = cc
      some (Some l) q = cc

  pub read_whole :
      (k : Kind) → Some k ≡ kind_of (get_or rest 0 0) → place + 1 + (form k).body ≤ length script
      → read_step script place ≡ step_to ((form k).step (λ i. get_or body i 0)) (place + 1 + (form k).body)
  read_whole k some le =
      by_kind (Some k) some
      ∙ cond-true _ _ _ (le-leb (place + 1 + (form k).body) (length script) le)
      ∙ (λ j. step_to ((form k).step (λ i. (sym (get_or-drop (place + 1) script i 0) ∙ ap (λ (xs : List ℕ). get_or xs i 0) (sym body_is)) j)) (place + 1 + (form k).body))

-- where a step is read, a kind stands with its whole body
pub record Whole (script : List ℕ) (place : ℕ) (s : Step) (after : ℕ) : Type 0 where
  pub kind : Kind
  pub told : kind_of (get_or script place 0) ≡ Some kind
  pub fits : place + 1 + (form kind).body ≤ length script
  pub step : (form kind).step (λ i. get_or script (place + 1 + i) 0) ≡ s
  pub ends : place + 1 + (form kind).body ≡ after

pub whole : (script : List ℕ) (place : ℕ) (s : Step) (after : ℕ) → read_step script place ≡ step_to s after → Whole script place s after
whole script place s after = go (kind_of (get_or script place 0)) refl
  where
    go : (o : Option Kind) → kind_of (get_or script place 0) ≡ o → read_kind script place o ≡ step_to s after → Whole script place s after
    go None e = λ q. absurd cc
    go (Some k) e =
        cond_both (leb (place + 1 + (form k).body) (length script)) _ _ (λ x. x ≡ step_to s after → Whole script place s after)
        (λ t q. record { kind = k; told = e; fits = leb-true (place + 1 + (form k).body) (length script) t; step = cc; ends = cc })
        (λ f q. absurd cc)
