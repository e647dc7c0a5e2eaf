-- A step is read only where its bytes stand.
use Rattle.std.proofs.Common.{◌≡◌, ℕ, zero, suc, ◌+◌, ◌-◌, ◌*◌, ◌/◌, ◌%◌, ◌^◌, ◌<◌, ◌≤◌, true, eqb, ltb, ◌⊎◌, List, [], ◌∷◌, ◌++◌, length, get_or, take, drop, pos, negsuc, Some, sym, refl, ap, ◌∙◌, subst, inl, inr, add-zero, arith}
use Rattle.std.specs.Prelude.{All}
use Rattle.std.proofs.lemmas.List.Elements.{All-get_or}
use Rattle.std.proofs.lemmas.List.{drop_more, get_or_past, take-append-drop}
use Rattle.std.proofs.lemmas.Bool.{cond_both, eqb-true, ltb-false, lt-ltb, cases_lt}
use Rattle.code.specs.Code.{in_range32}
use Rattle.code.specs.Numbers.{with_number}
use Rattle.script.specs.declared.kind.Kind.{Kind}
use Rattle.script.specs.declared.kind.Kind.TheVariants as kind
use Rattle.script.specs.declared.step.Step.{Step}
use Rattle.script.specs.Steps.{signed32, little, form, kinds}
use Rattle.script.specs.Written.{bits32, four, bytes_of, Writable, ReadsOnly}
use Rattle.script.proofs.Readings.{Whole, whole}

-- what is found by a number has it
number_told : {A : Type 0} (number : A → ℕ) (xs : List A) (n : ℕ) (x : A) → with_number number xs n ≡ Some x → number x ≡ n
number_told number [] n x = λ e. absurd cc
number_told {A} number (y ∷ ys) n x =
    cond_both (eqb (number y) n) (Some y) (with_number number ys n) (λ o. o ≡ Some x → number x ≡ n)
    (λ t q. let same : y ≡ x = cc in ap number (sym same) ∙ eqb-true (number y) n t)
    (λ f q. number_told number ys n x q)

-- the first n values of b
abbrev firsts : (ℕ → ℕ) → ℕ → List ℕ
firsts b zero = []
firsts b (suc n) = b 0 ∷ firsts (λ i. b (suc i)) n

length_firsts : (b : ℕ → ℕ) (n : ℕ) → length (firsts b n) ≡ n
length_firsts b zero = refl
length_firsts b (suc n) = ap suc (length_firsts (λ i. b (suc i)) n)

firsts_left : (xs : List ℕ) (n p : ℕ) → p + n ≤ length xs → drop p xs ≡ firsts (λ i. get_or xs (p + i) 0) n ++ drop (p + n) xs
firsts_left xs zero p le = ap (λ (k : ℕ). drop k xs) (sym (add-zero p))
firsts_left xs (suc n) p le =
    drop_more xs p 0 (omega arith)
    ∙ (λ j. get_or xs (sym (add-zero p) j) 0 ∷ firsts_left xs n (p + 1) (omega arith) j)
    ∙ (λ j. get_or xs (p + 0) 0 ∷ (firsts (λ i. get_or xs (moved i j) 0) n ++ drop (last j) xs))
  where
    moved : (i : ℕ) → p + 1 + i ≡ p + suc i
    moved i = omega arith

    last : p + 1 + n ≡ p + suc n
    last = omega arith

module _ (a b c d : ℕ) (at : a < 256) (bt : b < 256) (ct : c < 256) (dt : d < 256) where
  abbrev sum : ℕ
  sum = a + 256 * b + 65536 * c + 16777216 * d

  four_back : four sum ≡ a ∷ b ∷ c ∷ d ∷ []
  four_back = λ j. low j ∷ second j ∷ third j ∷ high j ∷ []
    where
      low : sum % 256 ≡ a
      low = omega arith

      second : sum / 256 % 256 ≡ b
      second = let q : sum / 256 ≡ b + 256 * c + 65536 * d = omega arith in ap (λ (n : ℕ). n % 256) q ∙ omega arith

      third : sum / 65536 % 256 ≡ c
      third = let q : sum / 65536 ≡ c + 256 * d = omega arith in ap (λ (n : ℕ). n % 256) q ∙ omega arith

      high : sum / 16777216 % 256 ≡ d
      high = let q : sum / 16777216 ≡ d = omega arith in ap (λ (n : ℕ). n % 256) q ∙ omega arith

  bits_back : bits32 (signed32 sum) ≡ sum
  bits_back =
      cond_both (ltb sum (2 ^ 31)) (pos sum) (negsuc (2 ^ 32 - 1 - sum)) (λ z. bits32 z ≡ sum) (λ e. refl)
      (λ e. omega arith)

  number_back : four (bits32 (little a b c d)) ≡ a ∷ b ∷ c ∷ d ∷ []
  number_back = ap four bits_back ∙ four_back

in_range : (n : ℕ) → in_range32 (signed32 n) ≡ true
in_range n =
    cond_both (ltb n (2 ^ 31)) (pos n) (negsuc (2 ^ 32 - 1 - n)) (λ z. in_range32 z ≡ true) (λ e. e)
    (λ e. let l = ltb-false n (2 ^ 31) e in lt-ltb (2 ^ 32 - 1 - n) (2 ^ 31) (omega arith))

-- a kind's step is written as the kind's byte and the body
form_bytes : (k : Kind) (b : ℕ → ℕ) → ((i : ℕ) → b i < 256) → bytes_of ((form k).step b) ≡ (form k).byte ∷ firsts b (form k).body
form_bytes kind.Num b small = ap (λ (xs : List ℕ). 0x01 ∷ b 0 ∷ xs) (number_back (b 1) (b 2) (b 3) (b 4) (small 1) (small 2) (small 3) (small 4))
form_bytes kind.Truth b small = refl
form_bytes kind.Input b small = refl
form_bytes kind.Join b small = refl
form_bytes kind.Choose b small = refl
form_bytes kind.Apply b small = refl
form_bytes kind.Fun b small = refl
form_bytes kind.Let b small = refl
form_bytes kind.Close b small = refl
form_bytes kind.Copy b small = refl
form_bytes kind.Clear b small = refl
form_bytes kind.Print b small = refl
form_bytes kind.Begin b small = refl
form_bytes kind.End b small = refl
form_bytes kind.Leave b small = refl

form_writable : (k : Kind) (b : ℕ → ℕ) → Writable ((form k).step b)
form_writable kind.Num b = in_range (b 1 + 256 * b 2 + 65536 * b 3 + 16777216 * b 4)
form_writable kind.Truth b = tt
form_writable kind.Input b = tt
form_writable kind.Join b = tt
form_writable kind.Choose b = tt
form_writable kind.Apply b = tt
form_writable kind.Fun b = tt
form_writable kind.Let b = tt
form_writable kind.Close b = tt
form_writable kind.Copy b = tt
form_writable kind.Clear b = tt
form_writable kind.Print b = tt
form_writable kind.Begin b = tt
form_writable kind.End b = tt
form_writable kind.Leave b = tt

byte_small : (script : List ℕ) (i : ℕ) → All (λ b. b < 256) script → get_or script i 0 < 256
byte_small script i all = by (cases_lt i (length script))
  where
    by : (i < length script) ⊎ (length script ≤ i) → get_or script i 0 < 256
    by (inl lt) = All-get_or (λ b. b < 256) script i 0 lt all
    by (inr le) = omega (arith, get_or_past script i 0 le)

pub reads_only : ReadsOnly
reads_only script place after s all e =
    record {
      writable = subst Writable w.step (form_writable w.kind body);
      ends = sym w.ends ∙ omega (arith, ap length bytes, length_firsts body (form w.kind).body) ∙ ap (λ (t : Step). place + length (bytes_of t)) w.step;
      bytes = sym (take-append-drop place script) ∙ ap (λ (xs : List ℕ). take place script ++ xs) left;
    }
  where
    w : Whole script place s after
    w = whole script place s after e

    body : ℕ → ℕ
    body i = get_or script (place + 1 + i) 0

    byte : (form w.kind).byte ≡ get_or script place 0
    byte = number_told (λ k. (form k).byte) kinds (get_or script place 0) w.kind w.told

    bytes : bytes_of ((form w.kind).step body) ≡ (form w.kind).byte ∷ firsts body (form w.kind).body
    bytes = form_bytes w.kind body (λ i. byte_small script (place + 1 + i) all)

    left : drop place script ≡ bytes_of s ++ drop after script
    left =
        drop_more script place 0 (omega (arith, w.fits))
        ∙ (λ j. sym byte j ∷ firsts_left script (form w.kind).body (place + 1) w.fits j)
        ∙ ap (λ (xs : List ℕ). xs ++ drop (place + 1 + (form w.kind).body) script) (sym bytes)
        ∙ (λ j. bytes_of (w.step j) ++ drop (w.ends j) script)
