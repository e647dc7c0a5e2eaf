-- A step is read back from its bytes.
use Rattle.std.proofs.Common.{◌≡◌, ℕ, suc, ◌+◌, ◌-◌, ◌*◌, ◌/◌, ◌%◌, ◌^◌, ◌<◌, true, List, [], ◌∷◌, ◌++◌, length, get_or, ℤ, pos, negsuc, Some, sym, refl, ap, ◌∙◌, mod-eq_of_lt, arith, length-append}
use native.Mathlib.Nat.{div-div-eq-div-mul, div-add-mod}
use Rattle.std.proofs.lemmas.List.{drop_at, take_rest}
use Rattle.std.proofs.lemmas.Bool.{cond-true, cond-false, ltb-true, le-ltb}
use Rattle.code.specs.Code.{in_range32}
use Rattle.model.specs.declared.call.Call.TheVariants as call
use Rattle.script.specs.declared.kind.Kind.{Kind}
use Rattle.script.specs.declared.kind.Kind.TheVariants as kind
use Rattle.script.specs.declared.step.Step.TheVariants as step
use Rattle.script.specs.Steps.{signed32, form, kind_of, read_step, step_to}
use Rattle.script.specs.Written.{bits32, four, ReadsBack}
use Rattle.script.proofs.Readings.{read_whole}

-- a kind's byte and its body, whatever stands before and after them
read_front :
    (before body rest : List ℕ) (b : ℕ) (k : Kind) → Some k ≡ kind_of b → length body ≡ (form k).body
    → read_step (before ++ (b ∷ (body ++ rest))) (length before) ≡ step_to ((form k).step (λ i. get_or (body ++ rest) i 0)) (length before + suc (length body))
read_front before body rest b k some whole =
    let xs = b ∷ (body ++ rest) in
    read_whole (before ++ xs) xs (length before) (sym (drop_at before xs (length before) refl)) k some (omega (arith, length-append before xs, length-append body rest))
    ∙ (λ j. step_to ((form k).step (λ i. get_or (take_rest xs 1 j) i 0)) (length before + 1 + (form k).body))
    ∙ ap (step_to ((form k).step (λ i. get_or (body ++ rest) i 0))) (omega arith)

-- four bytes hold 32 bits
four_whole : (n : ℕ) → n < 2 ^ 32 → n % 256 + 256 * (n / 256 % 256) + 65536 * (n / 65536 % 256) + 16777216 * (n / 16777216 % 256) ≡ n
four_whole n lt =
    rw (sym (div-div-eq-div-mul n 256 256), sym (div-div-eq-div-mul n 256 65536), sym (div-div-eq-div-mul (n / 256) 256 256)) (sums n (n / 256) (n / 256 / 256) _ _ _ _ (div-add-mod n 256) (div-add-mod (n / 256) 256) (div-add-mod (n / 256 / 256) 256) lt)
  where
    sums : (n p q r a b c : ℕ) → 256 * p + a ≡ n → 256 * q + b ≡ p → 256 * r + c ≡ q → n < 2 ^ 32 → a + 256 * b + 65536 * c + 16777216 * (r % 256) ≡ n
    sums n p q r a b c e f g lt =
        let h : r % 256 ≡ r = mod-eq_of_lt (omega arith) in
        omega arith

bits_small : (z : ℤ) → in_range32 z ≡ true → bits32 z < 2 ^ 32
bits_small (pos n) h = omega (arith, ltb-true n (2 ^ 31) h)
bits_small (negsuc n) h = omega arith

signed_bits : (z : ℤ) → in_range32 z ≡ true → signed32 (bits32 z) ≡ z
signed_bits (pos n) h = cond-true _ _ _ h
signed_bits (negsuc n) h =
    cond-false _ _ _ (le-ltb (2 ^ 32 - 1 - n) (2 ^ 31) (omega (arith, ltb-true n (2 ^ 31) h)))
    ∙ ap negsuc (omega (arith, ltb-true n (2 ^ 31) h))

pub reads_back : ReadsBack
reads_back (step.Call (call.Num c z)) before rest w =
    read_front before (c ∷ four (bits32 z)) rest 0x01 kind.Num refl refl
    ∙ ap (λ n. step_to (step.Call (call.Num c n)) (length before + 6)) (ap signed32 (four_whole (bits32 z) (bits_small z w)) ∙ signed_bits z w)
reads_back (step.Call (call.Truth c b)) before rest w = read_front before (c ∷ b ∷ []) rest 0x02 kind.Truth refl refl
reads_back (step.Call (call.Input c i)) before rest w = read_front before (c ∷ i ∷ []) rest 0x03 kind.Input refl refl
reads_back (step.Call (call.Join c o a b)) before rest w = read_front before (c ∷ o ∷ a ∷ b ∷ []) rest 0x04 kind.Join refl refl
reads_back (step.Call (call.Choose c a b d)) before rest w = read_front before (c ∷ a ∷ b ∷ d ∷ []) rest 0x05 kind.Choose refl refl
reads_back (step.Call (call.Apply c f a)) before rest w = read_front before (c ∷ f ∷ a ∷ []) rest 0x06 kind.Apply refl refl
reads_back (step.Call (call.Fun c p)) before rest w = read_front before (c ∷ p ∷ []) rest 0x07 kind.Fun refl refl
reads_back (step.Call (call.Let c a)) before rest w = read_front before (c ∷ a ∷ []) rest 0x08 kind.Let refl refl
reads_back (step.Call (call.Close c a)) before rest w = read_front before (c ∷ a ∷ []) rest 0x09 kind.Close refl refl
reads_back (step.Call (call.Copy c a)) before rest w = read_front before (c ∷ a ∷ []) rest 0x0a kind.Copy refl refl
reads_back (step.Call (call.Clear c)) before rest w = read_front before (c ∷ []) rest 0x0b kind.Clear refl refl
reads_back (step.Call call.Mark) before rest w = elim w [ ]
reads_back (step.Call call.Finish) before rest w = elim w [ ]
reads_back (step.Call call.Leave) before rest w = elim w [ ]
reads_back (step.Call (call.Print a)) before rest w = read_front before (a ∷ []) rest 0x0c kind.Print refl refl
reads_back (step.Begin n) before rest w = read_front before (n ∷ []) rest 0x10 kind.Begin refl refl
reads_back step.End before rest w = read_front before [] rest 0x11 kind.End refl refl
reads_back step.Leave before rest w = read_front before [] rest 0x12 kind.Leave refl refl
