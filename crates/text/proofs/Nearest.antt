-- The nearest binder of a serial, among a block's and those around it.
use Rattle.std.proofs.Common.{◌≡◌, ℕ, suc, ◌+◌, ◌-◌, ◌<◌, ◌≤◌, Bool, true, false, cond, not, List, [], ◌∷◌, ◌++◌, length, Some, None, ◌==◌, position, sym, refl, arith, nat_lt}
use Rattle.std.proofs.lemmas.Bool.Decides.{nat_tests}
use Rattle.std.specs.List.{position_or_len}
use Rattle.code.specs.Text.{number_of}

-- one serial before the rest, where there is one of the kind among the rest only if not here
here : (b : Bool) (k l y m : ℕ) → cond (not b) (1 + k) 0 < suc l → (k < l → m + 1 + k ≡ y) → cond b y m + 1 + cond (not b) (1 + k) 0 ≡ suc y
here true k l y m lt more = omega arith
here false k l y m lt more = omega (arith, more (omega arith))

past : (b : Bool) (k l y m n : ℕ) → suc l ≤ cond (not b) (1 + k) 0 → (l ≤ k → m ≡ n) → cond b y m ≡ n
past true k l y m n le more = absurd (omega arith)
past false k l y m n le more = more (omega arith)

found : (xs ys : List ℕ) (s : ℕ) → position_or_len (λ x. x == s) xs < length xs → number_of (xs ++ ys) s + 1 + position_or_len (λ x. x == s) xs ≡ length (xs ++ ys)
found [] ys s lt = absurd (omega arith)
found (x ∷ xs) ys s lt = here (x == s) (position_or_len (λ x. x == s) xs) (length xs) (length (xs ++ ys)) (number_of (xs ++ ys) s) lt (found xs ys s)

not_found : (xs ys : List ℕ) (s : ℕ) → length xs ≤ position_or_len (λ x. x == s) xs → number_of (xs ++ ys) s ≡ number_of ys s
not_found [] ys s le = refl
not_found (x ∷ xs) ys s le = past (x == s) (position_or_len (λ x. x == s) xs) (length xs) (length (xs ++ ys)) (number_of (xs ++ ys) s) (number_of ys s) le (not_found xs ys s)

at_most : (n l i : ℕ) → Some i ≡ cond (nat_lt n l) (Some n) None → (i ≡ n) × (n < l)
at_most n l i e = grind (arith, nat_tests)

at_least : (n l : ℕ) → None ≡ cond (nat_lt n l) (Some n) None → l ≤ n
at_least n l e = grind (arith, nat_tests)

-- the first of its kind in the block is the nearest of all
pub number_in : (xs ys : List ℕ) (s i : ℕ) → Some i ≡ position (λ x. x == s) xs → length (xs ++ ys) - 1 - i ≡ number_of (xs ++ ys) s
number_in xs ys s i e = let p = at_most (position_or_len (λ x. x == s) xs) (length xs) i e in omega (arith, p.0, found xs ys s p.1)

-- where the block has none, it is the nearest of those around
pub number_around : (xs ys : List ℕ) (s : ℕ) → None ≡ position (λ x. x == s) xs → number_of ys s ≡ number_of (xs ++ ys) s
number_around xs ys s e = sym (not_found xs ys s (at_least (position_or_len (λ x. x == s) xs) (length xs) e))
