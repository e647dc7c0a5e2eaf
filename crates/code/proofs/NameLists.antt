-- Ascending lists of names: what stands in them merged and with a name taken out, and how many they are.
use Rattle.std.proofs.Common.{◌≡◌, ℕ, suc, ◌<◌, ◌≤◌, eqb, ◌⊎◌, List, [], ◌∷◌, length, refl, ap, ◌∙◌, subst, inl, inr, ⊎_elim, arith, rules}
use Rattle.std.proofs.lemmas.Bool.{cond_both, eqb-true}
use Rattle.std.proofs.lemmas.Bool.Decides.{nat_tests}
use Rattle.code.specs.Members.{In, first, later}
use Rattle.code.specs.Names.{insert, merge, without, Ascending}

module _ {A : Type 0} where
  pub in_none : {x : A} → In x [] → ⊥
  in_none h = elim h [ ]

  pub in_cons : {x y : A} {ys : List A} → In x (y ∷ ys) → (x ≡ y) ⊎ In x ys
  in_cons first = inl refl
  in_cons (later h) = inr h

  pub first_at : {x y : A} {ys : List A} → x ≡ y → In x (y ∷ ys)
  first_at {x} {y} {ys} e = subst (λ (z : A). In x (z ∷ ys)) e first

-- what is in a list with a name added
pub in_insert : (s x : ℕ) (ys : List ℕ) → In s (insert x ys) → (s ≡ x) ⊎ In s ys
in_insert s x [] h = in_cons h
in_insert s x (y ∷ ys) h = search (rules, nat_tests, in_cons, in_insert s x ys, first, later)

pub insert_here : (x : ℕ) (ys : List ℕ) → In x (insert x ys)
insert_here x [] = first
insert_here x (y ∷ ys) = search (rules, nat_tests, insert_here x ys, first, later, first_at)

pub insert_keeps : (s x : ℕ) (ys : List ℕ) → In s ys → In s (insert x ys)
insert_keeps s x [] h = absurd (in_none h)
insert_keeps s x (y ∷ ys) h = search (rules, nat_tests, in_cons, insert_keeps s x ys, first_at, later)

-- what is in two lists merged
pub in_merge : (s : ℕ) (xs ys : List ℕ) → In s (merge xs ys) → In s xs ⊎ In s ys
in_merge s [] ys h = inr h
in_merge s (x ∷ xs) ys h = search (rules, in_insert, in_merge s xs ys, first_at, later)

pub merge_left : (s : ℕ) (xs ys : List ℕ) → In s xs → In s (merge xs ys)
merge_left s [] ys h = absurd (in_none h)
merge_left s (x ∷ xs) ys h =
    ⊎_elim (λ e. rw e (insert_here x (merge xs ys))) (λ i. insert_keeps s x (merge xs ys) (merge_left s xs ys i)) (in_cons h)

pub merge_right : (s : ℕ) (xs ys : List ℕ) → In s ys → In s (merge xs ys)
merge_right s [] ys h = h
merge_right s (x ∷ xs) ys h = insert_keeps s x (merge xs ys) (merge_right s xs ys h)

-- what is in a list with a name taken out
pub in_without : (s x : ℕ) (ys : List ℕ) → In s (without x ys) → In s ys × (s ≡ x → ⊥)
in_without s x [] h = absurd (in_none h)
in_without s x (y ∷ ys) h = search (rules, nat_tests, in_cons, in_without s x ys, first_at, later)

pub without_keeps : (s x : ℕ) (ys : List ℕ) → (s ≡ x → ⊥) → In s ys → In s (without x ys)
without_keeps s x [] n h = h
without_keeps s x (y ∷ ys) n h = search (rules, nat_tests, without_keeps s x ys n, in_cons, first_at, later)

pub ascending_lower : (m n : ℕ) (xs : List ℕ) → m ≤ n → Ascending n xs → Ascending m xs
ascending_lower m n [] l a = tt
ascending_lower m n (x ∷ xs) l a = (omega (arith, a.0), a.1)

pub ascending_insert : (n x : ℕ) (ys : List ℕ) → n ≤ x → Ascending n ys → Ascending n (insert x ys)
ascending_insert n x [] l a = (l, tt)
ascending_insert n x (y ∷ ys) l a = grind (arith, nat_tests, a, ascending_insert (suc y) x ys)

pub ascending_merge : (n : ℕ) (xs ys : List ℕ) → Ascending n xs → Ascending n ys → Ascending n (merge xs ys)
ascending_merge n [] ys a b = b
ascending_merge n (x ∷ xs) ys a b = ascending_insert n x (merge xs ys) a.0 (ascending_merge n xs ys (ascending_lower n (suc x) xs (omega (arith, a.0)) a.1) b)

pub ascending_without : (n x : ℕ) (ys : List ℕ) → Ascending n ys → Ascending n (without x ys)
ascending_without n x [] a = tt
ascending_without n x (y ∷ ys) a = grind (arith, nat_tests, a, ascending_without (suc y) x ys a.1, ascending_lower n (suc y))

-- a name stands at most once in an ascending list
without_above : (n x : ℕ) (ys : List ℕ) → x < n → Ascending n ys → without x ys ≡ ys
without_above n x [] l a = refl
without_above n x (y ∷ ys) l a = grind (arith, nat_tests, a, without_above (suc y) x ys)

pub without_most : (n x : ℕ) (ys : List ℕ) → Ascending n ys → length ys ≤ suc (length (without x ys))
without_most n x [] a = omega arith
without_most n x (y ∷ ys) a =
    cond_both (eqb x y) (without x ys) (y ∷ without x ys) (λ l. suc (length ys) ≤ suc (length l))
    (λ e. omega (arith, ap length (without_above (suc y) x ys (omega (arith, eqb-true x y e)) a.1)))
    (λ _. omega (arith, without_most (suc y) x ys a.1))

pub without_shorter : (x : ℕ) (ys : List ℕ) → length (without x ys) ≤ length ys
without_shorter x [] = omega arith
without_shorter x (y ∷ ys) = grind (arith, nat_tests, without_shorter x ys)

-- a name below a list goes to its front
insert_below : (x n : ℕ) (ys : List ℕ) → x < n → Ascending n ys → insert x ys ≡ x ∷ ys
insert_below x n [] l a = refl
insert_below x n (y ∷ ys) l a = grind (arith, nat_tests, a)

pub merge_none : (n : ℕ) (xs : List ℕ) → Ascending n xs → merge xs [] ≡ xs
merge_none n [] a = refl
merge_none n (x ∷ xs) a = ap (insert x) (merge_none (suc x) xs a.1) ∙ insert_below x (suc x) xs (omega arith) a.1

-- the least of two ascending lists comes first when they are merged
pub merge_less : (n x y : ℕ) (xs ys : List ℕ) → x < y → Ascending (suc x) xs → Ascending n (y ∷ ys) → merge (x ∷ xs) (y ∷ ys) ≡ x ∷ merge xs (y ∷ ys)
merge_less n x y xs ys l a b = insert_below x (suc x) (merge xs (y ∷ ys)) (omega arith) (ascending_merge (suc x) xs (y ∷ ys) a (l, b.1))

pub merge_more : (y : ℕ) (xs ys : List ℕ) → Ascending (suc y) xs → merge xs (y ∷ ys) ≡ y ∷ merge xs ys
merge_more y [] ys a = refl
merge_more y (x ∷ xs) ys a =
    ap (insert x) (merge_more y xs ys (ascending_lower (suc y) (suc x) xs (omega (arith, a.0)) a.1)) ∙ grind (arith, nat_tests, a.0)

pub merge_same : (x : ℕ) (xs ys : List ℕ) → Ascending (suc x) xs → merge (x ∷ xs) (x ∷ ys) ≡ x ∷ merge xs ys
merge_same x xs ys a = ap (insert x) (merge_more x xs ys a) ∙ grind (arith, nat_tests)
