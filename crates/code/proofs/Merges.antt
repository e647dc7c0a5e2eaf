-- The steps of a merge and of a removal, at the front of ascending lists.
use Rattle.std.proofs.Common.{◌≡◌, ℕ, suc, ◌+◌, ◌<◌, List, ◌∷◌, length, get_or, drop, sym, ap, ◌∙◌, subst, arith}
use Rattle.std.proofs.lemmas.Bool.Decides.{nat_tests}
use Rattle.std.proofs.lemmas.List.{drop_more, nil_from_length}
use Rattle.code.specs.Names.{merge, without, Ascending, BeginsWith}
use Rattle.code.proofs.NameLists.{ascending_lower, merge_none, merge_less, merge_more, merge_same}

module _ {a xs : List ℕ} {x : ℕ} (first : a ≡ x ∷ xs) (up_a : Ascending 0 a) where
  -- what follows the first is above it
  above : Ascending (suc x) xs
  above = (subst (Ascending 0) first up_a).1

  up_rest : Ascending 0 xs
  up_rest = ascending_lower 0 (suc x) xs (omega arith) above

-- the right list is empty, or the left one is
pub left_alone : {a b xs : List ℕ} {x : ℕ} → a ≡ x ∷ xs → Ascending 0 a → length b ≡ 0 → BeginsWith a b x xs b
left_alone {a} {b} {xs} {x} ea up_a none =
    let eb = nil_from_length b none in
    record {
      merged =
          ap (merge a) eb ∙ merge_none 0 a up_a ∙ ea
          ∙ ap (λ (ys : List ℕ). x ∷ ys) (sym (ap (merge xs) eb ∙ merge_none 0 xs (up_rest ea up_a)));
      left_up = up_rest ea up_a;
      right_up = rw eb tt;
    }

pub right_alone : {a b ys : List ℕ} {y : ℕ} → b ≡ y ∷ ys → Ascending 0 b → length a ≡ 0 → BeginsWith a b y a ys
right_alone {a} {b} {ys} {y} eb up_b none =
    let ea = nil_from_length a none in
    record {
      merged = rw ea eb;
      left_up = rw ea tt;
      right_up = up_rest eb up_b;
    }

module _ {a b xs ys : List ℕ} {x y : ℕ} (ea : a ≡ x ∷ xs) (eb : b ≡ y ∷ ys) (up_a : Ascending 0 a) (up_b : Ascending 0 b) where
  -- the left list has the lower serial, or the right one, or they begin with the same
  pub left_first : x < y → BeginsWith a b x xs b
  left_first lt =
      record {
        merged = rw (ea, eb) (merge_less 0 x y xs ys lt (above ea up_a) (subst (Ascending 0) eb up_b));
        left_up = up_rest ea up_a;
        right_up = up_b;
      }

  pub right_first : y < x → BeginsWith a b y a ys
  right_first lt =
      record {
        merged = rw (ea, eb) (merge_more y (x ∷ xs) ys (lt, above ea up_a));
        left_up = up_a;
        right_up = up_rest eb up_b;
      }

  pub both_first : x ≡ y → BeginsWith a b x xs ys
  both_first same =
      record {
        merged = rw (ea, eb, ← same) (merge_same x xs ys (above ea up_a));
        left_up = up_rest ea up_a;
        right_up = up_rest eb up_b;
      }

-- a name that stays
pub step_stays : (s : ℕ) (xs : List ℕ) (i : ℕ) → i < length xs → (get_or xs i 0 ≡ s → ⊥) → without s (drop i xs) ≡ get_or xs i 0 ∷ without s (drop (i + 1) xs)
step_stays s xs i lt other = rw (drop_more xs i 0 lt) (grind (arith, nat_tests))

-- the name that goes
pub step_goes : (s : ℕ) (xs : List ℕ) (i : ℕ) → i < length xs → get_or xs i 0 ≡ s → without s (drop i xs) ≡ without s (drop (i + 1) xs)
step_goes s xs i lt same = rw (drop_more xs i 0 lt) (grind (arith, nat_tests))
