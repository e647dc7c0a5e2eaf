-- Members of lists.
use Rattle.std.specs.Prelude.{List, ◌∷◌, ◌≢◌}

-- x stands in the list
pub data In {A : Type 0} (x : A) : List A → Type 0 where
  first : {xs : List A} → In x (x ∷ xs)
  later : {y : A} {xs : List A} → In x xs → In x (y ∷ xs)

-- each of the first list stands in the second
abbrev pub Among : {A : Type 0} → List A → List A → Type 0
Among {A} xs ys = (x : A) → In x xs → In x ys

-- of the pairs in the list the first with key k has the value v
pub data Nearest {K V : Type 0} (k : K) (v : V) : List (K × V) → Type 0 where
  here : {rest : List (K × V)} → Nearest k v ((k, v) ∷ rest)
  past : {other : K} {w : V} {rest : List (K × V)} → (other ≢ k) → Nearest k v rest → Nearest k v ((other, w) ∷ rest)
