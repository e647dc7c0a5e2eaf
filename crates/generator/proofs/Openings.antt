-- The open binders and marks of a table, the latest first.
use Rattle.std.proofs.Common.{◌≡◌, ℕ, ◌+◌, ◌-◌, ◌<◌, Bool, true, false, leb, List, [], ◌∷◌, ◌++◌, map, reverse, length, slice_get, take, All, Some, sym, refl, ap, ◌∙◌, subst, arith}
use Rattle.std.proofs.lemmas.List.{length-map, length-reverse, length-take-le, map_push, reverse-append, take_all, take_more}
use Rattle.std.proofs.lemmas.Option.{get_or_from_slice_get, slice_get_within}
use Rattle.store.specs.Meaning.{Codes}
use Rattle.generator.specs.declared.binder.Binder.{Binder as Opened}
use Rattle.generator.specs.declared.table.Table.{Table}
use Rattle.model.specs.Model.{State, Piece, Binder, Plan, Fault, no_binder, judge, stated, closed_with, close_latest}
use Rattle.model.specs.Model
use Rattle.generator.specs.Reads.{read_binder, read_binders}
use Rattle.generator.specs.Reading.{and_then}
use Rattle.generator.specs.Latest.{one_of, latest_in, latest_of}

-- one more at the end is first in reverse
pub latest_first : {A B : Type 0} (f : A → B) (xs : List A) (x : A) → reverse (map f (xs ++ (x ∷ []))) ≡ f x ∷ reverse (map f xs)
latest_first f xs x = ap reverse (map_push f xs x) ∙ reverse-append (map f xs) (f x ∷ [])

length_open : (t : Table) → length (take t.depth t.binders) ≡ t.depth
length_open t = length-take-le t.depth t.binders t.within

pub length_binders : (code : Codes) (t : Table) → length (read_binders code t) ≡ t.depth
length_binders code t = length-reverse (map (read_binder code) (take t.depth t.binders)) ∙ length-map (take t.depth t.binders) (read_binder code) ∙ length_open t

-- all but the last, and the last
last_apart : {A : Type 0} (xs : List A) (x : A) → slice_get xs (length xs - 1) ≡ Some x → xs ≡ take (length xs - 1) xs ++ (x ∷ [])
last_apart xs x e =
    let some : length xs - 1 < length xs = slice_get_within xs (length xs - 1) x e in
    sym (take_all (length xs - 1 + 1) xs (omega arith)) ∙ take_more xs (length xs - 1) x some ∙ ap (λ y. take (length xs - 1) xs ++ (y ∷ [])) (get_or_from_slice_get xs (length xs - 1) x x e)

-- the binders of a table with one open at least
pub table_latest : (code : Codes) (t : Table) (b : Opened) → slice_get (take t.depth t.binders) (t.depth - 1) ≡ Some b
    → read_binders code t ≡ read_binder code b ∷ reverse (map (read_binder code) (take (t.depth - 1) (take t.depth t.binders)))
table_latest code t b e =
    let bs = take t.depth t.binders in
    let last : slice_get bs (length bs - 1) ≡ Some b = subst (λ (n : ℕ). slice_get bs (n - 1) ≡ Some b) (sym (length_open t)) e in
    let apart : bs ≡ take (t.depth - 1) bs ++ (b ∷ []) = last_apart bs b last ∙ ap (λ (n : ℕ). take (n - 1) bs ++ (b ∷ [])) (length_open t) in
    ap (λ l. reverse (map (read_binder code) l)) apart ∙ latest_first (read_binder code) (take (t.depth - 1) bs) b

-- the latest mark
pub marks_latest : (ms : List ℕ) (m : ℕ) → slice_get ms (length ms - 1) ≡ Some m → reverse ms ≡ m ∷ reverse (take (length ms - 1) ms)
marks_latest ms m e = ap reverse (last_apart ms m e) ∙ reverse-append (take (length ms - 1) ms) (m ∷ [])

-- what holds of each holds of the last
pub each_latest : (P : Opened → Type 0) (bs : List Opened) (b : Opened) → slice_get bs (length bs - 1) ≡ Some b → All P bs → P b
each_latest P bs b e all = subst P (get_or_from_slice_get bs (length bs - 1) b b e) (all (length bs - 1) b (slice_get_within bs (length bs - 1) b e))

-- a closing is judged by the latest binder, and then by what it closes
pub close_then : (st : State) (c : ℕ) (x : Piece) → close_latest stated st c x st.open_binders ≡ and_then (latest_of st) λ p. closed_with stated st c x p.0 p.1
close_then st c x = go st.open_binders
  where
    judged : (b : Binder) (rest : List Binder) (q : Bool) → judge q no_binder (closed_with stated st c x b rest) ≡ and_then (one_of q b rest) λ p. closed_with stated st c x p.0 p.1
    judged b rest true = refl
    judged b rest false = refl

    go : (bs : List Binder) → close_latest stated st c x bs ≡ and_then (latest_in st.marks bs) λ p. closed_with stated st c x p.0 p.1
    go [] = refl
    go (b ∷ rest) = judged b rest (leb (Model.floor st.marks) (length rest))
