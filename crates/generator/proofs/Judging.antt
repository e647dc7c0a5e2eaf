-- Judgements one after another, and the cells of the state read from a table.
use Rattle.std.proofs.Common.{if◌then◌else◌, ◌⊎◌, inl, inr, ◌≡◌, ℕ, suc, ◌<◌, Bool, true, false, ltb, List, [], ◌∷◌, map, length, get_or, slice_index, Some, None, Ok, Err, Option, Result, refl, sym, ap, ◌∙◌, arith}
use Rattle.std.proofs.Math.ListN.{get_or-map}
use Rattle.std.specs.List.{AllZip, IsAmong}
use Rattle.store.specs.Meaning.{Codes}
use Rattle.generator.specs.declared.cell.Piece.{Piece as Held}
use Rattle.generator.specs.declared.fault.GeneratorFault.{GeneratorFault}
use Rattle.generator.specs.declared.fault.GeneratorFault.TheVariants.{BadArgument}
use Rattle.generator.specs.declared.table.Table.{Table}
use Rattle.model.specs.Model.{State, Piece, Fault, plain, bad_argument, empty_cell, judge, full, cell}
use Rattle.generator.specs.Reads.{read, read_cell, read_piece, read_fault, read_result}
use Rattle.generator.specs.Reading.{and_then, slot_of, empty, held, held_at, held_in, each_of, judge_each, may_use_each, used}

-- a cell of the state is the table's, read
pub cell_read : (code : Codes) (t : Table) (i : ℕ) → cell (read code t) i ≡ read_cell code (get_or t.cells i empty)
cell_read code t i = get_or-map (read_cell code) t.cells i empty

-- what is read of a cell is what the state has there
held_read : (code : Codes) (t : Table) (i : ℕ) → held_in (read code t) i ≡ read_result (read_piece code) (held (get_or t.cells i empty))
held_read code t i = ap (λ (o : Option Piece). full o Ok) (cell_read code t i) ∙ go (get_or t.cells i empty).content
  where
    go : (o : Option Held) → full (read_cell code (record { content = o })) Ok ≡ read_result (read_piece code) (held (record { content = o }))
    go None = refl
    go (Some p) = refl

-- a cell's number is judged, and then the cell
pub held_at_read : (code : Codes) (t : Table) (a : ℕ) → read_result (read_piece code) (held_at t a) ≡ and_then (slot_of a) (held_in (read code t))
held_at_read code t a = go (ltb a 16)
  where
    go : (b : Bool) → read_result (read_piece code) (if b then held (get_or t.cells a empty) else Err BadArgument) ≡ and_then (judge b bad_argument (Ok a)) (held_in (read code t))
    go true = sym (held_read code t a)
    go false = refl

module _ {A B : Type 0} (judged : A → Result B Fault) where
  -- one is refused, and all refusals are alike
  each_stops : (f : Fault) → ((x : A) (g : Fault) → judged x ≡ Err g → g ≡ f) → (xs : List A) (x : A) (g : Fault) → IsAmong xs x → judged x ≡ Err g → each_of judged xs ≡ Err f
  each_stops f alike [] x g (i, at) e = let past : i < 0 = at.0 in absurd (omega arith)
  each_stops f alike (y ∷ ys) x g among e = go (judged y) refl λ b q. each_stops f alike ys x g (later b q among) e
    where
      later : (b : B) → judged y ≡ Ok b → IsAmong (y ∷ ys) x → IsAmong ys x
      later b q (ℕ.zero, at) = let same : judged x ≡ judged y = ap judged at.1 in let clash : ◌≡◌ {A = Result B Fault} (Err g) (Ok b) = sym e ∙ same ∙ q in absurd cc
      later b q (suc i, at) = (i, (omega arith, at.1))

      go : (r : Result B Fault) → judged y ≡ r → ((b : B) → judged y ≡ Ok b → each_of judged ys ≡ Err f) → each_of judged (y ∷ ys) ≡ Err f
      go (Err h) q rest = rw q (ap Err (alike y h q))
      go (Ok b) q rest = let stops = rest b q in rw (q, stops) refl

cells_alike : (st : State) (a : ℕ) (g : Fault) → held_in st a ≡ Err g → g ≡ plain empty_cell
cells_alike st a g = go (cell st a)
  where
    go : (o : Option Piece) → full o Ok ≡ Err g → g ≡ plain empty_cell
    go None e = cc
    go (Some x) e = absurd cc

-- where each number passes, so does each that is among them
slot_passes : (cells : List ℕ) (a : ℕ) → judge_each slot_of cells ≡ Ok tt → IsAmong cells a → slot_of a ≡ Ok a
slot_passes [] a e (i, at) = let past : i < 0 = at.0 in absurd (omega arith)
slot_passes (b ∷ cells) a e (i, at) = go i at (ltb b 16) refl e (slot_passes cells a)
  where
    go : (i : ℕ) → (i < suc (length cells)) × (a ≡ get_or (b ∷ cells) i a) → (q : Bool) → ltb b 16 ≡ q → and_then (judge q bad_argument (Ok b)) (λ _. judge_each slot_of cells) ≡ Ok tt
        → (judge_each slot_of cells ≡ Ok tt → IsAmong cells a → slot_of a ≡ Ok a) → slot_of a ≡ Ok a
    go i at false q e later = absurd cc
    go ℕ.zero at true q e later = ap slot_of at.1 ∙ ap (λ (b' : Bool). judge b' bad_argument (Ok b)) q ∙ ap Ok (sym at.1)
    go (suc i) at true q e later = later e (i, (omega arith, at.1))

-- every number is lawful, and a cell is refused
pub used-empty : (code : Codes) (t : Table) (cells : List ℕ) (a : ℕ) (f : GeneratorFault) → judge_each slot_of cells ≡ Ok tt → IsAmong cells a → held_at t a ≡ Err f → used (read code t) cells ≡ Err (read_fault f)
used-empty code t cells a f slots among e =
    let lawful : slot_of a ≡ Ok a = slot_passes cells a slots among in
    let judged : and_then (slot_of a) (held_in (read code t)) ≡ Err (read_fault f) = sym (held_at_read code t a) ∙ ap (read_result (read_piece code)) e in
    let empties : held_in (read code t) a ≡ Err (read_fault f) = sym (ap (λ (r : Result ℕ Fault). and_then r (held_in (read code t))) lawful) ∙ judged in
    let stops = each_stops (held_in (read code t)) (plain empty_cell) (cells_alike (read code t)) cells a (read_fault f) among empties in
    rw (slots, stops) (ap Err (sym (cells_alike (read code t) a (read_fault f) empties)))

-- each cell holds its piece
pub used-held : (code : Codes) (t : Table) (cells : List ℕ) (pieces : List Held)
    → AllZip (λ a p. held_at t a ≡ Ok p) cells pieces
    → used (read code t) cells ≡ and_then (may_use_each (read code t) cells (map (read_piece code) pieces)) λ _. Ok (map (read_piece code) pieces)
used-held code t cells pieces held = let both = each_held cells pieces held in rw (both.0, both.1) refl
  where
    one_held : (a : ℕ) (p : Held) → held_at t a ≡ Ok p → (slot_of a ≡ Ok a) × (held_in (read code t) a ≡ Ok (read_piece code p))
    one_held a p e = go (ltb a 16) (sym (held_at_read code t a) ∙ ap (read_result (read_piece code)) e)
      where
        go : (b : Bool) → and_then (judge b bad_argument (Ok a)) (held_in (read code t)) ≡ Ok (read_piece code p) → (judge b bad_argument (Ok a) ≡ Ok a) × (held_in (read code t) a ≡ Ok (read_piece code p))
        go true h = (refl, h)
        go false h = absurd cc

    each_held : (cells : List ℕ) (pieces : List Held) → AllZip (λ a p. held_at t a ≡ Ok p) cells pieces → (judge_each slot_of cells ≡ Ok tt) × (each_of (held_in (read code t)) cells ≡ Ok (map (read_piece code) pieces))
    each_held [] [] h = (refl, refl)
    each_held [] (p ∷ ps) h = absurd h
    each_held (a ∷ rest) [] h = absurd h
    each_held (a ∷ rest) (p ∷ ps) h =
        let one = one_held a p h.0 in
        let later = each_held rest ps h.1 in
        (rw (one.0, later.0) refl, rw (one.1, later.1) refl)

-- what holds at each place, as a fact of the lists
pub all_zip : {B : Type 0} (R : ℕ → B → Type 0) (xs : List ℕ) (ys : List B) → length xs ≡ length ys → ((k : ℕ) (d : B) → k < length xs → R (slice_index xs k) (get_or ys k d)) → AllZip R xs ys
all_zip R [] [] same h = tt
all_zip R [] (y ∷ ys) same h = absurd (omega arith)
all_zip R (x ∷ xs) [] same h = absurd (omega arith)
all_zip R (x ∷ xs) (y ∷ ys) same h = (h 0 y (omega arith), all_zip R xs ys (omega arith) λ k d lt. h (suc k) d (omega arith))

-- where no code is left, none may not be used
pub may_use_each-none : (st : State) (cells : List ℕ) (code : Codes) (pieces : List Held) → (cells ≡ []) ⊎ (pieces ≡ []) → may_use_each st cells (map (read_piece code) pieces) ≡ Ok tt
may_use_each-none st [] code pieces none = refl
may_use_each-none st (a ∷ cells) code [] none = refl
may_use_each-none st (a ∷ cells) code (p ∷ pieces) (inl e) = absurd cc
may_use_each-none st (a ∷ cells) code (p ∷ pieces) (inr e) = absurd cc
