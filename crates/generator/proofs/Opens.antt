-- Which names are open, in the table and in the state read from it.
use Rattle.std.proofs.Common.{◌≡◌, ℕ, suc, ◌+◌, ◌<◌, Bool, true, false, cond, not, eqb, List, [], ◌∷◌, ◌++◌, map, reverse, length, get_or, is_some, Some, None, Option, sym, refl, ap, ◌∙◌, arith}
use Rattle.std.specs.List.{count_by}
use Rattle.std.proofs.lemmas.List.Recursion.{is_count_by}
use mathlib.Core.List.{reverse-cons}
use Rattle.std.proofs.lemmas.Bool.{eq-eqb, ne_eqb, cond-true, cond-false}
use Rattle.store.specs.Meaning.{Codes}
use Rattle.store.specs.Search.{First, NoneBefore}
use Rattle.generator.specs.declared.binder.Binder.{Binder as Opened}
use Rattle.generator.specs.declared.binder.Binding.{Binding}
use Rattle.generator.specs.declared.binder.Binding.TheVariants.{Parameter, Bound}
use Rattle.generator.specs.Binders.{SameSerial}
use Rattle.model.specs.Model.{Binder, serial, is_open, escaping}
use Rattle.generator.specs.Reads.{read_binder, read_binding}

-- whether one of the records has the serial
abbrev has : List Opened → ℕ → Bool
has [] s = false
has (x ∷ xs) s = cond (eqb x.serial s) true (has xs s)

-- the serial is not changed by reading
serial_read : (code : Codes) (s : ℕ) (b : Binding) → serial (read_binding code s b) ≡ s
serial_read code s (Parameter p) = refl
serial_read code s (Bound e) = refl

-- binders looked through one list after the other
open_append : (ps bs : List Binder) (s : ℕ) → is_open (ps ++ bs) s ≡ cond (is_open ps s) true (is_open bs s)
open_append [] bs s = refl
open_append (a ∷ ps) bs s = go (eqb (serial a) s) (open_append ps bs s)
  where
    go : (b : Bool) → is_open (ps ++ bs) s ≡ cond (is_open ps s) true (is_open bs s) → cond b true (is_open (ps ++ bs) s) ≡ cond (cond b true (is_open ps s)) true (is_open bs s)
    go true h = refl
    go false h = h

swap : (a b : Bool) → cond a true b ≡ cond b true a
swap true true = refl
swap true false = refl
swap false true = refl
swap false false = refl

flat_one : (b : Bool) → cond b true false ≡ b
flat_one true = refl
flat_one false = refl

-- the order in which they are looked through does not matter
open_has : (code : Codes) (xs : List Opened) (s : ℕ) → is_open (reverse (map (read_binder code) xs)) s ≡ has xs s
open_has code [] s = refl
open_has code (x ∷ xs) s =
    ap (λ (bs : List Binder). is_open bs s) (reverse-cons (read_binder code x) (map (read_binder code) xs))
    ∙ open_append (reverse (map (read_binder code) xs)) (read_binder code x ∷ []) s
    ∙ (λ i. cond (open_has code xs s i) true (cond (eqb (serial_read code x.serial x.binding i) s) true false))
    ∙ ap (λ (b : Bool). cond (has xs s) true b) (flat_one (eqb x.serial s))
    ∙ swap (has xs s) (eqb x.serial s)

has_none : (w : Opened) (xs : List Opened) → NoneBefore SameSerial w xs (length xs) → has xs w.serial ≡ false
has_none w [] none = refl
has_none w (x ∷ xs) none =
    cond-false (eqb x.serial w.serial) true (has xs w.serial) (ne_eqb x.serial w.serial (none 0 w (omega arith)))
    ∙ has_none w xs (λ k d lt. none (suc k) d (omega arith))

has_some : (w : Opened) (xs : List Opened) (i : ℕ) → i < length xs → ((d : Opened) → SameSerial (get_or xs i d) w) → has xs w.serial ≡ true
has_some w [] i lt same = absurd (omega arith)
has_some w (x ∷ xs) ℕ.zero lt same = cond-true (eqb x.serial w.serial) true (has xs w.serial) (eq-eqb x.serial w.serial (same w))
has_some w (x ∷ xs) (suc i) lt same = ap (λ (b : Bool). cond (eqb x.serial w.serial) true b) (has_some w xs i (omega arith) same) ∙ either (eqb x.serial w.serial)
  where
    either : (b : Bool) → cond b true true ≡ true
    either true = refl
    either false = refl

-- what the search tells is whether the serial is open
pub search_tells : (code : Codes) (w : Opened) (xs : List Opened) (o : Option ℕ) → First SameSerial w xs o → is_some o ≡ is_open (reverse (map (read_binder code) xs)) w.serial
search_tells code w xs None none = sym (open_has code xs w.serial ∙ has_none w xs none)
search_tells code w xs (Some i) found = sym (open_has code xs w.serial ∙ has_some w xs i found.0 found.1)

-- the names that are not open, counted
pub length-escaping : (bs : List Binder) (xs : List ℕ) → length (escaping bs xs) ≡ count_by (λ s. not (is_open bs s)) xs
length-escaping bs xs = is_count_by (λ ys. length (escaping bs ys)) (λ s. not (is_open bs s)) refl (λ y ys. one_more (is_open bs y) y (escaping bs ys)) xs
  where
    one_more : (b : Bool) (y : ℕ) (ys : List ℕ) → length (cond b ys (y ∷ ys)) ≡ cond (not b) (1 + length ys) (length ys)
    one_more true y ys = refl
    one_more false y ys = omega arith
