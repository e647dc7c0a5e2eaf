-- Plans of the table that are the definition's.
use Rattle.std.proofs.Common.{if◌then◌else◌, ◌≡◌, ℕ, suc, ◌≤◌, Bool, true, false, cond, eqb, ltb, List, [], ◌∷◌, length, get_or, take, ok_or, All, IsErrAnd, Some, None, Ok, Err, Option, Result, sym, ap, ◌∙◌, subst, arith}
use Rattle.std.proofs.lemmas.List.{take_all}
use Rattle.std.proofs.lemmas.Bool.{cond_both}
use Rattle.std.proofs.lemmas.Result.{err_from_is_err_and}
use Rattle.code.specs.declared.types.Ty.{Ty}
use Rattle.code.specs.declared.operator.UnknownNumber.{UnknownNumber}
use Rattle.code.specs.Code.{Code}
use Rattle.code.specs.Names.{insert, merge}
use Rattle.code.specs.Serials.{names}
use Rattle.store.specs.Meaning.{Codes, meant, over2, over3}
use Rattle.generator.specs.declared.cell.Cell.{Cell}
use Rattle.generator.specs.declared.cell.Piece.{Piece as Held}
use Rattle.generator.specs.declared.fault.GeneratorFault.{GeneratorFault}
use Rattle.generator.specs.declared.fault.GeneratorFault.TheVariants.{BadArgument}
use Rattle.generator.specs.declared.plan.Plan.{Plan as Sketch}
use Rattle.generator.specs.declared.plan.Scope.{Scope}
use Rattle.generator.specs.declared.plan.Scope.TheVariants.{Kept}
use Rattle.generator.specs.declared.table.Table.{Table}
use Rattle.model.specs.declared.call.Call.{Call}
use Rattle.model.specs.Model.{Piece, Plan, Fault, bad_argument, judge, lawful, into, stated}
use Rattle.model.specs.Calls.{makes, sheet, deed}
use Rattle.model.proofs.Sound.{SoundDeed, Made, sound_deed, grown_sound}
use Rattle.generator.specs.Reads.{known_code, read, read_piece, read_fault}
use Rattle.generator.specs.Reading.{empty, held, held_at, used, PiecesOf}
use Rattle.generator.specs.Standing.{CellKnown, StandsForSome, Stands}
use Rattle.generator.specs.Plans.{RoomFor}
use Rattle.generator.specs.Planning.{made_piece, plan_of, ScopeKnown, Sketched, Planned}

-- a refusal passed on is the definition's
pub stopped : (code : Codes) (t : Table) {plan : Result Plan Fault} (r : Result Sketch GeneratorFault) (f : GeneratorFault) → IsErrAnd r (λ e. e ≡ f) → plan ≡ Err (read_fault f) → Planned code t plan r
stopped code t {plan} r f e stops = let p = err_from_is_err_and r e in subst (Planned code t plan) (sym (p.1 ∙ ap Err p.2)) stops

-- what is lawful is planned as what follows
pub judged_lawful : (code : Codes) (t : Table) (plan : Result Plan Fault) (r : Result Sketch GeneratorFault) {b : Bool} → b ≡ true → Planned code t plan r → Planned code t (judge b bad_argument plan) r
judged_lawful code t plan r e = subst (λ (b : Bool). Planned code t (judge b bad_argument plan) r) (sym e)

-- a number that stands for something is lawful
pub lawful-read : {A : Type 0} (o : Option A) (e : UnknownNumber) (x : A) → Ok x ≡ ok_or o e → lawful o Ok ≡ Ok x
lawful-read None e x h = absurd cc
lawful-read (Some y) e x h = let same : x ≡ y = cc in ap Ok (sym same)

-- what was read of two cells, of three
pub two_read : (t : Table) (a b : ℕ) (ps : List Held) (d e : Held) → PiecesOf t (a ∷ b ∷ []) ps
    → ((code : Codes) → used (read code t) (a ∷ b ∷ []) ≡ Ok (read_piece code (get_or ps 0 d) ∷ read_piece code (get_or ps 1 e) ∷ [])) × (held_at t a ≡ Ok (get_or ps 0 d)) × (held_at t b ≡ Ok (get_or ps 1 e))
two_read t a b [] d e h = absurd h.held_there
two_read t a b (x ∷ []) d e h = absurd h.held_there.1
two_read t a b (x ∷ y ∷ []) d e h = (h.used_pieces, h.held_there.0, h.held_there.1.0)
two_read t a b (x ∷ y ∷ z ∷ ps) d e h = absurd h.held_there.1.1

pub three_read : (t : Table) (a b c : ℕ) (ps : List Held) (d e f : Held) → PiecesOf t (a ∷ b ∷ c ∷ []) ps
    → ((code : Codes) → used (read code t) (a ∷ b ∷ c ∷ []) ≡ Ok (read_piece code (get_or ps 0 d) ∷ read_piece code (get_or ps 1 e) ∷ read_piece code (get_or ps 2 f) ∷ []))
    × (held_at t a ≡ Ok (get_or ps 0 d)) × (held_at t b ≡ Ok (get_or ps 1 e)) × (held_at t c ≡ Ok (get_or ps 2 f))
three_read t a b c [] d e f h = absurd h.held_there
three_read t a b c (x ∷ []) d e f h = absurd h.held_there.1
three_read t a b c (x ∷ y ∷ []) d e f h = absurd h.held_there.1.1
three_read t a b c (x ∷ y ∷ z ∷ []) d e f h = (h.used_pieces, h.held_there.0, h.held_there.1.0, h.held_there.1.1.0)
three_read t a b c (x ∷ y ∷ z ∷ w ∷ ps) d e f h = absurd h.held_there.1.1.1

known_at : (code : Codes) (cells : List Cell) (a : ℕ) (p : Held) → All (CellKnown code) cells → held (get_or cells a empty) ≡ Ok p → StandsForSome code p.handle
known_at code [] a p all e = absurd cc
known_at code (c ∷ cells) ℕ.zero p all e = go c.content e (all 0 c (omega arith))
  where
    go : (o : Option Held) → held (record { content = o }) ≡ Ok p → CellKnown code (record { content = o }) → StandsForSome code p.handle
    go None e known = absurd cc
    go (Some q) e known = let same : q ≡ p = cc in subst (λ (p : Held). StandsForSome code p.handle) same known
known_at code (c ∷ cells) (suc a) p all e = known_at code cells a p (λ k d lt. all (suc k) d (omega arith)) e

-- the handle in a full cell is known
pub cell_known : (code : Codes) (t : Table) (a : ℕ) (p : Held) → Stands code t → held_at t a ≡ Ok p → StandsForSome code p.handle
cell_known code t a p h = go (ltb a 16)
  where
    go : (b : Bool) → (if b then held (get_or t.cells a empty) else Err BadArgument) ≡ Ok p → StandsForSome code p.handle
    go true e = known_at code t.cells a p h.known.cells e
    go false e = absurd cc

-- a call that makes a code in a state that stands makes a good piece
pub made_good : (code : Codes) (t : Table) (c : Call) (m : Plan) → Stands code t → deed stated (sheet [] 0) (read code t) c ≡ makes (Ok m) → Made m
made_good code t c m h e = subst SoundDeed e (sound_deed (sheet [] 0) (read code t) c (grown_sound h.grown))

insert_longer : (x : ℕ) (ys : List ℕ) → length ys ≤ length (insert x ys)
insert_longer x [] = omega arith
insert_longer x (y ∷ ys) =
    cond_both (ltb x y) (x ∷ y ∷ ys) (cond (eqb x y) (y ∷ ys) (y ∷ insert x ys)) (λ (l : List ℕ). length (y ∷ ys) ≤ length l) (λ _. omega arith)
    (λ _. cond_both (eqb x y) (y ∷ ys) (y ∷ insert x ys) (λ (l : List ℕ). length (y ∷ ys) ≤ length l) (λ _. omega arith) (λ _. omega (arith, insert_longer x ys)))

pub merge_longer : (xs ys : List ℕ) → length ys ≤ length (merge xs ys)
merge_longer [] ys = omega arith
merge_longer (x ∷ xs) ys = omega (arith, merge_longer xs ys, insert_longer x (merge xs ys))

-- nothing is cut off where there are few names
pub merged : (ns xs ys : List ℕ) → ns ≡ take 16 (merge xs ys) → length (merge xs ys) ≤ 16 → ns ≡ merge xs ys
merged ns xs ys e few = e ∙ take_all 16 (merge xs ys) few

-- a known code is what the handle stands for
pub known_is : {o : Option Code} {c : Code} → o ≡ Some c → known_code o ≡ c
known_is e = ap known_code e

piece_is : {c d : Code} {t u : Ty} {m n : ℕ} {xs ys : List ℕ} → c ≡ d → t ≡ u → m ≡ n → xs ≡ ys → ◌≡◌ {A = Piece} (record { code = c; type = t; size = m; names = xs }) (record { code = d; type = u; size = n; names = ys })
piece_is p q r s = λ i. record { code = p i; type = q i; size = r i; names = s i }

-- a plan that makes a piece and leaves the binders as they are
pub kept_sketched :
    {code : Codes} {t : Table} {plan : Result Plan Fault} {p : Sketch} (to : ℕ) (piece : Piece)
    → plan ≡ into (read code t) to piece → p.to.at ≡ to → p.scope ≡ Kept → meant code p.construct ≡ Some piece.code → p.ty ≡ piece.type → p.size ≡ piece.size → names p.names ≡ piece.names
    → Sketched code t plan p
kept_sketched {code} {t} {plan} {p} to piece e a k m y s n = record {
  granted = e ∙ (λ i. Ok (plan_of code t (sym a i) (is i) (sym k i)));
  code_made = piece.code;
  meant_as = m;
  scope_known = subst (λ (x : Scope). ScopeKnown code x) (sym k) tt;
  room = subst (λ (x : Scope). RoomFor t x) (sym k) tt;
}
  where
    is : piece ≡ made_piece code p
    is = piece_is (sym (known_is m)) (sym y) (sym s) (sym n)

-- what a construct over known parts means
pub meant_two : {a b : Option Code} (k : Code → Code → Code) → ((x : Code) × (a ≡ Some x)) → ((y : Code) × (b ≡ Some y)) → over2 a b k ≡ Some (k (known_code a) (known_code b))
meant_two {a} {b} k (x, p) (y, q) = (λ i. over2 (p i) (q i) k) ∙ sym (λ i. Some (k (known_is p i) (known_is q i)))

pub meant_three : {a b d : Option Code} (k : Code → Code → Code → Code) → ((x : Code) × (a ≡ Some x)) → ((y : Code) × (b ≡ Some y)) → ((z : Code) × (d ≡ Some z)) → over3 a b d k ≡ Some (k (known_code a) (known_code b) (known_code d))
meant_three {a} {b} {d} k (x, p) (y, q) (z, r) = (λ i. over3 (p i) (q i) (r i) k) ∙ sym (λ i. Some (k (known_is p i) (known_is q i) (known_is r i)))

pub few_tail : (xs ys zs : List ℕ) → length (merge xs (merge ys zs)) ≤ 16 → length (merge ys zs) ≤ 16
few_tail xs ys zs few = omega (arith, merge_longer xs (merge ys zs))
