-- The definition's plans, as judgements one after another in the order of the code.
use Rattle.std.proofs.Common.{◌≡◌, ℕ, ◌+◌, Bool, true, false, ◌&&◌, eqb, ltb, leb, List, [], ◌∷◌, length, get_or, pos, Some, None, Ok, Err, Option, Result, sym, refl, ◌∙◌}
use Rattle.std.specs.List.{list_all}
use Rattle.code.specs.declared.operator.Operator.{Operator}
use Rattle.code.specs.declared.types.Base.{Base}
use Rattle.code.specs.declared.types.Base.TheVariants.{Number}
use Rattle.code.specs.declared.types.Ty.{Ty}
use Rattle.code.specs.declared.types.Ty.TheVariants.{Plain}
use Rattle.code.specs.Code
use Rattle.code.specs.Names.{merge}
use Rattle.code.specs.Numbers.{operator, base}
use Rattle.code.specs.Typing.{joined, chosen, applied}
use Rattle.model.specs.Model.{State, Piece, parameter, bound, Plan, Fault, escaped, bad_argument, too_large, judge, judged, full, typed, lawful, usable, cell, escaping, into, stated, opened, close_latest, join_plan, choose_plan, apply_plan, fun_plan, let_plan, close_plan}
use Rattle.generator.specs.Reading.{and_then, slot_of, held_in, each_of, judge_each, may_use_each, used}

-- a size, judged
abbrev pub sized : ℕ → Result ℕ Fault
sized n = judge (leb n 4096) too_large (Ok n)

then_assoc : {A B C : Type 0} (r : Result A Fault) (k : A → Result B Fault) (l : B → Result C Fault) → and_then (and_then r k) l ≡ and_then r λ x. and_then (k x) l
then_assoc (Ok x) k l = refl
then_assoc (Err f) k l = refl

module _ {B : Type 0} where
  typed_then : (o : Option Ty) (k : Ty → Result B Fault) → typed o k ≡ and_then (typed o Ok) k
  typed_then None k = refl
  typed_then (Some t) k = refl

  judge_then : {A : Type 0} (b : Bool) (x : A) (k : A → Result B Fault) → judge b too_large (k x) ≡ and_then (judge b too_large (Ok x)) k
  judge_then true x k = refl
  judge_then false x k = refl

  -- the receiving cell is judged before what is read
  split : (c : ℕ) (q : Bool) (r : Result B Fault) → judge (ltb c 16 && q) bad_argument r ≡ and_then (slot_of c) λ _. judge q bad_argument r
  split c q r = go (ltb c 16)
    where
      go : (p : Bool) → judge (p && q) bad_argument r ≡ and_then (judge p bad_argument (Ok c)) λ _. judge q bad_argument r
      go true = refl
      go false = refl

  -- two arguments are judged in either order
  swap : {A : Type 0} (q : Bool) (o : Option A) (k : A → Result B Fault) → judge q bad_argument (lawful o k) ≡ and_then (lawful o Ok) λ x. judge q bad_argument (k x)
  swap true None k = refl
  swap false None k = refl
  swap true (Some x) k = refl
  swap false (Some x) k = refl

  abbrev fulls : State → List ℕ → (List Piece → Result B Fault) → Result B Fault
  fulls st [] k = k []
  fulls st (a ∷ cells) k = full (cell st a) λ x. fulls st cells λ xs. k (x ∷ xs)

  abbrev uses : State → List ℕ → List Piece → Result B Fault → Result B Fault
  uses st [] xs r = r
  uses st (a ∷ cells) [] r = r
  uses st (a ∷ cells) (x ∷ xs) r = usable st a x (uses st cells xs r)

  lawful_then : (cells : List ℕ) (r : Result B Fault) → judge (list_all (λ a. ltb a 16) cells) bad_argument r ≡ and_then (judge_each slot_of cells) λ _. r
  lawful_then [] r = refl
  lawful_then (a ∷ cells) r = go (ltb a 16) (lawful_then cells r)
    where
      go : (p : Bool) → judge (list_all (λ a. ltb a 16) cells) bad_argument r ≡ (and_then (judge_each slot_of cells) λ _. r)
          → judge (p && list_all (λ a. ltb a 16) cells) bad_argument r ≡ and_then (and_then (judge p bad_argument (Ok a)) λ _. judge_each slot_of cells) λ _. r
      go true h = h
      go false h = refl

  fulls_then : (st : State) (cells : List ℕ) (k : List Piece → Result B Fault) → fulls st cells k ≡ and_then (each_of (held_in st) cells) k
  fulls_then st [] k = refl
  fulls_then st (a ∷ cells) k = go (cell st a) (λ x. fulls_then st cells λ xs. k (x ∷ xs))
    where
      go : (o : Option Piece) → ((x : Piece) → fulls st cells (λ xs. k (x ∷ xs)) ≡ and_then (each_of (held_in st) cells) λ xs. k (x ∷ xs))
          → full o (λ x. fulls st cells λ xs. k (x ∷ xs)) ≡ and_then (and_then (full o Ok) λ x. and_then (each_of (held_in st) cells) λ xs. Ok (x ∷ xs)) k
      go None h = refl
      go (Some x) h = h x ∙ sym (then_assoc (each_of (held_in st) cells) (λ xs. Ok (x ∷ xs)) k)

  uses_then : (st : State) (cells : List ℕ) (xs : List Piece) (r : Result B Fault) → uses st cells xs r ≡ and_then (may_use_each st cells xs) λ _. r
  uses_then st [] xs r = refl
  uses_then st (a ∷ cells) [] r = refl
  uses_then st (a ∷ cells) (x ∷ xs) r = go (eqb (length (escaping st.open_binders x.names)) 0) (escaped a (length (escaping st.open_binders x.names))) (uses_then st cells xs r)
    where
      go : (b : Bool) (f : Fault) → uses st cells xs r ≡ (and_then (may_use_each st cells xs) λ _. r)
          → judged b f (uses st cells xs r) ≡ and_then (and_then (judged {A = Unit {0}} b f (Ok tt)) λ _. may_use_each st cells xs) λ _. r
      go true f h = h
      go false f h = refl

  -- the codes of cells, and what is done with them
  each_then : (st : State) (cells : List ℕ) (k : List Piece → Result B Fault)
      → judge (list_all (λ a. ltb a 16) cells) bad_argument (fulls st cells λ xs. uses st cells xs (k xs)) ≡ and_then (used st cells) k
  each_then st cells k =
      lawful_then cells (fulls st cells λ xs. uses st cells xs (k xs))
      ∙ (λ i. and_then (judge_each slot_of cells) λ _. fulls_then st cells (λ xs. uses st cells xs (k xs)) i)
      ∙ (λ i. and_then (judge_each slot_of cells) λ _. and_then (each_of (held_in st) cells) λ xs. uses_then st cells xs (k xs) i)
      ∙ gather (judge_each slot_of cells) (each_of (held_in st) cells)
    where
      last : (u : Result (Unit {0}) Fault) (xs : List Piece) → (and_then u λ _. k xs) ≡ and_then (and_then u λ _. Ok xs) k
      last (Ok u) xs = refl
      last (Err f) xs = refl

      gather : (s : Result (Unit {0}) Fault) (e : Result (List Piece) Fault)
          → (and_then s λ _. and_then e λ xs. and_then (may_use_each st cells xs) λ _. k xs)
          ≡ and_then (and_then s λ _. and_then e λ xs. and_then (may_use_each st cells xs) λ _. Ok xs) k
      gather (Err f) e = refl
      gather (Ok u) (Err f) = refl
      gather (Ok u) (Ok xs) = last (may_use_each st cells xs) xs

regroup_one : (p q : Bool) → p && q ≡ p && (q && true)
regroup_one false q = refl
regroup_one true true = refl
regroup_one true false = refl

regroup_two : (p q r : Bool) → p && q && r ≡ p && (q && (r && true))
regroup_two true q r = regroup_one q r
regroup_two false q r = refl

regroup_three : (p q r s : Bool) → p && q && r && s ≡ p && (q && (r && (s && true)))
regroup_three true q r s = regroup_two q r s
regroup_three false q r s = refl

-- a piece of a list, and any where there is none
abbrev pub at : List Piece → ℕ → Piece
at xs i = get_or xs i (record { code = Code.number (pos 0); type = Plain Number; size = 0; names = [] })

-- a type and a size, and what is made
abbrev pub made_of : Option Ty → ℕ → (Ty → ℕ → Result Plan Fault) → Result Plan Fault
made_of o n k = and_then (typed o Ok) λ t. and_then (sized n) (k t)

made_then : (o : Option Ty) (n : ℕ) (k : Ty → ℕ → Result Plan Fault) → (typed o λ t. judge (leb n 4096) too_large (k t n)) ≡ made_of o n k
made_then o n k = typed_then o (λ t. judge (leb n 4096) too_large (k t n)) ∙ (λ i. and_then (typed o Ok) λ t. judge_then (leb n 4096) n (k t) i)

abbrev pub join_made : State → ℕ → Operator → Piece → Piece → Result Plan Fault
join_made st c op x y = made_of (joined op x.type y.type) (1 + x.size + y.size) λ t n. into st c (record { code = Code.join op x.code y.code; type = t; size = n; names = merge x.names y.names })

pub join_direct : (st : State) (c o a b : ℕ)
    → join_plan stated st c o a b ≡ and_then (slot_of c) λ _. and_then (lawful (operator o) Ok) λ op. and_then (used st (a ∷ b ∷ [])) λ xs. join_made st c op (at xs 0) (at xs 1)
join_direct st c o a b =
    (λ i. judge (regroup_two (ltb c 16) (ltb a 16) (ltb b 16) i) bad_argument (lawful (operator o) λ op. fulls st (a ∷ b ∷ []) λ xs. uses st (a ∷ b ∷ []) xs (judged_as op (at xs 0) (at xs 1))))
    ∙ split c (list_all (λ a. ltb a 16) (a ∷ b ∷ [])) _
    ∙ (λ i. and_then (slot_of c) λ _. swap (list_all (λ a. ltb a 16) (a ∷ b ∷ [])) (operator o) (λ op. fulls st (a ∷ b ∷ []) λ xs. uses st (a ∷ b ∷ []) xs (judged_as op (at xs 0) (at xs 1))) i)
    ∙ (λ i. and_then (slot_of c) λ _. and_then (lawful (operator o) Ok) λ op. each_then st (a ∷ b ∷ []) (λ xs. judged_as op (at xs 0) (at xs 1)) i)
    ∙ (λ i. and_then (slot_of c) λ _. and_then (lawful (operator o) Ok) λ op. and_then (used st (a ∷ b ∷ [])) λ xs. as_made op (at xs 0) (at xs 1) i)
  where
    make : Operator → Piece → Piece → Ty → ℕ → Result Plan Fault
    make op x y t n = into st c (record { code = Code.join op x.code y.code; type = t; size = n; names = merge x.names y.names })

    judged_as : Operator → Piece → Piece → Result Plan Fault
    judged_as op x y = typed (joined op x.type y.type) λ t. judge (leb (1 + x.size + y.size) 4096) too_large (make op x y t (1 + x.size + y.size))

    as_made : (op : Operator) (x y : Piece) → judged_as op x y ≡ join_made st c op x y
    as_made op x y = made_then (joined op x.type y.type) (1 + x.size + y.size) (make op x y)

abbrev pub apply_made : State → ℕ → Piece → Piece → Result Plan Fault
apply_made st c x y = made_of (applied x.type y.type) (1 + x.size + y.size) λ t n. into st c (record { code = Code.apply x.code y.code; type = t; size = n; names = merge x.names y.names })

pub apply_direct : (st : State) (c f a : ℕ) → apply_plan stated st c f a ≡ and_then (slot_of c) λ _. and_then (used st (f ∷ a ∷ [])) λ xs. apply_made st c (at xs 0) (at xs 1)
apply_direct st c f a =
    (λ i. judge (regroup_two (ltb c 16) (ltb f 16) (ltb a 16) i) bad_argument (fulls st (f ∷ a ∷ []) λ xs. uses st (f ∷ a ∷ []) xs (judged_as (at xs 0) (at xs 1))))
    ∙ split c (list_all (λ a. ltb a 16) (f ∷ a ∷ [])) _
    ∙ (λ i. and_then (slot_of c) λ _. each_then st (f ∷ a ∷ []) (λ xs. judged_as (at xs 0) (at xs 1)) i)
    ∙ (λ i. and_then (slot_of c) λ _. and_then (used st (f ∷ a ∷ [])) λ xs. as_made (at xs 0) (at xs 1) i)
  where
    make : Piece → Piece → Ty → ℕ → Result Plan Fault
    make x y t n = into st c (record { code = Code.apply x.code y.code; type = t; size = n; names = merge x.names y.names })

    judged_as : Piece → Piece → Result Plan Fault
    judged_as x y = typed (applied x.type y.type) λ t. judge (leb (1 + x.size + y.size) 4096) too_large (make x y t (1 + x.size + y.size))

    as_made : (x y : Piece) → judged_as x y ≡ apply_made st c x y
    as_made x y = made_then (applied x.type y.type) (1 + x.size + y.size) (make x y)

abbrev pub choose_made : State → ℕ → Piece → Piece → Piece → Result Plan Fault
choose_made st c x y z =
    made_of (chosen x.type y.type z.type) (1 + x.size + y.size + z.size) λ t n.
    into st c (record { code = Code.choose x.code y.code z.code; type = t; size = n; names = merge x.names (merge y.names z.names) })

pub choose_direct : (st : State) (c a b d : ℕ) → choose_plan stated st c a b d ≡ and_then (slot_of c) λ _. and_then (used st (a ∷ b ∷ d ∷ [])) λ xs. choose_made st c (at xs 0) (at xs 1) (at xs 2)
choose_direct st c a b d =
    (λ i. judge (regroup_three (ltb c 16) (ltb a 16) (ltb b 16) (ltb d 16) i) bad_argument (fulls st (a ∷ b ∷ d ∷ []) λ xs. uses st (a ∷ b ∷ d ∷ []) xs (judged_as (at xs 0) (at xs 1) (at xs 2))))
    ∙ split c (list_all (λ a. ltb a 16) (a ∷ b ∷ d ∷ [])) _
    ∙ (λ i. and_then (slot_of c) λ _. each_then st (a ∷ b ∷ d ∷ []) (λ xs. judged_as (at xs 0) (at xs 1) (at xs 2)) i)
    ∙ (λ i. and_then (slot_of c) λ _. and_then (used st (a ∷ b ∷ d ∷ [])) λ xs. as_made (at xs 0) (at xs 1) (at xs 2) i)
  where
    make : Piece → Piece → Piece → Ty → ℕ → Result Plan Fault
    make x y z t n = into st c (record { code = Code.choose x.code y.code z.code; type = t; size = n; names = merge x.names (merge y.names z.names) })

    judged_as : Piece → Piece → Piece → Result Plan Fault
    judged_as x y z = typed (chosen x.type y.type z.type) λ t. judge (leb (1 + x.size + y.size + z.size) 4096) too_large (make x y z t (1 + x.size + y.size + z.size))

    as_made : (x y z : Piece) → judged_as x y z ≡ choose_made st c x y z
    as_made x y z = made_then (chosen x.type y.type z.type) (1 + x.size + y.size + z.size) (make x y z)

pub fun_direct : (st : State) (c p : ℕ) → fun_plan stated st c p ≡ and_then (slot_of c) λ _. and_then (lawful (base p) Ok) λ t. opened stated st c (parameter st.next t)
fun_direct st c p = go (ltb c 16) (base p)
  where
    go : (q : Bool) (o : Option Base) → judge q bad_argument (lawful o λ t. opened stated st c (parameter st.next t)) ≡ and_then (judge q bad_argument (Ok c)) λ _. and_then (lawful o Ok) λ t. opened stated st c (parameter st.next t)
    go true None = refl
    go true (Some t) = refl
    go false o = refl

pub let_direct : (st : State) (c a : ℕ) → let_plan stated st c a ≡ and_then (slot_of c) λ _. and_then (used st (a ∷ [])) λ xs. opened stated st c (bound st.next (at xs 0))
let_direct st c a =
    (λ i. judge (regroup_one (ltb c 16) (ltb a 16) i) bad_argument (full (cell st a) λ x. usable st a x (opened stated st c (bound st.next x))))
    ∙ split c (list_all (λ a. ltb a 16) (a ∷ [])) _
    ∙ (λ i. and_then (slot_of c) λ _. each_then st (a ∷ []) (λ xs. opened stated st c (bound st.next (at xs 0))) i)

pub close_direct : (st : State) (c a : ℕ) → close_plan stated st c a ≡ and_then (slot_of c) λ _. and_then (used st (a ∷ [])) λ xs. close_latest stated st c (at xs 0) st.open_binders
close_direct st c a =
    (λ i. judge (regroup_one (ltb c 16) (ltb a 16) i) bad_argument (full (cell st a) λ x. usable st a x (close_latest stated st c x st.open_binders)))
    ∙ split c (list_all (λ a. ltb a 16) (a ∷ [])) _
    ∙ (λ i. and_then (slot_of c) λ _. each_then st (a ∷ []) (λ xs. close_latest stated st c (at xs 0) st.open_binders) i)
