-- A text is read back as the spelling that it is of, so no two spellings have one text.
use Rattle.std.proofs.Common.{◌≡◌, ℕ, suc, ◌+◌, ◌-◌, ◌%◌, ◌^◌, ◌<◌, ◌≤◌, Bool, true, false, cond, ◌&&◌, ◌||◌, eqb, ltb, List, [], ◌∷◌, ◌++◌, length, get_or, drop, ℤ, pos, negsuc, codes, decimal, sym, refl, ap, ◌∙◌, append_assoc, append-nil, arith, rules}
use Rattle.std.specs.Fmt.{signed_decimal}
use Rattle.std.specs.Str.Parse.{digits_value}
use Rattle.std.specs.List.{AllByRecursion}
use Rattle.std.proofs.lemmas.Bool.{cond-true, cond-false, ne_eqb, ltb-true, and_parts}
use Rattle.std.proofs.lemmas.Bool.Decides.{nat_tests}
use Rattle.std.proofs.ByRecursion.{All-push, All-weaker}
use Rattle.std.proofs.lemmas.Fmt.{decimal_by_steps, decimal_is_IsNumeral, decimal_nonempty}
use Rattle.code.specs.declared.operator.Operator.{Operator}
use Rattle.code.specs.declared.operator.Operator.TheVariants.{Add, Subtract, Multiply, Less, Equal, And, Or}
use Rattle.code.specs.declared.types.Base.{Base}
use Rattle.code.specs.declared.types.Base.TheVariants.{Number, Truth}
use Rattle.code.specs.Code.{Code, size, ranged, in_range32}
use Rattle.code.specs.Text.{Spelled, sign, letter, word, name, number_of, spelled, flat, text, between}
use Rattle.code.specs.Text

-- a byte that ends a word
abbrev ends : ℕ → Bool
ends b = eqb b 32 || (eqb b 41 || eqb b 58)

abbrev word_of : List ℕ → List ℕ
word_of [] = []
word_of (b ∷ bs) = cond (ends b) [] (b ∷ word_of bs)

abbrev past_word : List ℕ → List ℕ
past_word [] = []
past_word (b ∷ bs) = cond (ends b) (b ∷ bs) (past_word bs)

-- a word is followed by a byte that ends it, or by nothing
abbrev Ends : List ℕ → Type 0
Ends [] = Unit {0}
Ends (b ∷ bs) = ends b ≡ true

abbrev Inner : List ℕ → Type 0
Inner w = AllByRecursion (λ (b : ℕ). ends b ≡ false) w

word_read : (w r : List ℕ) → Inner w → Ends r → (word_of (w ++ r) ≡ w) × (past_word (w ++ r) ≡ r)
word_read [] [] a e = (refl, refl)
word_read [] (b ∷ r) a e = (cond-true (ends b) [] (b ∷ word_of r) e, cond-true (ends b) (b ∷ r) (past_word r) e)
word_read (x ∷ w) r a e = grind (arith, nat_tests, a.0, word_read w r a.1 e)

-- the bytes of a decimal
abbrev Digit : ℕ → Type 0
Digit b = (48 ≤ b) × (b ≤ 57)

all_digits : (n : ℕ) → n < 2 ^ 64 → AllByRecursion Digit (decimal n)
all_digits = decimal_by_steps (λ _ ds. AllByRecursion Digit ds) (λ n l. ((omega arith, omega arith), tt)) (λ n ds l h. All-push Digit ds (48 + n % 10) h (omega arith, omega arith))

digit_inner : (b : ℕ) → Digit b → ends b ≡ false
digit_inner b d = grind (arith, nat_tests, d)

inner_decimal : (n : ℕ) → n < 2 ^ 64 → Inner (decimal n)
inner_decimal n l = All-weaker Digit (λ (b : ℕ). ends b ≡ false) digit_inner (decimal n) (all_digits n l)

-- a decimal has a first digit
first_digit : (n : ℕ) → n < 2 ^ 64 → (d : ℕ) × (ds : List ℕ) × (decimal n ≡ d ∷ ds) × Digit d
first_digit n l = go (decimal n) refl (all_digits n l) (decimal_nonempty n l)
  where
    go : (xs : List ℕ) → decimal n ≡ xs → AllByRecursion Digit xs → 0 < length xs → (d : ℕ) × (ds : List ℕ) × (decimal n ≡ d ∷ ds) × Digit d
    go [] e a some = absurd (omega arith)
    go (d ∷ ds) e a some = (d, ds, e, a.0)

-- a spelling as it comes of a code: its numbers in their ranges, its names those of numbers
abbrev pub Numbered : List ℕ → Type 0
Numbered v = (n : ℕ) × (n < 2 ^ 64) × (v ≡ name n)

abbrev pub Tidy : Spelled → Type 0
Tidy (Text.number n) = in_range32 n ≡ true
Tidy (Text.truth b) = Unit {0}
Tidy (Text.input i) = i < 2 ^ 64
Tidy (Text.variable v) = Numbered v
Tidy (Text.join o a b) = Tidy a × Tidy b
Tidy (Text.choose a b d) = Tidy a × Tidy b × Tidy d
Tidy (Text.apply f a) = Tidy f × Tidy a
Tidy (Text.function v p b) = Numbered v × Tidy b
Tidy (Text.letin v e b) = Numbered v × Tidy e × Tidy b

-- the number, truth, input or variable that a word is, by its first byte
abbrev atom : List ℕ → Spelled
atom w =
    cond (eqb (get_or w 0 0) 116) (Text.truth true)
    (cond (eqb (get_or w 0 0) 102) (Text.truth false)
    (cond (eqb (get_or w 0 0) 105) (Text.input (digits_value 10 (drop 1 w)))
    (cond (eqb (get_or w 0 0) 118) (Text.variable w)
    (cond (eqb (get_or w 0 0) 45) (Text.number (negsuc (digits_value 10 (drop 1 w) - 1))) (Text.number (pos (digits_value 10 w)))))))

atom_digit : (d : ℕ) (ds : List ℕ) → Digit d → atom (d ∷ ds) ≡ Text.number (pos (digits_value 10 (d ∷ ds)))
atom_digit d ds h = grind (arith, nat_tests, h)

atom_decimal : (n : ℕ) → n < 2 ^ 64 → atom (decimal n) ≡ Text.number (pos n)
atom_decimal n l =
    let f = first_digit n l in
    ap atom f.2 ∙ atom_digit f.0 f.1 f.3 ∙ ap (λ (w : List ℕ). Text.number (pos (digits_value 10 w))) (sym f.2) ∙ ap (λ (m : ℕ). Text.number (pos m)) (decimal_is_IsNumeral n l).1

atom_signed : (n : ℤ) → in_range32 n ≡ true → (atom (signed_decimal n) ≡ Text.number n) × Inner (signed_decimal n)
atom_signed (pos n) e = let l = ltb-true n (2 ^ 31) e in (atom_decimal n (omega arith), inner_decimal n (omega arith))
atom_signed (negsuc n) e =
    let l = ltb-true n (2 ^ 31) e in
    let v : digits_value 10 (decimal (suc n)) ≡ suc n = (decimal_is_IsNumeral (suc n) (omega arith)).1 in
    let q : digits_value 10 (decimal (suc n)) - 1 ≡ n = omega arith in
    (ap (λ (m : ℕ). Text.number (negsuc m)) q, (refl, inner_decimal (suc n) (omega arith)))

atom_word : (b : Bool) → (atom (word b) ≡ Text.truth b) × Inner (word b)
atom_word b = search rules

inner_name : (v : List ℕ) → Numbered v → Inner v
inner_name v h = rw h.2 (refl, inner_decimal h.0 h.1)

atom_name : (v : List ℕ) → Numbered v → atom v ≡ Text.variable v
atom_name v h = rw h.2

-- what stands in brackets, by its first two bytes
data Form : Type 0 where
  choosing : Form
  abstracting : Form
  letting : Form
  pairing : Form

abbrev form : List ℕ → Form
form bs =
    cond (eqb (get_or bs 0 0) 108) letting
    (cond (eqb (get_or bs 0 0) 102 && eqb (get_or bs 1 0) 117) abstracting (cond (eqb (get_or bs 0 0) 105 && eqb (get_or bs 1 0) 102) choosing pairing))

form_digit : (d : ℕ) (ds : List ℕ) → Digit d → form (d ∷ ds) ≡ pairing
form_digit d ds h = grind (arith, nat_tests, h)

form_decimal : (n : ℕ) (r : List ℕ) → n < 2 ^ 64 → form (decimal n ++ r) ≡ pairing
form_decimal n r l = let f = first_digit n l in rw f.2 (form_digit f.0 (f.1 ++ r) f.3)

form_input : (n : ℕ) (r : List ℕ) → n < 2 ^ 64 → form (105 ∷ (decimal n ++ r)) ≡ pairing
form_input n r l = let f = first_digit n l in rw f.2 (grind (arith, nat_tests, f.3))

form_part : (x : Spelled) (r : List ℕ) → Tidy x → form (flat x ++ r) ≡ pairing
form_part (Text.number (pos n)) r t = let l = ltb-true n (2 ^ 31) t in form_decimal n r (omega arith)
form_part (Text.number (negsuc n)) r t = refl
form_part (Text.truth true) r t = refl
form_part (Text.truth false) r t = refl
form_part (Text.input i) r t = form_input i r t
form_part (Text.variable v) r t = rw t.2
form_part (Text.join o a b) r t = refl
form_part (Text.choose a b d) r t = refl
form_part (Text.apply f a) r t = refl
form_part (Text.function v p b) r t = refl
form_part (Text.letin v e b) r t = refl

abbrev Read : Type 0
Read = Spelled × List ℕ

-- an operator by its sign, and what two parts make by the byte between them
abbrev pub operator_by : ℕ → Operator
operator_by b = cond (eqb b 43) Add (cond (eqb b 45) Subtract (cond (eqb b 42) Multiply (cond (eqb b 60) Less (cond (eqb b 61) Equal (cond (eqb b 38) And Or)))))

abbrev pair_by : ℕ → Spelled → Spelled → Spelled
pair_by b x y = cond (eqb b 64) (Text.apply x y) (Text.join (operator_by b) x y)

abbrev pub base_by : ℕ → Base
base_by b = cond (eqb b 110) Number Truth

-- the rest of a form, from its last part and from those before it, by a reader of parts
abbrev last_of : (Spelled → Spelled) → Read → Read
last_of make q = (make q.0, drop 1 q.1)

abbrev pair_from : (List ℕ → Read) → Read → Read
pair_from rd p = last_of (pair_by (get_or p.1 1 0) p.0) (rd (drop 3 p.1))

abbrev else_from : (List ℕ → Read) → Spelled → Read → Read
else_from rd x q = last_of (Text.choose x q.0) (rd (drop 6 q.1))

abbrev then_from : (List ℕ → Read) → Read → Read
then_from rd p = else_from rd p.0 (rd (drop 6 p.1))

abbrev body_from : (List ℕ → Read) → List ℕ → Read → Read
body_from rd v p = last_of (Text.letin v p.0) (rd (drop 4 p.1))

abbrev inside : (List ℕ → Read) → Form → List ℕ → Read
inside rd choosing bs = then_from rd (rd (drop 3 bs))
inside rd abstracting bs = last_of (Text.function (word_of (drop 4 bs)) (base_by (get_or (past_word (drop 4 bs)) 1 0))) (rd (drop 5 (past_word (drop 4 bs))))
inside rd letting bs = body_from rd (word_of (drop 4 bs)) (rd (drop 3 (past_word (drop 4 bs))))
inside rd pairing bs = pair_from rd (rd bs)

-- the spelling at the front of a text, read to this depth, and what follows it
abbrev read : ℕ → List ℕ → Read
read ℕ.zero bs = (Text.truth true, bs)
read (suc k) bs = cond (eqb (get_or bs 0 0) 40) (inside (read k) (form (drop 1 bs)) (drop 1 bs)) (atom (word_of bs), past_word bs)

abbrev depth : Spelled → ℕ
depth (Text.number n) = 1
depth (Text.truth b) = 1
depth (Text.input i) = 1
depth (Text.variable v) = 1
depth (Text.join o a b) = 1 + depth a + depth b
depth (Text.choose a b d) = 1 + depth a + depth b + depth d
depth (Text.apply f a) = 1 + depth f + depth a
depth (Text.function v p b) = 1 + depth b
depth (Text.letin v e b) = 1 + depth e + depth b

-- the bytes of each form, one part after the other
join_bytes : (o : Operator) (a b : Spelled) (r : List ℕ) → flat (Text.join o a b) ++ r ≡ 40 ∷ (flat a ++ (32 ∷ (sign o ++ (32 ∷ (flat b ++ (41 ∷ r))))))
join_bytes o a b r = search (rules, append_assoc)

choose_bytes : (a b d : Spelled) (r : List ℕ)
    → flat (Text.choose a b d) ++ r ≡ 40 ∷ 105 ∷ 102 ∷ 32 ∷ (flat a ++ (codes " then " ++ (flat b ++ (codes " else " ++ (flat d ++ (41 ∷ r))))))
choose_bytes a b d r = simp append_assoc

apply_bytes : (f a : Spelled) (r : List ℕ) → flat (Text.apply f a) ++ r ≡ 40 ∷ (flat f ++ (codes " @ " ++ (flat a ++ (41 ∷ r))))
apply_bytes f a r = simp append_assoc

function_bytes : (v : List ℕ) (p : Base) (b : Spelled) (r : List ℕ) → flat (Text.function v p b) ++ r ≡ 40 ∷ 102 ∷ 117 ∷ 110 ∷ 32 ∷ (v ++ (58 ∷ (letter p ++ (codes " . " ++ (flat b ++ (41 ∷ r))))))
function_bytes v p b r = search (rules, append_assoc)

let_bytes : (v : List ℕ) (e b : Spelled) (r : List ℕ) → flat (Text.letin v e b) ++ r ≡ 40 ∷ 108 ∷ 101 ∷ 116 ∷ 32 ∷ (v ++ (codes " = " ++ (flat e ++ (codes " in " ++ (flat b ++ (41 ∷ r))))))
let_bytes v e b r = simp append_assoc

-- a reader that reads this spelling
abbrev Reads : (List ℕ → Read) → Spelled → Type 0
Reads rd x = (r : List ℕ) → Ends r → rd (flat x ++ r) ≡ (x, r)

pair_join : (o : Operator) (x y : Spelled) (rest : List ℕ) → pair_by (get_or (32 ∷ (sign o ++ rest)) 1 0) x y ≡ Text.join o x y
pair_join o x y rest = search rules

past_sign : (o : Operator) (rest : List ℕ) → drop 3 (32 ∷ (sign o ++ (32 ∷ rest))) ≡ rest
past_sign o rest = search rules

base_letter : (p : Base) (rest : List ℕ) → base_by (get_or (58 ∷ (letter p ++ rest)) 1 0) ≡ p
base_letter p rest = search rules

past_letter : (p : Base) (rest : List ℕ) → drop 5 (58 ∷ (letter p ++ (codes " . " ++ rest))) ≡ rest
past_letter p rest = search rules

read_join : (rd : List ℕ → Read) (o : Operator) (a b : Spelled) (r : List ℕ) → Reads rd a → Reads rd b → pair_from rd (rd (flat a ++ (32 ∷ (sign o ++ (32 ∷ (flat b ++ (41 ∷ r))))))) ≡ (Text.join o a b, r)
read_join rd o a b r ha hb =
    let rest : List ℕ = flat b ++ (41 ∷ r) in
    let q : rd (drop 3 (32 ∷ (sign o ++ (32 ∷ rest)))) ≡ (b, 41 ∷ r) = ap rd (past_sign o rest) ∙ hb (41 ∷ r) refl in
    ap (pair_from rd) (ha (32 ∷ (sign o ++ (32 ∷ rest))) refl)
    ∙ ap (last_of (pair_by (get_or (32 ∷ (sign o ++ (32 ∷ rest))) 1 0) a)) q
    ∙ ap (λ (x : Spelled). (x, r)) (pair_join o a b (32 ∷ rest))

read_apply : (rd : List ℕ → Read) (f a : Spelled) (r : List ℕ) → Reads rd f → Reads rd a → pair_from rd (rd (flat f ++ (codes " @ " ++ (flat a ++ (41 ∷ r))))) ≡ (Text.apply f a, r)
read_apply rd f a r hf ha = ap (pair_from rd) (hf (codes " @ " ++ (flat a ++ (41 ∷ r))) refl) ∙ ap (last_of (pair_by 64 f)) (ha (41 ∷ r) refl)

read_choose : (rd : List ℕ → Read) (a b d : Spelled) (r : List ℕ) → Reads rd a → Reads rd b → Reads rd d
    → then_from rd (rd (flat a ++ (codes " then " ++ (flat b ++ (codes " else " ++ (flat d ++ (41 ∷ r))))))) ≡ (Text.choose a b d, r)
read_choose rd a b d r ha hb hd =
    ap (then_from rd) (ha (codes " then " ++ (flat b ++ (codes " else " ++ (flat d ++ (41 ∷ r))))) refl)
    ∙ ap (else_from rd a) (hb (codes " else " ++ (flat d ++ (41 ∷ r))) refl)
    ∙ ap (last_of (Text.choose a b)) (hd (41 ∷ r) refl)

-- a function and a let, after their first word
abbrev function_after : (List ℕ → Read) → List ℕ → List ℕ → Read
function_after rd v rest = last_of (Text.function v (base_by (get_or rest 1 0))) (rd (drop 5 rest))

read_function : (rd : List ℕ → Read) (v : List ℕ) (p : Base) (b : Spelled) (r : List ℕ) → Numbered v → Reads rd b
    → inside rd abstracting (102 ∷ 117 ∷ 110 ∷ 32 ∷ (v ++ (58 ∷ (letter p ++ (codes " . " ++ (flat b ++ (41 ∷ r))))))) ≡ (Text.function v p b, r)
read_function rd v p b r hv hb =
    let rest : List ℕ = flat b ++ (41 ∷ r) in
    let after : List ℕ = 58 ∷ (letter p ++ (codes " . " ++ rest)) in
    let w = word_read v after (inner_name v hv) refl in
    let q : rd (drop 5 after) ≡ (b, 41 ∷ r) = ap rd (past_letter p rest) ∙ hb (41 ∷ r) refl in
    (λ i. function_after rd (w.0 i) (w.1 i))
    ∙ ap (last_of (Text.function v (base_by (get_or after 1 0)))) q
    ∙ ap (λ (x : Base). (Text.function v x b, r)) (base_letter p (codes " . " ++ rest))

read_let : (rd : List ℕ → Read) (v : List ℕ) (e b : Spelled) (r : List ℕ) → Numbered v → Reads rd e → Reads rd b
    → inside rd letting (108 ∷ 101 ∷ 116 ∷ 32 ∷ (v ++ (codes " = " ++ (flat e ++ (codes " in " ++ (flat b ++ (41 ∷ r))))))) ≡ (Text.letin v e b, r)
read_let rd v e b r hv he hb =
    let rest : List ℕ = flat e ++ (codes " in " ++ (flat b ++ (41 ∷ r))) in
    let w = word_read v (codes " = " ++ rest) (inner_name v hv) refl in
    (λ i. body_from rd (w.0 i) (rd (drop 3 (w.1 i))))
    ∙ ap (body_from rd v) (he (codes " in " ++ (flat b ++ (41 ∷ r))) refl)
    ∙ ap (last_of (Text.letin v e)) (hb (41 ∷ r) refl)

-- a word is no bracket
read_word : (k : ℕ) (w r : List ℕ) (x : Spelled) → Inner w → Ends r → eqb (get_or (w ++ r) 0 0) 40 ≡ false → atom w ≡ x → read (suc k) (w ++ r) ≡ (x, r)
read_word k w r x a e n h =
    let q = word_read w r a e in
    cond-false (eqb (get_or (w ++ r) 0 0) 40) (inside (read k) (form (drop 1 (w ++ r))) (drop 1 (w ++ r))) (atom (word_of (w ++ r)), past_word (w ++ r)) n
    ∙ (λ i. (atom (q.0 i), q.1 i)) ∙ ap (λ (y : Spelled). (y, r)) h

decimal_no_bracket : (n : ℕ) (r : List ℕ) → n < 2 ^ 64 → eqb (get_or (decimal n ++ r) 0 0) 40 ≡ false
decimal_no_bracket n r l = let f = first_digit n l in rw f.2 (ne_eqb f.0 40 (λ e. omega (arith, f.3.0)))

reads : (k : ℕ) (x : Spelled) → depth x ≤ k → Tidy x → Reads (read k) x
reads ℕ.zero (Text.number n) l t r e = absurd (omega arith)
reads ℕ.zero (Text.truth b) l t r e = absurd (omega arith)
reads ℕ.zero (Text.input i) l t r e = absurd (omega arith)
reads ℕ.zero (Text.variable v) l t r e = absurd (omega arith)
reads ℕ.zero (Text.join o a b) l t r e = absurd (omega arith)
reads ℕ.zero (Text.choose a b d) l t r e = absurd (omega arith)
reads ℕ.zero (Text.apply f a) l t r e = absurd (omega arith)
reads ℕ.zero (Text.function v p b) l t r e = absurd (omega arith)
reads ℕ.zero (Text.letin v x b) l t r e = absurd (omega arith)
reads (suc k) (Text.number (pos n)) l t r e =
    let m = ltb-true n (2 ^ 31) t in let h = atom_signed (pos n) t in read_word k (decimal n) r (Text.number (pos n)) h.1 e (decimal_no_bracket n r (omega arith)) h.0
reads (suc k) (Text.number (negsuc n)) l t r e = let h = atom_signed (negsuc n) t in read_word k (signed_decimal (negsuc n)) r (Text.number (negsuc n)) h.1 e refl h.0
reads (suc k) (Text.truth true) l t r e = read_word k (word true) r (Text.truth true) (atom_word true).1 e refl refl
reads (suc k) (Text.truth false) l t r e = read_word k (word false) r (Text.truth false) (atom_word false).1 e refl refl
reads (suc k) (Text.input i) l t r e = read_word k (105 ∷ decimal i) r (Text.input i) (refl, inner_decimal i t) e refl (ap Text.input (decimal_is_IsNumeral i t).1)
reads (suc k) (Text.variable v) l t r e = read_word k v r (Text.variable v) (inner_name v t) e (rw t.2) (atom_name v t)
reads (suc k) (Text.join o a b) l t r e =
    ap (read (suc k)) (join_bytes o a b r) ∙ ap (λ (f : Form). inside (read k) f (flat a ++ (32 ∷ (sign o ++ (32 ∷ (flat b ++ (41 ∷ r))))))) (form_part a (32 ∷ (sign o ++ (32 ∷ (flat b ++ (41 ∷ r))))) t.0)
    ∙ read_join (read k) o a b r (reads k a (omega arith) t.0) (reads k b (omega arith) t.1)
reads (suc k) (Text.choose a b d) l t r e =
    ap (read (suc k)) (choose_bytes a b d r) ∙ read_choose (read k) a b d r (reads k a (omega arith) t.0) (reads k b (omega arith) t.1) (reads k d (omega arith) t.2)
reads (suc k) (Text.apply f a) l t r e =
    ap (read (suc k)) (apply_bytes f a r) ∙ ap (λ (g : Form). inside (read k) g (flat f ++ (codes " @ " ++ (flat a ++ (41 ∷ r))))) (form_part f (codes " @ " ++ (flat a ++ (41 ∷ r))) t.0)
    ∙ read_apply (read k) f a r (reads k f (omega arith) t.0) (reads k a (omega arith) t.1)
reads (suc k) (Text.function v p b) l t r e = ap (read (suc k)) (function_bytes v p b r) ∙ read_function (read k) v p b r t.0 (reads k b (omega arith) t.1)
reads (suc k) (Text.letin v x b) l t r e = ap (read (suc k)) (let_bytes v x b r) ∙ read_let (read k) v x b r t.0 (reads k x (omega arith) t.1) (reads k b (omega arith) t.2)

pub same_spelling : (x y : Spelled) → Tidy x → Tidy y → flat x ≡ flat y → x ≡ y
same_spelling x y s t e =
    let k : ℕ = depth x + depth y in
    let p : read k (flat x) ≡ (x, []) = ap (read k) (sym (append-nil (flat x))) ∙ reads k x (omega arith) s [] tt in
    let q : read k (flat y) ≡ (y, []) = ap (read k) (sym (append-nil (flat y))) ∙ reads k y (omega arith) t [] tt in
    ap (λ (z : Read). z.0) (sym p ∙ ap (read k) e ∙ q)

number_small : (around : List ℕ) (s : ℕ) → number_of around s ≤ length around
number_small [] s = omega arith
number_small (x ∷ around) s = grind (arith, nat_tests, number_small around s)

tidy : (around : List ℕ) (c : Code) → ranged c ≡ true → length around + size c < 2 ^ 64 → Tidy (spelled around c)
tidy around (Code.number n) g l = g
tidy around (Code.truth b) g l = tt
tidy around (Code.input i) g l = let h = ltb-true i 8 g in omega arith
tidy around (Code.variable s) g l = let h = number_small around s in (number_of around s, omega arith, refl)
tidy around (Code.join o a b) g l = search (rules, tidy around a, tidy around b)
tidy around (Code.choose a b d) g l = search (rules, tidy around a, tidy around b, tidy around d)
tidy around (Code.apply f a) g l = search (rules, tidy around f, tidy around a)
tidy around (Code.function s p b) g l = let h = and_parts (ltb s 4096) (ranged b) g in ((length around, omega arith, refl), tidy (s ∷ around) b h.1 (omega arith))
tidy around (Code.letin s x b) g l =
    let h = and_parts (ltb s 4096 && ranged x) (ranged b) g in
    let h2 = and_parts (ltb s 4096) (ranged x) h.0 in
    ((length around, omega arith, refl), tidy around x h2.1 (omega arith), tidy (s ∷ around) b h.1 (omega arith))

pub same_text : (around : List ℕ) (c d : Code) → ranged c ≡ true → ranged d ≡ true → length around + size c < 2 ^ 64 → length around + size d < 2 ^ 64
    → text around c ≡ text around d → spelled around c ≡ spelled around d
same_text around c d g h l m = same_spelling (spelled around c) (spelled around d) (tidy around c g l) (tidy around d h m)
