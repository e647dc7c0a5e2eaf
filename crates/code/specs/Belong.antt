-- Every variable in a spelling bears the name of the binder that it belongs to.
use Rattle.std.specs.Prelude.{ℕ, ◌+◌, ◌^◌, ◌<◌, Bool, List, [], ◌∷◌, length, ℤ}
use Rattle.code.specs.declared.operator.Operator.{Operator}
use Rattle.code.specs.declared.types.Base.{Base}
use Rattle.code.specs.Members.{Among, Nearest}
use Rattle.code.specs.Code.{Code, size}
use Rattle.code.specs.Names.{free, Closed}
use Rattle.code.specs.Text.{Spelled, name, spelled}
use Rattle.code.specs.Text

-- the binders in whose bodies a place stands, each with its spelling and its serial, the nearest first
abbrev pub Binders : Type 0
Binders = List (List ℕ × ℕ)

-- the spelling is of that code, and of the binders around a variable the nearest with its spelling has its serial
pub data Belong : Binders → Code → Spelled → Type 0 where
  in_number : {around : Binders} {n : ℤ} → Belong around (Code.number n) (Text.number n)
  in_truth : {around : Binders} {b : Bool} → Belong around (Code.truth b) (Text.truth b)
  in_input : {around : Binders} {i : ℕ} → Belong around (Code.input i) (Text.input i)
  in_variable : {around : Binders} {s : ℕ} {v : List ℕ} → Nearest v s around → Belong around (Code.variable s) (Text.variable v)
  in_join : {around : Binders} {o : Operator} {a b : Code} {x y : Spelled} → Belong around a x → Belong around b y → Belong around (Code.join o a b) (Text.join o x y)
  in_choose : {around : Binders} {a b d : Code} {x y z : Spelled} → Belong around a x → Belong around b y → Belong around d z → Belong around (Code.choose a b d) (Text.choose x y z)
  in_apply : {around : Binders} {f a : Code} {x y : Spelled} → Belong around f x → Belong around a y → Belong around (Code.apply f a) (Text.apply x y)
  in_function : {around : Binders} {s : ℕ} {p : Base} {b : Code} {v : List ℕ} {y : Spelled} → Belong ((v, s) ∷ around) b y → Belong around (Code.function s p b) (Text.function v p y)
  in_letin : {around : Binders} {s : ℕ} {e b : Code} {v : List ℕ} {x y : Spelled} → Belong around e x → Belong ((v, s) ∷ around) b y → Belong around (Code.letin s e b) (Text.letin v x y)

-- binders of these serials, as they are spelled
abbrev pub named : List ℕ → Binders
named [] = []
named (s ∷ around) = (name (length around), s) ∷ named around

-- so it is in a closed code, and in any code under binders of its free names
pub record NamesBelong : Type 0 where
  pub closed : (c : Code) → size c < 2 ^ 64 → Closed c → Belong [] c (spelled [] c)
  pub under : (around : List ℕ) (c : Code) → length around + size c < 2 ^ 64 → Among (free c) around → Belong (named around) c (spelled around c)
