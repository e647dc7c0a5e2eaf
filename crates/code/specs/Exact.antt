-- Free names and types rule by rule, and that the computed ones are exactly these.
use Rattle.std.specs.Prelude.{◌≡◌, ℕ, Bool, ◌⊎◌, List, ◌∷◌, ℤ, Some, ◌≢◌}
use Rattle.code.specs.declared.operator.Operator.{Operator}
use Rattle.code.specs.declared.types.Base.{Base}
use Rattle.code.specs.declared.types.Base.TheVariants.{Number, Truth}
use Rattle.code.specs.declared.types.Ty.{Ty}
use Rattle.code.specs.declared.types.Ty.TheVariants.{Plain, Function}
use Rattle.code.specs.Members.{In, Nearest}
use Rattle.code.specs.Code.{Code}
use Rattle.code.specs.Names.{free, Ascending}
use Rattle.code.specs.Typing.{Scope, type_in, type_of, takes, gives}

-- s is the serial of a variable that stands in no body of a binder with that serial
abbrev pub StandsFree : ℕ → Code → Type 0
StandsFree s (Code.number n) = ⊥
StandsFree s (Code.truth b) = ⊥
StandsFree s (Code.input i) = ⊥
StandsFree s (Code.variable x) = s ≡ x
StandsFree s (Code.join o a b) = StandsFree s a ⊎ StandsFree s b
StandsFree s (Code.choose a b d) = StandsFree s a ⊎ (StandsFree s b ⊎ StandsFree s d)
StandsFree s (Code.apply f a) = StandsFree s f ⊎ StandsFree s a
StandsFree s (Code.function x p b) = StandsFree s b × (s ≢ x)
StandsFree s (Code.letin x e b) = StandsFree s e ⊎ (StandsFree s b × (s ≢ x))

-- the free names of a code are all the serials that stand free in it and no others, ascending, each once
pub record NamesExact : Type 0 where
  pub told : (s : ℕ) (c : Code) → In s (free c) → StandsFree s c
  pub all : (s : ℕ) (c : Code) → StandsFree s c → In s (free c)
  pub ascending : (c : Code) → Ascending 0 (free c)

-- the types of codes, rule by rule; a variable has the type of the nearest binder of its serial
pub data HasType : Scope → Code → Ty → Type 0 where
  number : {g : Scope} {n : ℤ} → HasType g (Code.number n) (Plain Number)
  truth : {g : Scope} {b : Bool} → HasType g (Code.truth b) (Plain Truth)
  input : {g : Scope} {i : ℕ} → HasType g (Code.input i) (Plain Number)
  variable : {g : Scope} {s : ℕ} {t : Ty} → Nearest s t g → HasType g (Code.variable s) t
  join : {g : Scope} {o : Operator} {a b : Code} → HasType g a (Plain (takes o)) → HasType g b (Plain (takes o)) → HasType g (Code.join o a b) (Plain (gives o))
  choose : {g : Scope} {a b d : Code} {t : Ty} → HasType g a (Plain Truth) → HasType g b t → HasType g d t → HasType g (Code.choose a b d) t
  apply : {g : Scope} {f a : Code} {p r : Base} → HasType g f (Function p r) → HasType g a (Plain p) → HasType g (Code.apply f a) (Plain r)
  function : {g : Scope} {s : ℕ} {p r : Base} {b : Code} → HasType ((s, Plain p) ∷ g) b (Plain r) → HasType g (Code.function s p b) (Function p r)
  letin : {g : Scope} {s : ℕ} {e b : Code} {t u : Ty} → HasType g e t → HasType ((s, t) ∷ g) b u → HasType g (Code.letin s e b) u

-- two scopes give each of these names one type, or neither gives it one
abbrev pub Agree : Scope → Scope → List ℕ → Type 0
Agree g h names = (s : ℕ) → In s names → type_in g s ≡ type_in h s

pub record TypesExact : Type 0 where
  pub told : (g : Scope) (c : Code) (t : Ty) → type_of g c ≡ Some t → HasType g c t
  pub all : (g : Scope) (c : Code) (t : Ty) → HasType g c t → type_of g c ≡ Some t
  pub one : (g : Scope) (c : Code) (t u : Ty) → HasType g c t → HasType g c u → t ≡ u
  -- a code with a type has each free name in its scope, and nothing else there tells its type
  pub in_scope : (g : Scope) (c : Code) (t : Ty) → HasType g c t → (s : ℕ) → In s (free c) → (u : Ty) × Nearest s u g
  pub by_free : (g h : Scope) (c : Code) → Agree g h (free c) → type_of g c ≡ type_of h c
