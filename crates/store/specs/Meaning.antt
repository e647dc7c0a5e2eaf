-- What a store promises of its calls, by what its handles stand for, its free units and its prices.
use Rattle.std.specs.Prelude.{◌≡◌, ℕ, ◌+◌, ◌<◌, ◌≤◌, Bool, true, cond, Some, None, Ok, Err, Option, Result, ◌≢◌, nat_le, nat_lt}
use Rattle.code.specs.declared.refusal.Refusal.{Refusal}
use Rattle.code.specs.declared.refusal.Refusal.TheVariants as refusal
use Rattle.code.specs.declared.construct.Handle.{Handle}
use Rattle.code.specs.declared.construct.Construct.{Construct}
use Rattle.code.specs.declared.construct.Construct.TheVariants.{Number, Truth, Input, Variable, Join, Choose, Apply, Function, Let}
use Rattle.code.specs.Code.{Code, size}
use Rattle.store.specs.declared.meaning.StoreFault.{StoreFault}
use Rattle.store.specs.declared.meaning.StoreFault.TheVariants.{BadArgument, TooLarge, NoRoom}

abbrev pub refused_as : StoreFault → Refusal
refused_as BadArgument = refusal.BadArgument
refused_as TooLarge = refusal.TooLarge
refused_as (NoRoom wanted units) = refusal.NoRoom

-- which code a handle stands for
abbrev pub Codes : Type 0
Codes = Handle → Option Code

abbrev pub over1 : Option Code → (Code → Code) → Option Code
over1 None k = None
over1 (Some a) k = Some (k a)

abbrev pub over2 : Option Code → Option Code → (Code → Code → Code) → Option Code
over2 None b k = None
over2 (Some a) b k = over1 b (k a)

abbrev pub over3 : Option Code → Option Code → Option Code → (Code → Code → Code → Code) → Option Code
over3 None b d k = None
over3 (Some a) b d k = over2 b d (k a)

-- the construct over its parts' codes, none where a part is unknown
abbrev pub meant : Codes → Construct → Option Code
meant code (Number n) = Some (Code.number n)
meant code (Truth b) = Some (Code.truth b)
meant code (Input i) = Some (Code.input i)
meant code (Variable s) = Some (Code.variable s)
meant code (Join o a b) = over2 (code a) (code b) (Code.join o)
meant code (Choose a b d) = over3 (code a) (code b) (code d) Code.choose
meant code (Apply f a) = over2 (code f) (code a) Code.apply
meant code (Function s p b) = over1 (code b) (Code.function s p)
meant code (Let s e b) = over2 (code e) (code b) (Code.letin s)

-- inputs are 0 to 7, serials 0 to 4,095; what a type rules out needs no test
abbrev pub in_range : Construct → Bool
in_range (Number n) = true
in_range (Truth b) = true
in_range (Input i) = nat_lt i 8
in_range (Variable s) = nat_lt s 4096
in_range (Join o a b) = true
in_range (Choose a b d) = true
in_range (Apply f a) = true
in_range (Function s p b) = nat_lt s 4096
in_range (Let s e b) = nat_lt s 4096

abbrev pub sized : Option Code → Result Code StoreFault
sized None = Err BadArgument
sized (Some c) = cond (nat_le (size c) 4096) (Ok c) (Err TooLarge)

-- the code that a make asks for, or why it is refused whatever room there is
abbrev pub wanted : Codes → Construct → Result Code StoreFault
wanted code x = cond (in_range x) (sized (meant code x)) (Err BadArgument)

-- a handle stands for the code that a make of the construct asks for
abbrev pub Answers : Codes → Construct → Handle → Type 0
Answers code x h = (c : Code) × (wanted code x ≡ Ok c) × (code h ≡ Some c)

-- a refusal alters nothing
pub record Unaltered (before after : Codes) (had has : ℕ) : Type 0 where
  pub codes : (h : Handle) → after h ≡ before h
  pub units : has ≡ had

-- what a make comes to, by the code it asks for and the answer
abbrev pub Answered : Codes → Codes → ℕ → ℕ → (Code → ℕ) → Result Code StoreFault → Result Handle StoreFault → Type 0
Answered before after had has price (Err f) (Err g) = (g ≡ f) × Unaltered before after had has
Answered before after had has price (Err f) (Ok h) = ⊥
Answered before after had has price (Ok c) (Ok h) = (after h ≡ Some c) × (has ≤ had) × (had ≤ has + price c)
Answered before after had has price (Ok c) (Err BadArgument) = ⊥
Answered before after had has price (Ok c) (Err TooLarge) = ⊥
Answered before after had has price (Ok c) (Err (NoRoom w u)) = (w ≡ price c) × (u ≡ had) × (had < price c) × Unaltered before after had has

-- make: from the codes before, the units had and the prices to those after
pub record Made (before after : Codes) (had has : ℕ) (price priced : Code → ℕ) (x : Construct) (r : Result Handle StoreFault) : Type 0 where
  pub kept : (h : Handle) (c : Code) → before h ≡ Some c → after h ≡ Some c
  pub prices : (c : Code) → priced c ≡ price c
  pub ends : Answered before after had has price (wanted before x) r

-- look: the construct over handles that stand for the parts, or none for an unknown handle
abbrev pub Looked : Codes → Handle → Option Construct → Type 0
Looked code h None = code h ≡ None
Looked code h (Some x) = (code h ≡ meant code x) × (code h ≢ None)
