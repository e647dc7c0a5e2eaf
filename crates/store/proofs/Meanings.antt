-- What a construct means where more handles are known.
use Rattle.std.proofs.Common.{◌≡◌, ℕ, Bool, true, false, cond, leb, Some, None, Ok, Err, Option, Result, sym, refl, ap, ◌∙◌, rules}
use Rattle.code.specs.declared.construct.Handle.{Handle}
use Rattle.code.specs.declared.construct.Construct.{Construct}
use Rattle.code.specs.declared.construct.Construct.TheVariants.{Number, Truth, Input, Variable, Join, Choose, Apply, Function, Let}
use Rattle.code.specs.Code.{Code, size}
use Rattle.store.specs.declared.meaning.StoreFault.{StoreFault}
use Rattle.store.specs.declared.meaning.StoreFault.TheVariants.{BadArgument, TooLarge}
use Rattle.store.specs.Meaning.{Codes, over1, over2, over3, meant, in_range, sized, wanted, Answers, Answered, Made}

-- whatever f knows, g knows alike
abbrev pub KnowsMore : Codes → Codes → Type 0
KnowsMore f g = (h : Handle) (c : Code) → f h ≡ Some c → g h ≡ Some c

over1_more : (a x : Option Code) (k : Code → Code) (c : Code) → ((d : Code) → a ≡ Some d → x ≡ Some d) → over1 a k ≡ Some c → over1 x k ≡ Some c
over1_more None x k c f e = absurd (search rules)
over1_more (Some a) x k c f e = rw (f a refl) e

over2_more : (a b x y : Option Code) (k : Code → Code → Code) (c : Code) → ((d : Code) → a ≡ Some d → x ≡ Some d) → ((d : Code) → b ≡ Some d → y ≡ Some d) → over2 a b k ≡ Some c → over2 x y k ≡ Some c
over2_more None b x y k c f g e = absurd (search rules)
over2_more (Some a) b x y k c f g e = rw (f a refl) (over1_more b y (k a) c g e)

over3_more : (a b d x y z : Option Code) (k : Code → Code → Code → Code) (c : Code) → ((e : Code) → a ≡ Some e → x ≡ Some e) → ((e : Code) → b ≡ Some e → y ≡ Some e) → ((e : Code) → d ≡ Some e → z ≡ Some e) → over3 a b d k ≡ Some c → over3 x y z k ≡ Some c
over3_more None b d x y z k c f g h e = absurd (search rules)
over3_more (Some a) b d x y z k c f g h e = rw (f a refl) (over2_more b d y z (k a) c g h e)

pub meant_more : (f g : Codes) (x : Construct) (c : Code) → KnowsMore f g → meant f x ≡ Some c → meant g x ≡ Some c
meant_more f g (Number n) c more e = e
meant_more f g (Truth b) c more e = e
meant_more f g (Input i) c more e = e
meant_more f g (Variable s) c more e = e
meant_more f g (Join o a b) c more e = over2_more (f a) (f b) (g a) (g b) (Code.join o) c (more a) (more b) e
meant_more f g (Choose a b d) c more e = over3_more (f a) (f b) (f d) (g a) (g b) (g d) Code.choose c (more a) (more b) (more d) e
meant_more f g (Apply a b) c more e = over2_more (f a) (f b) (g a) (g b) Code.apply c (more a) (more b) e
meant_more f g (Function s p b) c more e = over1_more (f b) (g b) (Code.function s p) c (more b) e
meant_more f g (Let s a b) c more e = over2_more (f a) (f b) (g a) (g b) (Code.letin s) c (more a) (more b) e

sized_some : (o : Option Code) (c : Code) → sized o ≡ Ok c → o ≡ Some c
sized_some None c e = absurd (search rules)
sized_some (Some d) c e = by (leb (size d) 4096) e
  where
    by : (b : Bool) → cond b (Ok d) (Err TooLarge) ≡ Ok c → Some d ≡ Some c
    by true p = let q : d ≡ c = cc in ap Some q
    by false p = absurd (search rules)

-- a code that is asked for is what the construct means
pub wanted_meant : (f : Codes) (x : Construct) (c : Code) → wanted f x ≡ Ok c → (in_range x ≡ true) × (meant f x ≡ Some c)
wanted_meant f x c e = by (in_range x) refl e
  where
    by : (b : Bool) → in_range x ≡ b → cond b (sized (meant f x)) (Err BadArgument) ≡ Ok c → (in_range x ≡ true) × (meant f x ≡ Some c)
    by true i p = (i, sized_some (meant f x) c p)
    by false i p = absurd (search rules)

-- what is asked for stays so where more is known
pub wanted_more : (f g : Codes) (x : Construct) (c : Code) → KnowsMore f g → wanted f x ≡ Ok c → wanted g x ≡ Ok c
wanted_more f g x c more e =
    let p = wanted_meant f x c e in
    let q : meant g x ≡ meant f x = meant_more f g x c more p.1 ∙ sym p.1 in
    ap (λ (o : Option Code). cond (in_range x) (sized o) (Err BadArgument)) q ∙ e

-- a handle that answers goes on answering where more is known
pub answers_more : (f g : Codes) (x : Construct) (h : Handle) → KnowsMore f g → Answers f x h → Answers g x h
answers_more f g x h more a = (a.0, wanted_more f g x a.0 more a.1, more h a.0 a.2)

-- what was granted is answered
pub made_answers : (f g : Codes) (had has : ℕ) (price priced : Code → ℕ) (x : Construct) (h : Handle) → Made f g had has price priced x (Ok h) → Answers g x h
made_answers f g had has price priced x h made = by (wanted f x) refl made.ends
  where
    by : (w : Result Code StoreFault) → wanted f x ≡ w → Answered f g had has price w (Ok h) → Answers g x h
    by (Err e) is none = absurd none
    by (Ok c) is ends = (c, wanted_more f g x c made.kept is, ends.0)
