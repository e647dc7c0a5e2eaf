-- The sizes of the parts add up to the size of the code.
use Rattle.std.proofs.Common.{◌≡◌, ℕ, zero, suc, ◌<◌, Bool, true, false, cond, leb, List, [], ◌∷◌, length, get_or, fold, Some, None, Ok, Err, Option, refl, ap, ◌∙◌, arith, rules}
use Rattle.code.specs.declared.construct.Handle.{Handle}
use Rattle.code.specs.declared.construct.Construct.{Construct}
use Rattle.code.specs.Code.{Code, size}
use Rattle.store.specs.declared.meaning.StoreFault.TheVariants.{BadArgument, TooLarge}
use Rattle.store.specs.Meaning.{Codes, meant, in_range, sized, wanted}
use Rattle.store.specs.Sizes.{size_of, plus, size_asked}

plus_none : (n : Option ℕ) → plus n None ≡ None
plus_none None = refl
plus_none (Some a) = refl

none_stays : (code : Codes) (hs : List Handle) → fold (λ size part. plus size (size_of (code part))) None hs ≡ None
none_stays code [] = refl
none_stays code (h ∷ hs) = none_stays code hs

-- a part that is unknown leaves no sum
pub unknown_part : (code : Codes) (n : Option ℕ) (hs : List Handle) (k : ℕ) (d : Handle) → k < length hs → code (get_or hs k d) ≡ None → fold (λ size part. plus size (size_of (code part))) n hs ≡ None
unknown_part code n [] k d lt e = absurd (omega arith)
unknown_part code n (h ∷ hs) zero d lt e = rw (e, plus_none n) (none_stays code hs)
unknown_part code n (h ∷ hs) (suc k) d lt e = unknown_part code (plus n (size_of (code h))) hs k d (omega arith) e

-- a size was found: there is a code of that size
pub record Sized (code : Codes) (x : Construct) (n : ℕ) : Type 0 where
  pub asked : Code
  pub means : meant code x ≡ Some asked
  pub sizes : size asked ≡ n
  pub wants : wanted code x ≡ cond (leb n 4096) (Ok asked) (Err TooLarge)

pub asked_some : (code : Codes) (x : Construct) (n : ℕ) → Some n ≡ size_asked code x → Sized code x n
asked_some code x n e = by (in_range x) (meant code x) refl refl e
  where
    by : (b : Bool) (o : Option Code) → in_range x ≡ b → meant code x ≡ o → Some n ≡ cond b (size_of o) None → Sized code x n
    by true None i m p = absurd (search rules)
    by true (Some c) i m p =
        let q : size c ≡ n = cc in
        record {
          asked = c;
          means = m;
          sizes = q;
          wants = (λ j. cond (i j) (sized (m j)) (Err BadArgument)) ∙ ap (λ (k : ℕ). cond (leb k 4096) (Ok c) (Err TooLarge)) q;
        }
    by false o i m p = absurd (search rules)
