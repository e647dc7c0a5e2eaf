-- Free names lie in their places in one way.
use Rattle.std.specs.Prelude.{ℕ, suc, List, [], ◌∷◌, replicate}
use Rattle.std.proofs.Common.{refl}
use Rattle.std.proofs.Math.Nat.{ℕ_set, le_of_sub-eq-zero}
use Rattle.std.proofs.Props.{props}
use Rattle.code.specs.Names.{Ascending}
use Rattle.code.specs.Places.{IsLaidOut}

list_set : IsSet (List ℕ)
list_set = hlevel (props, ℕ_set)

ascending_prop : (n : ℕ) (xs : List ℕ) → IsProp (Ascending n xs)
ascending_prop n [] = hlevel props
ascending_prop n (x ∷ xs) = hlevel (props, ascending_prop (suc x) xs)

pub laid_out_prop : (serials : List ℕ) (count : ℕ) → IsProp (IsLaidOut serials count)
laid_out_prop serials count = hlevel (props, ℕ_set, list_set, ascending_prop)

-- where there is none
pub none_laid_out : IsLaidOut (replicate 16 0) 0
none_laid_out = record { sixteen = refl; few = le_of_sub-eq-zero refl; ascending = tt; blank = refl }
