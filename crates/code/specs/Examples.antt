-- Worked codes, with the sizes, free names, types and texts that they have, as one computed check.
use Rattle.std.specs.Prelude.{ℕ, Bool, true, false, not, ◌&&◌, List, [], ◌∷◌, replicate, pos, negsuc, Some, None, codes, Option, ◌==◌}
use Rattle.code.specs.declared.operator.Operator.TheVariants.{Add, Subtract, Multiply, Less, Equal, And, Or}
use Rattle.code.specs.declared.types.Base.TheVariants.{Number, Truth}
use Rattle.code.specs.declared.types.Ty.{Ty}
use Rattle.code.specs.declared.types.Ty.TheVariants.{Plain, Function}
use Rattle.code.specs.Numbers.{type_number}
use Rattle.code.specs.Code.{Code, size, in_range32, ranged, number, truth, input, variable, join, choose, apply, function, letin}
use Rattle.code.specs.Names.{free}
use Rattle.code.specs.Typing.{type_of}
use Rattle.code.specs.Text.{text}

abbrev pub same : List ℕ → List ℕ → Bool
same [] [] = true
same [] (y ∷ ys) = false
same (x ∷ xs) [] = false
same (x ∷ xs) (y ∷ ys) = x == y && same xs ys

-- the type with this number, or none
abbrev pub typed : Option Ty → ℕ → Bool
typed None n = false
typed (Some t) n = type_number t == n

abbrev pub untyped : Code → Bool
untyped c = elim (type_of [] c) [ None ↦ true | Some t ↦ false ]

-- a closed code with its text, its size and its type's number
abbrev pub program : Code → List ℕ → ℕ → ℕ → Bool
program c bytes n t = same (text [] c) bytes && size c == n && typed (type_of [] c) t && same (free c) []

unfoldable pub plain_codes_hold : Bool
plain_codes_hold =
    program (number (pos 0)) (codes "0") 1 0
    && program (number (pos 2147483647)) (codes "2147483647") 1 0
    && program (number (negsuc 4)) (codes "-5") 1 0
    && program (number (negsuc 2147483647)) (codes "-2147483648") 1 0
    && program (truth true) (codes "true") 1 1
    && program (truth false) (codes "false") 1 1
    && program (input 0) (codes "i0") 1 0
    && program (input 7) (codes "i7") 1 0
    && program (join Add (input 0) (number (pos 5))) (codes "(i0 + 5)") 3 0
    && program (join Subtract (input 1) (number (negsuc 4))) (codes "(i1 - -5)") 3 0
    && program (join Multiply (number (pos 60)) (join Add (input 2) (input 3))) (codes "(60 * (i2 + i3))") 5 0
    && program (join Less (input 4) (number (pos 480))) (codes "(i4 < 480)") 3 1
    && program (join Equal (input 5) (input 6)) (codes "(i5 = i6)") 3 1
    && program (join And (truth true) (truth false)) (codes "(true & false)") 3 1
    && program (join Or (join Less (number (pos 1)) (input 7)) (truth true)) (codes "((1 < i7) | true)") 5 1
    && program (choose (join Less (input 0) (number (pos 480))) (truth false) (join Less (input 0) (number (pos 1020)))) (codes "(if (i0 < 480) then false else (i0 < 1020))") 8 1
    && program (choose (truth true) (number (pos 1)) (join Add (input 0) (number (pos 2)))) (codes "(if true then 1 else (i0 + 2))") 6 0

unfoldable pub binders_hold : Bool
binders_hold =
    -- a function from each plain type to each
    program (function 0 Number (join Add (variable 0) (number (pos 5)))) (codes "(fun v0:n . (v0 + 5))") 4 2
    && program (function 8 Number (join Less (variable 8) (number (pos 3)))) (codes "(fun v0:n . (v0 < 3))") 4 3
    && program (function 2 Truth (choose (variable 2) (number (pos 1)) (number (pos 0)))) (codes "(fun v0:t . (if v0 then 1 else 0))") 5 4
    && program (function 4095 Truth (join And (variable 4095) (truth true))) (codes "(fun v0:t . (v0 & true))") 4 5
    && program (choose (truth false) (function 0 Number (variable 0)) (function 1 Number (number (pos 1)))) (codes "(if false then (fun v0:n . v0) else (fun v0:n . 1))") 6 2
    && program (apply (function 3 Truth (variable 3)) (truth true)) (codes "((fun v0:t . v0) @ true)") 4 1
    -- a let's variable may be a function
    && program (letin 1 (function 0 Number (variable 0)) (apply (variable 1) (number (pos 3)))) (codes "(let v0 = (fun v0:n . v0) in (v0 @ 3))") 6 0
    -- a binder in the body of another has the next name
    && program (letin 0 (number (pos 4)) (apply (function 1 Number (join Add (variable 1) (variable 0))) (variable 0))) (codes "(let v0 = 4 in ((fun v1:n . (v1 + v0)) @ v0))") 8 0
    && program (letin 6 (number (pos 4)) (function 2 Number (join Multiply (variable 6) (variable 2)))) (codes "(let v0 = 4 in (fun v1:n . (v0 * v1)))") 6 2
    -- a serial bound twice belongs to the nearest binder, and a let's bound part stands outside its body
    && program (letin 5 (number (pos 1)) (letin 5 (truth true) (choose (variable 5) (number (pos 2)) (number (pos 3))))) (codes "(let v0 = 1 in (let v1 = true in (if v1 then 2 else 3)))") 8 0
    && program (letin 5 (number (pos 1)) (letin 5 (join Less (variable 5) (number (pos 2))) (variable 5))) (codes "(let v0 = 1 in (let v1 = (v0 < 2) in v1))") 7 1

unfoldable pub open_codes_hold : Bool
open_codes_hold =
    same (free (variable 9)) (9 ∷ [])
    && same (free (join Add (variable 7) (join Add (variable 3) (variable 7)))) (3 ∷ 7 ∷ [])
    && same (free (choose (variable 8) (variable 1) (variable 4))) (1 ∷ 4 ∷ 8 ∷ [])
    && same (free (apply (variable 6) (variable 2))) (2 ∷ 6 ∷ [])
    && same (free (function 3 Number (join Add (variable 3) (variable 7)))) (7 ∷ [])
    && same (free (letin 3 (variable 9) (apply (variable 3) (variable 2)))) (2 ∷ 9 ∷ [])
    && same (free (letin 3 (variable 3) (variable 3))) (3 ∷ [])
    -- under binders, the nearest first
    && same (text (7 ∷ 3 ∷ []) (join Add (variable 7) (variable 3))) (codes "(v1 + v0)")
    && same (text (3 ∷ 7 ∷ 3 ∷ []) (join Add (variable 3) (variable 7))) (codes "(v2 + v1)")
    && same (text (9 ∷ 8 ∷ []) (function 4 Truth (variable 4))) (codes "(fun v2:t . v2)")
    && same (text (replicate 10 1) (letin 0 (variable 1) (variable 0))) (codes "(let v10 = v9 in v10)")
    && typed (type_of ((7, Plain Truth) ∷ (7, Plain Number) ∷ []) (variable 7)) 1
    && typed (type_of ((2, Function Number Truth) ∷ (7, Plain Number) ∷ []) (apply (variable 2) (variable 7))) 1

unfoldable pub untyped_hold : Bool
untyped_hold =
    untyped (variable 0)
    && untyped (join Add (truth true) (number (pos 1)))
    && untyped (join Less (number (pos 1)) (truth true))
    && untyped (join Equal (truth true) (truth true))
    && untyped (join Or (truth true) (number (pos 1)))
    && untyped (choose (number (pos 1)) (number (pos 1)) (number (pos 1)))
    && untyped (choose (truth true) (number (pos 1)) (truth true))
    && untyped (apply (number (pos 1)) (number (pos 1)))
    && untyped (apply (function 0 Number (variable 0)) (truth true))
    && untyped (apply (function 0 Number (number (pos 1))) (function 1 Number (variable 1)))
    && untyped (function 0 Number (function 1 Number (variable 1)))
    && untyped (letin 0 (variable 0) (number (pos 1)))
    && untyped (join Add (letin 0 (number (pos 1)) (variable 0)) (variable 0))

unfoldable pub ranges_hold : Bool
ranges_hold =
    in_range32 (pos 2147483647)
    && in_range32 (negsuc 2147483647)
    && not (in_range32 (pos 2147483648))
    && not (in_range32 (negsuc 2147483648))
    && ranged (letin 4095 (function 4095 Number (choose (truth true) (input 7) (variable 4095))) (apply (variable 4095) (join Add (input 0) (number (pos 1)))))
    && not (ranged (number (pos 2147483648)))
    && not (ranged (input 8))
    && not (ranged (variable 4096))
    && not (ranged (function 4096 Number (truth true)))
    && not (ranged (letin 4096 (truth true) (truth true)))
    && not (ranged (function 0 Number (input 8)))
    && not (ranged (letin 0 (input 8) (input 0)))
    && not (ranged (letin 0 (input 0) (input 8)))
    && not (ranged (apply (input 8) (input 0)))
    && not (ranged (apply (input 0) (input 8)))
    && not (ranged (join Add (input 8) (input 0)))
    && not (ranged (join Add (input 0) (input 8)))
    && not (ranged (choose (input 8) (input 0) (input 0)))
    && not (ranged (choose (input 0) (input 8) (input 0)))
    && not (ranged (choose (input 0) (input 0) (input 8)))

unfoldable pub examples_hold : Bool
examples_hold = plain_codes_hold && binders_hold && open_codes_hold && untyped_hold && ranges_hold
