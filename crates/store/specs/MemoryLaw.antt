-- A construct asks for one code at most, so a memory remembers in one way.
use Rattle.std.specs.Prelude.{◌≡◌, Some, Ok, Option, unwrap_or}
use Rattle.std.proofs.Common.{sym, ap, ◌∙◌}
use Rattle.std.proofs.Math.Nat.{ℕ_set}
use Rattle.std.proofs.Props.{props}
use mathlib.Core.HLevel.{is_prop→PathP}
use Rattle.code.specs.declared.construct.Handle.{Handle}
use Rattle.code.specs.declared.construct.Construct.{Construct}
use Rattle.code.specs.Code.{Code}
use Rattle.store.specs.Kept.{Kept, InOrder}
use Rattle.store.specs.Meaning.{Codes, wanted, Answers}
use Rattle.store.specs.Memory.{Remembers}
use Rattle.store.specs.CodeLaw.{wanted_set, known_set}

answers_prop : (code : Codes) (x : Construct) (h : Handle) → IsProp (Answers code x h)
answers_prop code x h a b =
    let one : a.0 ≡ b.0 = ap (λ (o : Option Code). unwrap_or o b.0) (sym a.2 ∙ b.2) in
    λ i. (
      one i,
      is_prop→PathP (λ i. wanted code x ≡ Ok (one i)) (λ i. wanted_set (wanted code x) (Ok (one i))) a.1 b.1 i,
      is_prop→PathP (λ i. code h ≡ Some (one i)) (λ i. known_set (code h) (Some (one i))) a.2 b.2 i,
    )

in_order_prop : (m : Kept) → IsProp (InOrder m)
in_order_prop m = hlevel (props, ℕ_set)

pub remembers_prop : (code : Codes) (m : Kept) → IsProp (Remembers code m)
remembers_prop code m = hlevel (in_order_prop m, answers_prop code)
