use Rattle.std.proofs.Common.{ℕ, ◌≤◌, List, ◌++◌, length, sym, ap, ◌∙◌, take, arith, refl}
use Rattle.std.proofs.lemmas.List.{append-nil, take_all, take_at}
use Rattle.code.specs.Serials.{names}
use Rattle.code.proofs.NameLists.{ascending_merge}
use Rattle.code.proofs.Layouts.{counted, next_above}
use Rattle.code.proofs.names.Names.merge.Goals as goal

pub push-requires-clause-above : goal.push-requires-clause-above
push-requires-clause-above c =
    let left = rw c.as_slice-left.ensures.value at c.as_slice-left.ensures.ascending in
    let right = rw c.as_slice-right.ensures.value at c.as_slice-right.ensures.ascending in
    next_above _ _ _ _ _ c.loop-merged.invariant.joins c.in-Some.ensures.some.merged (ascending_merge 0 _ _ left right)

pub returns : goal.returns
returns c =
    let laid = c.loop-merged.merged.laid_out in
    let count = counted _ _ _ laid refl in
    sym (take_at _ _ 16 (omega (arith, count, laid.few))) ∙ ap (take 16) c.loop-merged.invariant.joins

pub returns-in_default : goal.returns-in_default
returns-in_default c =
    let laid = c.loop-merged.merged.laid_out in
    let written = names c.loop-merged.merged in
    let few : length written ≤ 16 = omega (arith, counted _ _ _ laid refl, laid.few) in
    let whole = sym (append-nil written) ∙ ap (λ (ys : List ℕ). written ++ ys) (sym c.in_default.ensures.none) ∙ c.loop-merged.invariant.joins in
    sym (take_all 16 written few) ∙ ap (take 16) whole
