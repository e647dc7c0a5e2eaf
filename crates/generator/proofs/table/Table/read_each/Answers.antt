use Rattle.std.proofs.Common.{◌≡◌, length, slice_index, slice_index_or, slice_set, Ok, Err, below_more, get_or-set_other, get_or-set_same, length-set, sym, refl, ap, ◌∙◌, subst, arith}
use Rattle.std.proofs.lemmas.Grind.{common_steps}
use Rattle.std.proofs.lemmas.Result.{err_from_is_err_and}
use Rattle.std.specs.List.{AllZip, IsAmong}
use Rattle.generator.specs.declared.cell.Piece.{Piece}
use Rattle.generator.specs.Reading.{held_at, ReadEach}
use Rattle.generator.proofs.Judging.{used-empty, used-held, all_zip}
use Rattle.generator.proofs.table.Table.read_each.Goals as goal

pub returns-in_err-pieces : goal.returns-in_err-pieces
returns-in_err-pieces g c =
    let t = c.args.self.now in
    let a = slice_index c.args.cells c.loop-i.i in
    let among : IsAmong c.args.cells a = (c.loop-i.i, (omega arith, grind (arith, common_steps))) in
    let p = err_from_is_err_and c.from_residual-in_err-pieces.result c.from_residual-in_err-pieces.ensures.1 in
    subst (ReadEach t c.args.cells) (sym (p.1 ∙ ap Err p.2)) λ code. used-empty code t c.args.cells a c.in_err-pieces.field-0.0 (sym c.in_ok-judge_numbers.ensures) among (sym c.in_err-pieces.ensures)

pub loop-i-preserved : goal.loop-i-preserved
loop-i-preserved g c =
    let t = c.args.self.now in
    let piece = c.in_ok-pieces.field-0 in
    let whole : length c.loop-i.pieces ≡ length c.args.cells = c.loop-i.invariant.whole in
    record {
      whole = length-set c.loop-i.pieces c.loop-i.i piece ∙ whole;
      held = λ k d lt.
          below_more (λ k. (d : Piece) → held_at t (slice_index c.args.cells k) ≡ Ok (slice_index_or (slice_set c.loop-i.pieces c.loop-i.i piece) k d)) c.loop-i.i
          (λ k before d. c.loop-i.invariant.held k d before ∙ ap Ok (sym (get_or-set_other c.loop-i.pieces c.loop-i.i k piece d (omega arith))))
          (λ d. sym c.in_ok-pieces.ensures ∙ ap Ok (sym (get_or-set_same c.loop-i.pieces c.loop-i.i piece d (omega arith)))) k lt d;
    }

pub returns-in_err-judge_uses : goal.returns-in_err-judge_uses
returns-in_err-judge_uses g c =
    let t = c.args.self.now in
    let held : AllZip (λ a p. held_at t a ≡ Ok p) c.args.cells c.loop-i.pieces = all_zip (λ a p. held_at t a ≡ Ok p) c.args.cells c.loop-i.pieces (sym c.loop-i.invariant.whole) λ k d lt. c.loop-i.invariant.held k d (omega arith) in
    let p = err_from_is_err_and c.from_residual-in_err-judge_uses.result c.from_residual-in_err-judge_uses.ensures.1 in
    subst (ReadEach t c.args.cells) (sym (p.1 ∙ ap Err p.2)) λ code. used-held code t c.args.cells c.loop-i.pieces held ∙ rw (← c.in_err-judge_uses.ensures code) refl

pub returns : goal.returns
returns g c =
    let t = c.args.self.now in
    let held : AllZip (λ a p. held_at t a ≡ Ok p) c.args.cells c.loop-i.pieces = all_zip (λ a p. held_at t a ≡ Ok p) c.args.cells c.loop-i.pieces (sym c.loop-i.invariant.whole) λ k d lt. c.loop-i.invariant.held k d (omega arith) in
    record { held_there = held; used_pieces = λ code. used-held code t c.args.cells c.loop-i.pieces held ∙ rw (← c.in_ok-judge_uses.ensures code) refl }
