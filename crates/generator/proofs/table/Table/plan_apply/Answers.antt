use Rattle.std.proofs.Common.{◌≡◌, ◌+◌, [], ◌∷◌, get_or, Ok, Err, Option, sym, refl, ap, ◌∙◌, sum, arith}
use Rattle.code.specs.declared.types.Ty.{Ty}
use Rattle.code.specs.Code
use Rattle.code.specs.Names.{merge}
use Rattle.code.specs.Serials.{names}
use Rattle.code.specs.Typing.{applied}
use Rattle.model.specs.Model.{Piece, stated, typed, apply_plan, into}
use Rattle.model.specs.Calls.{makes}
use Rattle.model.specs.declared.call.Call.TheVariants as call
use Rattle.generator.specs.Reading.{slot_of, used}
use Rattle.generator.specs.Reads.{read, read_piece, read_fault}
use Rattle.generator.proofs.Directs.{sized, apply_direct}
use Rattle.generator.proofs.Sketches.{stopped, two_read, cell_known, made_good, merged, kept_sketched, meant_two}
use Rattle.generator.proofs.table.Table.plan_apply.Goals as goal

pub returns-in_err-x-clause-planned : goal.returns-in_err-x-clause-planned
returns-in_err-x-clause-planned c code stands =
    let t = c.args.self.now in
    let st = read code t in
    let to : slot_of c.args.cell ≡ Ok c.in_ok-to.to.at = sym c.in_ok-to.ensures.1 in
    let stops : used st (c.args.function ∷ c.args.argument ∷ []) ≡ Err (read_fault c.in_err-x.field-0.0) = c.in_err-x.ensures code in
    stopped code t c.from_residual-in_err-x.result c.in_err-x.field-0.0 c.from_residual-in_err-x.ensures.1 (apply_direct st c.args.cell c.args.function c.args.argument ∙ rw (to, stops) refl)

pub returns-in_err-ty-clause-planned : goal.returns-in_err-ty-clause-planned
returns-in_err-ty-clause-planned c code stands =
    let t = c.args.self.now in
    let st = read code t in
    let to : slot_of c.args.cell ≡ Ok c.in_ok-to.to.at = sym c.in_ok-to.ensures.1 in
    let x = get_or c.in_ok-x.field-0 0 c.index-branch-0.result in
    let y = get_or c.in_ok-x.field-0 1 c.index-branch-1.result in
    let were = two_read t c.args.function c.args.argument c.in_ok-x.field-0 c.index-branch-0.result c.index-branch-1.result c.in_ok-x.ensures in
    let cells = were.0 code in
    let stops : typed (applied x.ty y.ty) Ok ≡ Err (read_fault c.in_err-ty.field-0.0) = ap (λ (o : Option Ty). typed o Ok) (sym c.applied.ensures) ∙ sym c.in_err-ty.ensures in
    stopped code t c.from_residual-in_err-ty.result c.in_err-ty.field-0.0 c.from_residual-in_err-ty.ensures.1 (apply_direct st c.args.cell c.args.function c.args.argument ∙ rw (to, cells, stops) refl)

pub returns-in_err-size-clause-planned : goal.returns-in_err-size-clause-planned
returns-in_err-size-clause-planned c code stands =
    let t = c.args.self.now in
    let st = read code t in
    let to : slot_of c.args.cell ≡ Ok c.in_ok-to.to.at = sym c.in_ok-to.ensures.1 in
    let x = get_or c.in_ok-x.field-0 0 c.index-branch-0.result in
    let y = get_or c.in_ok-x.field-0 1 c.index-branch-1.result in
    let were = two_read t c.args.function c.args.argument c.in_ok-x.field-0 c.index-branch-0.result c.index-branch-1.result c.in_ok-x.ensures in
    let cells = were.0 code in
    let kind : typed (applied x.ty y.ty) Ok ≡ Ok c.in_ok-ty.ty = ap (λ (o : Option Ty). typed o Ok) (sym c.applied.ensures) ∙ sym c.in_ok-ty.ensures in
    let same : 1 + x.size + y.size ≡ 1 + sum (x.size ∷ y.size ∷ []) = omega arith in
    let stops : sized (1 + x.size + y.size) ≡ Err (read_fault c.in_err-size.field-0.0) = ap sized same ∙ sym c.in_err-size.ensures in
    stopped code t c.from_residual-in_err-size.result c.in_err-size.field-0.0 c.from_residual-in_err-size.ensures.1 (apply_direct st c.args.cell c.args.function c.args.argument ∙ rw (to, cells, kind, stops) refl)

pub returns-clause-planned : goal.returns-clause-planned
returns-clause-planned c code stands =
    let t = c.args.self.now in
    let st = read code t in
    let to : slot_of c.args.cell ≡ Ok c.in_ok-to.to.at = sym c.in_ok-to.ensures.1 in
    let x = get_or c.in_ok-x.field-0 0 c.index-branch-0.result in
    let y = get_or c.in_ok-x.field-0 1 c.index-branch-1.result in
    let were = two_read t c.args.function c.args.argument c.in_ok-x.field-0 c.index-branch-0.result c.index-branch-1.result c.in_ok-x.ensures in
    let cells = were.0 code in
    let kind : typed (applied x.ty y.ty) Ok ≡ Ok c.in_ok-ty.ty = ap (λ (o : Option Ty). typed o Ok) (sym c.applied.ensures) ∙ sym c.in_ok-ty.ensures in
    let same : 1 + x.size + y.size ≡ 1 + sum (x.size ∷ y.size ∷ []) = omega arith in
    let large : sized (1 + x.size + y.size) ≡ Ok c.in_ok-size.size = ap sized same ∙ sym c.in_ok-size.ensures in
    let piece : Piece = record { code = Code.apply (read_piece code x).code (read_piece code y).code; type = c.in_ok-ty.ty; size = c.in_ok-size.size; names = merge (names x.names) (names y.names) } in
    let plans : apply_plan stated st c.args.cell c.args.function c.args.argument ≡ into st c.args.cell piece = apply_direct st c.args.cell c.args.function c.args.argument ∙ rw (to, cells, kind, large) refl in
    let few = (made_good code t (call.Apply c.args.cell c.args.function c.args.argument) _ stands (ap makes plans)).1.few in
    let known_x = cell_known code t c.args.function x stands were.1 in
    let known_y = cell_known code t c.args.argument y stands were.2 in
    let all = merged (names c.merge.result) (names x.names) (names y.names) c.merge.ensures few in
    kept_sketched c.args.cell piece plans c.in_ok-to.ensures.0.0 refl (meant_two Code.apply known_x known_y) refl refl all
