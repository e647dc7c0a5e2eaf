use Rattle.std.proofs.Common.{◌≡◌, ◌+◌, [], ◌∷◌, get_or, Ok, Err, Option, sym, refl, ap, ◌∙◌, sum, arith, List, take, ℕ}
use Rattle.code.specs.declared.types.Ty.{Ty}
use Rattle.code.specs.Code
use Rattle.code.specs.Names.{merge}
use Rattle.code.specs.Serials.{names}
use Rattle.code.specs.Typing.{chosen}
use Rattle.model.specs.Model.{Piece, stated, typed, choose_plan, into}
use Rattle.model.specs.Calls.{makes}
use Rattle.model.specs.declared.call.Call.TheVariants as call
use Rattle.generator.specs.Reading.{slot_of, used}
use Rattle.generator.specs.Reads.{read, read_piece, read_fault}
use Rattle.generator.proofs.Directs.{sized, choose_direct}
use Rattle.generator.proofs.Sketches.{stopped, three_read, cell_known, made_good, merged, kept_sketched, meant_three, few_tail}
use Rattle.generator.proofs.table.Table.plan_choose.Goals as goal

pub returns-in_err-x-clause-planned : goal.returns-in_err-x-clause-planned
returns-in_err-x-clause-planned c code stands =
    let t = c.args.self.now in
    let st = read code t in
    let to : slot_of c.args.cell ≡ Ok c.in_ok-to.to.at = sym c.in_ok-to.ensures.1 in
    let stops : used st (c.args.condition ∷ c.args.then ∷ c.args.otherwise ∷ []) ≡ Err (read_fault c.in_err-x.field-0.0) = c.in_err-x.ensures code in
    stopped code t c.from_residual-in_err-x.result c.in_err-x.field-0.0 c.from_residual-in_err-x.ensures.1 (choose_direct st c.args.cell c.args.condition c.args.then c.args.otherwise ∙ rw (to, stops) refl)

pub returns-in_err-ty-clause-planned : goal.returns-in_err-ty-clause-planned
returns-in_err-ty-clause-planned c code stands =
    let t = c.args.self.now in
    let st = read code t in
    let to : slot_of c.args.cell ≡ Ok c.in_ok-to.to.at = sym c.in_ok-to.ensures.1 in
    let x = get_or c.in_ok-x.field-0 0 c.index-branch-0.result in
    let y = get_or c.in_ok-x.field-0 1 c.index-branch-1.result in
    let z = get_or c.in_ok-x.field-0 2 c.index-branch-2.result in
    let were = three_read t c.args.condition c.args.then c.args.otherwise c.in_ok-x.field-0 c.index-branch-0.result c.index-branch-1.result c.index-branch-2.result c.in_ok-x.ensures in
    let cells = were.0 code in
    let stops : typed (chosen x.ty y.ty z.ty) Ok ≡ Err (read_fault c.in_err-ty.field-0.0) = ap (λ (o : Option Ty). typed o Ok) (sym c.chosen.ensures) ∙ sym c.in_err-ty.ensures in
    stopped code t c.from_residual-in_err-ty.result c.in_err-ty.field-0.0 c.from_residual-in_err-ty.ensures.1 (choose_direct st c.args.cell c.args.condition c.args.then c.args.otherwise ∙ rw (to, cells, stops) refl)

pub returns-in_err-size-clause-planned : goal.returns-in_err-size-clause-planned
returns-in_err-size-clause-planned c code stands =
    let t = c.args.self.now in
    let st = read code t in
    let to : slot_of c.args.cell ≡ Ok c.in_ok-to.to.at = sym c.in_ok-to.ensures.1 in
    let x = get_or c.in_ok-x.field-0 0 c.index-branch-0.result in
    let y = get_or c.in_ok-x.field-0 1 c.index-branch-1.result in
    let z = get_or c.in_ok-x.field-0 2 c.index-branch-2.result in
    let were = three_read t c.args.condition c.args.then c.args.otherwise c.in_ok-x.field-0 c.index-branch-0.result c.index-branch-1.result c.index-branch-2.result c.in_ok-x.ensures in
    let cells = were.0 code in
    let kind : typed (chosen x.ty y.ty z.ty) Ok ≡ Ok c.in_ok-ty.ty = ap (λ (o : Option Ty). typed o Ok) (sym c.chosen.ensures) ∙ sym c.in_ok-ty.ensures in
    let same : 1 + x.size + y.size + z.size ≡ 1 + sum (x.size ∷ y.size ∷ z.size ∷ []) = omega arith in
    let stops : sized (1 + x.size + y.size + z.size) ≡ Err (read_fault c.in_err-size.field-0.0) = ap sized same ∙ sym c.in_err-size.ensures in
    stopped code t c.from_residual-in_err-size.result c.in_err-size.field-0.0 c.from_residual-in_err-size.ensures.1 (choose_direct st c.args.cell c.args.condition c.args.then c.args.otherwise ∙ rw (to, cells, kind, stops) refl)

pub returns-clause-planned : goal.returns-clause-planned
returns-clause-planned c code stands =
    let t = c.args.self.now in
    let st = read code t in
    let to : slot_of c.args.cell ≡ Ok c.in_ok-to.to.at = sym c.in_ok-to.ensures.1 in
    let x = get_or c.in_ok-x.field-0 0 c.index-branch-0.result in
    let y = get_or c.in_ok-x.field-0 1 c.index-branch-1.result in
    let z = get_or c.in_ok-x.field-0 2 c.index-branch-2.result in
    let were = three_read t c.args.condition c.args.then c.args.otherwise c.in_ok-x.field-0 c.index-branch-0.result c.index-branch-1.result c.index-branch-2.result c.in_ok-x.ensures in
    let cells = were.0 code in
    let kind : typed (chosen x.ty y.ty z.ty) Ok ≡ Ok c.in_ok-ty.ty = ap (λ (o : Option Ty). typed o Ok) (sym c.chosen.ensures) ∙ sym c.in_ok-ty.ensures in
    let same : 1 + x.size + y.size + z.size ≡ 1 + sum (x.size ∷ y.size ∷ z.size ∷ []) = omega arith in
    let large : sized (1 + x.size + y.size + z.size) ≡ Ok c.in_ok-size.size = ap sized same ∙ sym c.in_ok-size.ensures in
    let piece : Piece = record { code = Code.choose (read_piece code x).code (read_piece code y).code (read_piece code z).code; type = c.in_ok-ty.ty; size = c.in_ok-size.size; names = merge (names x.names) (merge (names y.names) (names z.names)) } in
    let plans : choose_plan stated st c.args.cell c.args.condition c.args.then c.args.otherwise ≡ into st c.args.cell piece = choose_direct st c.args.cell c.args.condition c.args.then c.args.otherwise ∙ rw (to, cells, kind, large) refl in
    let few = (made_good code t (call.Choose c.args.cell c.args.condition c.args.then c.args.otherwise) _ stands (ap makes plans)).1.few in
    let known_x = cell_known code t c.args.condition x stands were.1 in
    let known_y = cell_known code t c.args.then y stands were.2 in
    let known_z = cell_known code t c.args.otherwise z stands were.3 in
    let tail = merged (names c.merge.result) (names y.names) (names z.names) c.merge.ensures (few_tail (names x.names) (names y.names) (names z.names) few) in
    let all = merged (names c.merge-names.result) (names x.names) (merge (names y.names) (names z.names)) (c.merge-names.ensures ∙ ap (λ (l : List ℕ). take 16 (merge (names x.names) l)) tail) few in
    kept_sketched c.args.cell piece plans c.in_ok-to.ensures.0.0 refl (meant_three Code.choose known_x known_y known_z) refl refl all
