use Rattle.std.proofs.Common.{ap, length, arith}
use Rattle.code.specs.Serials.{names}
use Rattle.code.proofs.NameLists.{ascending_without, without_shorter}
use Rattle.code.proofs.Merges.{step_stays, step_goes}
use Rattle.code.proofs.Layouts.{writing_room, writing_more}
use Rattle.code.proofs.names.Names.without.Goals.{then-name-serial, else-name-serial}
use Rattle.code.proofs.names.Names.without.Goals as goal

pub bounds-serials-count : goal.bounds-serials-count
bounds-serials-count c =
    let next = step_stays c.args.serial _ _ c.loop-name-test.true c.if-name-serial.true in
    writing_room _ _ _ _ _ _ c.loop-name.invariant next
    (omega (arith, without_shorter c.args.serial (names c.args.self.now), ap length c.as_slice-name-items.ensures.value, c.as_slice-name-items.ensures.few))

pub loop-name-preserved : goal.loop-name-preserved
loop-name-preserved c =
    let up = rw c.as_slice-name-items.ensures.value at c.as_slice-name-items.ensures.ascending in
    elim c.if-name-serial.branch [
      | then-name-serial w ↦ (
          let next = step_stays c.args.serial _ _ c.loop-name-test.true w.if-name-serial.true in
          rw (w.serials-is, w.count-is) (writing_more _ _ _ _ _ _ c.loop-name.invariant next
          (omega (arith, without_shorter c.args.serial (names c.args.self.now), ap length c.as_slice-name-items.ensures.value, c.as_slice-name-items.ensures.few))
          (ascending_without 0 c.args.serial (names c.args.self.now) up)))
      | else-name-serial w ↦ rw (w.serials-is, w.count-is, ← step_goes c.args.serial _ _ c.loop-name-test.true w.if-name-serial.false) c.loop-name.invariant
    ]
