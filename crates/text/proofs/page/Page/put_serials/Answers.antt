use Rattle.std.proofs.Common.{arith}
use Rattle.text.proofs.Laying.{◌⨾◌, writes_none, writes_same, listed_more}
use Rattle.text.proofs.page.Page.put_serials.Goals as goal

pub loop-serial-init : goal.loop-serial-init
loop-serial-init c = (omega arith, writes_none (omega arith) (omega arith))

pub loop-serial-preserved : goal.loop-serial-preserved
loop-serial-preserved c = (omega arith, writes_same (listed_more c.args.serials.now c.loop-serial.serial-index c.loop-serial-test.true) (c.loop-serial.invariant.1 ⨾ c.put_word_number.ensures))
