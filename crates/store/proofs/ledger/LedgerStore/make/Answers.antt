use Rattle.std.proofs.Common.{refl, sym, ◌∙◌, arith}
use Rattle.store.proofs.Makes.{sound_more, made_more}
use Rattle.store.proofs.ledger.LedgerStore.make.Goals as goal

pub invariant_of-self-clause-sound : goal.invariant_of-self-clause-sound
invariant_of-self-clause-sound c =
    let s = c.args.self.now in
    sound_more s.rows.now s.used c.in_ok-size.size c.args.construct s.sound (sym c.in_ok-size.ensures.ok_part ∙ c.size_asked.ensures) (omega arith) (omega arith)

pub returns-clause-made : goal.returns-clause-made
returns-clause-made c =
    let s = c.args.self.now in
    made_more s.rows.now s.used c.in_ok-size.size c.args.construct _ (sym c.in_ok-size.ensures.ok_part ∙ c.size_asked.ensures) (omega arith) (omega arith) refl
