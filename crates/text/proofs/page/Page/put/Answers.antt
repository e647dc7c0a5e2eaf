use Rattle.std.proofs.Common.{ℕ, take, ap, ◌∙◌, arith, refl, sym}
use Rattle.std.proofs.lemmas.List.{take_all}
use Rattle.text.proofs.Laying.{laid_copy, laid_past}
use Rattle.text.proofs.page.Page.put.Goals as goal

pub returns-then-start-self : goal.returns-then-start-self
returns-then-start-self c = record {
  same_reference = refl;
  laid = laid_past (omega arith) c.if-start-self.true c.saturating_add-self.ensures;
}

pub returns-then-text-room : goal.returns-then-text-room
returns-then-text-room c = record {
  same_reference = refl;
  laid = laid_copy (omega arith) (omega arith) (omega arith) (c.copy_from_slice.ensures.after ∙ sym (take_all _ c.args.text.now (omega arith))) c.saturating_add-self.ensures;
}

pub returns : goal.returns
returns c = record {
  same_reference = refl;
  laid = laid_copy (omega arith) (omega arith) (omega arith) (c.copy_from_slice-2.ensures.after ∙ ap (λ (n : ℕ). take n c.args.text.now) (omega arith)) c.saturating_add-self.ensures;
}
