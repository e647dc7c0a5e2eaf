use Rattle.std.proofs.Common.{◌∙◌, take}
use Rattle.store.specs.Search.{First}
use Rattle.generator.specs.declared.binder.Binder.{Binder}
use Rattle.generator.specs.Binders.{SameSerial}
use Rattle.generator.proofs.Opens.{search_tells}
use Rattle.generator.proofs.table.Table.is_open.Goals as goal

pub returns : goal.returns
returns c code =
    let wanted : Binder = record { serial = c.args.serial; binding = c.default.result.binding } in
    let t = c.args.self.now in
    let found : First SameSerial wanted (take t.depth t.binders) c.find.result = rw c.open_binders.ensures at c.find.ensures in
    c.is_some.ensures ∙ search_tells code wanted (take t.depth t.binders) c.find.result found
