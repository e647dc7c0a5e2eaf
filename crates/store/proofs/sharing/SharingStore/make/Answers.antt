use Rattle.store.proofs.Shares.{shared_found, shared_made}
use Rattle.store.proofs.sharing.SharingStore.make.Goals as goal

pub returns-in-Some-clause-made : goal.returns-in-Some-clause-made
returns-in-Some-clause-made g c =
    let s = c.args.self.now in
    shared_found _ s.memory _ _ c.args.construct c.in-Some.handle s.remembers c.in-Some.ensures

pub invariant_of-self-2 : goal.invariant_of-self-2
invariant_of-self-2 g c =
    let s = c.args.self.now in
    record { remembers = shared_made _ _ s.memory _ _ _ _ _ c.args.construct _ s.remembers c.in_ok-handle.ensures.made c.note.ensures }
