use Rattle.std.proofs.Common.{◌≡◌, ℕ, List, length, take, slice_get, Some, None, Option, Bor, sym, refl, ◌∙◌}
use Rattle.std.proofs.lemmas.Option.{slice_get_past, slice_get_read}
use Rattle.std.specs.Option.{option_copied}
use Rattle.std.specs.Slice.{IsGetResult}
use Rattle.store.proofs.Rows.{row_behind}
use Rattle.store.proofs.ledger.Ledger.row.Goals as goal

-- what `get` found, copied
copied : {X : Type 0} (xs : List X) (i : ℕ) (found : Option (Bor X)) → IsGetResult xs i i found → option_copied found ≡ slice_get xs i
copied xs i None e = sym (slice_get_past xs i e.3)
copied xs i (Some x) e = sym (slice_get_read xs (length xs) i x.now refl e.3.0 e.1)

pub returns : goal.returns
returns c =
    let s = c.args.self.now in
    let front = take s.used s.rows.now in
    rw (c.copied.ensures ∙ copied front c.args.handle.number c.get.result c.get.ensures.lookup) (row_behind front c.args.handle s.sound)
