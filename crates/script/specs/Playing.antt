-- How a cursor goes on.
use Rattle.std.specs.Prelude.{◌≡◌, ◌<◌, Ok, Err, Result}
use Rattle.model.specs.declared.call.Call.{Call}
use Rattle.script.specs.declared.cursor.Cursor.{Cursor}
use Rattle.script.specs.declared.step.Misread.{Misread}

-- over the same script, past a call where there is one
abbrev pub GoesOn : Cursor → Result Call Misread → Cursor → Type 0
GoesOn c (Ok call) d = (d.script.now ≡ c.script.now) × (c.place < d.place)
GoesOn c (Err m) d = d.script.now ≡ c.script.now
