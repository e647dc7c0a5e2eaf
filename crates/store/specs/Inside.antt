-- A memory and what it holds are told by each other.
use Rattle.store.specs.Kept.{Kept}
use Rattle.store.specs.declared.memory.Memory.TheInside.{Inside}

abbrev pub kept_of : Inside → Kept
kept_of memory = record { entries = memory.entries; count = memory.count; next = memory.next }

abbrev pub memory_of : Kept → Inside
memory_of kept = record { entries = kept.entries; count = kept.count; next = kept.next }
