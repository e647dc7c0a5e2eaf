-- What a memory holds.
use Rattle.std.specs.Prelude.{◌≡◌, ℕ, ◌<◌, ◌≤◌, List, length}
use Rattle.store.specs.declared.memory.Remembered.{Remembered}

-- entries, how many of them are in use, and the place that is written next
pub record Kept : Type 0 where
  pub entries : List Remembered
  pub count : ℕ
  pub next : ℕ

-- the places in use: all 64, or the first ones up to the next
pub record InOrder (m : Kept) : Type 0 where
  pub few : m.count ≤ 64
  pub held : m.count ≤ length m.entries
  pub within : m.next < 64
  pub filling : m.count < 64 → m.next ≡ m.count
