-- What a sharing layer adds to the store below it.
use Rattle.std.specs.Prelude.{◌≡◌, ℕ, ◌<◌, Some, Ok, Err, Result}
use Rattle.code.specs.declared.construct.Handle.{Handle}
use Rattle.code.specs.declared.construct.Construct.{Construct}
use Rattle.code.specs.Code.{Code}
use Rattle.store.specs.declared.meaning.StoreFault.{StoreFault}
use Rattle.store.specs.Kept.{Kept}
use Rattle.store.specs.declared.sharing.Sharing.{Sharing}
use Rattle.store.specs.declared.meaning.Store.{Ghosts}
use Rattle.store.specs.Moment.{Moment}
use Rattle.store.specs.Memory.{entry, count, Asked, Noted, EmptyMemory}

-- a new layer is over the store as given, with nothing remembered
pub record FreshLayer {S : Type 0} {store : Ghosts S} (given : S) (s : Sharing S store) : Type 0 where
  pub below : s.below ≡ given
  pub memory : EmptyMemory s.memory

-- a layer is a store with the codes, the units and the prices of the one below
pub record LikeBelow (given layer : Moment) : Type 0 where
  pub codes : (h : Handle) → layer.codes h ≡ given.codes h
  pub units : layer.units ≡ given.units
  pub prices : (c : Code) → layer.prices c ≡ given.prices c

-- some entry has the request
pub record Holds (m : Kept) (x : Construct) : Type 0 where
  pub place : ℕ
  pub within : place < count m
  pub same : (entry m place).request ≡ x

-- a request that was granted below is noted, one that was refused is not
abbrev pub Learnt : Kept → Construct → Result Handle StoreFault → Kept → Type 0
Learnt m x (Ok h) n = Noted m x h n
Learnt m x (Err f) n = n ≡ m

-- a remembered request is answered by a remembered handle, and nothing changes, below neither
pub record Hit {S : Type 0} {store : Ghosts S} (s : Sharing S store) (x : Construct) (r : Result Handle StoreFault) (t : Sharing S store) : Type 0 where
  pub same : t ≡ s
  pub handle : Handle
  pub held : Asked s.memory x (Some handle)
  pub granted : r ≡ Ok handle

-- make over the memory: a hit alters nothing, after a miss the memory has learnt what was granted
pub record Shares {S : Type 0} {store : Ghosts S} (s : Sharing S store) (x : Construct) (r : Result Handle StoreFault) (t : Sharing S store) : Type 0 where
  pub hit : Holds s.memory x → Hit s x r t
  pub miss : (Holds s.memory x → ⊥) → Learnt s.memory x r t.memory
