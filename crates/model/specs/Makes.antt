-- The makes of a call, and what a store may say to them.
use Rattle.std.specs.Prelude.{◌≡◌, ℕ, ◌+◌, ◌<◌, ◌≤◌, List, [], ◌∷◌, Some, None, Ok, Err}
use Rattle.code.specs.Code.{Code}
use Rattle.model.specs.Calls.{Fate, Deed, makes, moves, prints}

-- a make: the code, and what the store said
abbrev pub Make : Type 0
Make = Code × Fate

-- the make of a call that its plan grants; no other call has one
abbrev pub asked : Fate → Deed → List Make
asked fate (makes (Ok p)) = (p.piece.code, fate) ∷ []
asked fate (makes (Err f)) = []
asked fate (moves r) = []
asked fate (prints r) = []

-- what one make does to the free units: granted, they fall by at most the price; refused, which the price alone can cause, nothing changes
abbrev pub Fair : (Code → ℕ) → ℕ → Make → ℕ → Type 0
Fair price before (c, None) after = (after ≤ before) × (before ≤ after + price c)
Fair price before (c, Some told) after = (after ≡ before) × (told.0 ≡ price c) × (told.1 ≡ before) × (before < price c)

-- makes that a store with this price and these free units, at the start and at the end, can have answered
abbrev pub Honest : (Code → ℕ) → ℕ → List Make → ℕ → Type 0
Honest price before [] after = before ≡ after
Honest price before (m ∷ ms) after = (between : ℕ) × Fair price before m between × Honest price between ms after
