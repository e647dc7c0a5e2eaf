-- What the generator knows of the code in each cell is exact.
use Rattle.std.specs.Prelude.{◌≡◌, ℕ, List, [], ◌∷◌, Some}
use Rattle.code.specs.Members.{In}
use Rattle.code.specs.Code.{size}
use Rattle.code.specs.Names.{free, Ascending}
use Rattle.code.specs.Typing.{Scope}
use Rattle.code.specs.Exact.{HasType}
use Rattle.model.specs.Model.{State, Piece, Binder, bound, serial, variable_type, cell, escaping}
use Rattle.model.specs.Finish.{Grown}

-- the names that the open binders bind, with their types, the latest first
abbrev pub scope : List Binder → Scope
scope [] = []
scope (b ∷ bs) = (serial b, variable_type b) ∷ scope bs

-- a code with its size and free names, ascending, and, where none of them escapes, its type under the open binders
pub record Exact (st : State) (p : Piece) : Type 0 where
  pub size_is : p.size ≡ size p.code
  pub names_are : p.names ≡ free p.code
  pub ascending : Ascending 0 p.names
  pub type_is : escaping st.open_binders p.names ≡ [] → HasType (scope st.open_binders) p.code p.type

-- each full cell is exact, and so are size and names of each open let's bound code
pub record CellsExact (st : State) : Type 0 where
  pub cells : (i : ℕ) (p : Piece) → cell st i ≡ Some p → Exact st p
  pub bounds : (s : ℕ) (e : Piece) → In (bound s e) st.open_binders → (e.size ≡ size e.code) × (e.names ≡ free e.code)

-- so it is in every state that calls lead to
abbrev pub AllExact : Type 0
AllExact = (st : State) → Grown st → CellsExact st
