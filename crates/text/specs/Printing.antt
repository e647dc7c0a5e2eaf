-- The text that is printed for a handle's code, under the binders around it.
use Rattle.std.specs.Prelude.{ℕ, ◌+◌, ◌^◌, ◌<◌, List, [], length, Some, None, Option}
use Rattle.code.specs.Code.{Code, size}
use Rattle.code.specs.Text.{text}

abbrev pub text_of : List ℕ → Option Code → List ℕ
text_of around None = []
text_of around (Some c) = text around c

abbrev pub size_of : Option Code → ℕ
size_of None = 0
size_of (Some c) = size c

-- a number of 64 bits counts the bodies that any part of the code stands in
abbrev pub Countable : List ℕ → Option Code → Type 0
Countable around c = length around + size_of c < 2 ^ 64
