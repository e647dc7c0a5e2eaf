-- The size of the code that a construct asks for, by the sizes of its parts.
use Rattle.std.specs.Prelude.{ℕ, ◌+◌, List, Some, None, Option, fold, if◌then◌else◌}
use Rattle.code.specs.declared.construct.Handle.{Handle}
use Rattle.code.specs.declared.construct.Construct.{Construct}
use Rattle.code.specs.Code.{Code, size}
use Rattle.store.specs.Meaning.{Codes, meant, in_range}

abbrev pub size_of : Option Code → Option ℕ
size_of None = None
size_of (Some c) = Some (size c)

-- a sum, none where a part is none
abbrev pub plus : Option ℕ → Option ℕ → Option ℕ
plus None b = None
plus (Some a) None = None
plus (Some a) (Some b) = Some (a + b)

-- one more than the sizes of the parts together
abbrev pub size_over : Codes → List Handle → Option ℕ
size_over code parts = fold (λ size part. plus size (size_of (code part))) (Some 1) parts

-- none for an unknown handle or a number outside its range
abbrev pub size_asked : Codes → Construct → Option ℕ
size_asked code x = if in_range x then size_of (meant code x) else None
