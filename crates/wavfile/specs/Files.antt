-- Files by name. Definitions only.
use Rattle.std.specs.Prelude.{ℕ, ◌≤◌, List, [], ◌∷◌, ◌++◌, Option, Some, None}

-- a file that was read whole has no more bytes than the space that it was read to
abbrev pub Within : Option ℕ → ℕ → Type 0
Within (Some n) room = n ≤ room
Within None room = Unit {0}

-- `.part`, which stands behind the name of a file that is not whole yet
abbrev pub suffix : List ℕ
suffix = 46 ∷ 112 ∷ 97 ∷ 114 ∷ 116 ∷ []

abbrev pub part_name : List ℕ → List ℕ
part_name name = name ++ suffix
