-- What reading standard input promises. Definitions only.
use Rattle.std.specs.Prelude.{ℕ, ◌≡◌, ◌≤◌, List, length, take, Option, Some, None}

-- an input that was read whole has no more bytes than the space that it was read to
abbrev pub Within : Option ℕ → List ℕ → Type 0
Within (Some n) space = n ≤ length space
Within None space = Unit {0}

-- of an input whose bytes are known, one that was read whole has them all at the start of the space
abbrev pub HasAll : Option (List ℕ) → Option ℕ → List ℕ → Type 0
HasAll (Some bytes) (Some n) space = take n space ≡ bytes
HasAll (Some bytes) None space = Unit {0}
HasAll None input space = Unit {0}
