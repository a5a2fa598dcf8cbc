-- How far two files are the same. Definitions only.
use Rattle.std.specs.Prelude.{ℕ, Bool, ◌&&◌, List, length, get_or, ltb, eqb}
use Rattle.recording.specs.Runs.{run_length}

-- both have a byte i, and it is the same
abbrev pub same_at : List ℕ → List ℕ → ℕ → Bool
same_at a b i = ltb i (length b) && eqb (get_or a i 0) (get_or b i 0)

-- how many bytes of the first stand in the second too, one after the other from the start on
unfoldable pub same_bytes : List ℕ → List ℕ → ℕ
unfolding run_length
same_bytes a b = run_length (same_at a b) 0 (length a)
