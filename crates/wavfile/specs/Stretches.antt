-- The stretches of a report, in the words of the plan for request P12: "one line for each stretch of made samples (first place, how many,
-- mark, the model's order) instead of one for each sample". Definitions only.
use Rattle.std.specs.Prelude.{ℕ, ◌+◌, ◌-◌, Bool, ◌&&◌, List, length, get_or, eqb}
use Rattle.recording.specs.Runs.{run_length}

-- place i has the mark and the order of the place where the stretch starts
abbrev pub alike_at : List ℕ → List ℕ → ℕ → ℕ → Bool
alike_at marks orders start i = eqb (get_or marks i 0) (get_or marks start 0) && eqb (get_or orders i 0) (get_or orders start 0)

-- where the longest such stretch ends
unfoldable pub stretch_end : List ℕ → List ℕ → ℕ → ℕ
unfolding run_length
stretch_end marks orders start =
    let behind = start + 1 in
    behind + run_length (alike_at marks orders start) behind (length marks - behind)
