-- What the inner functions of this crate speak of: nothing that the promise of the repair needs. Definitions only.
use Rattle.std.specs.Prelude.{ℕ, ◌+◌, not, List, [], ◌∷◌, Float}
use Rattle.std.specs.Float.Ieee.{lt}
use Rattle.std.specs.Prelude.{if◌then◌else◌}
use Rattle.recording.specs.Recording.{State, fitting, or_else, readable}
use Rattle.recording.specs.declared.Reason.TheVariants.{Setting}
use Rattle.recording.specs.Answer.{Answer}
use Rattle.std.specs.Prelude.{Err}
use Rattle.declip.specs.Declip.{allowed, clipped}
use Rattle.proposed.specs.Proposed.{taken}

-- refusals 1, 14, 2, 3, 4, 7 and 15, in this order; or else an acceptance
unfoldable pub checked : Float → List ℕ → State → Answer
unfolding fitting lt readable taken
checked threshold proposal s =
    or_else (fitting s)
    (if not (allowed threshold) then Err Setting else
    or_else (readable 0 s.samples) (taken threshold s.samples proposal))

-- the places of the clipped samples, of samples that stand from place i on
unfoldable pub clipped_places : Float → ℕ → List ℕ → List ℕ
unfolding clipped
clipped_places threshold i [] = []
clipped_places threshold i (w ∷ ws) =
    let later = clipped_places threshold (i + 1) ws in
    if clipped threshold w then i ∷ later else later
