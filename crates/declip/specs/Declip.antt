-- Cubic declip: document 01's declip.rs paragraph, whose sentences the comments quote. n is the number of samples. Definitions only.
use Rattle.std.specs.Prelude.{ℕ, zero, suc, ◌+◌, ◌-◌, min, Bool, true, ◌&&◌, List, length, get_or, set, ltb, Float}
use Rattle.std.specs.Float.Ieee.{le, lt, add, sub, mul, div}
use Rattle.std.specs.Float.Ieee.Scale.{finite}
use Rattle.leaves.specs.Arithmetic.{◌+₃₂◌, ◌-₃₂◌, ◌*₃₂◌, ◌/₃₂◌, nought, one, float, count}
use Rattle.leaves.specs.Floats.{magnitude}
use Rattle.recording.specs.Recording.{State, Ended, Plan, called}
use Rattle.recording.specs.Marks.{cubic_declip}
use Rattle.std.specs.Prelude.{if◌then◌else◌}
use Rattle.redraw.specs.Whole.{sample, store, Drawn, drawn, untouched, whole_plan}
use Rattle.redraw.specs.Runs.{over_runs}

-- "Threshold finite and above 0, else 4."
abbrev pub allowed : Float → Bool
allowed threshold = finite threshold && lt nought threshold

-- "with magnitude at or above threshold"
unfoldable pub clipped : Float → ℕ → Bool
unfolding float le
clipped threshold w = le threshold (magnitude (float w))

-- "A run is a longest stretch of samples, as they stood when the call began": this is its test of a place
abbrev pub clipped_at : Float → List ℕ → ℕ → Bool
clipped_at threshold samples i = clipped threshold (get_or samples i 0)

-- "from s to before e. a=max(0,s−4), z=min(min(e,n−1)+4, n−1)."
abbrev pub from : ℕ → ℕ
from s = s - 4

abbrev pub to : ℕ → ℕ → ℕ
to n e = min (min e (n - 1) + 4) (n - 1)

-- "y0*(1−3t²+2t³)+y1*(3t²−2t³)", where "t=(i−a)/(z−a), t2=t*t, t3=t2*t"
unfoldable pub cubic_at : Float → Float → ℕ → ℕ → ℕ → Float
unfolding count add sub mul div
cubic_at y0 y1 a z i =
    let t = count (i - a) /₃₂ count (z - a) in
    let t2 = t *₃₂ t in
    let t3 = t2 *₃₂ t in
    y0 *₃₂ (one -₃₂ count 3 *₃₂ t2 +₃₂ count 2 *₃₂ t3) +₃₂ y1 *₃₂ (count 3 *₃₂ t2 -₃₂ count 2 *₃₂ t3)

-- n places from i on get their samples, and are named. A place that an earlier run has named is named once: it has one flag.
unfoldable pub cubic_from : Float → Float → ℕ → ℕ → ℕ → ℕ → Drawn → Drawn
unfolding cubic_at
cubic_from y0 y1 a z i zero d = d
cubic_from y0 y1 a z i (suc n) d =
    cubic_from y0 y1 a z (i + 1) n (drawn (store d.words i (cubic_at y0 y1 a z i)) (set d.named i true))

-- "places a+1..z−1 get" these samples, "where y0 and y1 stand at a and z after earlier runs"
unfoldable pub cubic_fill : ℕ → ℕ → Drawn → Drawn
unfolding cubic_from
cubic_fill a z d = cubic_from (sample d.words a) (sample d.words z) a z (a + 1) (z - a - 1) d

-- "If z>a+4": one run, from s to before e, in a recording of n samples
unfoldable pub bridged : ℕ → ℕ → ℕ → Drawn → Drawn
unfolding cubic_fill
bridged n s e d = if ltb (from s + 4) (to n e) then cubic_fill (from s) (to n e) d else d

-- all runs, left to right. "Named: the union of those places, shoulders included."
unfoldable pub declipped : Float → List ℕ → Drawn
unfolding clipped over_runs bridged
declipped threshold samples =
    over_runs (clipped_at threshold samples) (bridged (length samples)) 0 (length samples) (untouched samples)

-- its plan: refusals 4, 6 and 7, or the mark and the named samples
unfoldable pub declip_plan : Float → ℕ → List ℕ → Plan
unfolding whole_plan declipped lt
declip_plan threshold room = whole_plan (allowed threshold) room cubic_declip (declipped threshold)

-- the call
unfoldable pub declip_repair : Float → ℕ → State → Ended
unfolding declip_plan called
declip_repair threshold room = called (declip_plan threshold room)
