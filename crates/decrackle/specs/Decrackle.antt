-- Decrackle: document 01's decrackle.rs paragraph, and where its floor starts also request P7 of document 02. The comments quote their
-- sentences. Definitions only.
use Rattle.std.specs.Prelude.{ℕ, zero, suc, ◌+◌, ◌-◌, Bool, false, not, ◌||◌, List, [], ◌∷◌, length, get_or, take, leb, ltb, eqb, Float}
use Rattle.std.specs.Float.{binary32}
use Rattle.std.specs.Float.Ieee.{lt, is_nan, add, sub, mul, div, neg}
use Rattle.leaves.specs.Arithmetic.{◌+₃₂◌, ◌-₃₂◌, ◌*₃₂◌, ◌/₃₂◌, nought, one, half, near, float, count}
use Rattle.leaves.specs.Floats.{magnitude, larger, held}
use Rattle.recording.specs.Recording.{State, Ended, Plan, called}
use Rattle.std.specs.Prelude.{if◌then◌else◌}
use Rattle.recording.specs.Marks as marks
use Rattle.redraw.specs.Whole.{sample, store, Drawn, drawn, untouched, whole_plan}
use Rattle.redraw.specs.Runs.{over_runs}
use Rattle.decrackle.specs.declared.Start.{Start}
use Rattle.decrackle.specs.declared.Start.TheVariants.{Mean, Old}

-- ---- The settings

-- "Sensitivity not NaN"
abbrev pub allowed : Float → Bool
allowed sensitivity = not (is_nan sensitivity)

-- "held to 1..10; factor 12−sensitivity"
unfoldable pub factor_for : Float → Float
unfolding held count sub
factor_for sensitivity = count 12 -₃₂ held one (count 10) sensitivity

-- ---- The flags

-- the formula of "elsewhere s[i]−0.5*(s[i−1]+s[i+1])", from the samples at i-1, i and i+1
unfoldable pub from_middle : Float → Float → Float → Float
unfolding add sub mul
from_middle before here behind = here -₃₂ half *₃₂ (before +₃₂ behind)

-- "Detector 0 at both ends, elsewhere s[i]−0.5*(s[i−1]+s[i+1])."
unfoldable pub detector : List ℕ → ℕ → Float
unfolding float from_middle
detector s i =
    if eqb i 0 || eqb (i + 1) (length s) then nought
    else from_middle (sample s (i - 1)) (sample s i) (sample s (i + 1))

-- the detector's magnitudes at n places from i on
unfoldable pub magnitudes_from : List ℕ → ℕ → ℕ → List Float
unfolding detector
magnitudes_from s i zero = []
magnitudes_from s i (suc n) = magnitude (detector s i) ∷ magnitudes_from s (i + 1) n

-- those of all places
unfoldable pub magnitudes : List ℕ → List Float
unfolding magnitudes_from
magnitudes s = magnitudes_from s 0 (length s)

-- the 1e-6 of "max(floor,1e-6)", and of "raised to 1e-6 if below"
unfoldable pub least_floor : Float
unfolding near
least_floor = near binary32 1 1000000

-- the 1,024 of "the first 1,024 detector magnitudes"
abbrev pub mean_over : ℕ
mean_over = 1024

-- "summed in order", on top of what is summed already
unfoldable pub summed : Float → List Float → Float
unfolding add
summed sum [] = sum
summed sum (a ∷ ms) = summed (sum +₃₂ a) ms

-- "and divided once, raised to 1e-6 if below": the mean of n magnitudes, by their sum
unfoldable pub mean_floor : Float → ℕ → Float
unfolding larger least_floor count div
mean_floor sum n = larger (sum /₃₂ count n) least_floor

-- the 1e-6 of "Floor starts at 1e-6", which is now the old start
unfoldable pub old_floor : Float
unfolding near
old_floor = near binary32 1 1000000

-- where the floor starts, by the magnitudes of all places: "from the f32 mean of the first 1,024 detector magnitudes (all of them if fewer)"; or,
-- as document 01 has it, at 1e-6
unfoldable pub opening_floor : Start → List Float → Float
unfolding summed mean_floor old_floor
opening_floor Mean ms = let first = take mean_over ms in mean_floor (summed nought first) (length first)
opening_floor Old ms = old_floor

-- the 0.001 of "floor=floor*(1−0.001)+a*0.001"
unfoldable pub alpha : Float
unfolding near
alpha = near binary32 1 1000

-- "floor=floor*(1−0.001)+a*0.001"
unfoldable pub floor_after : Float → Float → Float
unfolding alpha add sub mul
floor_after floor a = floor *₃₂ (one -₃₂ alpha) +₃₂ a *₃₂ alpha

-- "then flag if a>factor*max(floor,1e-6)"
unfoldable pub flagged : Float → Float → Float → Bool
unfolding larger least_floor lt mul
flagged factor floor a = lt (factor *₃₂ larger floor least_floor) a

-- the flags of places with these magnitudes, where `floor` is the floor before them
unfoldable pub flags_from : Float → Float → List Float → List Bool
unfolding floor_after flagged
flags_from factor floor [] = []
flags_from factor floor (a ∷ ms) = let next = floor_after floor a in flagged factor next a ∷ flags_from factor next ms

-- those of all places
unfoldable pub flags_of : Start → Float → List ℕ → List Bool
unfolding factor_for magnitudes opening_floor flags_from
flags_of start sensitivity s = flags_from (factor_for sensitivity) (opening_floor start (magnitudes s)) (magnitudes s)

-- ---- "Each flagged run is rewritten as `repair_hermite` does": the run from s to before e, between the anchors at s-1 and e

-- the slopes at the two anchors, where there is a sample beyond them
unfoldable pub slope_before : List ℕ → ℕ → Float
unfolding float sub
slope_before out s = if leb 2 s then sample out (s - 1) -₃₂ sample out (s - 2) else nought

unfoldable pub slope_behind : List ℕ → ℕ → Float
unfolding float sub
slope_behind out e = if ltb (e + 1) (length out) then sample out (e + 1) -₃₂ sample out e else nought

-- sample k of the run, from the anchors' samples p0 and p1, their slopes m0 and m1, and the number of steps between them
unfoldable pub hermite_at : Float → Float → Float → Float → Float → ℕ → Float
unfolding count add sub mul div neg
hermite_at p0 p1 m0 m1 span k =
    let t = count (k + 1) /₃₂ span in
    let t2 = t *₃₂ t in
    let t3 = t2 *₃₂ t in
    let h00 = count 2 *₃₂ t3 -₃₂ count 3 *₃₂ t2 +₃₂ one in
    let h10 = t3 -₃₂ count 2 *₃₂ t2 +₃₂ t in
    let h01 = neg (count 2) *₃₂ t3 +₃₂ count 3 *₃₂ t2 in
    let h11 = t3 -₃₂ t2 in
    h00 *₃₂ p0 +₃₂ h10 *₃₂ (m0 *₃₂ span) +₃₂ h01 *₃₂ p1 +₃₂ h11 *₃₂ (m1 *₃₂ span)

-- n samples of it, from the k-th on
unfoldable pub hermite_from : Float → Float → Float → Float → Float → ℕ → ℕ → ℕ → List ℕ → List ℕ
unfolding hermite_at
hermite_from p0 p1 m0 m1 span s k zero out = out
hermite_from p0 p1 m0 m1 span s k (suc n) out =
    hermite_from p0 p1 m0 m1 span s (k + 1) n (store out (s + k) (hermite_at p0 p1 m0 m1 span k))

-- the anchors and the slopes are read before the run is written
unfoldable pub repair_hermite : ℕ → ℕ → List ℕ → List ℕ
unfolding float count slope_before slope_behind hermite_from
repair_hermite s e out =
    hermite_from (sample out (s - 1)) (sample out e) (slope_before out s) (slope_behind out e) (count (e - (s - 1))) s 0 (e - s) out

-- ---- The repair

-- "left to right on the changing output"
unfoldable pub smoothed : List Bool → List ℕ → List ℕ
unfolding over_runs repair_hermite
smoothed flags out = over_runs (λ i. get_or flags i false) repair_hermite 0 (length flags) out

-- the 8 of "Under 8 samples: nothing named."
abbrev pub least_samples : ℕ
least_samples = 8

-- "Under 8 samples: nothing named." "Named: the flagged places."
unfoldable pub decrackled : Start → Float → List ℕ → Drawn
unfolding flags_of smoothed
decrackled start sensitivity samples =
    let flags = flags_of start sensitivity samples in
    if ltb (length samples) least_samples then untouched samples else drawn (smoothed flags samples) flags

-- "This sets mark 7", and "the old start by name, which keeps mark 4"
unfoldable pub mark_for : Start → ℕ
mark_for Mean = marks.decrackle_from_mean
mark_for Old = marks.decrackle

-- its plan: refusals 4, 6 and 7, or the mark and the named samples
unfoldable pub decrackle_plan : Start → Float → ℕ → List ℕ → Plan
unfolding whole_plan mark_for decrackled is_nan
decrackle_plan start sensitivity room = whole_plan (allowed sensitivity) room (mark_for start) (decrackled start sensitivity)

-- the call
unfoldable pub decrackle_repair : Start → Float → ℕ → State → Ended
unfolding decrackle_plan called
decrackle_repair start sensitivity room = called (decrackle_plan start sensitivity room)
