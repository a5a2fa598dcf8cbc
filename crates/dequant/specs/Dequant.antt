-- Dequantize, both forms: document 01's dequant.rs paragraph, whose sentences the comments quote. n is the number of samples.
-- Definitions only.
use Rattle.std.specs.Prelude.{ℕ, zero, suc, ◌+◌, ◌-◌, ◌^◌, min, max, Bool, false, not, ◌&&◌, List, [], ◌∷◌, length, leb, ltb, negsuc, Float}
use Rattle.std.specs.Float.{fin, binary32}
use Rattle.std.specs.Float.Ieee.{lt, is_nan, add, sub, mul, div, neg}
use Rattle.leaves.specs.Arithmetic.{◌+₃₂◌, ◌-₃₂◌, ◌*₃₂◌, ◌/₃₂◌, nought, one, half, near, float, count}
use Rattle.leaves.specs.Floats.{magnitude, held, rounded}
use Rattle.recording.specs.Recording.{State, Ended, Plan, called}
use Rattle.std.specs.Prelude.{if◌then◌else◌}
use Rattle.recording.specs.Marks as marks
use Rattle.redraw.specs.Whole.{sample, store, Drawn, drawn, untouched, whole_plan}

-- ---- The settings

-- "Strength not NaN"
abbrev pub allowed : Float → Bool
allowed strength = not (is_nan strength)

-- "held to 0..1"
unfoldable pub strength_of : Float → Float
unfolding held
strength_of strength = held nought one strength

-- "bits held to 4..24; step 2/2^bits"
unfoldable pub step_of : ℕ → Float
unfolding count div
step_of bits = count 2 /₃₂ count (2 ^ min (max bits 4) 24)

-- ---- "The formulas are the source's."

-- a prediction for a sample x, held to within half a step of x's place on the lattice of steps
unfoldable pub target : Float → Float → Float → Float
unfolding add sub mul div rounded held
target step x pred =
    let q = rounded (x /₃₂ step) *₃₂ step in
    held (q -₃₂ step *₃₂ half) (q +₃₂ step *₃₂ half) pred

-- which places are named: those from `edge` on that have as many behind them
unfoldable pub inner_from : ℕ → ℕ → ℕ → ℕ → List Bool
inner_from edge n i zero = []
inner_from edge n i (suc left) = (leb edge i && ltb (i + edge) n) ∷ inner_from edge n (i + 1) left

-- of all n places
abbrev pub inner : ℕ → ℕ → List Bool
inner edge n = inner_from edge n 0 n

-- ---- `dequantize`

-- the first pass at place i: toward the middle of its neighbours
unfoldable pub first_at : Float → Float → List ℕ → ℕ → Float
unfolding float target add sub mul
first_at step strength out i =
    let x = sample out i in
    x +₃₂ strength *₃₂ (target step x ((sample out (i - 1) +₃₂ sample out (i + 1)) *₃₂ half) -₃₂ x)

-- "its first pass reads changed neighbours": left places from i on
unfoldable pub first_pass : Float → Float → ℕ → ℕ → List ℕ → List ℕ
unfolding first_at
first_pass step strength i zero out = out
first_pass step strength i (suc left) out = first_pass step strength (i + 1) left (store out i (first_at step strength out i))

-- a quarter
abbrev pub quarter : Float
quarter = fin false 1 (negsuc 1)

-- the second pass at place i: toward the middle of four neighbours in src, at half the strength
unfoldable pub second_at : Float → Float → List ℕ → Float → ℕ → Float
unfolding float target add sub mul
second_at step strength src x i =
    let pred = (sample src (i - 2) +₃₂ sample src (i - 1) +₃₂ sample src (i + 1) +₃₂ sample src (i + 2)) *₃₂ quarter in
    x +₃₂ strength *₃₂ half *₃₂ (target step (sample src i) pred -₃₂ x)

-- "its second .. a snapshot", which is src
unfoldable pub second_pass : Float → Float → List ℕ → ℕ → ℕ → List ℕ → List ℕ
unfolding float second_at
second_pass step strength src i zero out = out
second_pass step strength src i (suc left) out =
    second_pass step strength src (i + 1) left (store out i (second_at step strength src (sample out i) i))

-- "(strength above 0.3, n at least 5)"
unfoldable pub wide : Float → ℕ → Bool
unfolding near lt
wide strength n = leb 5 n && lt (near binary32 3 10) strength

-- what the second pass makes of the first, where there is one
abbrev pub widened : Float → Float → List ℕ → List ℕ
widened step strength src =
    if wide strength (length src) then second_pass step strength src 2 (length src - 4) src else src

-- "(n at least 3, strength above 0)"
unfoldable pub acts : Float → ℕ → ℕ → Bool
unfolding lt
acts strength least n = leb least n && lt nought strength

-- "`dequantize` names places 1..n−2"
unfoldable pub dequantized : ℕ → Float → List ℕ → Drawn
unfolding step_of strength_of first_pass second_pass inner_from acts wide
dequantized bits strength samples =
    let n = length samples in
    let held = strength_of strength in
    let step = step_of bits in
    if acts held 3 n then drawn (widened step held (first_pass step held 1 (n - 2) samples)) (inner 1 n) else untouched samples

-- its plan: refusals 4, 6 and 7, or the mark and the named samples
unfoldable pub dequantize_plan : ℕ → Float → ℕ → List ℕ → Plan
unfolding whole_plan dequantized is_nan
dequantize_plan bits strength room = whole_plan (allowed strength) room marks.dequantize (dequantized bits strength)

-- the call
unfoldable pub dequantize_repair : ℕ → Float → ℕ → State → Ended
unfolding dequantize_plan called
dequantize_repair bits strength room = called (dequantize_plan bits strength room)

-- ---- `dequantize_cosparse`, at a sample with a and b before it and c and d behind it

-- the middle of the nearest two, and a cubic through all four
unfoldable pub linear : Float → Float → Float
unfolding add mul
linear b c = (b +₃₂ c) *₃₂ half

unfoldable pub cubic : Float → Float → Float → Float → Float
unfolding count neg add sub mul div
cubic a b c d = (neg a +₃₂ count 4 *₃₂ b +₃₂ count 4 *₃₂ c -₃₂ d) /₃₂ count 6

-- how much the cubic counts: less where the samples bend, and at least a tenth
unfoldable pub cubic_weight : Float → Float → Float → Float → Float
unfolding near count held add sub mul div
cubic_weight a b c d =
    let d2 = magnitude (d -₃₂ count 2 *₃₂ c +₃₂ count 2 *₃₂ b -₃₂ a) in
    held (near binary32 1 10) one (one /₃₂ (one +₃₂ count 32 *₃₂ d2))

-- the two, weighed
unfoldable pub candidate : Float → Float → Float → Float → Float
unfolding linear cubic cubic_weight add mul div
candidate a b c d =
    let weight = cubic_weight a b c d in
    (linear b c +₃₂ cubic a b c d *₃₂ weight) /₃₂ (one +₃₂ weight)

-- the strength falls to a half where the samples rise or fall steeply
unfoldable pub local_strength : Float → Float → Float → Float
unfolding count add sub mul div
local_strength strength b c =
    let d1 = magnitude (c -₃₂ b) in
    strength *₃₂ (half +₃₂ half /₃₂ (one +₃₂ count 16 *₃₂ d1))

-- an iteration at place i
unfoldable pub sparse_at : Float → Float → List ℕ → ℕ → Float
unfolding float target candidate local_strength add sub mul
sparse_at step strength src i =
    let x = sample src i in
    let goal = target step x (candidate (sample src (i - 2)) (sample src (i - 1)) (sample src (i + 1)) (sample src (i + 2))) in
    x +₃₂ local_strength strength (sample src (i - 1)) (sample src (i + 1)) *₃₂ (goal -₃₂ x)

-- one iteration, over the snapshot src
unfoldable pub sparse_pass : Float → Float → List ℕ → ℕ → ℕ → List ℕ → List ℕ
unfolding sparse_at
sparse_pass step strength src i zero out = out
sparse_pass step strength src i (suc left) out =
    sparse_pass step strength src (i + 1) left (store out i (sparse_at step strength src i))

-- so many iterations, each over what the one before it left
unfoldable pub sparse_passes : Float → Float → ℕ → List ℕ → List ℕ
unfolding sparse_pass
sparse_passes step strength zero src = src
sparse_passes step strength (suc k) src = sparse_passes step strength k (sparse_pass step strength src 2 (length src - 4) src)

-- "(n at least 5, strength above 0, iterations above 0, at most 16 run)"
abbrev pub most_iterations : ℕ
most_iterations = 16

-- "`dequantize_cosparse` names 2..n−3"
unfoldable pub cosparse : ℕ → Float → ℕ → List ℕ → Drawn
unfolding step_of strength_of sparse_passes inner_from acts
cosparse bits strength iterations samples =
    let n = length samples in
    let held = strength_of strength in
    if acts held 5 n && ltb 0 iterations
    then drawn (sparse_passes (step_of bits) held (min iterations most_iterations) samples) (inner 2 n) else untouched samples

-- its plan: refusals 4, 6 and 7, or the mark and the named samples
unfoldable pub cosparse_plan : ℕ → Float → ℕ → ℕ → List ℕ → Plan
unfolding whole_plan cosparse is_nan
cosparse_plan bits strength iterations room =
    whole_plan (allowed strength) room marks.dequantize (cosparse bits strength iterations)

-- the call
unfoldable pub cosparse_repair : ℕ → Float → ℕ → ℕ → State → Ended
unfolding cosparse_plan called
cosparse_repair bits strength iterations room = called (cosparse_plan bits strength iterations room)
