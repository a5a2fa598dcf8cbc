-- Declip proposed by the old host: request P9 of document 02, whose sentences the comments quote. "The five transform methods stay in Rust,
-- and their output is not trusted. The host lends a proposal as long as the recording, with a threshold under document 01's rule." What is
-- allowed as a threshold, and which samples are at or beyond it, is cubic declip's `allowed` and `clipped`. Definitions only.
use Rattle.std.specs.Prelude.{ℕ, ◌+◌, Bool, not, ◌&&◌, ◌||◌, List, [], ◌∷◌, map, length, eqb, Float}
use Rattle.std.specs.Float.Ieee.{neg, le, lt}
use Rattle.std.specs.Prelude.{if◌then◌else◌}
use Rattle.leaves.specs.Arithmetic.{float}
use Rattle.leaves.specs.Floats.{in_range}
use Rattle.recording.specs.Recording.{State, Ended, Placed, Plan, refuse, change, picked, readable, unless_read, called}
use Rattle.recording.specs.Marks.{declip_proposed}
use Rattle.recording.specs.declared.Reason.TheVariants.{Setting, Proposal}
use Rattle.recording.specs.Answer.{Answer}
use Rattle.std.specs.Prelude.{Ok, Err}
use Rattle.declip.specs.Declip.{allowed, clipped}

-- ---- "It is accepted exactly when": of one sample, whose word is w, and of the word p that the proposal has for it

-- "every sample under the threshold in magnitude keeps its bits"
abbrev pub keeps_bits : Float → ℕ → ℕ → Bool
keeps_bits threshold w p = clipped threshold w || eqb p w

-- "each sample at or above it is answered by an in-range one at or above it"
abbrev pub answered_above : Float → ℕ → ℕ → Bool
answered_above threshold w p = not (le threshold (float w)) || (in_range p && le threshold (float p))

-- "and likewise below the negative threshold"
abbrev pub answered_below : Float → ℕ → ℕ → Bool
answered_below threshold w p = not (le (float w) (neg threshold)) || (in_range p && le (float p) (neg threshold))

-- all three
unfoldable pub answers : Float → ℕ → ℕ → Bool
unfolding clipped float in_range neg le
answers threshold w p = keeps_bits threshold w p && answered_above threshold w p && answered_below threshold w p

-- ---- Refusal 15

-- "breaking the rule, with the lowest place", of samples that stand from place i on and as many words; or else an acceptance
unfoldable pub answered : Float → ℕ → List ℕ → List ℕ → Answer
unfolding answers
answered threshold i [] ps = Ok 0
answered threshold i (w ∷ ws) [] = Ok 0
answered threshold i (w ∷ ws) (p ∷ ps) =
    let later = answered threshold (i + 1) ws ps in
    if answers threshold w p then later else Err (Proposal i)

-- "15, proposal of another length, with place 0, or breaking the rule"
unfoldable pub taken : Float → List ℕ → List ℕ → Answer
unfolding answered
taken threshold samples proposal =
    if not (eqb (length proposal) (length samples)) then Err (Proposal 0) else
    answered threshold 0 samples proposal

-- ---- The repair

-- "Named: all samples at or beyond threshold", each with the proposal's word
unfoldable pub named : Float → List ℕ → List ℕ → List Placed
unfolding clipped picked
named threshold samples proposal = picked 0 (map (clipped threshold) samples) proposal

-- its plan: refusal 4, "7 for the recording as before", which reads every sample, then 15; or "mark 8" and the named samples. "No
-- workspace."
unfoldable pub proposed_plan : Float → List ℕ → List ℕ → Plan
unfolding lt readable taken named
proposed_plan threshold proposal samples =
    if not (allowed threshold) then refuse Setting else
    unless_read (readable 0 samples)
    (unless_read (taken threshold samples proposal) (change declip_proposed (named threshold samples proposal)))

-- the call. "Demand 3's replay takes the proposal as part of the repair": it is a setting of the rule, like the threshold. 9 comes last, as
-- of every repair; "8 isn't given" (`ResultsAreInRange` of Consequences.antt).
unfoldable pub proposed_repair : Float → List ℕ → State → Ended
unfolding proposed_plan called
proposed_repair threshold proposal = called (proposed_plan threshold proposal)
