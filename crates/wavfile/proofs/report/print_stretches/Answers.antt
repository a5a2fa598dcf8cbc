-- `wavfile::report::print_stretches` is safe and ends: each stretch begins where the one before it ended, and has a place. Assumes nothing.
use Prim.Native.Nat.{ℕ, ◌+◌, ◌-◌, ◌≤◌, ◌<◌}
use native.Mathlib.Omega.{arith}
use mathlib.Core.Path.{◌≡◌}
use mathlib.Core.List.{List}
use lib.ListN.{length}
use Rattle.recording.proofs.Runs.{run_within}
use Rattle.wavfile.specs.Stretches.{alike_at, stretch_end}
use Rattle.wavfile.proofs.report.print_stretches.Goals as goal

-- where a stretch ends: behind its start, and not behind the last place
end_within : (marks orders : List ℕ) (start r : ℕ) → start < length marks → r ≡ stretch_end marks orders start → (start < r) × (r ≤ length marks)
unfolding stretch_end
end_within marks orders start r h e =
    let short = run_within (alike_at marks orders start) (start + 1) (length marks - (start + 1)) in
    (omega (arith, e), omega (arith, e, short))

pub loop-i-init : goal.loop-i-init
loop-i-init g c = omega arith

pub stretch_end-i-requires : goal.stretch_end-i-requires
stretch_end-i-requires g c = (c.loop-i-test.true, c.requires)

pub bounds-marks-start : goal.bounds-marks-start
bounds-marks-start g c = c.loop-i-test.true

pub overflow_sub-i : goal.overflow_sub-i
overflow_sub-i g c =
    omega (arith, (end_within _ _ _ _ c.loop-i-test.true c.stretch_end-i.ensures).0)

pub loop-i-smaller-in-Continue-1 : goal.loop-i-smaller-in-Continue-1
loop-i-smaller-in-Continue-1 g c =
    let end = end_within _ _ _ _ c.loop-i-test.true c.stretch_end-i.ensures in
    omega (arith, end.0, end.1)

pub loop-i-preserved-in-Continue-1 : goal.loop-i-preserved-in-Continue-1
loop-i-preserved-in-Continue-1 g c =
    (end_within _ _ _ _ c.loop-i-test.true c.stretch_end-i.ensures).1

pub loop-i-smaller : goal.loop-i-smaller
loop-i-smaller g c =
    let end = end_within _ _ _ _ c.loop-i-test.true c.stretch_end-i.ensures in
    omega (arith, end.0, end.1)

pub loop-i-preserved : goal.loop-i-preserved
loop-i-preserved g c =
    (end_within _ _ _ _ c.loop-i-test.true c.stretch_end-i.ensures).1
