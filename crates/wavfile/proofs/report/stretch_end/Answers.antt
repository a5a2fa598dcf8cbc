-- `wavfile::report::stretch_end` meets its contract. The loop's invariant: the stretch from here on ends where the whole one does. Assumes
-- nothing.
use Prim.Native.Nat.{◌+◌, ◌≤◌}
use native.Mathlib.Omega.{arith}
use mathlib.Core.Path.{◌≡◌, sym, ◌∙◌}
use lib.ListN.{length}
use borrow.Author.Tests.{not-true, not-false}
use Rattle.recording.proofs.Runs.{run_more, run_stops, run_ends}
use Rattle.wavfile.specs.Stretches.{alike_at, stretch_end}
use Rattle.std.proofs.Common.{ap, not}
use Rattle.wavfile.proofs.report.stretch_end.Goals as goal

pub returns-then-not-is_alike : goal.returns-then-not-is_alike
unfolding stretch_end
returns-then-not-is_alike c =
    let out = sym c.is_alike.ensures ∙ not-true _ (ap not c.if-not-is_alike.true) in
    run_stops (alike_at c.args.marks.now c.args.orders.now c.args.start) _ _ _ c.loop-end-test.true out c.loop-end.invariant

pub loop-end-preserved : goal.loop-end-preserved
loop-end-preserved c =
    let met = sym c.is_alike.ensures ∙ not-false _ (ap not c.if-not-is_alike.false) in
    run_more (alike_at c.args.marks.now c.args.orders.now c.args.start) _ _ _ c.loop-end-test.true met c.loop-end.invariant

pub returns : goal.returns
unfolding stretch_end
returns c =
    let behind : c.args.start + 1 ≤ length c.args.marks.now = omega (arith, c.requires.0) in
    let end : length c.args.marks.now ≡ c.loop-end.end = omega (arith, c.loop-end-test.false, c.loop-end.auto.end-end behind) in
    end ∙ run_ends (alike_at c.args.marks.now c.args.orders.now c.args.start) _ _ _ c.loop-end-test.false c.loop-end.invariant
