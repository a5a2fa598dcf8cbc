-- `redraw::run_end` meets its contract: a place that does not meet the test ends the run, and else place n does.
-- Assumes nothing.
use mathlib.Core.Path.{◌≡◌, sym, ◌∙◌}
use native.Mathlib.Omega.{arith}
use Rattle.recording.proofs.Runs.{run_more, run_stops, run_ends}
use Rattle.redraw.proofs.run_end.Goals as goal

pub returns-then-not-meets : goal.returns-then-not-meets
returns-then-not-meets g c = λ test decides.
    let here = decides _ _ c.loop-end-test.true c.meets.ensures in
    run_stops test _ _ _ c.loop-end-test.true (sym here ∙ c.if-not-meets.true) (c.loop-end.invariant test decides)

pub loop-end-preserved : goal.loop-end-preserved
loop-end-preserved g c = λ test decides.
    let here = decides _ _ c.loop-end-test.true c.meets.ensures in
    run_more test _ _ _ c.loop-end-test.true (sym here ∙ c.if-not-meets.false) (c.loop-end.invariant test decides)

pub returns : goal.returns
returns g c = λ test decides.
    let last : c.args.n ≡ c.loop-end.end = omega (arith, c.loop-end.auto.end-end c.requires.within) in
    last ∙ run_ends test _ _ _ c.loop-end-test.false (c.loop-end.invariant test decides)
