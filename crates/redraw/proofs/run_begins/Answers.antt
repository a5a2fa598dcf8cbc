-- `redraw::run_begins` meets its contract, whatever the test is that the calls decide. Assumes nothing.
use mathlib.Core.Path.{sym, ◌∙◌}
use native.Mathlib.Omega.{arith}
use borrow.Author.Tests.{eq-eqb}
use Rattle.recording.proofs.Runs.{begins_not, begins_first, begins_after}
use Rattle.redraw.proofs.run_begins.Goals as goal
use Rattle.redraw.proofs.run_begins.Goals.{then-meets+then-i-eq0, then-meets+else-i-eq0, else-meets}

pub returns : goal.returns
returns g c = λ test decides.
    let here = decides c.args.i c.meets.result (omega arith) c.meets.ensures in
    elim c.if-meets.branch [
      | then-meets+then-i-eq0 w ↦ w.result-is ∙ eq-eqb _ _ w.if-i-eq0.true ∙ begins_first test _ (sym here ∙ w.if-meets.true) w.if-i-eq0.true
      | then-meets+else-i-eq0 w ↦ w.result-is ∙ begins_after test _ _ (sym here ∙ w.if-meets.true) w.if-i-eq0.false (sym (decides _ _ (omega arith) w.meets-else-i-eq0.ensures))
      | else-meets w ↦ w.result-is ∙ w.if-meets.false ∙ begins_not test _ (sym here ∙ w.if-meets.false)
    ]
