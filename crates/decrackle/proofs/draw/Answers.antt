-- `decrackle::draw` meets its contract: a short recording stays as it was laid out, and of any other the flags and then the runs
-- are drawn. Assumes nothing.
use Rattle.redraw.proofs.Workspace.{room_stays}
use Rattle.decrackle.proofs.Drawing.{drawn_short, first_clear, last_clear, drawn_all}
use Rattle.decrackle.proofs.draw.Goals as goal

pub returns-then-n-lt-LEAST_SAMPLES : goal.returns-then-n-lt-LEAST_SAMPLES
returns-then-n-lt-LEAST_SAMPLES c = drawn_short _ _ _ _ c.if-n-lt-LEAST_SAMPLES.true c.requires.1

pub smooth_runs-requires : goal.smooth_runs-requires
smooth_runs-requires c =
    let pre = c.requires in
    let made = c.flag_samples in (
      room_stays _ _ _ pre.0 made.auto.work,
      first_clear _ _ _ _ _ pre.1 made.ensures,
      last_clear _ _ _ _ _ pre.1 made.ensures c.if-n-lt-LEAST_SAMPLES.false,
    )

pub returns : goal.returns
returns c =
    drawn_all _ _ _ _ _ c.requires.1 c.flag_samples.ensures _ c.if-n-lt-LEAST_SAMPLES.false c.smooth_runs.ensures
