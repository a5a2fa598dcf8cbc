-- `model::estimate::correlate` meets its contract. The loop's invariant: the first lags stand behind the window, which
-- is as it was. Assumes nothing.
use mathlib.Core.Path.{◌≡◌}
use lib.ListN.{length}
use lib.Seq.{sets}
use Rattle.model.specs.Model.{each, lag_sum}
use Rattle.model.specs.Areas.{area}
use Rattle.model.proofs.estimate.correlate.Given as goal

abbrev pub invariant-loop-lag : goal.invariant-loop-lag
invariant-loop-lag l = (length l.work ≡ length l.initial.work)
    × (l.work ≡ sets l.initial.work l.size (each (lag_sum (area l.initial.work 0 l.size) l.g l.len) 0 l.lag))
