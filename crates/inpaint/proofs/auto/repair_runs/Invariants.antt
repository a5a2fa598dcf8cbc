-- `inpaint::auto::repair_runs` meets its contract. The loop's invariant: the scan from here on gives the whole scan, and the orders
-- of the runs from here on the whole list;
-- each run found took a place or more, so that the runs counted are at most as many as the places passed. The measure
-- is how many places are left. Assumes nothing.
use Rattle.std.proofs.Common.{◌≡◌, ◌-◌, ◌≤◌, length}
use Rattle.recording.specs.Lent.{held, SameMemory}
use Rattle.inpaint.specs.Auto.{scan, refused_number, scan_from}
use Rattle.inpaint.specs.Runs.{runs_among, runs_of}
use Rattle.inpaint.specs.Order.{orders_over}
use Rattle.inpaint.proofs.auto.repair_runs.Given as goal

abbrev pub invariant-loop-start : goal.invariant-loop-start
invariant-loop-start l =
    let s = held l.recording in
    let t = held l.initial.recording in
    let n = length t.samples in
    (l.at ≤ n)
    × (l.qualified ≤ l.at)
    × (l.repaired ≤ l.qualified)
    × (length s.samples ≡ n)
    × SameMemory l.initial.recording l.recording
    × (scan_from l.most l.held l.at (n - l.qualified) (scan l.qualified l.repaired (refused_number l.refused) s l.work)
    ≡ scan_from l.most l.held 0 n (scan 0 0 0 t l.initial.work))
    × (orders_over (length l.initial.work) (runs_among s.samples l.most l.held l.at l.at (n - l.at)) s l.orders
    ≡ orders_over (length l.initial.work) (runs_of t.samples l.most l.held) t l.initial.orders)

abbrev pub decreases-loop-start : goal.decreases-loop-start
decreases-loop-start l = length l.initial.recording.samples.now - l.at
