-- `wavfile::repair_to` is safe: what is told of a file lies within the space and the rooms. Assumes nothing.
use Rattle.std.proofs.Common.{arith, ℕ, ◌≤◌, length}
use Rattle.std.proofs.lemmas.Result.{IfOk-weaker}
use Rattle.wavfile.proofs.Program.{told_within}
use Rattle.wavfile.proofs.repair_to.Goals as goal

pub save_and_report-requires : goal.save_and_report-requires
save_and_report-requires g c =
    let args = c.args in
    let new = c.repair_bytes.new in
    let repaired = c.in-Ok.repaired in
    let fit = told_within args.n args.space.now args.samples.now args.marks.now args.orders.now repaired _ _ _ _ c.in-Ok.ensures in
    let step : (size : ℕ) → (size ≤ length args.space.now) × (repaired.samples ≤ length args.samples.now) × (repaired.samples ≤ length args.marks.now)
    → (size ≤ length new.space) × (repaired.samples ≤ length new.marks) × (repaired.samples ≤ length new.orders) =
    λ size h. (
      omega (arith, h.0, c.repair_bytes.auto.space),
      omega (arith, h.2, c.repair_bytes.auto.marks),
      omega (arith, h.1, c.repair_bytes.auto.orders, c.requires.3),
    ) in
    (c.requires.1, IfOk-weaker _ _ _ step fit)
