-- `model::fill::solve_gap` meets its contract: right sides, band, forward and back solve, each from the areas as the
-- stages before it left them. Assumes nothing.
use Prim.Native.Nat.{◌+◌, ◌*◌, ◌≤◌}
use native.Mathlib.Omega.{arith}
use mathlib.Core.Path.{◌≡◌, refl}
use lib.ListN.{length}
use Rattle.model.specs.Areas.{results_at}
use Rattle.model.specs.Model.{doubles_for}
use Rattle.model.proofs.fill.Laws.{gap_solved}
use Rattle.model.proofs.fill.solve_gap.Goals as goal

pub returns : goal.returns
returns c =
    let a = c.args in
    let b = a.size + 3 * (a.p + 1) in
    let band = a.size + 4 * (a.p + 1) in
    let rhs = band + a.len * (a.p + 1) in
    let y = rhs + a.len in
    let room : y + a.len + a.len ≤ length a.work.now = omega arith in
    let there : results_at a.size a.len a.p ≡ y + a.len = omega arith in
    gap_solved a.work.now c.right_sides.new.work c.factor.new.work c.forward_solve.new.work
    c.back_solve.new.work a.size a.g a.len a.p b band rhs y (y + a.len) (omega arith) (omega arith)
    (omega arith) (omega arith) room _ _ _ _ refl refl refl refl
    c.right_sides.ensures c.factor.ensures c.forward_solve.ensures c.back_solve.ensures
    (results_at a.size a.len a.p) (doubles_for a.size a.len a.p) there (omega arith)
