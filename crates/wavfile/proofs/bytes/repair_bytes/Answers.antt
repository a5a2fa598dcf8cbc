-- `wavfile::bytes::repair_bytes` meets its contract: where the file is taken, the first places of the rooms are lent to the scan, and come
-- back repaired. Assumes nothing.
use mathlib.Core.Path.{refl, sym}
use mathlib.Core.List.{[]}
use native.Mathlib.Omega.{arith}
use Prim.Native.Nat.{◌≤◌}
use lib.ListN.{length}
use lib.Seq.{length-take-le}
use Rattle.std.proofs.lemmas.Result.{err_from_is_err_and}
use Rattle.wavfile.proofs.Program.{rooms, tells_away, tells_scan}
use Rattle.wavfile.proofs.bytes.repair_bytes.Goals as goal

pub returns-in_err-read : goal.returns-in_err-read
returns-in_err-read c =
    let p = err_from_is_err_and c.from_residual.result c.from_residual.ensures.1 in
    rw (p.1, p.2) (tells_away _ _ _ _ _ _ _ _ c.in_err-read.ensures)

pub slice_bounds-repair_samples-end : goal.slice_bounds-repair_samples-end
slice_bounds-repair_samples-end c =
    let args = c.args in
    (rooms args.n args.space.now args.samples.now args.marks.now [] _ _ _ _ c.in_ok-read.ensures _ refl).2

pub slice_bounds-repair_samples-end-2 : goal.slice_bounds-repair_samples-end-2
slice_bounds-repair_samples-end-2 c =
    let args = c.args in
    sym (length-take-le _ _ (rooms args.n args.space.now args.samples.now args.marks.now [] _ _ _ _ c.in_ok-read.ensures _ refl).2)

pub slice_bounds-repair_samples-end-3 : goal.slice_bounds-repair_samples-end-3
slice_bounds-repair_samples-end-3 c =
    let args = c.args in
    (rooms args.n args.space.now args.samples.now args.marks.now [] _ _ _ _ c.in_ok-read.ensures _ refl).3

pub slice_bounds-repair_samples-end-4 : goal.slice_bounds-repair_samples-end-4
slice_bounds-repair_samples-end-4 c =
    let args = c.args in
    sym (length-take-le _ _ (rooms args.n args.space.now args.samples.now args.marks.now [] _ _ _ _ c.in_ok-read.ensures _ refl).3)

pub slice_bounds-repair_samples-end-5 : goal.slice_bounds-repair_samples-end-5
slice_bounds-repair_samples-end-5 c =
    let args = c.args in
    let room =
    (rooms args.n args.space.now args.samples.now args.marks.now [] _ _ _ _ c.in_ok-read.ensures _ refl).0 in
    omega (arith, room, c.requires.2)

pub slice_bounds-repair_samples-end-6 : goal.slice_bounds-repair_samples-end-6
slice_bounds-repair_samples-end-6 c =
    let args = c.args in
    let room =
    (rooms args.n args.space.now args.samples.now args.marks.now [] _ _ _ _ c.in_ok-read.ensures _ refl).0 in
    let within : c.in_ok-read.read.samples ≤ length c.args.orders.now = omega (arith, room, c.requires.2) in
    sym (length-take-le _ _ within)

pub returns : goal.returns
returns c =
    let args = c.args in
    let part = c.repair_samples.new in
    tells_scan args.n args.space.now args.samples.now args.marks.now args.orders.now _ _ _ _ c.in_ok-read.ensures _ refl _ _ _ _ _ c.requires.2 c.repair_samples.auto.samples
    c.repair_samples.auto.marks c.repair_samples.auto.orders c.repair_samples.ensures
