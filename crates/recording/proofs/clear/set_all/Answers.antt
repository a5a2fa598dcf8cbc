use Rattle.std.proofs.Common.{◌≡◌, ◌+◌, ◌-◌, ◌<◌, ◌≤◌, refl, arith}
use Rattle.leaves.proofs.Stores.{run_more, all_stored}
use Rattle.recording.proofs.clear.set_all.Goals as goal

pub loop-i-init : goal.loop-i-init
loop-i-init g c = let none : c.args.count - (c.args.start - c.args.start) ≡ c.args.count = omega arith in rw none refl

pub loop-i-preserved : goal.loop-i-preserved
loop-i-preserved g c =
    let next : c.loop-i.i + 1 - c.args.start ≡ c.loop-i.i - c.args.start + 1 = omega (arith, c.loop-i.auto.i) in
    let below : c.loop-i.i - c.args.start < c.args.count = omega (arith, c.loop-i.auto.i, c.loop-i-test.true) in
    rw next (run_more _ _ _ _ _ _ _ below refl c.loop-i.invariant)

pub returns : goal.returns
returns g c =
    let past : c.args.count ≤ c.loop-i.i - c.args.start = omega (arith, c.loop-i-test.false) in
    all_stored _ _ _ _ _ _ past c.loop-i.invariant
