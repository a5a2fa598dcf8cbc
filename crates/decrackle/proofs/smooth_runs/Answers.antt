-- `decrackle::smooth_runs` meets its contract. The loop's invariant: rewriting the runs that are left gives the whole, and the
-- flags are as they were. Assumes nothing.
use mathlib.Core.Path.{◌≡◌}
use Prim.Native.Nat.{◌+◌, ◌-◌}
use native.Mathlib.Omega.{arith}
use Rattle.std.proofs.Common.{rules}
use Rattle.recording.specs.Runs.{begins, run_length}
use Rattle.redraw.specs.Inner.{flagged_at}
use Rattle.decrackle.proofs.Drawing.{flag_read, smooth_none, run_inside, smooth_one, smooth_all}
use Rattle.decrackle.proofs.smooth_runs.Goals as goal
use Rattle.decrackle.proofs.smooth_runs.Goals.{then-run_begins, else-run_begins}

pub repair_hermite-requires : goal.repair_hermite-requires
repair_hermite-requires c =
    let n = c.args.n in
    let w = c.loop-i.work in
    let begun : c.run_begins.result ≡ begins (flagged_at c.args.n c.loop-i.work) c.loop-i.i =
    c.run_begins.ensures (flagged_at n w) (λ k b h p. flag_read n k w b (omega (arith, c.loop-i-test.true)) (search rules)) in
    let ended : c.run_end-end.result ≡ c.loop-i.i + run_length (flagged_at c.args.n c.loop-i.work) c.loop-i.i (c.args.n - c.loop-i.i) =
    c.run_end-end.ensures (flagged_at n w) (λ k b h p. flag_read n k w b h (search rules)) in
    run_inside _ _ _ _ c.loop-i.invariant c.loop-i-test.true _ begun c.if-run_begins.true _ ended
    c.requires.0 c.requires.1 c.requires.2

pub loop-i-preserved : goal.loop-i-preserved
loop-i-preserved c =
    let n = c.args.n in
    let w = c.loop-i.work in
    let begun : c.run_begins.result ≡ begins (flagged_at c.args.n c.loop-i.work) c.loop-i.i =
    c.run_begins.ensures (flagged_at n w) (λ k b h p. flag_read n k w b (omega (arith, c.loop-i-test.true)) (search rules)) in
    elim c.if-run_begins.branch [
      | then-run_begins r ↦ smooth_one _ _ _ _ c.loop-i.invariant c.loop-i-test.true _ begun r.if-run_begins.true _
          (r.run_end-end.ensures (flagged_at n w) (λ k b h p. flag_read n k w b h (search rules)))
          _ _ r.repair_hermite.auto.work r.repair_hermite.ensures r.work-is
      | else-run_begins r ↦ smooth_none _ _ _ _ c.loop-i.invariant c.loop-i-test.true _ begun _ r.if-run_begins.false r.work-is
    ]

pub returns : goal.returns
returns c = smooth_all _ _ _ _ c.loop-i.invariant c.requires.0 c.loop-i-test.false
