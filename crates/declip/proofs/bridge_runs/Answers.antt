-- `declip::bridge_runs` meets its contract: a run that begins is bridged up to its end, and any other place is passed. Assumes
-- nothing.
use mathlib.Core.Path.{◌≡◌}
use Rattle.std.proofs.Common.{rules}
use Rattle.recording.specs.Runs.{begins}
use Rattle.declip.specs.Declip.{clipped_at}
use Rattle.declip.proofs.Laws.{runs_begin, run_bridged, run_passed, runs_end}
use Rattle.declip.proofs.bridge_runs.Goals as goal
use Rattle.declip.proofs.bridge_runs.Goals.{then-run_begins, else-run_begins}

pub loop-i-init : goal.loop-i-init
loop-i-init c = runs_begin _ _ _ c.requires.1

pub loop-i-preserved : goal.loop-i-preserved
loop-i-preserved c =
    let samples = c.args.recording.now.samples.now in
    let inside = c.loop-i-test.true in
    let begun : c.run_begins.result ≡ begins (clipped_at c.args.threshold c.args.recording.now.samples.now) c.loop-i.i = c.run_begins.ensures (clipped_at c.args.threshold c.args.recording.now.samples.now) (λ k b h p. search rules) in
    let going = c.loop-i.invariant in
    elim c.if-run_begins.branch [
      | then-run_begins w ↦ run_bridged _ samples _ _ _ inside _ begun going _ _ _ w.if-run_begins.true
          (w.run_end.ensures (clipped_at c.args.threshold c.args.recording.now.samples.now) (λ k b h p. search rules)) w.bridge.ensures w.bridge.auto.work w.work-is
      | else-run_begins w ↦ run_passed _ samples _ _ _ inside _ begun going _ w.if-run_begins.false w.work-is
    ]

pub returns : goal.returns
returns c = runs_end _ _ _ _ _ c.loop-i-test.false c.loop-i.invariant
