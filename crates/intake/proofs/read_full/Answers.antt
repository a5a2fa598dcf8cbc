-- Each further read grows what stands at the start.
use Rattle.std.proofs.Common.{rules}
use Rattle.intake.proofs.Filling.{consumed_more}
use Rattle.intake.proofs.read_full.Goals as goal

pub loop-done-preserved : goal.loop-done-preserved
loop-done-preserved g c =
    let read = c.in_ok-n.ensures in
    record {
      within = search rules;
      bytes = consumed_more _ _ _ c.loop-done.space c.read_at.new.space c.loop-done.done c.in_ok-n.n read.front c.loop-done.invariant.bytes read.bytes;
    }
