-- `recording::counts::counted_mark` meets its contract. Assumes nothing.
use borrow.Author.Rules.{rules}
use Rattle.recording.specs.Counts.{counted_mark}
use Rattle.recording.proofs.counts.counted_mark.Goals as goal

pub returns : goal.returns
unfolding counted_mark
returns c = search rules
