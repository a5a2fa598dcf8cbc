-- `recording::commit::seal` meets its contract: two stores, one after the other. Assumes nothing.
use native.Mathlib.Omega.{arith}
use lib.ListN.{length-set}
use Rattle.recording.proofs.commit.Laws.{two_words}
use Rattle.recording.proofs.commit.seal.Goals as goal

pub bounds-journal-at-2 : goal.bounds-journal-at-2
bounds-journal-at-2 c = simp length-set (omega arith)

pub returns : goal.returns
returns c = (two_words c.args.journal.now _ _ _, omega arith)
