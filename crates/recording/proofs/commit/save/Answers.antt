-- `recording::commit::save` meets its contract: three stores, one after the other. Assumes nothing.
use Rattle.recording.proofs.commit.Laws.{one_saved}
use Rattle.recording.proofs.commit.save.Goals as goal

pub returns : goal.returns
returns c = one_saved _ _ _ _ _
