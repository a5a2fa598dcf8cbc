-- `leaves::words::count_as_f32` meets its contract: the library rounds as the rule does. Assumes nothing.
use Rattle.leaves.proofs.words.Laws.{count_is}
use Rattle.leaves.proofs.words.count_as_f32.Goals as goal

pub returns : goal.returns
returns c = count_is _ _ c.nearest_u32_to_f32.ensures
