-- `declip::is_clipped` meets its contract: the comparison is the rule's. Assumes nothing.
use Rattle.declip.proofs.Laws.{clipped_word}
use Rattle.declip.proofs.is_clipped.Goals as goal

pub returns : goal.returns
returns c = clipped_word _ _ _ _ c.f32_of_word.ensures c.magnitude.ensures
