-- `decrackle::hermite_word` meets its contract: the operations are those of the rule. Assumes nothing.
use Rattle.decrackle.proofs.Curves.{hermite-word}
use Rattle.decrackle.proofs.hermite_word.Goals as goal

pub returns : goal.returns
returns c = hermite-word _ _ _ _ _ _ _ _ c.count_as_f32.ensures c.word_of_f32.ensures
