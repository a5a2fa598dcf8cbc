-- `inpaint::line::line_word` meets its contract: the operations are those of the rule. Assumes nothing.
use Rattle.inpaint.proofs.line.Laws.{line_word}
use Rattle.inpaint.proofs.line.line_word.Goals as goal

pub returns : goal.returns
returns c =
    line_word _ _ _ _ _ _ _ c.count_as_f32.ensures c.count_as_f32-2.ensures
    c.word_of_f32.ensures
