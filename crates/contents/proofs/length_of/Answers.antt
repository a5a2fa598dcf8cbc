-- `contents::length_of` meets its contract: the length of a part is the third word of its row. Assumes nothing.
use mathlib.Core.Path.{sym, ◌∙◌}
use Rattle.contents.proofs.Rows.{length_there}
use Rattle.contents.proofs.length_of.Goals as goal

pub returns : goal.returns
returns c = c.word_at.ensures ∙ sym (length_there _ _ _ _ c.requires.0)
