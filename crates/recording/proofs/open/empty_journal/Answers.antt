-- `recording::open::empty_journal` meets its contract: a run of 0 over all words is what it leaves of them. Assumes nothing.
use mathlib.Core.Path.{◌∙◌, refl}
use Rattle.recording.proofs.open.Laws.{all_over}
use Rattle.recording.proofs.open.empty_journal.Goals as goal

pub returns : goal.returns
returns c = (c.set_all.ensures ∙ all_over _ _, refl)
