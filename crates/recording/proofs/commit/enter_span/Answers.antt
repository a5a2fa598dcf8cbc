-- `recording::commit::enter_span` meets its contract: each way out is a line of the rule, whatever words come to stand in
-- the span. Assumes nothing.
use Rattle.recording.proofs.commit.Laws.{span_none, span_room, span_recountable, span_entered}
use Rattle.recording.proofs.commit.enter_span.Goals as goal

pub returns-then-len-eq0 : goal.returns-then-len-eq0
returns-then-len-eq0 c = λ words count. span_none _ _ _ _ words count c.if-len-eq0.true

pub returns-then-journal-at : goal.returns-then-journal-at
returns-then-journal-at c = λ words count. span_room _ _ _ _ words count c.if-len-eq0.false c.if-journal-at.true

pub recount-requires : goal.recount-requires
recount-requires c =
    span_recountable _ _ _ _ _ _ c.requires.0 c.requires.1 c.if-journal-at.false
    c.set_all.ensures c.save_span.ensures

pub returns : goal.returns
returns c =
    let marks = c.set_all.ensures in
    let entry = c.seal.ensures in
    λ words count.
    span_entered _ _ _ _ words count c.if-len-eq0.false _ _ _ _ _ c.if-journal-at.false marks c.save_span.ensures
    c.recount.ensures entry.0 entry.1
