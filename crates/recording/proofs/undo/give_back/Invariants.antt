-- `recording::undo::give_back` meets its contract. The loop's invariant: putting what is left gives what putting all
-- m saved samples gives. Assumes nothing.
use Rattle.recording.proofs.undo.Laws.{GivenBack}
use Rattle.recording.proofs.undo.give_back.Given as goal

abbrev pub invariant-loop-i : goal.invariant-loop-i
invariant-loop-i l = GivenBack l.initial.samples l.initial.marks l.journal l.begin l.m l.samples l.marks l.i
