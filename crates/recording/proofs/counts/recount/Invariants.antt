-- `recording::counts::recount` meets its contract. The loop's invariant: recounting what is left gives the whole. Assumes nothing.
use Rattle.recording.proofs.counts.Laws.{Recounted}
use Rattle.recording.proofs.counts.recount.Given as goal

abbrev pub invariant-loop-i : goal.invariant-loop-i
invariant-loop-i l = Recounted l.marks l.initial.counts l.journal l.begin l.m l.counts l.last l.i
