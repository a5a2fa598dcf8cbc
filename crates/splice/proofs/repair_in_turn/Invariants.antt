-- `splice::repair_in_turn` meets its contract. The loop's invariant: the spans from here on, with their answers stored from here
-- on, give the whole. Assumes nothing.
use mathlib.Core.Path.{◌≡◌}
use lib.ListN.{drop}
use Rattle.recording.specs.Lent.{held, SameMemory}
use Rattle.splice.specs.Several.{spans, answer_lists, in_turn}
use Rattle.splice.proofs.Laws.{placed}
use Rattle.splice.proofs.repair_in_turn.Given as goal

abbrev pub invariant-loop-k : goal.invariant-loop-k
invariant-loop-k l = SameMemory l.initial.recording l.recording
    × (placed l.k (answer_lists l.numbers l.values l.orders) (in_turn l.passes (drop l.k (spans l.starts l.lens)) l.work (held l.recording))
    ≡ in_turn l.passes (spans l.starts l.lens) l.initial.work (held l.initial.recording))
