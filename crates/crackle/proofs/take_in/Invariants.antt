-- `crackle::take_in` meets its contract. The loop's invariant: taking in what is left gives the whole, in the detector, in the room for values and in
-- the room for flags. Assumes nothing.
use Rattle.std.proofs.Common.{◌≡◌, ◌+◌, map, drop}
use lib.Seq.{sets}
use Rattle.crackle.specs.Pieces.{flags_due, holding, with_piece, flags_before, flag_byte}
use Rattle.crackle.proofs.Steps.{left_from}
use Rattle.crackle.proofs.take_in.Given as goal

abbrev pub invariant-loop-i : goal.invariant-loop-i
invariant-loop-i l = (l.present.start ≡ l.detector.start) × (l.present.taken ≡ l.detector.taken + l.i)
    × (with_piece (holding l.present l.held) (drop l.i l.piece) ≡ with_piece (holding l.initial.present l.initial.held) l.piece)
    × (sets l.flags (flags_due l.detector.start l.detector.taken l.i) (left_from l.piece (holding l.present l.held) l.i)
    ≡ sets l.initial.flags 0 (map flag_byte (flags_before (holding l.initial.present l.initial.held) l.piece)))
