-- `crackle::judge_held` meets its contract. The loop's invariant: judging the values that are left gives the whole, the floor and the flags.
-- Assumes nothing.
use Rattle.std.proofs.Common.{◌≡◌, ◌+◌, map, take, drop}
use lib.Seq.{sets}
use Rattle.crackle.specs.Pieces.{magnitudes_in, floor_along, flags_along, flag_byte}
use Rattle.crackle.proofs.judge_held.Given as goal

abbrev pub invariant-loop-k : goal.invariant-loop-k
invariant-loop-k l = (floor_along l.present (magnitudes_in (drop l.k (take l.n l.held))) ≡ floor_along l.floor (magnitudes_in (take l.n l.held)))
    × (sets l.flags (l.at + l.k) (map flag_byte (flags_along l.detector l.present (magnitudes_in (drop l.k (take l.n l.held)))))
    ≡ sets l.initial.flags l.at (map flag_byte (flags_along l.detector l.floor (magnitudes_in (take l.n l.held)))))
