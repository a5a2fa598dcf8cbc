-- What was read into the part stands behind the front, which stays.
use Rattle.std.proofs.Common.{arith, length-take-le}
use borrow.Rule.Slice.PartMut.{take_put}
use Rattle.intake.proofs.Filling.{consumed_part}
use Rattle.intake.proofs.read_at.Goals as goal

pub returns-clause-front : goal.returns-clause-front
returns-clause-front g c = take_put _ _ c.args.space.now _ (omega (arith, c.requires))

pub returns-clause-bytes : goal.returns-clause-bytes
returns-clause-bytes g c =
    consumed_part _ _ c.read.result _ c.read.new.buf _ c.args.at (length-take-le _ c.args.space.now (omega (arith, c.requires))) c.read.ensures.bound
    c.read.ensures.bytes
