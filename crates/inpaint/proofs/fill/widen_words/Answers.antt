-- `inpaint::fill::widen_words` meets its contract. The loop's invariant: storing the floats of what is left gives the
-- whole. Assumes nothing.
use Rattle.std.proofs.Common.{refl}
use Rattle.leaves.specs.Arithmetic.{float}
use Rattle.leaves.proofs.Stores.{image_more, image_all}
use Rattle.inpaint.proofs.fill.Laws.{float_is}
use Rattle.inpaint.proofs.fill.widen_words.Goals as goal

pub loop-i-preserved : goal.loop-i-preserved
loop-i-preserved c =
    let value = float_is _ _ _ c.f32_of_word.ensures c.widen.ensures in
    image_more float _ _ _ _ _ _ 0 _ c.loop-i-test.true refl value c.loop-i.invariant

pub returns : goal.returns
returns c = image_all float _ _ _ _ _ c.loop-i-test.false c.loop-i.invariant
