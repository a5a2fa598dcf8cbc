-- `inpaint::fill::model_fill` meets its contract. The loop's invariant: storing the words of what is left gives the
-- whole. Assumes nothing.
use Rattle.std.proofs.Common.{◌<◌, ◌≤◌, length, map, sym, refl, ◌∙◌, arith}
use lib.ListN.{length-map}
use lib.Ieee.{nan}
use Rattle.inpaint.specs.Gap.{narrow_word}
use Rattle.leaves.proofs.Stores.{stored_over, image_more, image_all}
use Rattle.inpaint.proofs.fill.model_fill.Goals as goal

pub loop-i-init : goal.loop-i-init
loop-i-init c =
    let results = c.args.results.now in
    stored_over c.args.gap.now (map narrow_word results) (length-map results narrow_word ∙ sym c.requires)

pub loop-i-preserved : goal.loop-i-preserved
loop-i-preserved c =
    let within : c.loop-i.i < length c.args.results.now = omega (arith, c.requires, c.loop-i-test.true) in
    image_more narrow_word _ _ _ _ _ _ nan _ within refl c.word_of_double.ensures c.loop-i.invariant

pub returns : goal.returns
returns c =
    let past : length c.args.results.now ≤ c.loop-i.i = omega (arith, c.requires, c.loop-i-test.false) in
    image_all narrow_word _ _ _ _ _ past c.loop-i.invariant
