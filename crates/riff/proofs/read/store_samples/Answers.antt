-- `riff::read::store_samples` meets its contract: each turn stores the sample of one value more. Assumes nothing.
use Rattle.std.proofs.Common.{ap, ◌∙◌}
use Rattle.riff.specs.Values.{sample_word}
use Rattle.riff.proofs.Reading.{sample_more, samples_all}
use Rattle.riff.proofs.read.store_samples.Goals as goal

pub loop-i-preserved : goal.loop-i-preserved
loop-i-preserved c =
    let a = c.args in
    sample_more a.file.now c.loop-i.samples _ a.from a.count c.loop-i.i _ c.loop-i-test.true
    (c.sample_of.ensures ∙ ap sample_word c.half_at.ensures) c.loop-i.invariant

pub returns : goal.returns
returns c = samples_all _ _ _ _ _ _ c.loop-i-test.false c.loop-i.invariant
