-- `settings::read::is_formed` meets its contract. The loop's invariant: the lengths that are left decide. Assumes nothing.
use Rattle.std.proofs.Common.{◌≡◌, true, drop}
use Rattle.contents.specs.Contents.{lengths_in, laid_out}
use Rattle.settings.specs.Settings.{version_bytes, one_word_each, formed}
use Rattle.settings.proofs.read.is_formed.Given as goal

abbrev pub invariant-loop-k : goal.invariant-loop-k
invariant-loop-k l = (laid_out version_bytes l.count l.block ≡ true)
    × (one_word_each (drop l.k (lengths_in version_bytes l.count l.block)) ≡ formed l.count l.block)
