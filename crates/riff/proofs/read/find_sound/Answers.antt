-- `riff::read::find_sound` meets its contract: the chunk that has the data lies within the file. Assumes nothing.
use Rattle.std.proofs.Common.{sym, arith}
use Rattle.riff.specs.Chunks.{data_name}
use Rattle.riff.proofs.Reading.{named_within}
use Rattle.riff.proofs.read.find_sound.Goals as goal

pub word_at-requires : goal.word_at-requires
word_at-requires c =
    let within = named_within c.args.file.now data_name 0 (sym c.if-not-is_whole.ensures) (omega arith) in
    omega (arith, within.inside, c.first_named-data.ensures)
