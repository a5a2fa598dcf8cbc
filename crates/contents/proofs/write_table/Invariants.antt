-- `contents::write_table` meets its contract. The loop's invariant: storing the rows that are left gives the whole, and their figures are
-- of 32 bits. Assumes nothing.
use Rattle.std.proofs.Common.{◌≡◌, ◌+◌, ◌*◌, drop}
use Rattle.std.proofs.lemmas.List.Edits.{sets}
use Rattle.wire.specs.Wire.{encoded, Below, words_to}
use Rattle.contents.specs.Contents.{rows}
use Rattle.contents.proofs.write_table.Given as goal

abbrev pub invariant-loop-k : goal.invariant-loop-k
invariant-loop-k l = record {
  below : Below words_to (rows (l.k + 1) l.offset (drop l.k l.lens));
  left : sets l.bytes (l.before + 4 + 12 * l.k) (encoded (rows (l.k + 1) l.offset (drop l.k l.lens))) ≡ sets l.initial.bytes (l.before + 4) (encoded (rows 1 l.initial.offset l.lens));
}
