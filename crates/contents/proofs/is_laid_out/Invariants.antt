-- `contents::is_laid_out` meets its contract. The loop's invariant: the rows that are left decide. Assumes nothing.
use Rattle.std.proofs.Common.{◌≡◌, ◌+◌, ◌-◌, ◌*◌, ◌<◌}
use Rattle.wire.specs.Wire.{words_to}
use Rattle.contents.specs.Contents.{in_turn, laid_out}
use Rattle.contents.proofs.is_laid_out.Given as goal

abbrev pub invariant-loop-k : goal.invariant-loop-k
invariant-loop-k l = record {
  small : l.at < 2 * words_to;
  decide : in_turn l.bytes (l.before + 4 + 12 * l.k) (l.k + 1) l.at (l.parts - l.k) ≡ laid_out l.before l.parts l.bytes;
}
