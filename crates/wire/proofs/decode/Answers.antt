-- `wire::decode` meets its contract. One turn stores one word more of the whole. Assumes nothing.
use Prim.Native.Nat.{ℕ, ◌+◌, ◌*◌, ◌≤◌, ◌<◌}
use native.Mathlib.Omega.{arith}
use mathlib.Core.Path.{◌≡◌}
use mathlib.Core.List.{List}
use lib.ListN.{set, drop}
use lib.Seq.{sets}
use Rattle.leaves.proofs.Stores.{copy_more, all_copied}
use Rattle.wire.specs.Wire.{word_at, decoded}
use Rattle.wire.proofs.Laws.{length_decoded, decoded_at}
use Rattle.wire.proofs.decode.Goals as goal

-- one word more is stored, and then what is left gives the same whole
one_more : (bytes words whole : List ℕ) (from a next n i v : ℕ) → i < n → next ≡ a + 1 → v ≡ word_at bytes (from + 4 * i)
    → sets words a (drop i (decoded bytes from n)) ≡ whole
    → sets (set words a v) next (drop (i + 1) (decoded bytes from n)) ≡ whole
one_more bytes words whole from a next n i v h e ev rest =
    rw (ev, ← decoded_at bytes from n i h)
    (copy_more words whole (decoded bytes from n) a next i 0 (rw (length_decoded bytes from n) h) e rest)

-- where none is left, the whole is there
all_there : (bytes words whole : List ℕ) (from a n i : ℕ) → n ≤ i → sets words a (drop i (decoded bytes from n)) ≡ whole → words ≡ whole
all_there bytes words whole from a n i h rest =
    all_copied words whole (decoded bytes from n) a i (rw (length_decoded bytes from n) h) rest

pub loop-i-preserved : goal.loop-i-preserved
loop-i-preserved c =
    let at = c.args.at in
    let next : at + (c.loop-i.i + 1) ≡ at + c.loop-i.i + 1 = omega arith in
    one_more _ _ _ _ _ _ _ _ _ c.loop-i-test.true next c.word_at.ensures c.loop-i.invariant

pub returns : goal.returns
returns c = all_there _ _ _ _ _ _ _ c.loop-i-test.false c.loop-i.invariant
