-- `wire::encode` meets its contract. One turn stores one word's bytes more of the whole. Assumes nothing.
use Prim.Native.Nat.{ℕ, suc, ◌+◌, ◌*◌, ◌≤◌, ◌<◌}
use native.Mathlib.Omega.{arith}
use mathlib.Core.Path.{◌≡◌, sym, ap, ◌∙◌}
use mathlib.Core.List.{List}
use lib.ListN.{length, get_or, drop, drop_of_length-le}
use lib.Seq.{sets, drop-cons}
use Rattle.leaves.proofs.Stores.{stored_behind}
use Rattle.wire.specs.Wire.{bytes_of, encoded}
use Rattle.wire.proofs.Laws.{length_bytes}
use Rattle.wire.proofs.encode.Goals as goal

-- the bytes of one word more are stored, and then those of what is left give the same whole
word_more : (bytes after whole words : List ℕ) (a next i : ℕ) → i < length words → next ≡ a + 4
    → after ≡ sets bytes a (bytes_of (get_or words i 0)) → sets bytes a (encoded (drop i words)) ≡ whole
    → sets after next (encoded (drop (i + 1) words)) ≡ whole
unfolding encoded
word_more bytes after whole words a next i more e stored rest =
    let there : next ≡ a + length (bytes_of (get_or words i 0)) = e ∙ ap (λ (n : ℕ). a + n) (sym (length_bytes (get_or words i 0))) in
    let one : suc i ≡ i + 1 = omega arith in
    rw (stored, there, stored_behind bytes (bytes_of (get_or words i 0)) (encoded (drop (i + 1) words)) a, ← one)
    (sym (ap (λ (l : List ℕ). sets bytes a (encoded l)) (drop-cons words i 0 more)) ∙ rest)

-- where no word is left, the whole is there
words_all : (bytes whole words : List ℕ) (a i : ℕ) → length words ≤ i → sets bytes a (encoded (drop i words)) ≡ whole → bytes ≡ whole
unfolding encoded
words_all bytes whole words a i end rest =
    sym (ap (λ (l : List ℕ). sets bytes a (encoded l)) (drop_of_length-le words end)) ∙ rest

pub loop-i-preserved : goal.loop-i-preserved
loop-i-preserved c =
    let a = c.args in
    word_more c.loop-i.bytes _ _ a.words.now (a.at + 4 * c.loop-i.i) _ c.loop-i.i c.loop-i-test.true (omega arith)
    c.store_word.ensures c.loop-i.invariant

pub returns : goal.returns
returns c = words_all _ _ _ _ _ c.loop-i-test.false c.loop-i.invariant
