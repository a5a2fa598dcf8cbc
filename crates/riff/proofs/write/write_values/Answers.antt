-- `riff::write::write_values` meets its contract: each turn stores one value more. Assumes nothing.
use Rattle.std.proofs.Common.{◌≡◌, ℕ, suc, ◌+◌, ◌*◌, ◌<◌, ◌≤◌, List, length, get_or, drop, sym, ap, ◌∙◌, arith, drop_of_length-le, drop-cons}
use lib.Seq.{sets}
use Rattle.leaves.proofs.Stores.{stored_behind}
use Rattle.wire.specs.Wire.{half_bytes, encoded_halves}
use Rattle.wire.proofs.Laws.{length_half_bytes}
use Rattle.riff.specs.Values.{value_of}
use Rattle.riff.proofs.write.write_values.Invariants.{bytes_of}
use Rattle.riff.proofs.write.write_values.Goals as goal

-- the bytes of one value more are stored, and then those of what is left give the same whole
value_more : (out after whole samples : List ℕ) (a next i v : ℕ) → i < length samples → next ≡ a + 2 → v ≡ value_of (get_or samples i 0)
    → after ≡ sets out a (half_bytes v) → sets out a (bytes_of (drop i samples)) ≡ whole
    → sets after next (bytes_of (drop (i + 1) samples)) ≡ whole
unfolding encoded_halves
value_more out after whole samples a next i v more e is stored rest =
    let there : next ≡ a + length (half_bytes v) = e ∙ ap (λ (n : ℕ). a + n) (sym (length_half_bytes v)) in
    let one : suc i ≡ i + 1 = omega arith in
    rw (stored, there, stored_behind out (half_bytes v) (bytes_of (drop (i + 1) samples)) a, ← one, is)
    (sym (ap (λ (l : List ℕ). sets out a (bytes_of l)) (drop-cons samples i 0 more)) ∙ rest)

-- where none is left, the whole is there
values_all : (out whole samples : List ℕ) (a i : ℕ) → length samples ≤ i → sets out a (bytes_of (drop i samples)) ≡ whole → out ≡ whole
unfolding encoded_halves
values_all out whole samples a i end rest =
    sym (ap (λ (l : List ℕ). sets out a (bytes_of l)) (drop_of_length-le samples end)) ∙ rest

pub loop-i-preserved : goal.loop-i-preserved
loop-i-preserved c =
    value_more c.loop-i.out _ _ c.args.samples.now (44 + 2 * c.loop-i.i) _ c.loop-i.i _ c.loop-i-test.true (omega arith)
    c.value_of.ensures c.store_half.ensures c.loop-i.invariant

pub returns : goal.returns
returns c = values_all _ _ _ _ _ c.loop-i-test.false c.loop-i.invariant
