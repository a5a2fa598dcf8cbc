-- `contents::is_laid_out` meets its contract. The loop's invariant: the rows that are left decide. Assumes nothing.
use Prim.Native.Nat.{ℕ, suc, ◌+◌, ◌-◌, ◌≤◌, ◌<◌}
use native.Mathlib.Omega.{arith}
use native.Mathlib.Nat.{sub-zero, add-zero}
use mathlib.Core.Path.{◌≡◌, refl, sym, ap, ◌∙◌}
use mathlib.Core.Bool.{Bool, false}
use mathlib.Core.List.{List}
use lib.ListN.{length}
use lib.Dec.{eqb}
use borrow.Author.Tests.{eq-eqb, ne_eqb}
use Rattle.wire.specs.Wire.{word_at}
use Rattle.contents.specs.Contents.{table_bytes, in_turn, laid_out}
use Rattle.contents.proofs.Rows.{too_short}
use Rattle.contents.proofs.is_laid_out.Goals as goal
use Rattle.contents.proofs.is_laid_out.Goals.{then-bytes-at-via-then-bytes-at, then-bytes-at-via-else-bytes-at+then-word_at-parts}
use Rattle.contents.proofs.is_laid_out.Goals.{then-word_at-k-via-then-word_at-k, then-word_at-k-via-else-word_at-k+then-word_at-at}

other_count : (bytes : List ℕ) (before n w : ℕ) → w ≡ word_at bytes before → (w ≡ n → ⊥) → false ≡ laid_out before n bytes
unfolding laid_out
other_count bytes before n w e other = rw (← e, ne_eqb w n other) refl

same_count : (bytes : List ℕ) (before n w at : ℕ) → w ≡ word_at bytes before → w ≡ n → at ≡ before + table_bytes n
    → in_turn bytes (before + 4) 1 at (n - 0) ≡ laid_out before n bytes
unfolding laid_out
same_count bytes before n w at e same first = rw (← e, eq-eqb w n same, first, sub-zero n) refl

-- ---- A row more

module _ (bytes : List ℕ) (row number at parts k : ℕ) (whole : Bool) (more : k < parts)
    (rest : in_turn bytes row number at (parts - k) ≡ whole) where
  left : parts - k ≡ suc (parts - (k + 1))
  left = omega arith

  opened : in_turn bytes row number at (suc (parts - (k + 1))) ≡ whole
  opened = ap (in_turn bytes row number at) (sym left) ∙ rest

  other_number : (w : ℕ) → w ≡ word_at bytes row → (w ≡ number → ⊥) → false ≡ whole
  unfolding in_turn
  other_number w e other = rw (← e, ne_eqb w number other) at opened

  module _ (w : ℕ) (e : w ≡ word_at bytes row) (same : w ≡ number) where
    other_offset : (v : ℕ) → v ≡ word_at bytes (row + 4) → (v ≡ at → ⊥) → false ≡ whole
    unfolding in_turn
    other_offset v f other = rw (← e, eq-eqb w number same, ← f, ne_eqb v at other) at opened

    goes_on : (v size next : ℕ) → v ≡ word_at bytes (row + 4) → v ≡ at → size ≡ word_at bytes (row + 8) → next ≡ row + 12
        → in_turn bytes next (number + 1) (at + size) (parts - (k + 1)) ≡ whole
    unfolding in_turn
    goes_on v size next f there g n = rw (g, n) (rw (← e, eq-eqb w number same, ← f, eq-eqb v at there) at opened)

-- ---- The end

all_rows : (bytes : List ℕ) (row number at parts k : ℕ) (whole : Bool) → parts ≤ k
    → in_turn bytes row number at (parts - k) ≡ whole → eqb at (length bytes) ≡ whole
unfolding in_turn
all_rows bytes row number at parts k whole end rest =
    let none : parts - k ≡ 0 = omega arith in
    ap (in_turn bytes row number at) (sym none) ∙ rest

pub returns-then-bytes-at : goal.returns-then-bytes-at
returns-then-bytes-at c =
    elim c.then-bytes-at.branch [
      | then-bytes-at-via-then-bytes-at w ↦ too_short _ _ _ (omega arith)
      | then-bytes-at-via-else-bytes-at+then-word_at-parts w ↦ other_count _ _ _ _ w.word_at.ensures w.if-word_at-parts.true
    ]

pub loop-k-init : goal.loop-k-init
loop-k-init c = record {
  small = omega arith;
  decide = rw add-zero (same_count _ _ _ _ _ c.word_at.ensures c.if-word_at-parts.false c.bodies_at-at.ensures);
}

pub returns-then-word_at-k : goal.returns-then-word_at-k
returns-then-word_at-k c =
    let rest = c.loop-k.invariant.decide in
    elim c.then-word_at-k.branch [
      | then-word_at-k-via-then-word_at-k w ↦
          other_number _ _ _ _ _ _ _ c.loop-k-test.true rest _ c.word_at-in-loop-k.ensures w.if-word_at-k.true
      | then-word_at-k-via-else-word_at-k+then-word_at-at w ↦
          other_offset _ _ _ _ _ _ _ c.loop-k-test.true rest _ c.word_at-in-loop-k.ensures w.if-word_at-k.false
          _ w.word_at-else-word_at-k.ensures w.if-word_at-at.true
    ]

pub loop-k-preserved : goal.loop-k-preserved
loop-k-preserved c = record {
  small = omega arith;
  decide =
      goes_on _ _ _ _ _ _ _ c.loop-k-test.true c.loop-k.invariant.decide _ c.word_at-in-loop-k.ensures
      c.if-word_at-k.false _ _ _ c.word_at-else-word_at-k.ensures c.if-word_at-at.false c.word_at-in-loop-k-2.ensures (omega arith);
}

pub returns : goal.returns
returns c = all_rows _ _ _ _ _ _ _ c.loop-k-test.false c.loop-k.invariant.decide
