-- `contents::write_table` meets its contract. The loop's invariant: storing the rows that are left gives the whole, and their figures are
-- of 32 bits. Assumes nothing.
use Prim.Native.Nat.{ℕ, suc, ◌+◌, ◌≤◌, ◌<◌}
use native.Mathlib.Omega.{arith}
use native.Mathlib.Nat.{add-zero}
use mathlib.Core.Path.{◌≡◌, refl, sym, ap, subst, ◌∙◌}
use mathlib.Core.List.{List, [], ◌∷◌}
use lib.ListN.{length, get_or, drop, drop_of_length-le}
use lib.Seq.{sets, drop-cons}
use Rattle.leaves.proofs.Stores.{stored_behind}
use Rattle.wire.specs.Wire.{bytes_of, encoded, Below, words_to}
use Rattle.wire.proofs.Laws.{length_bytes, length_encoded, encoded_append}
use Rattle.contents.specs.Contents.{table_bytes, rows, table}
use Rattle.contents.proofs.write_table.Goals as goal

module _ (bytes after lens : List ℕ) (before at : ℕ) (stored : after ≡ sets bytes before (bytes_of (length lens)))
    (first : at ≡ before + table_bytes (length lens)) where
  rows_left : sets after (before + 4) (encoded (rows 1 at lens)) ≡ sets bytes before (encoded (table before lens))
  unfolding table encoded
  rows_left =
      let there : before + 4 ≡ before + length (bytes_of (length lens)) = ap (λ (n : ℕ). before + n) (sym (length_bytes (length lens))) in
      rw (stored, there, first)
      (stored_behind bytes (bytes_of (length lens)) (encoded (rows 1 (before + table_bytes (length lens)) lens)) before)

  rows_below : Below words_to (table before lens) → Below words_to (rows 1 at lens)
  unfolding table
  rows_below below i = rw first (below (suc i))

-- ---- A row is stored

module _ (bytes after whole lens : List ℕ) (row number at k : ℕ) (more : k < length lens) where
  abbrev len : ℕ
  len = get_or lens k 0

  opened : rows number at (drop k lens) ≡ number ∷ at ∷ len ∷ rows (number + 1) (at + len) (drop (k + 1) lens)
  unfolding rows
  opened =
      let next : suc k ≡ k + 1 = omega arith in
      ap (rows number at) (drop-cons lens k 0 more ∙ ap (λ (j : ℕ). len ∷ drop j lens) next)

  row_more : (next : ℕ) → next ≡ row + 12 → after ≡ sets bytes row (encoded (number ∷ at ∷ len ∷ [])) → sets bytes row (encoded (rows number at (drop k lens))) ≡ whole
      → sets after next (encoded (rows (number + 1) (at + len) (drop (k + 1) lens))) ≡ whole
  row_more next e stored rest =
      let later = rows (number + 1) (at + len) (drop (k + 1) lens) in
      let there : row + 12 ≡ row + length (encoded (number ∷ at ∷ len ∷ [])) = omega (arith, length_encoded (number ∷ at ∷ len ∷ [])) in
      rw (e, stored, there)
      (stored_behind bytes (encoded (number ∷ at ∷ len ∷ [])) (encoded later) row
      ∙ ap (sets bytes row) (sym (encoded_append (number ∷ at ∷ len ∷ []) later) ∙ ap encoded (sym opened))
      ∙ rest)

  -- its offset and those behind it are of 32 bits
  offset_below : Below words_to (rows number at (drop k lens)) → at < words_to
  offset_below below = subst (λ (l : List ℕ). get_or l 1 0 < words_to) opened (below 1)

  later_below : Below words_to (rows number at (drop k lens)) → Below words_to (rows (number + 1) (at + len) (drop (k + 1) lens))
  later_below below i = subst (λ (l : List ℕ). get_or l (suc (suc (suc i))) 0 < words_to) opened (below (suc (suc (suc i))))

-- ---- All are

all_rows : (bytes whole lens : List ℕ) (row number at k : ℕ) → length lens ≤ k
    → sets bytes row (encoded (rows number at (drop k lens))) ≡ whole → bytes ≡ whole
unfolding rows encoded
all_rows bytes whole lens row number at k end rest =
    ap (λ (l : List ℕ). sets bytes row (encoded (rows number at l))) (sym (drop_of_length-le lens end)) ∙ rest

pub loop-k-init : goal.loop-k-init
loop-k-init c = record {
  below = rows_below _ _ _ _ _ c.store_word.ensures c.bodies_at-offset.ensures c.requires.2;
  left = rw add-zero refl;
}

pub overflow_cast-offset : goal.overflow_cast-offset
overflow_cast-offset c =
    let at = c.loop-k in
    omega (arith, offset_below [] [] [] c.args.lens.now 0 (at.k + 1) at.offset at.k c.loop-k-test.true at.invariant.below)

pub overflow_add-offset : goal.overflow_add-offset
overflow_add-offset c =
    let at = c.loop-k in
    let below = offset_below [] [] [] c.args.lens.now 0 (at.k + 1) at.offset at.k c.loop-k-test.true at.invariant.below in
    omega (arith, below, c.type_inv.lens at.k)

pub loop-k-preserved : goal.loop-k-preserved
loop-k-preserved c =
    let at = c.loop-k in
    let lens = c.args.lens.now in
    let more = c.loop-k-test.true in record {
      below = later_below [] [] [] lens 0 (at.k + 1) at.offset at.k more at.invariant.below;
      left = row_more _ _ _ lens _ (at.k + 1) at.offset at.k more _ (omega arith) c.write_row.ensures at.invariant.left;
    }

pub returns : goal.returns
returns c =
    all_rows _ _ _ _ _ _ _ c.loop-k-test.false c.loop-k.invariant.left
    ∙ rows_left _ _ _ _ _ c.store_word.ensures c.bodies_at-offset.ensures
