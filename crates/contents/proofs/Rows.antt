-- The rows of a contents table: how many words they are, what they tell when they are read, and what reading them tells of the bytes.
-- Assumes nothing.
use Prim.Native.Nat.{ℕ, zero, suc, ◌+◌, ◌*◌, ◌<◌}
use native.Mathlib.Omega.{arith}
use mathlib.Core.Path.{◌≡◌, refl, sym, ap, ◌∙◌}
use mathlib.Core.Bool.{true, false, ◌&&◌}
use mathlib.Core.List.{List, [], ◌∷◌}
use mathlib.Core.Logic.{inl, inr}
use lib.ListN.{length, get_or, drop}
use lib.Dec.{eqb}
use borrow.Author.Tests.{eq-eqb, eqb-true}
use Rattle.leaves.proofs.Choice.{truth, both_hold}
use Rattle.wire.specs.Wire.{word_at, decoded}
use Rattle.contents.specs.Contents.{table_bytes, rows, table, lengths_from, lengths_in, in_turn, laid_out}

-- how many bytes bodies of these lengths have
abbrev pub total : List ℕ → ℕ
total [] = 0
total (len ∷ lens) = len + total lens

pub length_rows : (k at : ℕ) (lens : List ℕ) → length (rows k at lens) ≡ 3 * length lens
unfolding rows
length_rows k at [] = refl
length_rows k at (len ∷ lens) = let rest = length_rows (k + 1) (at + len) lens in omega (arith, rest)

pub length_table : (before : ℕ) (lens : List ℕ) → length (table before lens) ≡ suc (3 * length lens)
unfolding table
length_table before lens = ap suc (length_rows 1 (before + table_bytes (length lens)) lens)

pub length_lengths : (bytes : List ℕ) (i n : ℕ) → length (lengths_from bytes i n) ≡ n
unfolding lengths_from
length_lengths bytes i zero = refl
length_lengths bytes i (suc n) = ap suc (length_lengths bytes (i + 12) n)

-- the length of part k stands in its row
pub length_there : (bytes : List ℕ) (i n k : ℕ) → k < n → get_or (lengths_from bytes i n) k 0 ≡ word_at bytes (i + 12 * k + 8)
unfolding lengths_from
length_there bytes i zero k h = absurd (omega arith)
length_there bytes i (suc n) zero h = let here : i + 12 * 0 + 8 ≡ i + 8 = omega arith in rw here refl
length_there bytes i (suc n) (suc k) h =
    let there : i + 12 * suc k + 8 ≡ i + 12 + 12 * k + 8 = omega arith in
    rw there (length_there bytes (i + 12) n k (omega arith))

-- the three words of a row, and those behind them
three_words : (bytes : List ℕ) (i n : ℕ)
    → decoded bytes i (3 * suc n) ≡ word_at bytes i ∷ word_at bytes (i + 4) ∷ word_at bytes (i + 8) ∷ decoded bytes (i + 12) (3 * n)
unfolding decoded
three_words bytes i n =
    let count : 3 * suc n ≡ suc (suc (suc (3 * n))) = omega arith in
    let second : i + 4 + 4 ≡ i + 8 = omega arith in
    let third : i + 8 + 4 ≡ i + 12 = omega arith in
    rw (count, second, third) refl

-- ---- What rows tell when they are read

pub record Told (bytes : List ℕ) (i k at : ℕ) (lens : List ℕ) : Type 0 where
  pub turn : in_turn bytes i k at (length lens) ≡ true
  pub lengths : lengths_from bytes i (length lens) ≡ lens

pub told : (bytes : List ℕ) (i k at : ℕ) (lens : List ℕ) → decoded bytes i (3 * length lens) ≡ rows k at lens
    → at + total lens ≡ length bytes → Told bytes i k at lens
unfolding in_turn lengths_from rows
told bytes i k at [] words ends = record { turn = eq-eqb at (length bytes) (omega arith); lengths = refl }
told bytes i k at (len ∷ lens) words ends =
    let all = sym (three_words bytes i (length lens)) ∙ words in
    let number : word_at bytes i ≡ k = ap (λ (l : List ℕ). get_or l 0 0) all in
    let offset : word_at bytes (i + 4) ≡ at = ap (λ (l : List ℕ). get_or l 1 0) all in
    let size : word_at bytes (i + 8) ≡ len = ap (λ (l : List ℕ). get_or l 2 0) all in
    let rest : decoded bytes (i + 12) (3 * length lens) ≡ rows (k + 1) (at + len) lens = ap (drop 3) all in
    let later = told bytes (i + 12) (k + 1) (at + len) lens rest (omega (arith, ends)) in
    record {
      turn = rw (size, eq-eqb (word_at bytes i) k number, eq-eqb (word_at bytes (i + 4)) at offset) later.turn;
      lengths = rw (size, later.lengths) refl;
    }

-- ---- What reading them tells of the bytes

pub record Read (bytes : List ℕ) (i k at n : ℕ) : Type 0 where
  pub words : decoded bytes i (3 * n) ≡ rows k at (lengths_from bytes i n)
  pub ends : at + total (lengths_from bytes i n) ≡ length bytes

pub read : (bytes : List ℕ) (i k at n : ℕ) → in_turn bytes i k at n ≡ true → Read bytes i k at n
unfolding in_turn lengths_from rows decoded
read bytes i k at zero h = record { words = refl; ends = let e = eqb-true at (length bytes) h in omega (arith, e) }
read bytes i k at (suc n) h =
    let size = word_at bytes (i + 8) in
    let outer = both_hold (eqb (word_at bytes i) k && eqb (word_at bytes (i + 4)) at) (in_turn bytes (i + 12) (k + 1) (at + size) n) h in
    let inner = both_hold (eqb (word_at bytes i) k) (eqb (word_at bytes (i + 4)) at) outer.0 in
    let number : word_at bytes i ≡ k = eqb-true (word_at bytes i) k inner.0 in
    let offset : word_at bytes (i + 4) ≡ at = eqb-true (word_at bytes (i + 4)) at inner.1 in
    let later = read bytes (i + 12) (k + 1) (at + size) n outer.1 in
    record {
      words = three_words bytes i n ∙ rw (number, offset, later.words) refl;
      ends = omega (arith, later.ends);
    }

-- ---- A whole table

pub record Table (before n : ℕ) (bytes : List ℕ) : Type 0 where
  pub words : decoded bytes before (suc (3 * n)) ≡ table before (lengths_in before n bytes)
  pub ends : before + table_bytes n + total (lengths_in before n bytes) ≡ length bytes

pub laid_out_lem : (before n : ℕ) (bytes : List ℕ) → laid_out before n bytes ≡ true → Table before n bytes
unfolding laid_out table decoded
laid_out_lem before n bytes h =
    let tests = both_hold (eqb (word_at bytes before) n) (in_turn bytes (before + 4) 1 (before + table_bytes n) n) h in
    let r = read bytes (before + 4) 1 (before + table_bytes n) n tests.1 in
    let count : word_at bytes before ≡ length (lengths_in before n bytes) =
    eqb-true (word_at bytes before) n tests.0 ∙ sym (length_lengths bytes (before + 4) n)
    in
    record {
      words = rw (count, r.words, length_lengths bytes (before + 4) n) refl;
      ends = r.ends;
    }

-- what ends before the table does is not laid out
pub too_short : (before n : ℕ) (bytes : List ℕ) → length bytes < before + table_bytes n → false ≡ laid_out before n bytes
too_short before n bytes h =
    elim (truth (laid_out before n bytes)) [
      | inl fits ↦ let t = laid_out_lem before n bytes fits in absurd (omega (arith, t.ends))
      | inr off ↦ sym off
    ]
