-- `settings::read::is_formed` meets its contract: each turn looks at one length more. Assumes nothing.
use Prim.Native.Nat.{ℕ, suc, ◌+◌, ◌≤◌, ◌<◌}
use native.Mathlib.Omega.{arith}
use mathlib.Core.Path.{◌≡◌, refl, sym, ap, ◌∙◌}
use mathlib.Core.Bool.{Bool, true, false}
use mathlib.Core.List.{List, ◌∷◌}
use lib.ListN.{length, get_or, drop, drop_of_length-le}
use lib.Seq.{drop-cons}
use borrow.Author.Tests.{eq-eqb, ne_eqb}
use Rattle.contents.specs.Contents.{table_bytes, lengths_in, laid_out}
use Rattle.contents.proofs.Rows.{length_lengths, laid_out_lem}
use Rattle.settings.specs.Settings.{version_bytes, one_word_each, formed}
use Rattle.std.proofs.Common.{ap}
use Rattle.settings.proofs.read.is_formed.Goals as goal

module _ (n : ℕ) (block : List ℕ) (r : Bool) (tested : r ≡ laid_out version_bytes n block) where
  no_table : r ≡ false → false ≡ formed n block
  unfolding formed
  no_table off = rw (sym tested ∙ off) refl

  a_table : r ≡ true → one_word_each (lengths_in version_bytes n block) ≡ formed n block
  unfolding formed
  a_table on = rw (sym tested ∙ on) refl

-- the block has all of it
has_table : (n : ℕ) (block : List ℕ) → laid_out version_bytes n block ≡ true → version_bytes + table_bytes n ≤ length block
has_table n block h = let t = laid_out_lem version_bytes n block h in omega (arith, t.ends)

-- ---- A length more

module _ (lens : List ℕ) (k size : ℕ) (whole : Bool) (more : k < length lens) (told : size ≡ get_or lens k 0)
    (rest : one_word_each (drop k lens) ≡ whole) where
  opened : one_word_each (size ∷ drop (k + 1) lens) ≡ whole
  opened =
      let next : k + 1 ≡ suc k = omega arith in
      ap one_word_each (rw (told, next) (sym (drop-cons lens k 0 more))) ∙ rest

  another_length : (size ≡ 4 → ⊥) → false ≡ whole
  unfolding one_word_each
  another_length other = rw (ne_eqb size 4 other) at opened

  one_word : size ≡ 4 → one_word_each (drop (k + 1) lens) ≡ whole
  unfolding one_word_each
  one_word same = rw (eq-eqb size 4 same) at opened

all_looked_at : (lens : List ℕ) (k : ℕ) (whole : Bool) → length lens ≤ k → one_word_each (drop k lens) ≡ whole → true ≡ whole
unfolding one_word_each
all_looked_at lens k whole end rest = ap one_word_each (sym (drop_of_length-le lens end)) ∙ rest

-- how many lengths there are
some_left : (n k : ℕ) (block : List ℕ) → k < n → k < length (lengths_in version_bytes n block)
some_left n k block h = let count = length_lengths block (version_bytes + 4) n in omega (arith, count)

none_left : (n k : ℕ) (block : List ℕ) → n ≤ k → length (lengths_in version_bytes n block) ≤ k
none_left n k block h = let count = length_lengths block (version_bytes + 4) n in omega (arith, count)

pub returns-then-not-is_laid_out : goal.returns-then-not-is_laid_out
returns-then-not-is_laid_out c = no_table _ _ _ c.is_laid_out.ensures c.if-not-is_laid_out.true

pub loop-k-init : goal.loop-k-init
loop-k-init c =
    let on = c.if-not-is_laid_out.false in
    (sym c.is_laid_out.ensures ∙ on, a_table _ _ _ c.is_laid_out.ensures on)

pub length_of-requires : goal.length_of-requires
length_of-requires c = (c.loop-k-test.true, has_table _ _ c.loop-k.invariant.0)

pub returns-then-length_of-ne4 : goal.returns-then-length_of-ne4
returns-then-length_of-ne4 c =
    another_length _ _ _ _ (some_left _ _ _ c.loop-k-test.true) c.length_of.ensures c.loop-k.invariant.1 c.if-length_of-ne4.true

pub loop-k-preserved : goal.loop-k-preserved
loop-k-preserved c = (
  c.loop-k.invariant.0,
  one_word _ _ _ _ (some_left _ _ _ c.loop-k-test.true) c.length_of.ensures c.loop-k.invariant.1 c.if-length_of-ne4.false,
)

pub returns : goal.returns
returns c = all_looked_at _ _ _ (none_left _ _ _ c.loop-k-test.false) c.loop-k.invariant.1
