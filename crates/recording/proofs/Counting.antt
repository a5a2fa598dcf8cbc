-- Laws of the block counts: the count of each block stands at its place, the loops that count go on, and recounting the blocks of the
-- samples whose marks changed gives the counts of all marks. Assumes nothing.
use mathlib.Core.Path.{◌≡◌, refl, sym, ap, ◌∙◌}
use mathlib.Core.List.{List, [], ◌∷◌, map}
use mathlib.Core.Logic.{inl, inr}
use Prim.Native.Nat.{ℕ, zero, suc, ◌+◌, ◌-◌, ◌≤◌, ◌<◌}
use native.Mathlib.Omega.{arith}
use native.Mathlib.Nat.{zero-add, sub-zero}
use lib.ListN.{length, get_or, set}
use lib.Seq.{sets, ext_get_or}
use lib.Dec.{eqb}
use Rattle.leaves.proofs.Choice.{picks}
use Rattle.leaves.proofs.Stores.{stored_over}
use Rattle.recording.specs.Marks.{measured}
use Rattle.recording.specs.Recording.{put}
use Rattle.recording.specs.Counts.{block_of, block_begin, blocks, block_length, counted_mark, unmeasured}
use Rattle.recording.specs.Counts.{count_of, counts_from, counted, recounted}
use Rattle.recording.specs.Consequences.{Among, ItsBlocksAndNoOthers}
use Rattle.recording.proofs.Put.{among_or_not, length_put, valued, places_valued, put_valued, put_elsewhere}

-- ---- The count of a block, mark by mark

-- a mark adds at most 1
pub counted_one : (mark r : ℕ) → r ≡ counted_mark mark → r ≤ 1
unfolding counted_mark
counted_one mark r e = rw e (picks (λ (k : ℕ). k ≤ 1) (eqb mark measured) 0 1 (omega arith) (omega arith))

-- one mark more
pub count_more : (marks : List ℕ) (begin size i count whole r : ℕ) → i < size → r ≡ counted_mark (get_or marks (begin + i) 0)
    → count + unmeasured marks (begin + i) (size - i) ≡ whole
    → count + r + unmeasured marks (begin + (i + 1)) (size - (i + 1)) ≡ whole
unfolding unmeasured
count_more marks begin size i count whole r h e rest =
    let left : size - i ≡ suc (size - (i + 1)) = omega arith in
    let next : begin + i + 1 ≡ begin + (i + 1) = omega arith in
    let all = rw next at (ap (λ (k : ℕ). count + unmeasured marks (begin + i) k) (sym left) ∙ rest) in
    omega arith

-- where none is left, all are counted
pub count_all : (marks : List ℕ) (i size k count whole : ℕ) → size ≤ k → count + unmeasured marks i (size - k) ≡ whole → count ≡ whole
unfolding unmeasured
count_all marks i size k count whole h rest =
    let none : size - k ≡ 0 = omega arith in
    let all : count + unmeasured marks i 0 ≡ whole = rw none at rest in
    omega arith

-- the marks of the block alone have a say in it
unmeasured_same : (a b : List ℕ) (i n : ℕ) → ((j : ℕ) → i ≤ j → j < i + n → get_or a j 0 ≡ get_or b j 0)
    → unmeasured a i n ≡ unmeasured b i n
unfolding unmeasured
unmeasured_same a b i zero same = refl
unmeasured_same a b i (suc n) same =
    rw (same i (omega arith) (omega arith), unmeasured_same a b (i + 1) n (λ j h k. same j (omega arith) (omega arith))) refl

pub count_same : (a b : List ℕ) (block : ℕ) → length a ≡ length b → ((j : ℕ) → block_of j ≡ block → get_or a j 0 ≡ get_or b j 0)
    → count_of a block ≡ count_of b block
unfolding count_of
count_same a b block long same =
    rw long (unmeasured_same a b (block_begin block) (block_length (length b) block) (λ j h k. same j (omega arith)))

-- ---- The counts of all blocks

length_from : (marks : List ℕ) (block n : ℕ) → length (counts_from marks block n) ≡ n
unfolding counts_from
length_from marks block zero = refl
length_from marks block (suc n) = ap suc (length_from marks (block + 1) n)

pub length_counted : (marks : List ℕ) → length (counted marks) ≡ blocks (length marks)
unfolding counted
length_counted marks = length_from marks 0 (blocks (length marks))

read_from : (marks : List ℕ) (block n k : ℕ) → k < n → get_or (counts_from marks block n) k 0 ≡ count_of marks (block + k)
unfolding counts_from
read_from marks block zero k h = absurd (omega arith)
read_from marks block (suc n) zero h = let here : block + 0 ≡ block = omega arith in rw here refl
read_from marks block (suc n) (suc k) h =
    let there : block + suc k ≡ block + 1 + k = omega arith in
    rw there (read_from marks (block + 1) n k (omega arith))

-- each count stands at its block
pub read_counted : (marks : List ℕ) (block : ℕ) → block < blocks (length marks) → get_or (counted marks) block 0 ≡ count_of marks block
unfolding counted
read_counted marks block h = rw zero-add at (read_from marks 0 (blocks (length marks)) block h)

-- one turn of the loop that counts every block
pub counts_more : (marks counts whole : List ℕ) (block n count : ℕ) → block < n → count ≡ count_of marks block
    → sets counts block (counts_from marks block (n - block)) ≡ whole
    → sets (set counts block count) (block + 1) (counts_from marks (block + 1) (n - (block + 1))) ≡ whole
unfolding counts_from
counts_more marks counts whole block n count h e rest =
    let left : n - block ≡ suc (n - (block + 1)) = omega arith in
    let next : block + 1 ≡ suc block = omega arith in
    ap (λ (k : ℕ). sets (set counts block count) k (counts_from marks (block + 1) (n - (block + 1)))) next
    ∙ rw e (sym (ap (λ (k : ℕ). sets counts block (counts_from marks block k)) left) ∙ rest)

-- at first it has all to store, and in the end nothing
pub counts_first : (marks counts : List ℕ) → length counts ≡ blocks (length marks)
    → sets counts 0 (counts_from marks 0 (length counts - 0)) ≡ counted marks
unfolding counted
counts_first marks counts h =
    rw (sub-zero, h) (stored_over counts (counts_from marks 0 (blocks (length marks))) (length_from marks 0 (blocks (length marks)) ∙ sym h))

pub counts_all : (marks counts whole : List ℕ) (block n : ℕ) → n ≤ block → sets counts block (counts_from marks block (n - block)) ≡ whole
    → counts ≡ whole
unfolding counts_from
counts_all marks counts whole block n h rest =
    let none : n - block ≡ 0 = omega arith in
    sym (ap (λ (k : ℕ). sets counts block (counts_from marks block k)) none) ∙ rest

-- ---- Recounting

-- each block of these samples gets its count
recounted_put : (marks is counts : List ℕ) → recounted marks is counts ≡ put (valued (count_of marks) (map block_of is)) counts
unfolding recounted put
recounted_put marks [] counts = refl
recounted_put marks (i ∷ is) counts = recounted_put marks is (set counts (block_of i) (count_of marks (block_of i)))

pub length_recounted : (marks is counts : List ℕ) → length (recounted marks is counts) ≡ length counts
length_recounted marks is counts = rw recounted_put (length_put (valued (count_of marks) (map block_of is)) counts)

-- the block of a sample among these is among their blocks
pub block_among : (j : ℕ) (is : List ℕ) → Among j is → Among (block_of j) (map block_of is)
block_among j [] none = absurd none
block_among j (i ∷ is) (inl e) = inl (ap block_of e)
block_among j (i ∷ is) (inr a) = inr (block_among j is a)

module _ (marks is counts : List ℕ) where
  -- a block of theirs is counted anew
  pub recounted_there : (block : ℕ) → block < length counts → Among block (map block_of is)
      → get_or (recounted marks is counts) block 0 ≡ count_of marks block
  recounted_there block h a = rw recounted_put (put_valued (count_of marks) block (map block_of is) counts h (inl a))

  -- any other keeps its count
  pub recounted_elsewhere : (block : ℕ) → (Among block (map block_of is) → ⊥) → get_or (recounted marks is counts) block 0 ≡ get_or counts block 0
  recounted_elsewhere block f =
      rw recounted_put (put_elsewhere block (valued (count_of marks) (map block_of is)) counts (rw places_valued f))

pub its_blocks_and_no_others : ItsBlocksAndNoOthers
its_blocks_and_no_others marks is counts block =
    (λ a h. recounted_there marks is counts block h a, recounted_elsewhere marks is counts block)

-- where the counts were those of the old marks, and the marks changed at these samples alone, they are those of the new marks
pub recounted_all : (old new is : List ℕ) → length new ≡ length old → ((j : ℕ) → (Among j is → ⊥) → get_or new j 0 ≡ get_or old j 0)
    → recounted new is (counted old) ≡ counted new
recounted_all old new is long same = ext_get_or 0 _ _ sizes at_each
  where
    sizes : length (recounted new is (counted old)) ≡ length (counted new)
    sizes = length_recounted new is (counted old) ∙ length_counted old ∙ ap blocks (sym long) ∙ sym (length_counted new)

    at_each : (block : ℕ) → block < length (recounted new is (counted old))
        → get_or (recounted new is (counted old)) block 0 ≡ get_or (counted new) block 0
    at_each block h =
        let old-block : block < length (counted old) = rw length_recounted at h in
        let there : block < blocks (length old) = rw length_counted at old-block in
        elim (among_or_not block (map block_of is)) [
          | inl a ↦ recounted_there new is (counted old) block old-block a ∙ sym (read_counted new block (rw long there))
          | inr f ↦ recounted_elsewhere new is (counted old) block f ∙ read_counted old block there
              ∙ sym (count_same new old block long (λ j e. same j (λ (a : Among j is). f (rw (← e) (block_among j is a)))))
              ∙ sym (read_counted new block (rw long there))
        ]
