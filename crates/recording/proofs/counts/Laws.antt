-- One turn of the loop that recounts the blocks of saved samples: a block other than the last one is counted, and the last one needs not be
-- counted again. Assumes nothing.
use mathlib.Core.Path.{◌≡◌, refl, sym, ap, ◌∙◌}
use mathlib.Core.List.{List}
use Prim.Native.Nat.{ℕ, ◌+◌, ◌*◌, ◌≤◌, ◌<◌}
use native.Mathlib.Omega.{arith}
use lib.ListN.{length, get_or, set}
use lib.Seq.{set_out, set-set}
use borrow.Author.Tests.{leb-false}
use mathlib.Core.Bool.{false}
use Rattle.recording.specs.Recording.{Saved, places, saved_at, place_past, old_marks}
use Rattle.recording.specs.Counts.{block_of, blocks, count_of, recounted}
use Rattle.recording.specs.Inner.{Recountable}
use Rattle.recording.proofs.undo.Laws.{left_at, left_all, left_first, left_none, past_first}

-- i of the m saved samples have their blocks recounted, the last one `last`: recounting what is left gives the whole, and what is left can be
-- recounted
pub record Recounted (marks counts₀ journal : List ℕ) (begin m : ℕ) (counts : List ℕ) (last i : ℕ) : Type 0 where
  pub rest : recounted marks (places (old_marks (left_at journal begin m i))) counts
      ≡ recounted marks (places (old_marks (saved_at journal begin m))) counts₀
  pub within : place_past (length marks) (left_at journal begin m i) ≡ false
  pub again : set counts last (count_of marks last) ≡ counts

module _ (marks counts₀ journal : List ℕ) (begin m : ℕ) where
  -- It holds at first, where the last block is none.
  pub none_recounted : Recountable marks counts₀ journal begin m → Recounted marks counts₀ journal begin m counts₀ (length counts₀) 0
  none_recounted r =
      let all = left_all journal begin m in
      record {
        rest = rw all refl;
        within = rw all r.places;
        again = set_out counts₀ (length counts₀) _ (omega arith);
      }

  module _ (counts : List ℕ) (last i : ℕ) (r : Recounted marks counts₀ journal begin m counts last i) where
    -- In the end all are.
    pub all_recounted : m ≤ i → counts ≡ recounted marks (places (old_marks (saved_at journal begin m))) counts₀
    unfolding recounted
    all_recounted h = rw (left_none journal begin m i h) at r.rest

    -- Between, the next sample's block is one of the recording's.
    module _ (more : i < m) (block : ℕ) (read : block ≡ block_of (get_or journal (begin + 3 * i) 0)) where
      pub block_below : block < blocks (length marks)
      block_below =
          let place : get_or journal (begin + 3 * i) 0 < length marks =
          leb-false _ _ (past_first (length marks) journal begin m i more r.within).0 in
          omega arith

      -- what is left once it is counted
      opened : recounted marks (places (old_marks (left_at journal begin m (i + 1)))) (set counts block (count_of marks block))
          ≡ recounted marks (places (old_marks (saved_at journal begin m))) counts₀
      unfolding recounted
      opened =
          rw read
          (sym (ap (λ (ts : List Saved). recounted marks (places (old_marks ts)) counts) (left_first journal begin m i more)) ∙ r.rest)

      later : place_past (length marks) (left_at journal begin m (i + 1)) ≡ false
      later = (past_first (length marks) journal begin m i more r.within).1

      -- It is counted,
      pub one_recounted : (count : ℕ) → count ≡ count_of marks block
          → Recounted marks counts₀ journal begin m (set counts block count) block (i + 1)
      one_recounted count e =
          record {
            rest = rw e opened;
            within = later;
            again = rw e (set-set counts block _ _);
          }

      -- or was the last that was.
      pub same_block : block ≡ last → Recounted marks counts₀ journal begin m counts last (i + 1)
      same_block e =
          let same : set counts block (count_of marks block) ≡ counts = rw e r.again in
          record {
            rest = rw same at opened;
            within = later;
            again = r.again;
          }
