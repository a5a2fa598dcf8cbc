-- How a writer ends, for both versions: it has a version, n words that stand in the code's own list, and whether the settings are allowed.
-- Assumes nothing.
use Prim.Native.Nat.{ℕ, ◌≤◌, ◌<◌}
use native.Mathlib.Omega.{arith}
use mathlib.Core.Path.{◌≡◌, refl, sym, ap, ◌∙◌}
use mathlib.Core.Bool.{Bool, true, false}
use mathlib.Core.List.{List}
use mathlib.Core.Logic.{inl, inr}
use lib.ListN.{length}
use lib.Seq.{sets}
use lib.Dec.{ltb}
use borrow.Author.Tests.{lt-ltb, le-ltb, ltb-true, ltb-false}
use Rattle.leaves.proofs.Choice.{truth, EitherWay}
use Rattle.leaves.proofs.Stores.{stored_over}
use Rattle.recording.specs.Answers.{value}
use Rattle.recording.specs.declared.Reason.{Reason}
use Rattle.recording.specs.declared.Reason.TheVariants.{Workspace, Stored}
use Rattle.std.specs.Prelude.{Ok, Err}
use Rattle.settings.specs.Settings.{block_of, block_bytes, Left, left, stored}

module _ (version n : ℕ) (ws room : List ℕ) (rule : Bool) (count : length ws ≡ n) where
  pub short_room : length room < block_bytes n → left (Err Workspace) room ≡ stored version ws rule room
  short_room short = rw (count, lt-ltb (length room) (block_bytes n) short) refl

  -- a writer that has room, of settings that are allowed
  pub good_block : block_bytes n ≤ length room → rule ≡ true
      → left (Ok (block_bytes n)) (sets room 0 (block_of version ws)) ≡ stored version ws rule room
  good_block enough on = rw (count, le-ltb (length room) (block_bytes n) enough, on) refl

  module _ (enough : block_bytes n ≤ length room) (good : Bool) (judged : good ≡ rule) where
    pub not_allowed : good ≡ false → left (Err Stored) room ≡ stored version ws rule room
    not_allowed off = rw (count, le-ltb (length room) (block_bytes n) enough, sym judged ∙ off) refl

    -- the words in the code's own list
    module _ (blank list : List ℕ) (size : length blank ≡ n) (kept : list ≡ sets blank 0 ws) where
      list_is : list ≡ ws
      list_is = kept ∙ stored_over blank ws (count ∙ sym size)

      pub written : good ≡ true → (after : List ℕ) → after ≡ sets room 0 (block_of version list)
          → left (Ok (block_bytes n)) after ≡ stored version ws rule room
      written so after e =
          ap (left (Ok (block_bytes n))) (e ∙ ap (λ (l : List ℕ). sets room 0 (block_of version l)) list_is)
          ∙ good_block enough (sym judged ∙ so)

-- ---- What was stored

-- an acceptance is no refusal
pub no_refusal : {A : Type 0} {m : ℕ} {why : Reason} → Err why ≡ Ok m → A
no_refusal both =
    let none : ◌≡◌ {A = ℕ} 0 1 = cc in
    absurd (omega arith)

-- where a writer accepted: the settings are allowed, the room is large enough, and the block stands in it
pub record Accepted (version n : ℕ) (ws room : List ℕ) (rule : Bool) (m : ℕ) : Type 0 where
  pub good : rule ≡ true
  pub enough : block_bytes n ≤ length room
  pub count : m ≡ block_bytes n
  pub there : (stored version ws rule room).lent ≡ sets room 0 (block_of version ws)

pub accepted : (version n : ℕ) (ws room : List ℕ) (rule : Bool) (m : ℕ) → length ws ≡ n → (stored version ws rule room).answer ≡ Ok m
    → Accepted version n ws room rule m
accepted version n ws room rule m count h = go (truth (ltb (length room) (block_bytes n))) (truth rule)
  where
    go : EitherWay (ltb (length room) (block_bytes n)) → EitherWay rule → Accepted version n ws room rule m
    go (inl short) r =
        no_refusal (ap (λ (l : Left). l.answer) (short_room version n ws room rule count (ltb-true (length room) (block_bytes n) short)) ∙ h)
    go (inr long) (inr off) =
        no_refusal
        (ap (λ (l : Left). l.answer) (not_allowed version n ws room rule count (ltb-false (length room) (block_bytes n) long) rule refl off) ∙ h)
    go (inr long) (inl on) =
        let enough = ltb-false (length room) (block_bytes n) long in
        let is = good_block version n ws room rule count enough on in
        record {
          good = on;
          enough = enough;
          count = ap value (sym (ap (λ (l : Left). l.answer) is ∙ h));
          there = sym (ap (λ (l : Left). l.lent) is);
        }
