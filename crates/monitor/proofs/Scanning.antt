-- The scan and what it begins with, from what the code's steps ensure: the code's literals are the rule's, a recording is scanned as its
-- opening leaves it, and what is lent to be opened is what the rule says. Assumes nothing.
use Prim.Native.Nat.{ℕ, zero, suc, ◌≤◌}
use native.Mathlib.Omega.{arith}
use mathlib.Core.Path.{◌≡◌, refl, ap, ◌∙◌}
use mathlib.Core.List.{List, ◌∷◌}
use lib.ListN.{length, take, replicate}
use lib.Ieee.{Float, binary32, binary64, of_bits}
use Rattle.leaves.specs.Arithmetic.{nought}
use Rattle.leaves.proofs.Literals.{one_word, nought_double}
use Rattle.recording.specs.Recording.{State, state, Ended, ended}
use Rattle.recording.specs.Counts.{blocks}
use Rattle.recording.specs.Answer.{Answer}
use Rattle.inpaint.specs.Auto.{Scan, automatic}
use Rattle.inpaint.specs.Order.{scan_orders}
use Rattle.monitor.specs.Scanning.{most_input, rate, held_words, journal_words, most_blocks, unopened, workspace, scanning, scanning_orders, Report, report}

-- a scan with the code's limit, and its list of orders
pub scanned_so : (s : State) (work : List Float) (orders left : List ℕ) (scanned : Scan)
    → (scanned ≡ automatic rate (of_bits binary32 1065353216) held_words work s)
    × (left ≡ scan_orders rate (of_bits binary32 1065353216) held_words work s orders)
    → (scanned ≡ scanning work s) × (left ≡ scanning_orders work s orders)
unfolding scanning scanning_orders
scanned_so s work orders left scanned h = (
  h.0 ∙ ap (λ (ms : Float). automatic rate ms held_words work s) one_word,
  h.1 ∙ ap (λ (ms : Float). scan_orders rate ms held_words work s orders) one_word,
)

-- a scan of what an opening left
pub opened_then : (opening : Ended) (a : Answer) (s : State) (work : List Float) (orders left : List ℕ) (scanned : Scan)
    → ended a s ≡ opening
    → (scanned ≡ scanning work s) × (left ≡ scanning_orders work s orders)
    → (scanned ≡ scanning work opening.after) × (left ≡ scanning_orders work opening.after orders)
opened_then opening a s work orders left scanned e h = (
  h.0 ∙ ap (λ (c : Ended). scanning work c.after) e,
  h.1 ∙ ap (λ (c : Ended). scanning_orders work c.after orders) e,
)

-- a workspace of the code's 0.0 is one of +0
pub empty_work : replicate workspace (of_bits binary64 0) ≡ replicate workspace nought
empty_work = ap (replicate workspace) nought_double

-- the counts that a program lends: as many of its 16 as there are blocks, which are all 0
pub few_blocks : (n k : ℕ) → k ≡ blocks n → n ≤ most_input → k ≤ most_blocks
few_blocks n k e few = omega arith

zeros_of : (n k : ℕ) → k ≤ n → take k (replicate n 0) ≡ replicate {A = ℕ} k 0
zeros_of n zero h = refl
zeros_of zero (suc k) h = absurd (omega arith)
zeros_of (suc n) (suc k) h = ap (λ (l : List ℕ). 0 ∷ l) (zeros_of n k (omega arith))

pub lends : (words marks : List ℕ) (k : ℕ) → k ≡ blocks (length words) → length words ≤ most_input
    → state words marks (take k (replicate most_blocks 0)) (replicate journal_words 0) 0 ≡ unopened words marks
lends words marks k e few =
    ap (λ (counts : List ℕ). state words marks counts (replicate journal_words 0) 0)
    (zeros_of most_blocks k (few_blocks (length words) k e few) ∙ ap (λ (n : ℕ). replicate n 0) e)

-- a report of what the scan left in a recording's memory is one of what the caller finds where it lent that
pub told_of_lent : (q r k : ℕ) (samples samples' marks marks' orders : List ℕ) (told : Report) → samples' ≡ samples → marks' ≡ marks
    → report q r k samples marks orders ≡ told → report q r k samples' marks' orders ≡ told
told_of_lent q r k samples samples' marks marks' orders told e e' h = rw (e, e') h
