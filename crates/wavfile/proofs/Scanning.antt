-- The scan and what it begins with, from what the code's steps ensure: the code's literals are the rule's, a recording is scanned as its
-- opening leaves it, and what is lent to be opened is what the rule says. Assumes nothing.
use Prim.Native.Nat.{ℕ, zero, suc, ◌≤◌}
use native.Mathlib.Omega.{arith}
use mathlib.Core.Path.{◌≡◌, refl, ap, ◌∙◌}
use mathlib.Core.List.{List, ◌∷◌}
use lib.ListN.{length, take, replicate}
use lib.Ieee.{Float, binary32, binary64, of_bits}
use Rattle.leaves.specs.Arithmetic.{one}
use Rattle.leaves.proofs.Literals.{one_word, nought_double}
use Rattle.recording.specs.Recording.{State, state, Ended, ended, opened}
use Rattle.recording.specs.Counts.{blocks}
use Rattle.recording.specs.Answer.{Answer}
use Rattle.inpaint.specs.Auto.{Scan, automatic}
use Rattle.inpaint.specs.Order.{scan_orders}
use Rattle.monitor.specs.Scanning.{Report, report_of}
use Rattle.wavfile.specs.Program.{most_input, held_words, most_blocks, journal_words, workspace, unopened, scanning, scanning_orders, reported}

-- a scan with the code's limit of what the opening left, and its list of orders
pub scanned_so : (rate : ℕ) (before s : State) (a : Answer) (work : List Float) (orders left : List ℕ) (scanned : Scan)
    → ended a s ≡ opened before
    → (scanned ≡ automatic rate (of_bits binary32 1065353216) held_words work s)
    × (left ≡ scan_orders rate (of_bits binary32 1065353216) held_words work s orders)
    → (scanned ≡ scanning rate work before) × (left ≡ scanning_orders rate work before orders)
unfolding scanning scanning_orders
scanned_so rate before s a work orders left scanned e h = (
  h.0
      ∙ ap (λ (ms : Float). automatic rate ms held_words work s) one_word
      ∙ ap (λ (c : Ended). automatic rate one held_words work c.after) e,
  h.1
      ∙ ap (λ (ms : Float). scan_orders rate ms held_words work s orders) one_word
      ∙ ap (λ (c : Ended). scan_orders rate one held_words work c.after orders) e,
)

-- the counts that are lent: as many of the 1,024 as there are blocks, which are all 0
pub few_blocks : (n k : ℕ) → k ≡ blocks n → n ≤ most_input → k ≤ most_blocks
few_blocks n k e few = omega arith

zeros_of : (n k : ℕ) → k ≤ n → take k (replicate n 0) ≡ replicate {A = ℕ} k 0
zeros_of n zero h = refl
zeros_of zero (suc k) h = absurd (omega arith)
zeros_of (suc n) (suc k) h = ap (λ (l : List ℕ). 0 ∷ l) (zeros_of n k (omega arith))

lends : (words marks : List ℕ) (k : ℕ) → k ≡ blocks (length words) → length words ≤ most_input
    → state words marks (take k (replicate most_blocks 0)) (replicate journal_words 0) 0 ≡ unopened words marks
lends words marks k e few =
    ap (λ (counts : List ℕ). state words marks counts (replicate journal_words 0) 0)
    (zeros_of most_blocks k (few_blocks (length words) k e few) ∙ ap (λ (n : ℕ). replicate n 0) e)

-- the code's workspace begins with its 0.0
pub reports : (rate : ℕ) (words marks orders left : List ℕ) (k : ℕ) (scanned : Scan) → length words ≤ most_input → k ≡ blocks (length words)
    → let lent = state words marks (take k (replicate most_blocks 0)) (replicate journal_words 0) 0 in
    (scanned ≡ scanning rate (replicate workspace (of_bits binary64 0)) lent)
    × (left ≡ scanning_orders rate (replicate workspace (of_bits binary64 0)) lent orders)
    → report_of scanned left ≡ reported rate words marks orders
unfolding reported
reports rate words marks orders left k scanned few ek h =
    let lent = state words marks (take k (replicate most_blocks 0)) (replicate journal_words 0) 0 in
    let made : List Float → State → Report = λ work s. report_of (scanning rate work s) (scanning_orders rate work s orders) in
    ap (λ (c : Scan). report_of c left) h.0
    ∙ ap (report_of (scanning rate (replicate workspace (of_bits binary64 0)) lent)) h.1
    ∙ ap (made (replicate workspace (of_bits binary64 0))) (lends words marks k ek few)
    ∙ ap (λ (x : Float). made (replicate workspace x) (unopened words marks)) nought_double
