-- The journal suffices, and the workspace at rates up to 384,000 a second. Assumes nothing.
use Prim.Native.Nat.{ℕ, ◌+◌, ◌-◌, ◌*◌, ◌≤◌, max, min}
use native.Mathlib.Nat.{mul-le-mul}
use native.Mathlib.Omega.{arith}
use mathlib.Core.Path.{◌≡◌}
use mathlib.Core.Bool.{false}
use mathlib.Core.List.{List}
use lib.ListN.{length, replicate, length-replicate}
use lib.Ieee.{Float}
use borrow.Author.Tests.{le-ltb}
use Rattle.recording.specs.History.{fresh}
use Rattle.inpaint.specs.Gap.{by_line, needed}
use Rattle.inpaint.specs.Runs.{run_answers}
use Rattle.inpaint.specs.Consequences.{NoneHas}
use Rattle.inpaint.proofs.Rooms.{dense_suffices, wide_suffices}
use Rattle.wavfile.specs.Program.{limit_ms, held_words, journal_words, workspace, JournalSuffices, WorkspaceSuffices}
use Rattle.wavfile.proofs.Limits.{limit_at_most_384}

-- a journal of any number of words: 55 for each 18 samples
room_of : (n room : ℕ) → 55 * n ≤ 18 * room → 18 * 0 + 55 * n ≤ 18 * length (replicate {A = ℕ} room 0)
room_of n room h = rw (length-replicate {A = ℕ} room 0) (omega arith)

dense_enough : (rate : ℕ) (words marks : List ℕ) (room : ℕ) (work : List Float) → 55 * length words ≤ 18 * room
    → NoneHas 9 (run_answers rate limit_ms held_words work (fresh words marks room))
dense_enough rate words marks room work h =
    dense_suffices rate limit_ms held_words work (fresh words marks room) (omega arith) (room_of (length words) room h)

pub journal_suffices : JournalSuffices
journal_suffices rate words marks work few = dense_enough rate words marks journal_words work (omega arith)

-- what a run of at most 384 samples needs: its context is at most 1,536, and its order at most 128
needed_most : (n start len : ℕ) → len ≤ 384 → needed n start len ≤ workspace
unfolding needed
needed_most n start len short =
    let line : by_line len ≡ false = le-ltb 2048 len (omega arith) in
    let order : min (max len 32) 128 + 1 ≤ 129 = omega arith in
    rw line (sum (len * (min (max len 32) 128 + 1)) (mul-le-mul short order))
  where
    sum : (band : ℕ) → band ≤ 384 * 129
        → min n (start + len + max (4 * len) 1024) - (start - max (4 * len) 1024) + band + 3 * len + 4 * (min (max len 32) 128 + 1) ≤ workspace
    sum band h = omega arith

pub workspace_suffices : WorkspaceSuffices
workspace_suffices rate words marks room work few wide =
    wide_suffices rate limit_ms held_words work (fresh words marks room)
    (λ start len h.
    let short : len ≤ 384 = omega (arith, h, limit_at_most_384 rate few) in
    omega (arith, needed_most (length words) start len short, wide))
