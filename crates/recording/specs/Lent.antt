-- The memory that a call on a recording is lent, as one recording, so that a contract names samples, marks, counts, journal and used once
-- for each moment. Definitions only.
use Rattle.std.specs.Prelude.{ℕ, List, ◌≡◌}
use Rattle.std.specs.Borrow.{Bor, MutBor}
use denote.Triple.Both.{Both}
use Rattle.recording.specs.Recording.{State, state}
use Rattle.recording.specs.declared.Recording.{Recording}

-- ---- A recording that is lent as one

-- what stands in its memory
abbrev pub held : Recording → State
held r = state r.samples.now r.marks.now r.counts.now r.journal.now r.used.now

-- it lies in the same memory afterwards: each of its five parts is still what the caller lent, so that the caller finds there what the
-- call left
abbrev pub SameMemory : Recording → Recording → Type 0
SameMemory before after =
    (after.samples.ghost_name ≡ before.samples.ghost_name)
    × (after.marks.ghost_name ≡ before.marks.ghost_name)
    × (after.counts.ghost_name ≡ before.counts.ghost_name)
    × (after.journal.ghost_name ≡ before.journal.ghost_name)
    × (after.used.ghost_name ≡ before.used.ghost_name)

-- ---- A recording that is lent in parts, as callers in C do. A parameter that is lent has two moments, `.entry` and `.exit`, and `now` is
-- what it holds then; one of the two that a definition does not ask for may be of any type.

-- as the call began
abbrev pub lent : {S M C J U : Type 0} → Both (MutBor (List ℕ)) S → Both (MutBor (List ℕ)) M → Both (MutBor (List ℕ)) C
    → Both (MutBor (List ℕ)) J → Both (MutBor ℕ) U → State
lent samples marks counts journal used =
    state samples.entry.now marks.entry.now counts.entry.now journal.entry.now used.entry.now

-- as it began, of a call that only reads the samples
abbrev pub lent_reading : {S M C J U : Type 0} → Both (Bor (List ℕ)) S → Both (MutBor (List ℕ)) M → Both (MutBor (List ℕ)) C
    → Both (MutBor (List ℕ)) J → Both (MutBor ℕ) U → State
lent_reading samples marks counts journal used =
    state samples.entry.now marks.entry.now counts.entry.now journal.entry.now used.entry.now

-- as it ended
abbrev pub left : {S M C J U : Type 0} → Both S (MutBor (List ℕ)) → Both M (MutBor (List ℕ)) → Both C (MutBor (List ℕ))
    → Both J (MutBor (List ℕ)) → Both U (MutBor ℕ) → State
left samples marks counts journal used =
    state samples.exit.now marks.exit.now counts.exit.now journal.exit.now used.exit.now

-- as it ended, of a call that only reads the samples
abbrev pub left_reading : {S M C J U : Type 0} → Both (Bor (List ℕ)) S → Both M (MutBor (List ℕ)) → Both C (MutBor (List ℕ))
    → Both J (MutBor (List ℕ)) → Both U (MutBor ℕ) → State
left_reading samples marks counts journal used =
    state samples.entry.now marks.exit.now counts.exit.now journal.exit.now used.exit.now
