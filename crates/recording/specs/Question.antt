-- "Was this second measured?": the span question of request P5 of document 02, whose sentences the comments quote. Definitions only; what
-- follows from them stands in Consequences.antt.
use Rattle.std.specs.Prelude.{ℕ, zero, suc, ◌+◌, ◌-◌, Bool, true, ◌&&◌, List, length, get_or, ltb, eqb}
use Rattle.std.specs.Prelude.{if◌then◌else◌}
use Rattle.recording.specs.Marks.{measured}
use Rattle.recording.specs.Counts.{block_of, block_begin, miscounted}
use Rattle.recording.specs.declared.Reason.TheVariants.{Gap, Blocks}
use Rattle.recording.specs.Answer.{Verdict}
use Rattle.std.specs.Prelude.{Ok, Err}

-- whether each of the n elements from place i on is this one
unfoldable pub all_are : ℕ → List ℕ → ℕ → ℕ → Bool
all_are k l i zero = true
all_are k l i (suc n) = eqb (get_or l i 0) k && all_are k l (i + 1) n

-- "looking at each mark": whether the n samples from place i on are measured
abbrev pub marks_say : List ℕ → ℕ → ℕ → Bool
marks_say marks i n = all_are measured marks i n

-- whether the counts say so of the n blocks from a block on: none of their marks is counted
abbrev pub counts_say : List ℕ → ℕ → ℕ → Bool
counts_say counts block n = all_are 0 counts block n

-- "A span question then looks at marks only in the blocks its ends fall in", the first sample's and the last sample's, and at the counts of
-- the blocks between. "A span of length 0 gets yes."
unfoldable pub span_measured : List ℕ → List ℕ → ℕ → ℕ → Bool
unfolding all_are
span_measured marks counts start zero = true
span_measured marks counts start (suc more) =
    let last = start + more in
    let second = block_of start + 1 in
    let final = block_of last in
    if eqb (block_of start) final then marks_say marks start (suc more) else
    marks_say marks start (block_begin second - start)
    && counts_say counts second (final - second)
    && marks_say marks (block_begin final) (last + 1 - block_begin final)

-- 5: "a span whose start plus length passes the end"
abbrev pub span_past : ℕ → ℕ → ℕ → Bool
span_past n start len = ltb n (start + len)

-- the answer: refusals 14 and 5, and then yes or no
unfoldable pub span_verdict : List ℕ → List ℕ → ℕ → ℕ → Verdict
unfolding span_measured
span_verdict marks counts start len =
    if miscounted (length marks) counts then Err Blocks else
    if span_past (length marks) start len then Err Gap else
    Ok (span_measured marks counts start len)
