-- One gap: document 01's inpaint.rs paragraph, whose sentences the comments quote. "Gap [start, start+len)." n is the number of
-- samples. The model that fills a gap of at most 2048 samples stands in the crate `model`, specs/Model.antt. Definitions only.
use Rattle.std.specs.Prelude.{ℕ, zero, suc, ◌+◌, ◌-◌, ◌*◌, min, max, Bool, ◌||◌, List, [], ◌∷◌, map, length, take, drop, ◌==◌, nat_le, nat_lt, slice_index, Float}
use Rattle.std.specs.Float.{binary32}
use Rattle.std.specs.Float.Ieee.{to_bits, add, sub, mul, div}
use Rattle.leaves.specs.Arithmetic.{◌+₃₂◌, ◌-₃₂◌, ◌*₃₂◌, ◌/₃₂◌, nought, one, float, count}
use Rattle.leaves.specs.Floats.{narrowed}
use Rattle.recording.specs.Recording.{State, Ended, Plan, refuse, change, span, called}
use Rattle.recording.specs.Marks.{gap_by_model, gap_by_line}
use Rattle.std.specs.Prelude.{if◌then◌else◌}
use Rattle.recording.specs.Recording.{or_else, readable, unless_read}
use Rattle.recording.specs.declared.Reason.TheVariants.{Gap, Workspace}
use Rattle.recording.specs.Answer.{Answer}
use Rattle.model.specs.Model.{order_for, doubles_for, filled}

-- 5: "gap length 0, start at or past the end, or gap past the end"
abbrev pub gap_wrong : ℕ → ℕ → ℕ → Bool
gap_wrong n start len = len == 0 || nat_le n start || nat_lt n (start + len)

-- "len above 2048: straight line."
abbrev pub by_line : ℕ → Bool
by_line len = nat_lt 2048 len

-- ---- The window

-- "context c is the larger of 4*len and 1024"; a line "Reads the neighbours that exist", which are one sample on either side
abbrev pub context : ℕ → ℕ
context len = if by_line len then 1 else max (4 * len) 1024

-- "The window runs from max(0, start−c) to min(n, start+len+c)."
abbrev pub from : ℕ → ℕ → ℕ
from start len = start - context len

abbrev pub to : ℕ → ℕ → ℕ → ℕ
to n start len = min n (start + len + context len)

-- how many samples it has, and their words
abbrev pub window_size : ℕ → ℕ → ℕ → ℕ
window_size n start len = to n start len - from start len

unfoldable pub window : List ℕ → ℕ → ℕ → List ℕ
window samples start len = take (window_size (length samples) start len) (drop (from start len) samples)

-- "Workspace, in doubles: window + len*(p+1) + 3*len + 4*(p+1)", and of a line "len doubles"
unfoldable pub needed : ℕ → ℕ → ℕ → ℕ
needed n start len =
    if by_line len then len else doubles_for (window_size n start len) len (order_for len)

-- ---- What is read

-- "Everything in it outside the gap is known and read": what the window has before the gap, and behind it
unfoldable pub known_before : List ℕ → ℕ → ℕ → List ℕ
known_before samples start len = take (start - from start len) (drop (from start len) samples)

unfoldable pub known_behind : List ℕ → ℕ → ℕ → List ℕ
known_behind samples start len = take (to (length samples) start len - (start + len)) (drop (start + len) samples)

-- 7: "a sample that the repair reads is not in range", before the gap first, so that the place is the lowest
unfoldable pub all_readable : List ℕ → ℕ → ℕ → Answer
unfolding known_before known_behind readable
all_readable samples start len =
    or_else (readable (from start len) (known_before samples start len)) (readable (start + len) (known_behind samples start len))

-- ---- The straight line

-- "left is the sample before the gap, or 0 at the start; right likewise."
unfoldable pub left_of : List ℕ → ℕ → Float
unfolding float
left_of samples start = if start == 0 then nought else float (slice_index samples (start - 1))

unfoldable pub right_of : List ℕ → ℕ → Float
unfolding float
right_of samples end = if nat_le (length samples) end then nought else float (slice_index samples end)

-- "Sample i gets left*(1−t)+right*t in f32, t=(i+1)/(len+1)."
unfoldable pub line_at : Float → Float → ℕ → ℕ → Float
unfolding count add sub mul div
line_at left right len i = let t = count (i + 1) /₃₂ count (len + 1) in left *₃₂ (one -₃₂ t) +₃₂ right *₃₂ t

-- the words of n samples of the line, from the i-th on
unfoldable pub line_from : Float → Float → ℕ → ℕ → ℕ → List ℕ
unfolding line_at to_bits
line_from left right len i zero = []
line_from left right len i (suc n) = to_bits binary32 (line_at left right len i) ∷ line_from left right len (i + 1) n

-- the words of the whole line
unfoldable pub line : List ℕ → ℕ → ℕ → List ℕ
unfolding left_of right_of line_from
line samples start len = line_from (left_of samples start) (right_of samples (start + len)) len 0 len

-- ---- The model

-- "narrowed to f32": the word of a double
unfoldable pub narrow_word : Float → ℕ
unfolding narrowed to_bits
narrow_word x = to_bits binary32 (narrowed x)

-- the gap's words after so many passes over the window
unfoldable pub model : ℕ → List ℕ → ℕ → ℕ → List ℕ
unfolding narrow_word filled float window
model passes samples start len = map narrow_word (filled passes (map float (window samples start len)) (start - from start len) len)

-- ---- The repair

-- "Mark 2" of a line, "Mark 1" of the model
unfoldable pub repaired : ℕ → List ℕ → ℕ → ℕ → Plan
unfolding line model span
repaired passes samples start len =
    if by_line len then change gap_by_line (span start (line samples start len))
    else change gap_by_model (span start (model passes samples start len))

-- refusals 5, 6 and 7 in this order, and else the words and the mark. `room` is how many doubles of workspace are lent.
unfoldable pub gap_plan : ℕ → ℕ → ℕ → ℕ → List ℕ → Plan
unfolding needed all_readable repaired
gap_plan start len passes room samples =
    if gap_wrong (length samples) start len then refuse Gap else
    if nat_lt room (needed (length samples) start len) then refuse Workspace else
    unless_read (all_readable samples start len) (repaired passes samples start len)

-- the call
unfoldable pub gap_repair : ℕ → ℕ → ℕ → ℕ → State → Ended
unfolding gap_plan called
gap_repair start len passes room = called (gap_plan start len passes room)
