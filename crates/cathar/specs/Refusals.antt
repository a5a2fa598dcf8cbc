-- "What is turned away": document 01's table with request P5's line 14 and request P9's line 15, a definition for each line, whose words the
-- comments quote. (Refusal 12 is none of them: it is that of the reader of frames, which is no call on a recording, and stands with its rule
-- in the crate `frames`. So do the two refusals of the span question, in the crate `recording`.) A line says of what a call asks for, and of
-- the recording that it finds, whether it applies, whatever the other lines say. "The lowest number that applies is the answer": a call tests
-- the lines in the order of `tests`, and answers with the first that applies. That each call does so is `GivenExactlyWhen` of Demands.antt.
-- Definitions only.
use Rattle.std.specs.Prelude.{ℕ, ◌-◌, Bool, true, false, not, ◌&&◌, ◌||◌, List, [], ◌∷◌, ◌++◌, length, leb, ltb, eqb, Float}
use Rattle.std.specs.Prelude.{if◌then◌else◌}
use Rattle.leaves.specs.Floats.{in_range}
use Rattle.recording.specs.Recording.{State, Placed, Plan, refuse, change, picked, entry_size, differ, counts_wrong, too_many, over_used}
use Rattle.recording.specs.Recording.{malformed}
use Rattle.inpaint.specs.Gap as single
use Rattle.inpaint.specs.Auto as auto
use Rattle.splice.specs.Several as lists
use Rattle.redraw.specs.Whole as whole
use Rattle.declip.specs.Declip as declips
use Rattle.decrackle.specs.Decrackle as decrackles
use Rattle.dequant.specs.Dequant as dequants
use Rattle.proposed.specs.Proposed as proposals
use Rattle.cathar.specs.Calls.{Call, gap, gaps, scan, declip, decrackle, dequantize, cosparse, proposed, undo}

-- ---- What a call asks for, as far as the table speaks of it

pub record Asked : Type 0 where
  -- whether its settings are allowed
  pub allowed : Bool
  -- whether its gap is none, or not within the recording
  pub gap_wrong : Bool
  -- the workspace that it needs, and that it is lent
  pub needed : ℕ
  pub room : ℕ
  -- the words of the samples that it reads
  pub reads : List ℕ
  -- whether what it proposes has another length, or breaks the rule
  pub proposal_wrong : Bool
  -- the samples that it names, with its results
  pub names : List Placed
  -- whether it is an undo
  pub undoes : Bool

-- what the rule of a gap names
abbrev pub changed : Plan → List Placed
changed (refuse why) = []
changed (change mark cs) = cs

-- a repair over the whole recording s: "The last three modules read every sample, whatever the settings"
abbrev pub redrawing : Bool → List ℕ → whole.Drawn → State → Asked
redrawing allowed work drawn s =
    record {
      allowed = allowed;
      gap_wrong = false;
      needed = whole.needed (length s.samples);
      room = length work;
      reads = s.samples;
      proposal_wrong = false;
      names = picked 0 drawn.named drawn.words;
      undoes = false;
    }

-- a call that asks for nothing of a gap, a workspace or samples
abbrev pub plain : Bool → Bool → Asked
plain allowed undoes =
    record { allowed = allowed; gap_wrong = false; needed = 0; room = 0; reads = []; proposal_wrong = false; names = []; undoes = undoes }

-- whether one of the samples is not answered as request P9 has it
unfoldable pub any_unanswered : Float → List ℕ → List ℕ → Bool
unfolding proposals.answers
any_unanswered threshold [] ps = false
any_unanswered threshold (w ∷ ws) [] = false
any_unanswered threshold (w ∷ ws) (p ∷ ps) = not (proposals.answers threshold w p) || any_unanswered threshold ws ps

-- Of a gap "any number [of passes] is allowed", and "Everything in [the window] outside the gap is known and read". What its runs ask for
-- is not a scan's own affair, nor what its spans ask for that of several gaps, of which only the lists are.
abbrev pub asked : Call → State → Asked
asked (gap start len passes work) s =
    record {
      allowed = true;
      gap_wrong = single.gap_wrong (length s.samples) start len;
      needed = single.needed (length s.samples) start len;
      room = length work;
      reads = single.known_before s.samples start len ++ single.known_behind s.samples start len;
      proposal_wrong = false;
      names = changed (single.repaired passes s.samples start len);
      undoes = false;
    }
asked (gaps starts lens passes work answers) s = plain (not (lists.lists_wrong starts lens answers)) false
asked (scan rate millis held work) s = plain (auto.allowed rate millis && auto.held_allowed held) false
asked (declip threshold work) s = redrawing (declips.allowed threshold) work (declips.declipped threshold s.samples) s
asked (decrackle start sensitivity work) s =
    redrawing (decrackles.allowed sensitivity) work (decrackles.decrackled start sensitivity s.samples) s
asked (dequantize bits strength work) s = redrawing (dequants.allowed strength) work (dequants.dequantized bits strength s.samples) s
asked (cosparse bits strength iterations work) s =
    redrawing (dequants.allowed strength) work (dequants.cosparse bits strength iterations s.samples) s
asked (proposed threshold proposal) s =
    record {
      allowed = declips.allowed threshold;
      gap_wrong = false;
      needed = 0;
      room = 0;
      reads = s.samples;
      proposal_wrong = not (eqb (length proposal) (length s.samples)) || any_unanswered threshold s.samples proposal;
      names = proposals.named threshold s.samples proposal;
      undoes = false;
    }
asked undo s = plain true true

-- ---- The lines of the table

-- 1: "marks and samples differ in number"
abbrev pub line1 : State → Bool
line1 s = differ s

-- 14: "wrong number of counts"
abbrev pub line14 : State → Bool
line14 s = counts_wrong s

-- 2: "more than 1,048,576 samples"
abbrev pub line2 : State → Bool
line2 s = too_many s

-- 3: "used exceeds the journal's length"
abbrev pub line3 : State → Bool
line3 s = over_used s

-- 4: "a setting is not allowed (see each part)"; of a scan the rate and the longest gap, and the held run's length, "2 to 4,096" (request
-- P11 of document 02)
abbrev pub line4 : Asked → Bool
line4 a = not a.allowed

-- 5: "gap length 0, start at or past the end, or gap past the end"
abbrev pub line5 : Asked → Bool
line5 a = a.gap_wrong

-- 6: "workspace shorter than needed"
abbrev pub line6 : Asked → Bool
line6 a = ltb a.room a.needed

-- one of these words is not in range
unfoldable pub any_out : List ℕ → Bool
unfolding in_range
any_out [] = false
any_out (w ∷ ws) = not (in_range w) || any_out ws

-- 7: "a sample that the repair reads is not in range"
abbrev pub line7 : Asked → Bool
line7 a = any_out a.reads

-- the results alone
abbrev pub results : List Placed → List ℕ
results [] = []
results (c ∷ cs) = c.value ∷ results cs

-- 8: "a result at a named sample is not in range"
abbrev pub line8 : Asked → Bool
line8 a = any_out (results a.names)

-- 9: "m is at least 1 and the journal has fewer than 3m+2 free words"
abbrev pub line9 : Asked → State → Bool
line9 a s = let m = length a.names in leb 1 m && ltb (length s.journal - s.used) (entry_size m)

-- 10: "undo with used 0"
abbrev pub line10 : Asked → State → Bool
line10 a s = a.undoes && eqb s.used 0

-- 11: "undo: the last entry is malformed: .."
abbrev pub line11 : Asked → State → Bool
line11 a s = a.undoes && malformed (length s.samples) s.journal s.used

-- 15: "proposal of another length, .. or breaking the rule"
abbrev pub line15 : Asked → Bool
line15 a = a.proposal_wrong

-- whether the line of this number applies
unfoldable pub applies : Asked → State → ℕ → Bool
unfolding any_out any_unanswered malformed
applies a s k =
    if eqb k 1 then line1 s else
    if eqb k 2 then line2 s else
    if eqb k 3 then line3 s else
    if eqb k 4 then line4 a else
    if eqb k 5 then line5 a else
    if eqb k 6 then line6 a else
    if eqb k 7 then line7 a else
    if eqb k 8 then line8 a else
    if eqb k 9 then line9 a s else
    if eqb k 10 then line10 a s else
    if eqb k 11 then line11 a s else
    if eqb k 14 then line14 s else
    if eqb k 15 then line15 a else
    false

-- ---- The answer

-- the first of these numbers whose line applies, or 0
unfoldable pub first : (ℕ → Bool) → List ℕ → ℕ
first applies [] = 0
first applies (k ∷ ks) = let later = first applies ks in if applies k then k else later

-- the order in which the lines are tested: 14 "after 1". Line 15 is a proposal's alone.
abbrev pub tested : List ℕ
tested = 1 ∷ 14 ∷ 2 ∷ 3 ∷ 4 ∷ 5 ∷ 6 ∷ 7 ∷ 8 ∷ 9 ∷ 10 ∷ 11 ∷ []

-- those that a call tests. Of several gaps: "4 first, ..; all others are each span's own", which tests them as a gap by itself does. Of a
-- proposal: "7 for the recording as before; 8 isn't given; 15, .. before 9".
abbrev pub tests : Call → List ℕ
tests (gap start len passes work) = tested
tests (gaps starts lens passes work answers) = 4 ∷ []
tests (scan rate millis held work) = tested
tests (declip threshold work) = tested
tests (decrackle start sensitivity work) = tested
tests (dequantize bits strength work) = tested
tests (cosparse bits strength iterations work) = tested
tests (proposed threshold proposal) = 1 ∷ 14 ∷ 2 ∷ 3 ∷ 4 ∷ 7 ∷ 15 ∷ 9 ∷ []
tests undo = tested

-- "It gives refusals 1 and 2 only", and 14 "given by opening and undo too": opening tests these
abbrev pub tested_by_opening : List ℕ
tested_by_opening = 1 ∷ 14 ∷ 2 ∷ []

-- the number by which a call is turned away, or 0
unfoldable pub turned_away : Call → State → ℕ
unfolding first applies
turned_away c s = first (applies (asked c s) s) (tests c)

-- and an opening, which asks for nothing
unfoldable pub opening_turned_away : State → ℕ
unfolding first applies
opening_turned_away s = first (applies (plain true false) s) tested_by_opening

-- ---- Which numbers a call can give at all

-- "Undo can give 1, 2, 3, 10, 11.", and 14; each run of a scan has "its own answer from 6 to 9"
abbrev pub can_give : Call → List ℕ
can_give (gap start len passes work) = 1 ∷ 14 ∷ 2 ∷ 3 ∷ 5 ∷ 6 ∷ 7 ∷ 8 ∷ 9 ∷ []
can_give (gaps starts lens passes work answers) = 4 ∷ []
can_give (scan rate millis held work) = 1 ∷ 14 ∷ 2 ∷ 3 ∷ 4 ∷ 6 ∷ 7 ∷ 8 ∷ 9 ∷ []
can_give (declip threshold work) = 1 ∷ 14 ∷ 2 ∷ 3 ∷ 4 ∷ 6 ∷ 7 ∷ 8 ∷ 9 ∷ []
can_give (decrackle start sensitivity work) = 1 ∷ 14 ∷ 2 ∷ 3 ∷ 4 ∷ 6 ∷ 7 ∷ 8 ∷ 9 ∷ []
can_give (dequantize bits strength work) = 1 ∷ 14 ∷ 2 ∷ 3 ∷ 4 ∷ 6 ∷ 7 ∷ 8 ∷ 9 ∷ []
can_give (cosparse bits strength iterations work) = 1 ∷ 14 ∷ 2 ∷ 3 ∷ 4 ∷ 6 ∷ 7 ∷ 8 ∷ 9 ∷ []
can_give (proposed threshold proposal) = 1 ∷ 14 ∷ 2 ∷ 3 ∷ 4 ∷ 7 ∷ 15 ∷ 9 ∷ []
can_give undo = 1 ∷ 14 ∷ 2 ∷ 3 ∷ 10 ∷ 11 ∷ []
