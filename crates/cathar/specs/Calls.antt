-- Every call of the library on a recording, under one type, and what it ends in. What an exported function promises is the
-- equation between what it leaves and `ran` of its call, or `opening`; of the one that reads frames, `told_of` what these deliver; of the
-- one that asks whether a span was measured, `span_told_of` the verdict; of the four of the crackle detector, `begun_told` or `heard_told`
-- what their call on its words ends in; of those on stored settings `settings_told_of`, and of the two on WAV files `wav_told_of` and
-- `wav_wrote_of` what theirs ends in. Definitions only.
use Rattle.std.specs.Prelude.{ℕ, List, [], ◌∷◌, length, Float}
use Rattle.leaves.specs.Arithmetic.{nought}
use Rattle.recording.specs.Answers.{number, value, verdict_number, verdict_yes}
use Rattle.recording.specs.Recording.{State, Ended, opened, opened_received, undone, work_after}
use Rattle.recording.specs.Answer.{Verdict}
use Rattle.inpaint.specs.Gap.{needed, gap_repair}
use Rattle.inpaint.specs.Auto.{automatic}
use Rattle.riff.specs.Wav.{Heard, Written}
use Rattle.splice.specs.Several.{AnswerLists, gaps_repair}
use Rattle.redraw.specs.Whole as whole
use Rattle.declip.specs.Declip.{declip_repair}
use Rattle.decrackle.specs.declared.Start.{Start}
use Rattle.decrackle.specs.Decrackle.{decrackle_repair}
use Rattle.dequant.specs.Dequant.{dequantize_repair, cosparse_repair}
use Rattle.proposed.specs.Proposed.{proposed_repair}
use Rattle.crackle.specs.Pieces.{Told}
use Rattle.settings.specs.Settings.{Left}
use Rattle.frames.specs.Frames.{Delivered}

-- a call with its settings and the workspace that it is lent: doubles for a gap, for several and for the automatic scan, 32-bit words for
-- the repairs over the whole recording. To several gaps lists for their answers are lent, too. A proposal needs no workspace.
pub data Call : Type 0 where
  gap : (start len passes : ℕ) → List Float → Call
  gaps : (starts lens : List ℕ) (passes : ℕ) → List Float → AnswerLists → Call
  scan : (rate : ℕ) (millis : Float) (held : ℕ) → List Float → Call
  declip : (threshold : Float) → List ℕ → Call
  decrackle : (start : Start) (sensitivity : Float) → List ℕ → Call
  dequantize : (bits : ℕ) (strength : Float) → List ℕ → Call
  cosparse : (bits : ℕ) (strength : Float) (iterations : ℕ) → List ℕ → Call
  proposed : (threshold : Float) (proposal : List ℕ) → Call
  undo : Call

-- the workspace after a call
pub data Work : Type 0 where
  none : Work
  doubles : List Float → Work
  words : List ℕ → Work

-- what a call leaves: its number, which is 0 where it was accepted and else that of the refusal; what it gives beside it; the
-- recording; the workspace
pub record Outcome : Type 0 where
  pub number : ℕ
  pub figures : List ℕ
  pub after : State
  pub work : Work

abbrev pub outcome : ℕ → List ℕ → State → Work → Outcome
outcome k figures s w = record { number = k; figures = figures; after = s; work = w }

-- most calls give one figure: m, or the place for 7, 8 and 15
abbrev pub told : Ended → Work → Outcome
told e w = outcome (number e.answer) (value e.answer ∷ []) e.after w

-- a repair over the whole recording s, which needs 2n words
abbrev pub redrawn : State → List ℕ → Ended → Outcome
redrawn s work e = told e (words (work_after 0 (whole.needed (length s.samples)) e.answer work))

abbrev pub ran : Call → State → Outcome
ran (gap start len passes work) s =
    let e = gap_repair start len passes (length work) s in
    told e (doubles (work_after nought (needed (length s.samples) start len) e.answer work))
ran (gaps starts lens passes work lists) s =
    let c = gaps_repair starts lens passes work lists s in
    outcome (number c.answer) [] c.after (doubles c.work)
ran (scan rate millis held work) s =
    let c = automatic rate millis held work s in
    outcome c.refused (c.qualified ∷ c.repaired ∷ []) c.after (doubles c.work)
ran (declip threshold work) s = redrawn s work (declip_repair threshold (length work) s)
ran (decrackle start sensitivity work) s = redrawn s work (decrackle_repair start sensitivity (length work) s)
ran (dequantize bits strength work) s = redrawn s work (dequantize_repair bits strength (length work) s)
ran (cosparse bits strength iterations work) s = redrawn s work (cosparse_repair bits strength iterations (length work) s)
ran (proposed threshold proposal) s = told (proposed_repair threshold proposal s) none
ran undo s = told (undone s) none

-- beside it the answers of several gaps stand in their lists
abbrev pub answers_of : List ℕ → List ℕ → ℕ → List Float → AnswerLists → State → AnswerLists
answers_of starts lens passes work lists s = (gaps_repair starts lens passes work lists s).lists

-- the two openings, with one of which every recording starts
pub data Opening : Type 0 where
  -- every sample was measured
  as_measured : Opening
  -- as the bus's frames left it: a sample was measured or not received
  as_received : Opening

abbrev pub opens : Opening → State → Ended
opens as_measured s = opened s
opens as_received s = opened_received s

-- an opening gives no figure
abbrev pub opening : Opening → State → Outcome
opening o s = let e = opens o s in outcome (number e.answer) [] e.after none

-- reading frames, which is no call on a recording, leaves its number, three figures (samples, frames missing, frames dropped) and the
-- rooms for samples and marks
pub record FramesTold : Type 0 where
  pub number : ℕ
  pub figures : List ℕ
  pub samples : List ℕ
  pub marks : List ℕ

abbrev pub frames_told : ℕ → List ℕ → List ℕ → List ℕ → FramesTold
frames_told k figures samples marks = record { number = k; figures = figures; samples = samples; marks = marks }

abbrev pub told_of : Delivered → FramesTold
told_of d = frames_told (number d.answer) (value d.answer ∷ d.missing ∷ d.dropped ∷ []) d.samples d.marks

-- the span question, which changes nothing, leaves its number and its yes
pub record SpanTold : Type 0 where
  pub number : ℕ
  pub yes : ℕ

abbrev pub span_told : ℕ → ℕ → SpanTold
span_told k affirmed = record { number = k; yes = affirmed }

abbrev pub span_told_of : Verdict → SpanTold
span_told_of v = span_told (verdict_number v) (verdict_yes v)

-- a call on the crackle detector, which is no call on a recording, leaves its number, its value if it has one, the words that keep the
-- detector, and the room for flags; an announcement has neither value nor room
pub record CrackleTold : Type 0 where
  pub number : ℕ
  pub values : List ℕ
  pub held : List ℕ
  pub room : List ℕ

abbrev pub crackle_told : ℕ → List ℕ → List ℕ → List ℕ → CrackleTold
crackle_told k values held room = record { number = k; values = values; held = held; room = room }

abbrev pub begun_told : Told (List ℕ) → CrackleTold
begun_told c = crackle_told (number c.answer) [] c.held c.room

abbrev pub heard_told : Told (List ℕ) → CrackleTold
heard_told c = crackle_told (number c.answer) (value c.answer ∷ []) c.held c.room

-- reading and writing stored settings, which is no call on a recording either, leaves its number and the memory that was lent to be written: a
-- reader's area for settings, or a writer's room for the block
pub record SettingsTold : Type 0 where
  pub number : ℕ
  pub lent : List ℕ

abbrev pub settings_told : ℕ → List ℕ → SettingsTold
settings_told k lent = record { number = k; lent = lent }

abbrev pub settings_told_of : Left → SettingsTold
settings_told_of l = settings_told (number l.answer) l.lent

-- reading a WAV file leaves what reading frames leaves, with two figures: samples and the rate
abbrev pub wav_told_of : Heard → FramesTold
wav_told_of h = frames_told (number h.answer) (value h.answer ∷ h.rate ∷ []) h.samples h.marks

-- writing one leaves its number, its value and the room for the file
pub record WavWrote : Type 0 where
  pub number : ℕ
  pub value : ℕ
  pub out : List ℕ

abbrev pub wav_wrote : ℕ → ℕ → List ℕ → WavWrote
wav_wrote k given out = record { number = k; value = given; out = out }

abbrev pub wav_wrote_of : Written → WavWrote
wav_wrote_of w = wav_wrote (number w.answer) (value w.answer) w.out
