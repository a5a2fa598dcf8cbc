-- Two gaps, either order: request P13 of document 02, whose sentences the comments quote. "Splicers ask whether it matters which gap they
-- repair first. Show that it doesn't for two model gaps when neither gap touches the other's window, both calls are accepted in one order,
-- and the workspace fits each". Definitions, and then two statements, which are proved as `either_order` and `apart_by_distance` of
-- proofs/EitherOrder.antt, which nobody has to read. What does the work is stated in specs/Reach.antt of the crate `inpaint`. Nothing here is
-- special to the model: of a gap by a straight line, whose window is its neighbours, the same holds.
use Rattle.std.specs.Prelude.{ℕ, ◌+◌, ◌-◌, ◌≤◌, ◌<◌, max, ◌≡◌, List, [], ◌++◌, length}
use Rattle.std.proofs.lemmas.List.Edits.{sets}
use Rattle.recording.specs.Answers.{number}
use Rattle.recording.specs.Recording.{State, Ended, places, Plan, refuse, change, entry}
use Rattle.inpaint.specs.Gap.{context, from, to, needed, gap_plan, gap_repair}
use Rattle.inpaint.specs.Runs.{Stretch}
use Rattle.inpaint.specs.Order.{gap_order}

-- ---- The premises

-- a gap touches the window of another: one of its samples is one of the window's, in a recording of n samples
abbrev pub Touches : ℕ → Stretch → Stretch → Type 0
Touches n g h =
    (i : ℕ) × (g.start ≤ i) × (i < g.start + g.len)
    × (from h.start h.len ≤ i) × (i < to n h.start h.len)

-- "neither gap touches the other's window"
abbrev pub Apart : ℕ → Stretch → Stretch → Type 0
Apart n g h = (Touches n g h → ⊥) × (Touches n h g → ⊥)

-- what a call is given beside its gap: the count of passes, and how many doubles of workspace
pub record Given : Type 0 where
  pub passes : ℕ
  pub room : ℕ

-- "the workspace fits"
abbrev pub Fitting : ℕ → Stretch → Given → Type 0
Fitting n g a = needed n g.start g.len ≤ a.room

-- the call that repairs a gap, and the order of its model
abbrev pub repair_of : Stretch → Given → State → Ended
repair_of g a = gap_repair g.start g.len a.passes a.room

abbrev pub order_of : Stretch → Given → State → ℕ
order_of g a = gap_order g.start g.len a.passes a.room

-- it is accepted
abbrev pub Accepted : Ended → Type 0
Accepted e = number e.answer ≡ 0

-- the call on a gap h, when g has been repaired
abbrev pub after_first : Stretch → Given → Stretch → Given → State → Ended
after_first g a h b s = repair_of h b (repair_of g a s).after

-- ---- What the orders have in common

-- "equal samples, marks and block counts", and used
pub record AlikeButJournal (one other : State) : Type 0 where
  pub samples : other.samples ≡ one.samples
  pub marks : other.marks ≡ one.marks
  pub counts : other.counts ≡ one.counts
  pub used : other.used ≡ one.used

-- the entry that a plan's repair appends to the journal of a recording
abbrev pub entry_of : Plan → State → List ℕ
entry_of (refuse why) s = []
entry_of (change mark cs) s = entry s mark (places cs)

-- that of a gap's
abbrev pub gap_entry : Stretch → Given → State → List ℕ
gap_entry g a s = entry_of (gap_plan g.start g.len a.passes a.room s.samples) s

-- "The journals differ only in the order of the two entries", first and second: from the first free word on they have the one and then
-- the other, and all other words are those that stood there
pub record SwappedEntries (s one other : State) (first second : List ℕ) : Type 0 where
  pub in_one : one.journal ≡ sets s.journal s.used (first ++ second)
  pub in_other : other.journal ≡ sets s.journal s.used (second ++ first)
  pub used : one.used ≡ s.used + length (first ++ second)
  pub within : one.used ≤ length s.journal

-- ---- Two gaps

-- In the one order g is repaired, as `a` gives it, and then h, as `b` does; in the other h and then g, as `b'` and `a'` give them. "the
-- other order is accepted too": each call answers what it answers in the one order, and each model has the order that it has there.
pub record OtherOrder (g : Stretch) (a a' : Given) (h : Stretch) (b b' : Given) (s : State) : Type 0 where
  pub first : (repair_of h b' s).answer ≡ (after_first g a h b s).answer
  pub second : (after_first h b' g a' s).answer ≡ (repair_of g a s).answer
  pub first_order : order_of h b' s ≡ order_of h b (repair_of g a s).after
  pub second_order : order_of g a' (repair_of h b' s).after ≡ order_of g a s
  pub alike : AlikeButJournal (after_first g a h b s).after (after_first h b' g a' s).after
  pub entries : SwappedEntries s (after_first g a h b s).after (after_first h b' g a' s).after (gap_entry g a s) (gap_entry h b s)

abbrev pub EitherOrder : Type 0
EitherOrder =
    (g : Stretch) (a a' : Given) (h : Stretch) (b b' : Given) (s : State) → Apart (length s.samples) g h
    → Accepted (repair_of g a s) → Accepted (after_first g a h b s)
    → Fitting (length s.samples) g a' → Fitting (length s.samples) h b'
    → OtherOrder g a a' h b b' s

-- ---- How near is that

-- Of two gaps within a recording, g before h, neither touches the other's window exactly where no fewer samples lie between them than the
-- larger of their contexts has: "The window runs from max(0, start−c) to min(n, start+len+c)."
abbrev pub ApartByDistance : Type 0
ApartByDistance =
    (n : ℕ) (g h : Stretch) → 1 ≤ g.len → g.start + g.len ≤ h.start → 1 ≤ h.len → h.start + h.len ≤ n
    → let between = h.start - (g.start + g.len) in
    let larger = max (context g.len) (context h.len) in
    (Apart n g h → larger ≤ between) × (larger ≤ between → Apart n g h)
