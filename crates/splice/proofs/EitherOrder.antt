-- Two gaps in either order, as specs/EitherOrder.antt states it. Assumes nothing.
use mathlib.Core.Path.{◌≡◌, refl, sym, ap, ◌∙◌}
use mathlib.Core.Bool.{false}
use mathlib.Core.List.{List}
use mathlib.Core.Logic.{◌⊎◌, inl, inr}
use Prim.Native.Nat.{ℕ, ◌+◌, ◌-◌, ◌≤◌, ◌<◌, max, min}
use native.Mathlib.Omega.{arith}
use borrow.Author.Tests.{ltb-false}
use lib.Dec.{ltb}
use lib.ListN.{length}
use Rattle.std.specs.Prelude.{if◌then◌else◌}
use Rattle.leaves.proofs.Choice.{truth}
use Rattle.leaves.proofs.Numbers.{lt_or_ge}
use Rattle.recording.specs.Recording.{State, Ended, ended, Placed, places, Plan, refuse, change, entry, committed, performed, called}
use Rattle.recording.specs.Consequences.{Among}
use Rattle.recording.specs.declared.Reason.{Reason}
use Rattle.recording.specs.declared.Reason.TheVariants.{Gap, Workspace}
use Rattle.std.specs.Prelude.{Ok}
use Rattle.recording.proofs.Put.{among_below, length_put, put_elsewhere}
use Rattle.recording.proofs.Entering.{Enters, Ending, unnamed, turned_away, enters, ending, enters_ends}
use Rattle.recording.proofs.Single.{above_zero}
use Rattle.recording.proofs.TwoCommits as two
use Rattle.recording.proofs.TwoCommits.{Disjoint, Like}
use Rattle.inpaint.specs.Gap.{gap_wrong, by_line, context, to, needed, gap_plan, gap_repair}
use Rattle.inpaint.specs.Runs.{Stretch}
use Rattle.inpaint.specs.Order.{fill_order, order_beside, gap_order}
use Rattle.inpaint.specs.Reach.{SameWindow}
use Rattle.inpaint.proofs.Lawful.{gap_lawful}
use Rattle.inpaint.proofs.Plans.{every_count}
use Rattle.inpaint.proofs.Orders.{order_of_every_count}
use Rattle.inpaint.proofs.Rooms.{accepted_names_the_gap}
use Rattle.inpaint.proofs.Reach.{window_decides, window_decides_order, room_that_fits, NamesWithin, names_within}
use Rattle.splice.specs.EitherOrder.{Touches, Apart, Given, Fitting, repair_of, order_of, Accepted, after_first}
use Rattle.splice.specs.EitherOrder.{AlikeButJournal, entry_of, gap_entry, SwappedEntries, OtherOrder, EitherOrder, ApartByDistance}

-- ---- A repair that is accepted

-- what it names, and that it is entered
pub record Entered (g : Stretch) (a : Given) (s : State) : Type 0 where
  pub mark : ℕ
  pub cs : List Placed
  pub plan : gap_plan g.start g.len a.passes a.room s.samples ≡ change mark cs
  pub enters : Enters s mark cs

-- the recording after it
abbrev pub left : {g : Stretch} {a : Given} {s : State} → Entered g a s → State
left {s = s} x = committed s x.mark x.cs

pub accepted_enters : (g : Stretch) (a : Given) (s : State) → Accepted (repair_of g a s) → Entered g a s
unfolding gap_repair called
accepted_enters g a s accepted = go (ending s plan (gap_lawful g.start g.len a.passes a.room s.samples))
  where
    plan : Plan
    plan = gap_plan g.start g.len a.passes a.room s.samples

    go : Ending s plan → Entered g a s
    go (unnamed mark p e) =
        let named = accepted_names_the_gap g.start g.len a.passes a.room 0 s (unfold gap_repair called in ap (λ (d : Ended). d.answer) e) in
        absurd (omega (arith, named.0, named.1))
    go (turned_away why e) = absurd (omega (arith, above_zero why, (rw e at accepted)))
    go (enters mark cs p e) = record { mark = mark; cs = cs; plan = p; enters = e }

pub entered_ends : {g : Stretch} {a : Given} {s : State} (x : Entered g a s) → repair_of g a s ≡ ended (Ok (length x.cs)) (left x)
unfolding gap_repair called
entered_ends {g} {a} {s} x = ap (performed s) x.plan ∙ enters_ends x.enters

-- it names samples of its gap alone, and leaves as many samples as there were
module _ {g : Stretch} {a : Given} {s : State} (x : Entered g a s) where
  named : (i : ℕ) → Among i (places x.cs) → (g.start ≤ i) × (i < g.start + g.len)
  named i =
      let within : NamesWithin g.start g.len i (change x.mark x.cs) =
      rw x.plan at (names_within g.start g.len a.passes a.room i s.samples) in
      within

  below : (i : ℕ) → Among i (places x.cs) → i < length s.samples
  below i m = among_below (length s.samples) 0 i x.cs x.enters.ascending m

  pub as_many : length (left x).samples ≡ length s.samples
  unfolding committed
  as_many = length_put x.cs s.samples

-- 1 for a plan that changes something
abbrev changes : Plan → ℕ
changes (refuse why) = 0
changes (change mark cs) = 1

-- such a plan is that of a gap within the recording, and its workspace fits
module _ (g : Stretch) (a : Given) (samples : List ℕ) (mark : ℕ) (cs : List Placed)
    (plan : gap_plan g.start g.len a.passes a.room samples ≡ change mark cs) where
  never : (why : Reason) → gap_plan g.start g.len a.passes a.room samples ≡ refuse why → ⊥
  never why e = omega (arith, ap changes (sym e ∙ plan))

  right : gap_wrong (length samples) g.start g.len ≡ false
  right =
      elim (truth (gap_wrong (length samples) g.start g.len)) [
        | inl wrong ↦ absurd (never Gap (unfold gap_plan in (rw wrong refl)))
        | inr fine ↦ fine
      ]

  pub fits : Fitting (length samples) g a
  fits =
      elim (truth (ltb a.room (needed (length samples) g.start g.len))) [
        | inl short ↦ absurd (never Workspace (unfold gap_plan in (rw (right, short) refl)))
        | inr enough ↦ ltb-false _ _ enough
      ]

-- ---- The window decides

turned : {start len : ℕ} {samples others : List ℕ} → SameWindow start len samples others → SameWindow start len others samples
turned w =
    record { ends = sym w.ends; words = λ i low high out. sym (w.words i low (rw w.ends at high) out) }

-- the plan of a gap is the same in a recording with the same window, whatever the passes and the workspace that fits
pub plan_carried : (g : Stretch) (a b : Given) (samples others : List ℕ) (mark : ℕ) (cs : List Placed)
    → SameWindow g.start g.len samples others → Fitting (length samples) g b
    → gap_plan g.start g.len a.passes a.room samples ≡ change mark cs
    → gap_plan g.start g.len b.passes b.room others ≡ change mark cs
plan_carried g a b samples others mark cs same fitting plan =
    window_decides g.start g.len b.passes b.room samples others same
    ∙ every_count g.start g.len b.passes b.room samples
    ∙ room_that_fits g.start g.len 1 a.room b.room samples (fits g a samples mark cs plan) fitting
    ∙ sym (every_count g.start g.len a.passes a.room samples)
    ∙ plan

-- and so is the order of its model
once : {g : Stretch} {a : Given} {s : State} → Entered g a s → Entered g (record { passes = 1; room = a.room }) s
once {g} {a} {s} x =
    record {
      mark = x.mark;
      cs = x.cs;
      plan = sym (every_count g.start g.len a.passes a.room s.samples) ∙ x.plan;
      enters = x.enters;
    }

abbrev pub fill_or_zero : Stretch → ℕ → List ℕ → ℕ
fill_or_zero g passes samples = if by_line g.len then 0 else fill_order passes samples g.start g.len

order_entered : {g : Stretch} {a : Given} {s : State} → Entered g a s → order_of g a s ≡ fill_or_zero g a.passes s.samples
unfolding gap_order
order_entered {g} {a} {s} x =
    ap (λ (e : Ended). order_beside g.start g.len a.passes s.samples e.answer) (entered_ends x)

order_once : {g : Stretch} {a : Given} {s : State} → Entered g a s → order_of g a s ≡ fill_or_zero g 1 s.samples
order_once {g} {a} {s} x = order_of_every_count g.start g.len a.passes a.room s ∙ order_entered (once x)

pub order_carried : {g : Stretch} {a b : Given} {s t : State} → Entered g a s → Entered g b t
    → SameWindow g.start g.len s.samples t.samples → order_of g b t ≡ order_of g a s
order_carried {g} {a} {s = s} {t = t} x y same =
    let inside = right g a s.samples x.mark x.cs x.plan in
    order_once y
    ∙ ap (λ (k : ℕ). if by_line g.len then 0 else k)
    (window_decides_order g.start g.len 1 s.samples t.samples inside same)
    ∙ sym (order_once x)

-- ---- Two gaps

-- a sample of a gap is one of its window
in_window : (n start len c i : ℕ) → start ≤ i → i < start + len → i < n → (start - c ≤ i) × (i < min n (start + len + c))
in_window n start len c i low high inside = (omega arith, omega arith)

-- the repair of a gap leaves the window of another alone that it does not touch
same_window : {g : Stretch} {a : Given} {s : State} (x : Entered g a s) (h : Stretch) → (Touches (length s.samples) g h → ⊥)
    → SameWindow h.start h.len s.samples (left x).samples
unfolding committed
same_window {s = s} x h apart =
    record {
      ends = ap (λ (n : ℕ). to n h.start h.len) (as_many x);
      words =
          λ i low high out.
          put_elsewhere i x.cs s.samples (λ (m : Among i (places x.cs)). let of-gap = named x i m in apart (i, of-gap.0, of-gap.1, low, high));
    }

pub alike_of : {s t : State} → Like s t → AlikeButJournal s t
alike_of l = record { samples = l.samples; marks = l.marks; counts = l.counts; used = l.used }

-- the recording after both calls
after_first_lem : {g : Stretch} {a : Given} {s : State} {h : Stretch} {b : Given} (x : Entered g a s) (y : Entered h b (left x))
    → after_first g a h b s ≡ ended (Ok (length y.cs)) (left y)
after_first_lem {h = h} {b = b} x y = ap (λ (e : Ended). repair_of h b e.after) (entered_ends x) ∙ entered_ends y

module _ {g : Stretch} {a : Given} {h : Stretch} {b : Given} {s : State} (x : Entered g a s) (y : Entered h b (left x))
    (apart : Apart (length s.samples) g h) where
  pub disjoint : Disjoint (places x.cs) (places y.cs)
  disjoint i m k =
      let of-g = named x i m in
      let of-h = named y i k in
      let there = in_window (length s.samples) h.start h.len (context h.len) i of-h.0 of-h.1 (below x i m) in
      apart.0 (i, of-g.0, of-g.1, there.0, there.1)

  pub window_of_h : SameWindow h.start h.len (left x).samples s.samples
  window_of_h = turned (same_window x h apart.0)

  -- h first
  unfoldable pub h_first : (b' : Given) → Fitting (length s.samples) h b' → Entered h b' s
  h_first b' fitting =
      record {
        mark = y.mark;
        cs = y.cs;
        plan =
            plan_carried h b b' (left x).samples s.samples y.mark y.cs window_of_h (rw (as_many x) fitting) y.plan;
        enters = two.enters_first x.enters y.enters;
      }

  pub fits_before : Fitting (length s.samples) h b
  fits_before = rw (as_many x) at (fits h b (left x).samples y.mark y.cs y.plan)

  module _ (a' b' : Given) (fits-g : Fitting (length s.samples) g a') (fits-h : Fitting (length s.samples) h b') where
    pub window_of_g : SameWindow g.start g.len s.samples (committed s y.mark y.cs).samples
    unfolding h_first
    window_of_g = same_window (h_first b' fits-h) g apart.1

    -- and then g
    unfoldable pub g_second : Entered g a' (committed s y.mark y.cs)
    g_second =
        record {
          mark = x.mark;
          cs = x.cs;
          plan = plan_carried g a a' s.samples _ x.mark x.cs window_of_g fits-g x.plan;
          enters = two.enters_second x.enters y.enters;
        }

    entry_of_g : gap_entry g a s ≡ entry s x.mark (places x.cs)
    entry_of_g = ap (λ (p : Plan). entry_of p s) x.plan

    entry_of_h : gap_entry h b s ≡ entry s y.mark (places y.cs)
    unfolding h_first
    entry_of_h = ap (λ (p : Plan). entry_of p s) (h_first b fits_before).plan

    one : after_first g a h b s ≡ ended (Ok (length y.cs)) (committed (committed s x.mark x.cs) y.mark y.cs)
    one = after_first_lem x y

    other : after_first h b' g a' s ≡ ended (Ok (length x.cs)) (committed (committed s y.mark y.cs) x.mark x.cs)
    unfolding h_first g_second
    other = after_first_lem (h_first b' fits-h) g_second

    swapped : Disjoint (places y.cs) (places x.cs)
    swapped i k m = disjoint i m k

    alike : AlikeButJournal (after_first g a h b s).after (after_first h b' g a' s).after
    alike = rw (one, other) (alike_of (two.commits_alike s x.mark y.mark x.cs y.cs disjoint))

    entries : SwappedEntries s (after_first g a h b s).after (after_first h b' g a' s).after (gap_entry g a s) (gap_entry h b s)
    entries =
        rw (one, other, entry_of_g, entry_of_h)
        (record {
          in_one = two.both_entries s x.mark y.mark x.cs y.cs disjoint;
          in_other = two.both_entries s y.mark x.mark y.cs x.cs swapped;
          used = two.both_used s x.mark y.mark x.cs y.cs disjoint;
          within = unfold committed in (two.both_fit x.enters y.enters);
        })

    other_order : OtherOrder g a a' h b b' s
    unfolding h_first g_second
    other_order =
        record {
          first = ap (λ (e : Ended). e.answer) (entered_ends (h_first b' fits-h)) ∙ sym (ap (λ (e : Ended). e.answer) one);
          second = ap (λ (e : Ended). e.answer) other ∙ sym (ap (λ (e : Ended). e.answer) (entered_ends x));
          first_order =
              order_carried y (h_first b' fits-h) window_of_h ∙ sym (ap (λ (e : Ended). order_of h b e.after) (entered_ends x));
          second_order =
              ap (λ (e : Ended). order_of g a' e.after) (entered_ends (h_first b' fits-h)) ∙ order_carried x g_second window_of_g;
          alike = alike;
          entries = entries;
        }

pub either_order : EitherOrder
either_order g a a' h b b' s apart first second fits-g fits-h =
    let x = accepted_enters g a s first in
    let y = accepted_enters h b (left x) (rw (entered_ends x) at second) in
    other_order x y apart a' b' fits-g fits-h

-- ---- How near is that

-- of gaps of l samples at s and of m at t, with the contexts c and d
module _ (n s l t m c d : ℕ) (some : 1 ≤ l) (behind : s + l ≤ t) (more : 1 ≤ m) (inside : t + m ≤ n) where
  -- the first's window ends before the second, and that of the second begins behind the first
  far_enough : ((i : ℕ) → s ≤ i → i < s + l → t - d ≤ i → i < min n (t + m + d) → ⊥)
      → ((i : ℕ) → t ≤ i → i < t + m → s - c ≤ i → i < min n (s + l + c) → ⊥) → max c d ≤ t - (s + l)
  far_enough first second = go (lt_or_ge (t - (s + l)) c) (lt_or_ge (t - (s + l)) d)
    where
      go : (t - (s + l) < c) ⊎ (c ≤ t - (s + l)) → (t - (s + l) < d) ⊎ (d ≤ t - (s + l)) → max c d ≤ t - (s + l)
      go (inl near) k = absurd (second t (omega arith) (omega arith) (omega arith) (omega arith))
      go (inr far) (inl near) = absurd (first (s + l - 1) (omega arith) (omega arith) (omega arith) (omega arith))
      go (inr far) (inr far-too) = omega arith

  first_clear : max c d ≤ t - (s + l) → (i : ℕ) → i < s + l → t - d ≤ i → ⊥
  first_clear far i low high = omega arith

  second_clear : max c d ≤ t - (s + l) → (i : ℕ) → t ≤ i → i < min n (s + l + c) → ⊥
  second_clear far i low high = omega arith

pub apart_by_distance : ApartByDistance
apart_by_distance n g h some behind more inside = (
  λ apart. far_enough n g.start g.len h.start h.len (context g.len) (context h.len) some behind more inside
      (λ i a b c d. apart.0 (i, a, b, c, d)) (λ i a b c d. apart.1 (i, a, b, c, d)),
  λ far. (
    λ touch. first_clear n g.start g.len h.start h.len (context g.len) (context h.len) some behind more inside far
        touch.0 touch.2 touch.3,
    λ touch. second_clear n g.start g.len h.start h.len (context g.len) (context h.len) some behind more inside far
        touch.0 touch.1 touch.4,
  ),
)
