-- How a repair over the whole recording begins and ends, whatever its rule: its refusals, the commit of what the workspace
-- holds, and what it leaves there. Assumes nothing.
use mathlib.Core.Path.{◌≡◌, refl, sym, ap, subst, ◌∙◌}
use mathlib.Core.Bool.{Bool, true, false, not}
use mathlib.Core.List.{List}
use mathlib.Core.Logic.{inl, inr}
use Prim.Native.Nat.{ℕ, ◌+◌, ◌≤◌, ◌<◌}
use native.Mathlib.Omega.{arith}
use borrow.Author.Tests.{lt-ltb, le-ltb, ltb-false}
use lib.Dec.{ltb}
use lib.ListN.{length, drop}
use Rattle.recording.specs.Recording.{State, Ended, ended, fitting, or_else, readable, Plan, refuse, change, picked, carried, performed, called}
use Rattle.recording.specs.Marks.{made}
use Rattle.recording.specs.Recording.{cleared, clears, work_after, unless_read, unless_refused}
use Rattle.std.specs.Prelude.{if◌then◌else◌}
use Rattle.recording.specs.History.{Keeps, LawfulRepair}
use Rattle.recording.specs.Inner.{Fits, picked_by}
use Rattle.recording.specs.declared.Reason.{Reason}
use Rattle.recording.specs.declared.Reason.TheVariants.{Setting, Workspace}
use Rattle.recording.specs.Answer.{Answer}
use Rattle.std.specs.Prelude.{Ok, Err}
use Rattle.leaves.proofs.Choice.{picks}
use Rattle.recording.proofs.Performing.{commit_clears, cleared_too, picked_ascends, fitting_keeps, unless_kept}
use Rattle.recording.proofs.open.Laws.{accepted_fits}
use Rattle.recording.proofs.read.Laws.{readable_ends}
use Rattle.redraw.proofs.Workspace.{room_stays}
use Rattle.redraw.specs.Whole.{Drawn, untouched, needed, whole_plan}
use Rattle.redraw.specs.Inner.{begun, Begun, words_in, drawn_in, Holds, Room}

-- an acceptance is no refusal
pub done_not_refused : (m : ℕ) (why : Reason) → Ok m ≡ Err why → ⊥
done_not_refused m why both = let none : ◌≡◌ {A = ℕ} 0 1 = cc in omega arith

-- ---- Refusals 1, 14 and 2 to 4, 6 and 7

-- their tests, with what they test under other names
abbrev first : Answer → Bool → Bool → Answer → Answer
first (Ok m) true c r = Err Setting
first (Ok m) false true r = Err Workspace
first (Ok m) false false r = r
first (Err why) b c r = Err why

first_is : (f : Answer) (b c : Bool) (r : Answer)
    → first f b c r ≡ or_else f (if b then Err Setting else if c then Err Workspace else r)
first_is (Ok m) true c r = refl
first_is (Ok m) false true r = refl
first_is (Ok m) false false r = refl
first_is (Err why) b c r = refl

module _ (allowed : Bool) (room : ℕ) (s : State) where
  abbrev tested : Answer → Bool → Bool → Answer
  tested f b c = first f b c (readable 0 s.samples)

  begun_first : tested (fitting s) (not allowed) (ltb room (needed (length s.samples))) ≡ begun allowed room s
  unfolding begun
  begun_first = first_is (fitting s) (not allowed) (ltb room (needed (length s.samples))) (readable 0 s.samples)

  module _ (a : Answer) (sized : a ≡ fitting s) where
    pub begun_unfit : (why : Reason) → a ≡ Err why → a ≡ begun allowed room s
    begun_unfit why e = e ∙ ap (λ (f : Answer). tested f (not allowed) (ltb room (needed (length s.samples)))) (sym e ∙ sized) ∙ begun_first

    module _ (m : ℕ) (fits : a ≡ Ok m) where
      pub begun_setting : allowed ≡ false → Err Setting ≡ begun allowed room s
      begun_setting h =
          ap (λ (b : Bool). tested (Ok m) (not b) (ltb room (needed (length s.samples)))) (sym h)
          ∙ ap (λ (f : Answer). tested f (not allowed) (ltb room (needed (length s.samples)))) (sym fits ∙ sized)
          ∙ begun_first

      module _ (right : allowed ≡ true) where
        passed : (c : Bool) → ltb room (needed (length s.samples)) ≡ c → tested (Ok m) false c ≡ begun allowed room s
        passed c h =
            ap (λ (b : Bool). tested (Ok m) (not b) c) (sym right)
            ∙ ap (λ (k : Bool). tested (Ok m) (not allowed) k) (sym h)
            ∙ ap (λ (f : Answer). tested f (not allowed) (ltb room (needed (length s.samples)))) (sym fits ∙ sized)
            ∙ begun_first

        pub begun_short : room < needed (length s.samples) → Err Workspace ≡ begun allowed room s
        begun_short h = passed true (lt-ltb _ _ h)

        pub begun_read : (b : Answer) → needed (length s.samples) ≤ room → b ≡ readable 0 s.samples → b ≡ begun allowed room s
        begun_read b h e = e ∙ passed false (le-ltb _ _ h)

        pub begun_all : (b : Answer) (k : ℕ) → needed (length s.samples) ≤ room → b ≡ readable 0 s.samples → b ≡ Ok k
            → Ok 0 ≡ begun allowed room s
        begun_all b k h e done =
            elim (readable_ends 0 s.samples) [
              | inl all ↦ begun_read (Ok 0) h (sym all)
              | inr out ↦ absurd (done_not_refused k _ (sym done ∙ e ∙ out.1))
            ]

-- an accepted start: the workspace holds the samples
module _ (samples w v : List ℕ) (a : Answer) (m : ℕ) (accepts : a ≡ Ok m) (start : Begun a samples w v) where
  pub start_holds : Holds (length samples) (untouched samples) w v
  start_holds = subst (λ (x : Answer). Begun x samples w v) accepts start

  words_laid : words_in (length samples) v ≡ samples
  words_laid = ap (λ (d : Drawn). d.words) start_holds.holds

  -- for a function that draws from the words of the workspace
  pub start_laid : drawn_in (length samples) v ≡ untouched (words_in (length samples) v)
  start_laid = start_holds.holds ∙ sym (ap untouched words_laid)

  draws_samples : (draw : List ℕ → Drawn) (u : List ℕ) → Holds (length samples) (draw (words_in (length samples) v)) v u
      → Holds (length samples) (draw samples) v u
  draws_samples draw u h = subst (λ (l : List ℕ). Holds (length samples) (draw l) v u) words_laid h

-- ---- The repair, whatever its rule

abbrev tests : State → Answer → Bool → Bool → Answer → Plan → Ended
tests s f b c r p = unless_refused f s (carried s (if b then refuse Setting else if c then refuse Workspace else unless_read r p))

refused_not_done : (m : ℕ) (why : Reason) → Err why ≡ Ok m → ⊥
refused_not_done m why both = done_not_refused m why (sym both)

-- a refusal of the start is the repair's
first_refuses : (s : State) (f : Answer) (b c : Bool) (r : Answer) (p : Plan) (why : Reason) → first f b c r ≡ Err why
    → ended (first f b c r) s ≡ tests s f b c r p
unfolding carried
first_refuses s (Ok m) true c r p why e = refl
first_refuses s (Ok m) false true r p why e = refl
first_refuses s (Ok m) false false (Ok k) p why e = absurd (done_not_refused k why e)
first_refuses s (Ok m) false false (Err x) p why e = refl
first_refuses s (Err x) b c r p why e = refl

-- and keeps the workspace
first_keeps : (f : Answer) (b c : Bool) (r : Answer) (why : Reason)
    → ((x : Reason) → f ≡ Err x → clears f ≡ false) → ((x : Reason) → r ≡ Err x → clears r ≡ false)
    → first f b c r ≡ Err why → clears (first f b c r) ≡ false
first_keeps (Ok m) true c r why keep-f keep-r e = refl
first_keeps (Ok m) false true r why keep-f keep-r e = refl
first_keeps (Ok m) false false r why keep-f keep-r e = keep-r why e
first_keeps (Err x) b c r why keep-f keep-r e = keep-f x refl

read_keeps : (samples : List ℕ) (why : Reason) → readable 0 samples ≡ Err why → clears (readable 0 samples) ≡ false
read_keeps samples why e =
    elim (readable_ends 0 samples) [
      | inl done ↦ absurd (done_not_refused 0 why (sym done ∙ e))
      | inr out ↦ rw out.1 refl
    ]

-- where the start accepts, the plan decides
record Accepts (s : State) (f : Answer) (b c : Bool) (r : Answer) : Type 0 where
  fits : (m : ℕ) × (f ≡ Ok m)
  enough : c ≡ false
  on : (p : Plan) → carried s p ≡ tests s f b c r p

first_accepts : (s : State) (f : Answer) (b c : Bool) (r : Answer) (m : ℕ) → first f b c r ≡ Ok m → Accepts s f b c r
first_accepts s (Ok k) true c r m e = absurd (refused_not_done m Setting e)
first_accepts s (Ok k) false true r m e = absurd (refused_not_done m Workspace e)
first_accepts s (Ok k) false false (Ok l) m e = record { fits = (k, refl); enough = refl; on = λ p. refl }
first_accepts s (Ok k) false false (Err x) m e = absurd (refused_not_done m x e)
first_accepts s (Err x) b c r m e = absurd (refused_not_done m x e)

-- the plan of what a workspace holds
held_picked : (mark n : ℕ) (u : List ℕ) (d : Drawn) → drawn_in n u ≡ d → change mark (picked_by u n) ≡ change mark (picked 0 d.named d.words)
unfolding picked_by
held_picked mark n u d h = ap (λ (x : Drawn). change mark (picked 0 x.named x.words)) h

module _ (allowed : Bool) (w : List ℕ) (s : State) (a : Answer) (start : a ≡ begun allowed (length w) s) where
  abbrev size : ℕ
  size = length s.samples

  abbrev short : Bool
  short = ltb (length w) (needed size)

  begins_so : a ≡ first (fitting s) (not allowed) short (readable 0 s.samples)
  begins_so = start ∙ sym (begun_first allowed (length w) s)

  accepts : (m : ℕ) → a ≡ Ok m → Accepts s (fitting s) (not allowed) short (readable 0 s.samples)
  accepts m e = first_accepts s (fitting s) (not allowed) short (readable 0 s.samples) m (sym begins_so ∙ e)

  -- what an accepted start tells, of the workspace and for the end
  pub start_room : (m : ℕ) (v : List ℕ) → a ≡ Ok m → length v ≡ length w → Room (length s.samples) v
  start_room m v e count =
      let fits = (accepts m e).fits in
      room_stays (length s.samples) v w
      (record { few = (accepted_fits s fits.0 fits.1).few; enough = ltb-false _ _ (accepts m e).enough }) count

  pub start_finishes : (m k l : ℕ) → a ≡ Ok m → k ≡ length w → l ≡ k → Fits s × (needed (length s.samples) ≤ l)
  start_finishes m k l e count count' =
      let fits = (accepts m e).fits in
      (accepted_fits s fits.0 fits.1, omega (arith, (start_room m w e refl).enough, count, count'))

  -- how the repair ends, by its mark and its own rule of what is drawn; `rule` is its whole rule
  module _ (mark : ℕ) (draw : List ℕ → Drawn) (rule : Ended) (is : called (whole_plan allowed (length w) mark draw) s ≡ rule) where
    abbrev Ends : Answer → State → List ℕ → Type 0
    Ends r after next = (ended r after ≡ rule) × (next ≡ work_after 0 (needed (length s.samples)) r w)

    abbrev planned : Plan
    planned = let d = draw s.samples in change mark (picked 0 d.named d.words)

    repair_is : tests s (fitting s) (not allowed) short (readable 0 s.samples) planned ≡ called (whole_plan allowed (length w) mark draw) s
    unfolding called whole_plan performed
    repair_is = refl

    start_refused : (why : Reason) (v : List ℕ) → a ≡ Err why → Begun a s.samples w v → Ends a s v
    start_refused why v e kept =
        let decided = sym begins_so ∙ e in (
          ap (λ (x : Answer). ended x s) begins_so
              ∙ first_refuses s (fitting s) (not allowed) short (readable 0 s.samples) planned why decided
              ∙ repair_is ∙ is,
          stays v (refused_kept v kept),
        )
      where
        refused_kept : (v : List ℕ) → Begun a s.samples w v → v ≡ w
        refused_kept v k = subst (λ (x : Answer). Begun x s.samples w v) e k

        stays : (v : List ℕ) → v ≡ w → v ≡ work_after 0 (needed (length s.samples)) a w
        stays v k =
            let kept : clears a ≡ false = rw begins_so (first_keeps (fitting s) (not allowed) short (readable 0 s.samples) why
            (fitting_keeps s) (read_keeps s.samples) (sym begins_so ∙ e)) in
            rw kept k

    -- a refusal of the start ends it, with that answer
    pub whole_refused : (why : Reason) (v : List ℕ) (r : Answer) → r ≡ a → a ≡ Err why → Begun a s.samples w v → Ends r s v
    whole_refused why v r same e kept = subst (λ (x : Answer). Ends x s v) (sym same) (start_refused why v e kept)

    -- what the workspace holds is committed
    pub whole_done : (m : ℕ) (v u next : List ℕ) (r : Answer) (after : State) → a ≡ Ok m
        → Begun a s.samples w v → length v ≡ length w
        → Holds (length s.samples) (draw s.samples) v u → length u ≡ length v
        → ended r after ≡ carried s (change mark (picked_by u (length s.samples)))
        → next ≡ cleared 0 (needed (length s.samples)) u → Ends r after next
    whole_done m v u next r after e laid count held count' ends clear =
        let there : Holds size (untouched s.samples) w v = start_holds s.samples w v a m e laid in
        let two : needed size ≡ size + size = omega arith in
        let kept : drop (needed size) u ≡ drop (needed size) w = rw two (held.keeps ∙ there.keeps) in
        let enough : needed size ≤ length w = (start_room m w e refl).enough in (
          ends ∙ ap (carried s) (held_picked mark size u (draw s.samples) held.holds) ∙ (accepts m e).on planned ∙ repair_is ∙ is,
          commit_clears 0 s mark _ r after ends (needed size) w next
              (cleared_too 0 (needed size) (needed size) w u next clear refl enough (count' ∙ count) kept),
        )

    -- the same, where it is drawn from the words of the workspace
    pub whole_drawn : (m : ℕ) (v u next : List ℕ) (r : Answer) (after : State) → a ≡ Ok m
        → Begun a s.samples w v → length v ≡ length w
        → Holds (length s.samples) (draw (words_in (length s.samples) v)) v u → length u ≡ length v
        → ended r after ≡ carried s (change mark (picked_by u (length s.samples)))
        → next ≡ cleared 0 (needed (length s.samples)) u → Ends r after next
    whole_drawn m v u next r after e laid count held =
        whole_done m v u next r after e laid count (draws_samples s.samples w v a m e laid draw u held)

-- ---- Demand 3

-- a rule that has a word for each sample makes a lawful repair
pub whole_lawful : (allowed : Bool) (room mark : ℕ) (draw : List ℕ → Drawn) → made mark ≡ true
    → ((samples : List ℕ) → length (draw samples).words ≡ length samples) → LawfulRepair (whole_plan allowed room mark draw)
unfolding whole_plan
whole_lawful allowed room mark draw m count samples =
    picks (Keeps n) (not allowed) _ _ tt
    (picks (Keeps n) (ltb room (needed n)) _ _ tt
    (unless_kept n (readable 0 samples) planned
    (m, picked_ascends n 0 0 (draw samples).named (draw samples).words (omega arith) (omega (arith, count samples)))))
  where
    n : ℕ
    n = length samples

    planned : Plan
    planned = change mark (picked 0 (draw samples).named (draw samples).words)
