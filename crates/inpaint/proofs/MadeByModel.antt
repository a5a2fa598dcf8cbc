-- Where a scan sets mark 1, a model of it made the sample, and its order stands in the list. Assumes nothing.
use Rattle.std.proofs.Common.{◌≡◌, ℕ, ◌+◌, ◌<◌, ◌≤◌, false, ltb, ◌⊎◌, List, [], ◌∷◌, length, get_or, sym, refl, ap, ◌∙◌, inl, inr, arith}
use native.Mathlib.Decide.{ℕ_discrete}
use Rattle.std.specs.Prelude.{if◌then◌else◌}
use Rattle.leaves.proofs.Choice.{truth, picks, picks_by}
use Rattle.recording.specs.Recording.{State, Ended, Plan, refuse, change, places, unless_read, unless_refused, fitting, carried, performed}
use Rattle.recording.specs.Recording.{refused}
use Rattle.recording.specs.Marks.{gap_by_model, gap_by_line}
use Rattle.recording.specs.History.{repair, did, run}
use Rattle.recording.specs.declared.Reason.{Reason}
use Rattle.recording.specs.Answer.{Answer}
use Rattle.std.specs.Prelude.{Ok, Err}
use Rattle.recording.proofs.Put.{among_or_not}
use Rattle.recording.proofs.Single.{refusal_changes_nothing, accepted_as_ruled}
use Rattle.inpaint.specs.Gap.{gap_wrong, by_line, needed, all_readable, repaired, gap_plan, gap_repair}
use Rattle.inpaint.specs.Auto.{limit, source_passes}
use Rattle.inpaint.specs.Runs.{Stretch, runs_of, gap_calls}
use Rattle.inpaint.specs.Order.{gap_order}
use Rattle.inpaint.specs.Consequences.{order_there, MadeByModel, MarkedHasItsOrder}
use Rattle.inpaint.proofs.Lawful.{gap_lawful}
use Rattle.inpaint.proofs.Scans.{scan_is_its_runs, run_first}
use Rattle.inpaint.proofs.Orders.{orders_at_runs}
use Rattle.inpaint.proofs.Reach.{NamesWithin, names_within}

-- ---- What a gap marks

-- of a plan: its mark says which way the gap was filled
abbrev MarkSays : ℕ → Plan → Type 0
MarkSays len (refuse why) = Unit {0}
MarkSays len (change mark cs) = mark ≡ (if by_line len then gap_by_line else gap_by_model)

module _ (start len passes : ℕ) (samples : List ℕ) where
  repaired_mark : MarkSays len (repaired passes samples start len)
  unfolding repaired
  repaired_mark = picks_by (MarkSays len) (by_line len) _ _ (λ line. rw line refl) (λ model. rw model refl)

  unless_mark : (a : Answer) → MarkSays len (unless_read a (repaired passes samples start len))
  unless_mark (Ok m) = repaired_mark
  unless_mark (Err why) = tt

  plan_mark : (room : ℕ) → MarkSays len (gap_plan start len passes room samples)
  unfolding gap_plan
  plan_mark room =
      picks (MarkSays len) (gap_wrong (length samples) start len) _ _ tt
      (picks (MarkSays len) (ltb room (needed (length samples) start len)) _ _ tt (unless_mark (all_readable samples start len)))

-- where the gap's way is told by mark 1, it went by the model
by_model : (len mark : ℕ) → mark ≡ (if by_line len then gap_by_line else gap_by_model) → mark ≡ gap_by_model → by_line len ≡ false
by_model len mark e h =
    elim (truth (by_line len)) [
      | inl line ↦ let both : gap_by_model ≡ gap_by_line = sym h ∙ e ∙ rw line refl in absurd (omega (arith, both))
      | inr model ↦ model
    ]

-- a call whose plan is a refusal is refused
never_done : (s : State) (why : Reason) (m : ℕ) {A : Type 0} → (performed s (refuse why)).answer ≡ Ok m → A
unfolding performed carried
never_done s why m {A} h = go (fitting s) h
  where
    go : (a : Answer) → (unless_refused a s (refused s why)).answer ≡ Ok m → A
    go (Ok k) both = let none : ◌≡◌ {A = ℕ} 0 1 = cc in absurd (omega arith)
    go (Err other) both = let none : ◌≡◌ {A = ℕ} 0 1 = cc in absurd (omega arith)

-- the mark at place j is as it was; or the gap was accepted and has place j, and where the mark is 1 then, it went by the model
record Filled (start len j : ℕ) (e : Ended) : Type 0 where
  m : ℕ
  accepted : e.answer ≡ Ok m
  from : start ≤ j
  to : j < start + len
  model : get_or e.after.marks j 0 ≡ gap_by_model → by_line len ≡ false

gap_marks : (start len passes room j : ℕ) (s : State) → let e = gap_repair start len passes room s in
    (get_or e.after.marks j 0 ≡ get_or s.marks j 0) ⊎ Filled start len j e
unfolding gap_repair did
gap_marks start len passes room j s =
    go (did (repair rule) s).answer refl (rule s.samples) refl (names_within start len passes room j s.samples)
    (plan_mark start len passes s.samples room)
  where
    rule : List ℕ → Plan
    rule = gap_plan start len passes room

    end : Ended
    end = did (repair rule) s

    go : (a : Answer) → (did (repair rule) s).answer ≡ a → (p : Plan) → rule s.samples ≡ p → NamesWithin start len j p → MarkSays len p
        → (get_or end.after.marks j 0 ≡ get_or s.marks j 0) ⊎ Filled start len j end
    go (Err why) e p plan there way =
        inl (ap (λ (t : State). get_or t.marks j 0) (refusal_changes_nothing (repair rule) s why e))
    go (Ok m) e (refuse why) plan there way = never_done s why m (sym (ap (λ (q : Plan). (performed s q).answer) plan) ∙ e)
    go (Ok m) e (change mark cs) plan there way =
        let made = (accepted_as_ruled rule s mark cs m (gap_lawful start len passes room) plan e).0 in
        elim (among_or_not j (places cs)) [
          | inl among ↦
              inr
              (record {
                m = m;
                accepted = e;
                from = (there among).0;
                to = (there among).1;
                model = λ h. by_model len mark way (sym (made.named j among) ∙ h);
              })
          | inr none ↦ inl (made.others j none).1
        ]

-- ---- What a scan marks

made_first : (room : ℕ) (r : Stretch) (rs : List Stretch) (s : State) (j : ℕ)
    → get_or (gap_repair r.start r.len source_passes room s).after.marks j 0 ≡ gap_by_model
    → Filled r.start r.len j (gap_repair r.start r.len source_passes room s) → MadeByModel room s (r ∷ rs) j
unfolding run
made_first room r rs s j h f =
    record {
      before = [];
      later = rs;
      stretch = r;
      among = refl;
      from = f.from;
      to = f.to;
      model = f.model h;
      m = f.m;
      accepted = f.accepted;
    }

made_later : (room : ℕ) (r : Stretch) (rs : List Stretch) (s : State) (j : ℕ)
    → MadeByModel room (gap_repair r.start r.len source_passes room s).after rs j → MadeByModel room s (r ∷ rs) j
made_later room r rs s j made =
    record {
      before = r ∷ made.before;
      later = made.later;
      stretch = made.stretch;
      among = ap (λ (l : List Stretch). r ∷ l) made.among;
      from = made.from;
      to = made.to;
      model = made.model;
      m = made.m;
      accepted =
          sym
          (ap (λ (t : State). (gap_repair made.stretch.start made.stretch.len source_passes room t).answer)
          (run_first source_passes room r made.before s))
          ∙ made.accepted;
    }

marked : (room : ℕ) (rs : List Stretch) (s : State) (j : ℕ) → (get_or s.marks j 0 ≡ gap_by_model → ⊥)
    → get_or (run (gap_calls room rs) s).marks j 0 ≡ gap_by_model → MadeByModel room s rs j
marked room [] s j fresh h = absurd (fresh (unfold run in h))
marked room (r ∷ rs) s j fresh h = go (ℕ_discrete (get_or next.marks j 0) gap_by_model) (gap_marks r.start r.len source_passes room j s)
    (marked room rs next j)
  where
    next : State
    next = (gap_repair r.start r.len source_passes room s).after

    go : Dec (get_or next.marks j 0 ≡ gap_by_model)
        → (get_or next.marks j 0 ≡ get_or s.marks j 0) ⊎ Filled r.start r.len j (gap_repair r.start r.len source_passes room s)
        → ((get_or next.marks j 0 ≡ gap_by_model → ⊥) → get_or (run (gap_calls room rs) next).marks j 0 ≡ gap_by_model → MadeByModel room next rs j)
        → MadeByModel room s (r ∷ rs) j
    go (yes now) (inl same) later = absurd (fresh (sym same ∙ now))
    go (yes now) (inr filled) later = made_first room r rs s j now filled
    go (no other) ends later =
        made_later room r rs s j (later other (ap (λ (t : State). get_or t.marks j 0) (run_first source_passes room r rs s) ∙ h))

-- the order of an accepted gap by the model is what stands there
there : (room : ℕ) (r : Stretch) (s : State) (old m : ℕ) → (gap_repair r.start r.len source_passes room s).answer ≡ Ok m
    → by_line r.len ≡ false → order_there room r s old ≡ gap_order r.start r.len source_passes room s
there room r s old m accepted model =
    let order = gap_order r.start r.len source_passes room s in
    let chosen : Answer → ℕ = λ (a : Answer). elim a [ Ok k ↦ if by_line r.len then old else order | Err why ↦ old ] in
    ap chosen accepted ∙ rw model refl

pub marked_has_its_order : MarkedHasItsOrder
marked_has_its_order rate ms held work s h orders j fresh one short =
    let runs = runs_of s.samples (limit ms rate) held in
    let same = ap (λ (t : State). get_or t.marks j 0) (scan_is_its_runs rate ms held work s h) in
    let made = marked (length work) runs s j fresh (sym same ∙ one) in (
      made,
      orders_at_runs rate ms held work s h orders made.before made.later made.stretch j made.among made.from made.to short
          ∙ there (length work) made.stretch (run (gap_calls (length work) made.before) s) (get_or orders j 0) made.m made.accepted
          made.model,
    )
