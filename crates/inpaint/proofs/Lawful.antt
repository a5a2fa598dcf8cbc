-- The plans of a gap: a refusal 5, 6 or 7, or mark 1 or 2 at the places of the gap. So the repair of a gap is lawful, and demand 3
-- holds of every sequence of it with undos. Assumes nothing.
use Rattle.std.proofs.Common.{◌≡◌, ℕ, ◌+◌, ◌<◌, ◌≤◌, true, ltb, List, [], ◌∷◌, length, refl, arith, ltb-true}
use Rattle.leaves.specs.Floats.{in_range}
use Rattle.recording.specs.Recording.{Plan, refuse, change, span, or_else, readable, unless_read}
use Rattle.recording.specs.Marks.{gap_by_model, gap_by_line, made}
use Rattle.recording.specs.History.{Keeps}
use Rattle.recording.specs.declared.Reason.TheVariants.{Gap, Workspace, Read}
use Rattle.recording.specs.Answer.{Answer}
use Rattle.std.specs.Prelude.{Ok, Err}
use Rattle.recording.proofs.Performing.{span_ascends}
use Rattle.leaves.proofs.Choice.{picks, picks_by}
use Rattle.inpaint.specs.Gap.{gap_wrong, by_line, from, needed, known_before, known_behind, all_readable, line, model}
use Rattle.inpaint.specs.Gap.{repaired, gap_plan}
use Rattle.inpaint.specs.Consequences.{GapLawful}
use Rattle.inpaint.proofs.window.Laws.{gap_right}
use Rattle.inpaint.proofs.line.Laws.{length_line}
use Rattle.inpaint.proofs.fill.Laws.{length_model}

-- ---- What holds of each plan that a gap can have holds of its plan

module _ (P : Plan → Type 0) (start len passes room : ℕ) (samples : List ℕ)
    (wrong : gap_wrong (length samples) start len ≡ true → P (refuse Gap))
    (short : room < needed (length samples) start len → P (refuse Workspace))
    (read : (i : ℕ) → P (refuse (Read i)))
    (filled : (mark : ℕ) (ws : List ℕ) → made mark ≡ true → length ws ≡ len → start + len ≤ length samples
    → P (change mark (span start ws))) where
  -- refusal 7 of words, or the rest of the plan
  module _ (rest : Plan) (holds : P rest) where
    readable_holds : (i : ℕ) (ws : List ℕ) → P (unless_read (readable i ws) rest)
    unfolding readable
    readable_holds i [] = holds
    readable_holds i (w ∷ ws) = picks (λ (a : Answer). P (unless_read a rest)) (in_range w) _ _ (readable_holds (i + 1) ws) (read i)

    either_holds : (a b : Answer) → P (unless_read a rest) → P (unless_read b rest) → P (unless_read (or_else a b) rest)
    either_holds (Ok m) b first second = second
    either_holds (Err why) b first second = first

    known_holds : P (unless_read (all_readable samples start len) rest)
    unfolding all_readable
    known_holds =
        either_holds (readable (from start len) (known_before samples start len)) (readable (start + len) (known_behind samples start len))
        (readable_holds (from start len) (known_before samples start len)) (readable_holds (start + len) (known_behind samples start len))

  repaired_holds : start + len ≤ length samples → P (repaired passes samples start len)
  unfolding repaired
  repaired_holds inside =
      picks P (by_line len) _ _ (filled gap_by_line (line samples start len) refl (length_line samples start len) inside)
      (filled gap_by_model (model passes samples start len) refl (length_model samples start len inside passes) inside)

  pub plan_holds : P (gap_plan start len passes room samples)
  unfolding gap_plan
  plan_holds =
      picks_by P (gap_wrong (length samples) start len) _ _ wrong
      (λ right. picks_by P (ltb room (needed (length samples) start len)) _ _
      (λ less. short (ltb-true room (needed (length samples) start len) less))
      (λ enough. known_holds _ (repaired_holds (gap_right (length samples) start len right).inside)))

pub gap_lawful : GapLawful
gap_lawful start len passes room samples =
    plan_holds (Keeps (length samples)) start len passes room samples (λ h. tt) (λ h. tt) (λ i. tt)
    (λ mark ws m count inside. (m, span_ascends (length samples) 0 start ws (omega arith) (rw count inside)))
