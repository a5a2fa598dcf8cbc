-- What follows from the rules of decrackle: it keeps the number of words, so the repair is lawful. Assumes nothing.
use mathlib.Core.Path.{◌≡◌, refl, ◌∙◌}
use mathlib.Core.Bool.{Bool, true, false}
use mathlib.Core.List.{List}
use Prim.Native.Nat.{ℕ}
use lib.Dec.{ltb}
use lib.ListN.{length, get_or}
use lib.Ieee.{Float}
use Rattle.recording.specs.Marks.{made}
use Rattle.leaves.proofs.Choice.{picks}
use Rattle.redraw.specs.Whole.{Drawn, drawn, untouched}
use Rattle.redraw.proofs.Runs.{over_keeps}
use Rattle.redraw.proofs.Ending.{whole_lawful}
use Rattle.decrackle.specs.declared.Start.{Start}
use Rattle.decrackle.specs.declared.Start.TheVariants.{Mean, Old}
use Rattle.decrackle.specs.Decrackle.{allowed, least_samples, flags_of, repair_hermite, smoothed, decrackled, mark_for, decrackle_plan}
use Rattle.decrackle.specs.Consequences.{DecrackleIsLawful}
use Rattle.decrackle.proofs.Curves.{length_rewritten}

length_smoothed : (bs : List Bool) (out : List ℕ) → length (smoothed bs out) ≡ length out
unfolding smoothed
length_smoothed bs out =
    over_keeps (λ i. get_or bs i false) repair_hermite (λ (l : List ℕ). length l ≡ length out) (λ s e l h. length_rewritten s e l ∙ h)
    0 (length bs) out refl

decrackle_counts : (start : Start) (sensitivity : Float) (samples : List ℕ) → length (decrackled start sensitivity samples).words ≡ length samples
unfolding decrackled
decrackle_counts start sensitivity samples =
    let flags = flags_of start sensitivity samples in
    picks (λ (d : Drawn). length d.words ≡ length samples) (ltb (length samples) least_samples) (untouched samples) (drawn (smoothed flags samples) flags)
    refl (length_smoothed flags samples)

mark_made : (start : Start) → made (mark_for start) ≡ true
unfolding mark_for
mark_made Mean = refl
mark_made Old = refl

pub decrackle_lawful : DecrackleIsLawful
unfolding decrackle_plan
decrackle_lawful start sensitivity room =
    whole_lawful (allowed sensitivity) room (mark_for start) (decrackled start sensitivity) (mark_made start) (decrackle_counts start sensitivity)
