-- Several gaps in one call, as the table of refusals and the demands have it: the call leaves what its single repairs leave, or nothing is
-- done; its number is 4 or 0; and where it is 4 the recording stays. Assumes nothing.
use mathlib.Core.Path.{◌≡◌, refl, ap, ◌∙◌}
use mathlib.Core.Bool.{not}
use mathlib.Core.List.{List}
use mathlib.Core.Logic.{inl, inr}
use Prim.Native.Nat.{ℕ, ◌<◌}
use native.Mathlib.Omega.{arith}
use lib.Ieee.{Float}
use Rattle.std.specs.Prelude.{if◌then◌else◌}
use Rattle.leaves.proofs.Choice.{truth}
use Rattle.recording.specs.Answers.{number}
use Rattle.recording.specs.Recording.{State}
use Rattle.recording.specs.History as single
use Rattle.splice.specs.Several.{spans, AnswerLists, lists_wrong, Several, gaps_repair}
use Rattle.splice.proofs.InTurn.{refused_list, taken_list, list_is_its_repairs}
use Rattle.cathar.specs.Demands.{span_repairs}

module _ (starts lens : List ℕ) (passes : ℕ) (work : List Float) (lists : AnswerLists) (s : State) where
  pub gaps_rules : (gaps_repair starts lens passes work lists s).after ≡ single.run (span_repairs starts lens passes work lists) s
  gaps_rules =
      elim (truth (lists_wrong starts lens lists)) [
        | inl wrong ↦ rw (wrong, refused_list starts lens passes work lists s wrong) (unfold single.run in refl)
        | inr right ↦
            rw (right, (taken_list starts lens passes work lists s right).0) (list_is_its_repairs passes (spans starts lens) work s)
      ]

  pub gaps_number : number (gaps_repair starts lens passes work lists s).answer ≡ (if not (not (lists_wrong starts lens lists)) then 4 else 0)
  gaps_number =
      elim (truth (lists_wrong starts lens lists)) [
        | inl wrong ↦ rw (wrong, refused_list starts lens passes work lists s wrong) refl
        | inr right ↦ let taken = taken_list starts lens passes work lists s right in rw (right, taken.0, taken.1) refl
      ]

  pub gaps_keep : 0 < number (gaps_repair starts lens passes work lists s).answer → (gaps_repair starts lens passes work lists s).after ≡ s
  gaps_keep h =
      elim (truth (lists_wrong starts lens lists)) [
        | inl wrong ↦ ap (λ (c : Several). c.after) (refused_list starts lens passes work lists s wrong)
        | inr right ↦
            let taken = taken_list starts lens passes work lists s right in
            let none : number (gaps_repair starts lens passes work lists s).answer ≡ 0 =
            ap (λ (c : Several). number c.answer) taken.0 ∙ ap number taken.1
            in
            absurd (omega (arith, h, none))
      ]
