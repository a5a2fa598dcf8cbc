-- Each repair of the library as the single call of the crate `recording` that it is. Assumes nothing.
use mathlib.Core.Path.{◌≡◌, refl, ap}
use mathlib.Core.List.{List, [], ◌∷◌}
use Prim.Native.Nat.{ℕ, ◌<◌}
use lib.Ieee.{Float}
use Rattle.recording.specs.Answers.{number}
use Rattle.recording.specs.Recording.{State, Ended, undone}
use Rattle.recording.specs.History as single
use Rattle.recording.proofs.Single.{did_keeps}
use Rattle.inpaint.specs.Gap.{gap_plan, gap_repair}
use Rattle.declip.specs.Declip.{declip_repair, declip_plan}
use Rattle.decrackle.specs.declared.Start.{Start}
use Rattle.decrackle.specs.Decrackle.{decrackle_repair, decrackle_plan}
use Rattle.dequant.specs.Dequant.{dequantize_repair, dequantize_plan, cosparse_repair, cosparse_plan}
use Rattle.proposed.specs.Proposed.{proposed_plan, proposed_repair}

-- each repair is performed by its plan
pub gap_did : (start len passes room : ℕ) (s : State)
    → gap_repair start len passes room s ≡ single.did (single.repair (gap_plan start len passes room)) s
unfolding gap_repair single.did
gap_did start len passes room s = refl

pub declip_did : (threshold : Float) (room : ℕ) (s : State)
    → declip_repair threshold room s ≡ single.did (single.repair (declip_plan threshold room)) s
unfolding declip_repair single.did
declip_did threshold room s = refl

pub decrackle_did : (start : Start) (sensitivity : Float) (room : ℕ) (s : State)
    → decrackle_repair start sensitivity room s ≡ single.did (single.repair (decrackle_plan start sensitivity room)) s
unfolding decrackle_repair single.did
decrackle_did start sensitivity room s = refl

pub dequantize_did : (bits : ℕ) (strength : Float) (room : ℕ) (s : State)
    → dequantize_repair bits strength room s ≡ single.did (single.repair (dequantize_plan bits strength room)) s
unfolding dequantize_repair single.did
dequantize_did bits strength room s = refl

pub cosparse_did : (bits : ℕ) (strength : Float) (iterations room : ℕ) (s : State)
    → cosparse_repair bits strength iterations room s ≡ single.did (single.repair (cosparse_plan bits strength iterations room)) s
unfolding cosparse_repair single.did
cosparse_did bits strength iterations room s = refl

pub proposed_did : (threshold : Float) (proposal : List ℕ) (s : State)
    → proposed_repair threshold proposal s ≡ single.did (single.repair (proposed_plan threshold proposal)) s
unfolding proposed_repair single.did
proposed_did threshold proposal s = refl

pub undo_did : (s : State) → undone s ≡ single.did single.undo s
unfolding single.did
undo_did s = refl

-- so a call that is performed as one single call ends as that does, and where it is refused it changes nothing
pub alone : (c : single.Call) (s : State) (e : Ended) → e ≡ single.did c s → e.after ≡ single.run (c ∷ []) s
unfolding single.run
alone c s e h = ap (λ (end : Ended). end.after) h

pub alone_keeps : (c : single.Call) (s : State) (e : Ended) → e ≡ single.did c s → 0 < number e.answer → e.after ≡ s
alone_keeps c s e h = rw h (did_keeps c s).keeps
