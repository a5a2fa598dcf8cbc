-- An acceptance is no refusal: from both at once anything follows. Assumes nothing.
use mathlib.Core.Path.{◌≡◌}
use Prim.Native.Nat.{ℕ}
use native.Mathlib.Omega.{arith}
use Rattle.recording.specs.declared.Reason.{Reason}
use Rattle.std.specs.Prelude.{Ok, Err}

pub never_both : {A : Type 0} {n : ℕ} {why : Reason} → Ok n ≡ Err why → A
never_both e = let none : ◌≡◌ {A = ℕ} 0 1 = cc in absurd (omega arith)
