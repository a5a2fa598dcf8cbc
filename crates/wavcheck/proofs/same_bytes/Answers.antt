-- `same_bytes` meets its contract. The loop's invariant: what is the same from here on ends where all of it does. Assumes nothing.
use Prim.Native.Nat.{ℕ, ◌+◌, ◌-◌, ◌≤◌, ◌<◌}
use native.Mathlib.Omega.{arith}
use native.Mathlib.Nat.{zero-add, sub-zero}
use mathlib.Core.Path.{◌≡◌, refl, ap, ◌∙◌}
use mathlib.Core.Bool.{true, false, and-false}
use mathlib.Core.List.{List}
use lib.ListN.{length, get_or}
use borrow.Author.Tests.{lt-ltb, le-ltb, eq-eqb, ne_eqb}
use Rattle.recording.specs.Runs.{run_length}
use Rattle.recording.proofs.Runs.{run_more, run_stops, run_ends}
use Rattle.wavcheck.specs.Same.{same_at, same_bytes}
use Rattle.wavcheck.proofs.same_bytes.Goals as goal
use Rattle.wavcheck.proofs.same_bytes.Goals.{then-b-i-via-then-b-i, then-b-i-via-else-b-i+then-a-i}

-- a byte
module _ (a b : List ℕ) (i : ℕ) where
  past_end : length b ≤ i → same_at a b i ≡ false
  past_end h = rw (le-ltb i (length b) h) refl

  differs : (get_or a i 0 ≡ get_or b i 0 → ⊥) → same_at a b i ≡ false
  differs h = rw (ne_eqb (get_or a i 0) (get_or b i 0) h, and-false) refl

  is_same : i < length b → get_or a i 0 ≡ get_or b i 0 → same_at a b i ≡ true
  is_same h e = rw (lt-ltb i (length b) h, eq-eqb (get_or a i 0) (get_or b i 0) e) refl

-- all of them, from the first on
in_all : (a b : List ℕ) (r : ℕ) → r ≡ 0 + run_length (same_at a b) 0 (length a - 0) → r ≡ same_bytes a b
unfolding same_bytes
in_all a b r e = e ∙ zero-add (run_length (same_at a b) 0 (length a - 0)) ∙ ap (run_length (same_at a b) 0) (sub-zero (length a))

pub returns-then-b-i : goal.returns-then-b-i
returns-then-b-i c =
    let a = c.args.a.now in
    let b = c.args.b.now in
    let stops = λ (out : same_at a b c.loop-i.i ≡ false).
    in_all a b _ (run_stops (same_at a b) 0 _ (length a) c.loop-i-test.true out c.loop-i.invariant) in
    elim c.then-b-i.branch [
      | then-b-i-via-then-b-i w ↦ stops (past_end a b _ w.if-b-i.true)
      | then-b-i-via-else-b-i+then-a-i w ↦ stops (differs a b _ w.if-a-i.true)
    ]

pub loop-i-preserved : goal.loop-i-preserved
loop-i-preserved c =
    let a = c.args.a.now in
    let b = c.args.b.now in
    run_more (same_at a b) 0 _ (length a) c.loop-i-test.true (is_same a b c.loop-i.i c.if-b-i.false c.if-a-i.false) c.loop-i.invariant

pub returns : goal.returns
returns c =
    let a = c.args.a.now in
    let b = c.args.b.now in
    let end : length a ≡ c.loop-i.i = omega (arith, c.loop-i-test.false, c.loop-i.auto.i-end) in
    end ∙ in_all a b _ (run_ends (same_at a b) 0 _ (length a) c.loop-i-test.false c.loop-i.invariant)
