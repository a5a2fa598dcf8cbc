-- What the proof of a repair cites, whatever its plan: how refusals 1, 14, 2 and 3 and a commit end it, what they leave in its
-- workspace, of words or of doubles, and that the places it names ascend. Assumes nothing.
use mathlib.Core.Path.{◌≡◌, refl, sym, ap, ◌∙◌}
use mathlib.Core.Bool.{Bool, true, false, cond}
use mathlib.Core.List.{List, [], ◌∷◌, ◌++◌}
use mathlib.Core.Logic.{inl, inr}
use Prim.Native.Nat.{ℕ, ◌+◌, ◌-◌, ◌≤◌}
use native.Mathlib.Omega.{arith}
use lib.Dec.{ltb, eqb}
use lib.ListN.{length, drop, replicate, length-replicate}
use lib.Seq.{sets-eq}
use Rattle.recording.specs.Recording.{State, Ended, ended, fitting, cleared, clears}
use Rattle.recording.specs.Recording.{work_after, unless_read}
use Rattle.recording.specs.Recording.{Placed, entry_size, entered, ranged, Plan, change, span, picked, carried, performed}
use Rattle.recording.specs.History.{Ascending, Keeps}
use Rattle.recording.specs.declared.Reason.{Reason}
use Rattle.recording.specs.Answer.{Answer}
use Rattle.std.specs.Prelude.{Ok, Err}
use Rattle.leaves.proofs.Choice.{truth, EitherWay}
use Rattle.recording.proofs.open.Laws.{fitting_by}
use Rattle.recording.proofs.Entering.{ranged_ends}

-- ---- Refusals 1, 14, 2 and 3, as `check_sizes` answers them

module _ (s : State) (p : Plan) (a : Answer) (sized : a ≡ fitting s) where
  -- one of them applies
  pub unfit : (why : Reason) → a ≡ Err why → ended a s ≡ performed s p
  unfolding performed
  unfit why e = rw (sym sized ∙ e, e) refl

  -- none does
  pub fit : (m : ℕ) → a ≡ Ok m → carried s p ≡ performed s p
  unfolding performed
  fit m e = rw (sym sized ∙ e) refl

-- ---- The workspace

-- refusals 1, 14, 2 and 3 keep its contents
pub fitting_keeps : (s : State) (why : Reason) → fitting s ≡ Err why → clears (fitting s) ≡ false
fitting_keeps s why =
    fitting_by (λ (a : Answer). a ≡ Err why → clears a ≡ false) s (λ one e. refl) (λ one fourteen e. refl)
    (λ one fourteen two e. refl) (λ one fourteen two three e. refl)
    (λ one fourteen two three e. let none : ◌≡◌ {A = ℕ} 0 1 = cc in absurd (omega arith))

pub unfit_keeps : {A : Type 0} (nought : A) (s : State) (a : Answer) → a ≡ fitting s → (why : Reason) → a ≡ Err why
    → (n : ℕ) (work : List A) → work ≡ work_after nought n a work
unfit_keeps nought s a sized why e n work =
    let kept : clears a ≡ false = rw sized (fitting_keeps s why (sym sized ∙ e)) in
    rw kept refl

-- an acceptance, 8 and 9 clear the needed part
carried_clears : (s : State) (mark : ℕ) (cs : List Placed) → clears (carried s (change mark cs)).answer ≡ true
unfolding carried entered
carried_clears s mark cs =
    elim (ranged_ends cs) [
      | inl g ↦ sized g (truth (eqb (length cs) 0)) (truth (ltb free (entry_size (length cs))))
      | inr n ↦ rw n.1 refl
    ]
  where
    free : ℕ
    free = length s.journal - s.used

    sized : ranged cs ≡ Ok 0 → EitherWay (eqb (length cs) 0) → EitherWay (ltb free (entry_size (length cs)))
        → clears (carried s (change mark cs)).answer ≡ true
    sized g (inl z) r = rw (g, z) refl
    sized g (inr z) (inl r) = rw (g, z, r) refl
    sized g (inr z) (inr r) = rw (g, z, r) refl

pub commit_clears : {A : Type 0} (nought : A) (s : State) (mark : ℕ) (cs : List Placed) (a : Answer) (after : State)
    → ended a after ≡ carried s (change mark cs)
    → (n : ℕ) (work next : List A) → next ≡ cleared nought n work → next ≡ work_after nought n a work
commit_clears nought s mark cs a after e n work next done =
    let answer : a ≡ (carried s (change mark cs)).answer = ap (λ (x : Ended). x.answer) e in
    let clear : clears a ≡ true = rw answer (carried_clears s mark cs) in
    rw clear done

-- clearing does not depend on what stood in the part that is cleared
cleared_same : {A : Type 0} (nought : A) (n : ℕ) (w v : List A) → n ≤ length w → length v ≡ length w
    → drop n v ≡ drop n w → cleared nought n v ≡ cleared nought n w
cleared_same nought n w v h e k =
    let zeros = replicate n nought in
    let count : length zeros ≡ n = length-replicate n nought in
    let there : 0 + length zeros ≡ n = omega arith in
    sets-eq zeros v 0 (omega arith)
    ∙ ap (λ (i : ℕ). zeros ++ drop i v) there
    ∙ ap (λ (l : List _). zeros ++ l) k
    ∙ sym (ap (λ (i : ℕ). zeros ++ drop i w) there)
    ∙ sym (sets-eq zeros w 0 (omega arith))

-- a workspace that kept what is not needed, cleared of what is, with the number of these under another name
pub cleared_too : {A : Type 0} (nought : A) (k n : ℕ) (w v next : List A)
    → next ≡ cleared nought k v → k ≡ n → n ≤ length w
    → length v ≡ length w → drop n v ≡ drop n w → next ≡ cleared nought n w
cleared_too nought k n w v next e ek h count kept =
    e ∙ ap (λ (i : ℕ). cleared nought i v) ek ∙ cleared_same nought n w v h count kept

-- ---- Named places ascend

-- those of a span that ends within n
pub span_ascends : (n least i : ℕ) (ws : List ℕ) → least ≤ i → i + length ws ≤ n → Ascending n least (span i ws)
unfolding span
span_ascends n least i [] h k = tt
span_ascends n least i (w ∷ ws) h k = (h, omega arith, span_ascends n (i + 1) (i + 1) ws (omega arith) (omega arith))

-- those that are picked out of n
one_or_none : (n least : ℕ) (b : Bool) (c : Placed) (cs : List Placed) → Ascending n least (c ∷ cs) → Ascending n least cs
    → Ascending n least (cond b (c ∷ cs) cs)
one_or_none n least true c cs one none = one
one_or_none n least false c cs one none = none

pub picked_ascends : (n least i : ℕ) (bs : List Bool) (ws : List ℕ) → least ≤ i → i + length ws ≤ n → Ascending n least (picked i bs ws)
unfolding picked
picked_ascends n least i [] ws h k = tt
picked_ascends n least i (b ∷ bs) [] h k = tt
picked_ascends n least i (b ∷ bs) (w ∷ ws) h k =
    one_or_none n least b _ _ (h, omega arith, picked_ascends n (i + 1) (i + 1) bs ws (omega arith) (omega arith))
    (picked_ascends n least (i + 1) bs ws (omega arith) (omega arith))

-- a refusal decides between plans that keep to the law
pub unless_kept : (n : ℕ) (a : Answer) (p : Plan) → Keeps n p → Keeps n (unless_read a p)
unless_kept n (Ok m) p kp = kp
unless_kept n (Err why) p kp = tt
