-- A list of gaps in any order, as specs/AnyOrder.antt states it. Assumes nothing.
use mathlib.Core.Path.{◌≡◌, refl, sym, ap, subst, ◌∙◌}
use mathlib.Core.List.{List, [], ◌∷◌, ◌++◌, map, flatten, Permᴰ}
use Prim.Native.Nat.{ℕ, zero, suc}
use native.Mathlib.Omega.{arith}
use lib.ListN.{length, get_or, drop, set, replicate}
use lib.Seq.{sets, length-sets, set-set}
use lib.Ieee.{Float}
use Rattle.leaves.specs.Arithmetic.{nought}
use Rattle.leaves.proofs.Parts.{store_before}
use Rattle.recording.specs.Answers.{number, value}
use Rattle.recording.specs.Recording.{State, Ended, ended, Plan, cleared, work_after}
use Rattle.std.specs.Prelude.{Ok}
use Rattle.recording.proofs.TwoCommits as two
use Rattle.recording.proofs.TwoCommits.{Like, like_enters, like_committed, like_itself, like_then}
use Rattle.inpaint.specs.Gap.{needed, gap_repair}
use Rattle.inpaint.specs.Runs.{Stretch}
use Rattle.inpaint.specs.Order.{gap_order}
use Rattle.inpaint.proofs.Scans.{work_count}
use Rattle.splice.specs.Several.{AnswerLists, answer_lists, in_turn}
use Rattle.splice.specs.EitherOrder.{Apart, Given, repair_of, order_of, entry_of, gap_entry}
use Rattle.splice.specs.AnyOrder.{ApartFrom, AllApart, AllAccepted, alone_answers, alone_entries, AnyOrder}
use Rattle.splice.proofs.EitherOrder.{Entered, left, accepted_enters, entered_ends, as_many, fits, order_carried, disjoint}
use Rattle.splice.proofs.EitherOrder.{window_of_h, h_first, fits_before, g_second, alike_of}

abbrev pub given : ℕ → ℕ → Given
given passes room = record { passes = passes; room = room }

-- its gaps are entered one after the other, and the recording after the last
abbrev pub AllEnter : ℕ → ℕ → List Stretch → State → Type 0
AllEnter p r [] s = Unit {0}
AllEnter p r (g ∷ gs) s = (x : Entered g (given p r) s) × AllEnter p r gs (left x)

abbrev pub last : (p r : ℕ) (gs : List Stretch) (s : State) → AllEnter p r gs s → State
last p r [] s e = s
last p r (g ∷ gs) s e = last p r gs (left e.0) e.1

-- one gap of a list: its call, and the workspace that it leaves
module _ (p r : ℕ) (g : Stretch) (work : List Float) (s : State) (long : length work ≡ r) where
  call : Ended
  call = gap_repair g.start g.len p (length work) s

  kept : List Float
  kept = work_after nought (needed (length s.samples) g.start g.len) call.answer work

  kept_long : length kept ≡ r
  unfolding kept
  kept_long = work_count (needed (length s.samples) g.start g.len) call.answer work ∙ long

  call_ends : (x : Entered g (given p r) s) → call ≡ ended (Ok (length x.cs)) (left x)
  unfolding call
  call_ends x = ap (λ (k : ℕ). gap_repair g.start g.len p k s) long ∙ entered_ends x

accepted_all : (p r : ℕ) (gs : List Stretch) (work : List Float) (s : State) → length work ≡ r → AllAccepted p gs work s → AllEnter p r gs s
unfolding in_turn call kept
accepted_all p r [] work s long h = tt
accepted_all p r (g ∷ gs) work s long h =
    let x = accepted_enters g (given p r) s (rw (← long) (ap (λ (l : List ℕ). get_or l 0 0) h)) in
    let after = ap (λ (e : Ended). e.after) (call_ends p r g work s long x) in (
      x,
      accepted_all p r gs (kept p r g work s long) (left x) (kept_long p r g work s long)
          (sym (ap (λ (t : State). (in_turn p gs (kept p r g work s long) t).lists.numbers) after) ∙ ap (λ (l : List ℕ). drop 1 l) h),
    )

entered_all : (p r : ℕ) (gs : List Stretch) (work : List Float) (s : State) → length work ≡ r → (e : AllEnter p r gs s)
    → AllAccepted p gs work s × ((in_turn p gs work s).after ≡ last p r gs s e)
unfolding in_turn call kept
entered_all p r [] work s long e = (refl, refl)
entered_all p r (g ∷ gs) work s long e =
    let ends = call_ends p r g work s long e.0 in
    let after = ap (λ (d : Ended). d.after) ends in
    let w = kept p r g work s long in
    let rest = entered_all p r gs w (left e.0) (kept_long p r g work s long) e.1 in (
      ap (λ (k : ℕ). k ∷ (in_turn p gs w (call p r g work s long).after).lists.numbers) (ap (λ (d : Ended). number d.answer) ends)
          ∙ ap (λ (l : List ℕ). 0 ∷ l) (ap (λ (t : State). (in_turn p gs w t).lists.numbers) after ∙ rest.0),
      ap (λ (t : State). (in_turn p gs w t).after) after ∙ rest.1,
    )

-- ---- Each gap of a list alone

-- each is accepted where it stands alone
abbrev pub EachEntered : ℕ → ℕ → List Stretch → State → Type 0
EachEntered p r [] s = Unit {0}
EachEntered p r (g ∷ gs) s = Entered g (given p r) s × EachEntered p r gs s

module _ {g : Stretch} {p r : ℕ} {s : State} (x : Entered g (given p r) s) where
  -- one that is accepted behind g is without it
  before_g : (h : Stretch) → Entered h (given p r) (left x) → Apart (length s.samples) g h → Entered h (given p r) s
  before_g h y apart = h_first x y apart (given p r) (fits_before x y apart)

  all_before_g : (hs : List Stretch) → EachEntered p r hs (left x) → ApartFrom (length s.samples) g hs → EachEntered p r hs s
  all_before_g [] e apart = tt
  all_before_g (h ∷ hs) e apart = (before_g h e.0 apart.0, all_before_g hs e.1 apart.1)

  -- what is the same of each with and without g's repair is the same of all
  module _ {B : Type 0} (F : Stretch → State → B)
      (same : (h : Stretch) → Entered h (given p r) (left x) → Apart (length s.samples) g h → F h (left x) ≡ F h s) where
    each_same : (hs : List Stretch) → EachEntered p r hs (left x) → ApartFrom (length s.samples) g hs
        → map (λ (h : Stretch). F h (left x)) hs ≡ map (λ (h : Stretch). F h s) hs
    each_same [] e apart = refl
    each_same (h ∷ hs) e apart =
        ap (λ (b : B). b ∷ map (λ (h : Stretch). F h (left x)) hs) (same h e.0 apart.0)
        ∙ ap (λ (bs : List B). F h s ∷ bs) (each_same hs e.1 apart.1)

  answer_alone : (h : Stretch) → Entered h (given p r) (left x) → Apart (length s.samples) g h
      → (repair_of h (given p r) (left x)).answer ≡ (repair_of h (given p r) s).answer
  unfolding before_g h_first
  answer_alone h y apart =
      ap (λ (e : Ended). e.answer) (entered_ends y) ∙ sym (ap (λ (e : Ended). e.answer) (entered_ends (before_g h y apart)))

  order_alone : (h : Stretch) → Entered h (given p r) (left x) → Apart (length s.samples) g h
      → order_of h (given p r) (left x) ≡ order_of h (given p r) s
  order_alone h y apart = sym (order_carried y (before_g h y apart) (window_of_h x y apart))

  entry_alone : (h : Stretch) → Entered h (given p r) (left x) → Apart (length s.samples) g h
      → gap_entry h (given p r) (left x) ≡ gap_entry h (given p r) s
  unfolding before_g h_first
  entry_alone h y apart =
      ap (λ (plan : Plan). entry_of plan (left x)) y.plan
      ∙ two.entry_later s x.mark y.mark x.cs y.cs (disjoint x y apart)
      ∙ sym (ap (λ (plan : Plan). entry_of plan s) (before_g h y apart).plan)

each_enters : (p r : ℕ) (gs : List Stretch) (s : State) → AllApart (length s.samples) gs → AllEnter p r gs s → EachEntered p r gs s
each_enters p r [] s apart e = tt
each_enters p r (g ∷ gs) s apart e =
    let x = e.0 in
    (x, all_before_g x gs (each_enters p r gs (left x) (rw (as_many x) apart.1) e.1) apart.0)

-- so each answers what it answers alone
alone-answers : (p r : ℕ) (gs : List Stretch) (work : List Float) (s : State) → length work ≡ r → AllApart (length s.samples) gs
    → AllEnter p r gs s → (in_turn p gs work s).lists ≡ alone_answers gs (given p r) s
unfolding in_turn call kept
alone-answers p r [] work s long apart e = refl
alone-answers p r (g ∷ gs) work s long apart e =
    let x = e.0 in
    let w = kept p r g work s long in
    let apart-too : AllApart (length (left x).samples) gs = rw (as_many x) apart.1 in
    let each = each_enters p r gs (left x) apart-too e.1 in
    let c = call p r g work s long in
    let own = gap_order g.start g.len p (length work) s in
    let with-own : AnswerLists → AnswerLists =
    λ l. answer_lists (number c.answer ∷ l.numbers) (value c.answer ∷ l.values) (own ∷ l.orders) in
    ap (λ (t : State). with-own (in_turn p gs w t).lists) (ap (λ (d : Ended). d.after) (call_ends p r g work s long x))
    ∙ ap with-own (alone-answers p r gs w (left x) (kept_long p r g work s long) apart-too e.1)
    ∙ rw (
      long,
      each_same x (λ h t. number (repair_of h (given p r) t).answer) (λ h y a. ap number (answer_alone x h y a)) gs each apart.0,
      each_same x (λ h t. value (repair_of h (given p r) t).answer) (λ h y a. ap value (answer_alone x h y a)) gs each apart.0,
      each_same x (λ h t. order_of h (given p r) t) (λ h y a. order_alone x h y a) gs each apart.0,
    ) refl

-- and the journal has its entry as it is alone
alone-entries : (p r : ℕ) (gs : List Stretch) (s : State) → AllApart (length s.samples) gs → (e : AllEnter p r gs s)
    → (last p r gs s e).journal ≡ sets s.journal s.used (alone_entries gs (given p r) s)
unfolding flatten
alone-entries p r [] s apart e = refl
alone-entries p r (g ∷ gs) s apart e =
    let x = e.0 in
    let a = given p r in
    let apart-too : AllApart (length (left x).samples) gs = rw (as_many x) apart.1 in
    let each = each_enters p r gs (left x) apart-too e.1 in
    alone-entries p r gs (left x) apart-too e.1
    ∙ ap (λ (es : List (List ℕ)). sets (left x).journal (left x).used (flatten es))
    (each_same x (λ h t. gap_entry h a t) (λ h y k. entry_alone x h y k) gs each apart.0)
    ∙ two.then_stored s x.mark x.cs (alone_entries gs a s)
    ∙ ap (λ (plan : Plan). sets s.journal s.used (entry_of plan s ++ alone_entries gs a s)) (sym x.plan)

-- a recording that differs in the journal's words alone has no other answers
like_all : (p r : ℕ) (gs : List Stretch) (s t : State) → Like s t → (e : AllEnter p r gs s)
    → (f : AllEnter p r gs t) × Like (last p r gs s e) (last p r gs t f)
like_all p r [] s t l e = (tt, l)
like_all p r (g ∷ gs) s t l e =
    let x = e.0 in
    let y : Entered g (given p r) t =
    record { mark = x.mark; cs = x.cs; plan = rw l.samples x.plan; enters = like_enters x.mark x.cs l x.enters } in
    let rest = like_all p r gs (left x) (left y) (like_committed x.mark x.cs l) e.1 in
    ((y, rest.0), rest.1)

-- ---- Permutations

from_permuted : (n : ℕ) (g : Stretch) {gs hs : List Stretch} → Permᴰ gs hs → ApartFrom n g gs → ApartFrom n g hs
from_permuted n g Permᴰ.nil a = a
from_permuted n g (Permᴰ.cons e d) a = (subst (Apart n g) e a.0, from_permuted n g d a.1)
from_permuted n g (Permᴰ.swap e d) a = (subst (Apart n g) d a.1.0, (subst (Apart n g) e a.0, a.1.1))
from_permuted n g (Permᴰ.trans d c) a = from_permuted n g c (from_permuted n g d a)

swapped : (n : ℕ) (g h : Stretch) (l : List Stretch) → AllApart n (g ∷ h ∷ l) → AllApart n (h ∷ g ∷ l)
swapped n g h l a = (((a.0.0.1, a.0.0.0), a.1.0), (a.0.1, a.1.1))

all_permuted : (n : ℕ) {gs hs : List Stretch} → Permᴰ gs hs → AllApart n gs → AllApart n hs
all_permuted n Permᴰ.nil a = a
all_permuted n (Permᴰ.cons {l₂ = hs} e d) a =
    (subst (λ (g : Stretch). ApartFrom n g hs) e (from_permuted n _ d a.0), all_permuted n d a.1)
all_permuted n (Permᴰ.swap {a = g} {b = h} {b' = first} {l = l} e d) a =
    subst (λ (x : Stretch). AllApart n (x ∷ first ∷ l)) d (subst (λ (x : Stretch). AllApart n (h ∷ x ∷ l)) e (swapped n g h l a))
all_permuted n (Permᴰ.trans d c) a = all_permuted n c (all_permuted n d a)

renamed : {g h : Stretch} {a : Given} {s : State} → g ≡ h → Entered g a s → Entered h a s
renamed e x = record { mark = x.mark; cs = x.cs; plan = rw (← e) x.plan; enters = x.enters }

all_enter : {gs hs : List Stretch} → Permᴰ gs hs → (p r : ℕ) (s : State) → AllApart (length s.samples) gs → (e : AllEnter p r gs s)
    → (f : AllEnter p r hs s) × Like (last p r gs s e) (last p r hs s f)
unfolding renamed h_first g_second
all_enter Permᴰ.nil p r s apart e = (tt, like_itself s)
all_enter (Permᴰ.cons same d) p r s apart e =
    let x = e.0 in
    let rest = all_enter d p r (left x) (rw (as_many x) apart.1) e.1 in
    ((renamed same x, rest.0), rest.1)
all_enter (Permᴰ.swap {a = g} {b = h} {l = l} same same-too) p r s apart e =
    let x = e.0 in
    let y = e.1.0 in
    let two-apart = apart.0.0 in
    let fits-g = fits g (given p r) s.samples x.mark x.cs x.plan in
    let fits-h = fits_before x y two-apart in
    let first = h_first x y two-apart (given p r) fits-h in
    let second = g_second x y two-apart (given p r) (given p r) fits-g fits-h in
    let rest = like_all p r l (left y) (left second) (two.commits_alike s x.mark y.mark x.cs y.cs (disjoint x y two-apart)) e.1.1 in
    ((renamed same-too first, (renamed same second, rest.0)), rest.1)
all_enter (Permᴰ.trans d c) p r s apart e =
    let middle = all_enter d p r s apart e in
    let end = all_enter c p r s (all_permuted (length s.samples) d apart) middle.0 in
    (end.0, like_then middle.1 end.1)

-- ---- The workspace

-- two parts of a workspace that are cleared, from one place on, may be cleared in either order
cleared_either : {A : Type 0} (z : A) (a b k : ℕ) (w : List A)
    → sets (sets w k (replicate b z)) k (replicate a z) ≡ sets (sets w k (replicate a z)) k (replicate b z)
cleared_either z zero b k w = refl
cleared_either z (suc a) zero k w = refl
cleared_either {A = A} z (suc a) (suc b) k w =
    ap (λ (v : List A). sets v (suc k) (replicate a z)) (again b) ∙ cleared_either z a b (suc k) (set w k z)
    ∙ sym (ap (λ (v : List A). sets v (suc k) (replicate b z)) (again a))
  where
    again : (n : ℕ) → set (sets (set w k z) (suc k) (replicate n z)) k z ≡ sets (set w k z) (suc k) (replicate n z)
    again n =
        store_before (set w k z) (replicate n z) k (suc k) z (omega arith)
        ∙ ap (λ (v : List A). sets v (suc k) (replicate n z)) (set-set w k z z)

-- what gaps that are all accepted leave of it, in a recording of n samples
abbrev pub cleared_by : ℕ → List Stretch → List Float → List Float
cleared_by n [] work = work
cleared_by n (g ∷ gs) work = cleared_by n gs (cleared nought (needed n g.start g.len) work)

left_cleared : (p r : ℕ) (gs : List Stretch) (work : List Float) (s : State) → length work ≡ r → AllEnter p r gs s
    → (in_turn p gs work s).work ≡ cleared_by (length s.samples) gs work
unfolding in_turn call kept
left_cleared p r [] work s long e = refl
left_cleared p r (g ∷ gs) work s long e =
    let x = e.0 in
    let ends = call_ends p r g work s long x in
    let n = needed (length s.samples) g.start g.len in
    ap (λ (d : Ended). (in_turn p gs (work_after nought n d.answer work) d.after).work) ends
    ∙ left_cleared p r gs (cleared nought n work) (left x) (length-sets work 0 (replicate n nought) ∙ long) e.1
    ∙ ap (λ (k : ℕ). cleared_by k gs (cleared nought n work)) (as_many x)

cleared_permuted : (n : ℕ) {gs hs : List Stretch} → Permᴰ gs hs → (work : List Float) → cleared_by n hs work ≡ cleared_by n gs work
cleared_permuted n Permᴰ.nil work = refl
cleared_permuted n (Permᴰ.cons {a = g} {l₂ = hs} e d) work =
    ap (λ (h : Stretch). cleared_by n hs (cleared nought (needed n h.start h.len) work)) (sym e) ∙ cleared_permuted n d _
cleared_permuted n (Permᴰ.swap {a = g} {b = h} {l = l} e d) work =
    rw (← e, ← d)
    (ap (cleared_by n l) (cleared_either nought (needed n g.start g.len) (needed n h.start h.len) 0 work))
cleared_permuted n (Permᴰ.trans d c) work = cleared_permuted n c work ∙ cleared_permuted n d work

pub any_order : AnyOrder
any_order passes gs hs work s order apart accepted =
    let r = length work in
    let e = accepted_all passes r gs work s refl accepted in
    let f = all_enter order passes r s apart e in
    let apart-too = all_permuted (length s.samples) order apart in
    let one = entered_all passes r gs work s refl e in
    let other = entered_all passes r hs work s refl f.0 in
    record {
      accepted = other.0;
      answers = alone-answers passes r hs work s refl apart-too f.0;
      alike = rw (one.1, other.1) (alike_of f.1);
      work_alike =
          left_cleared passes r hs work s refl f.0 ∙ cleared_permuted (length s.samples) order work
          ∙ sym (left_cleared passes r gs work s refl e);
      journal = rw other.1 (alone-entries passes r hs s apart-too f.0);
    }
