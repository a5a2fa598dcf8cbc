-- What a reader gave, in the space that it was read to: into a part of the space, and one read after another. Assumes nothing.
use Rattle.std.proofs.Common.{◌≡◌, ℕ, ◌+◌, List, ◌++◌, length, take, drop, None, Some, sym, ap, subst, ◌∙◌, append_assoc}
use Rattle.std.proofs.lemmas.List.{drop_at, take-append-le}
use Rattle.std.proofs.Math.Seq.{take-add}
use Rattle.std.specs.Prelude.{Option, Result, Ok, Err, IfOk}
use Rattle.std.specs.Io.{ReadsAtMost}
use Rattle.std.specs.Io.KnownBytes.{Consumes, ReadConsumes}

-- what was read into a part stands behind the front
pub consumed_part : {E : Type 0} (a b : Option (List ℕ)) (r : Result ℕ E) (front part rest : List ℕ) (at : ℕ) → length front ≡ at
    → ReadsAtMost r part → ReadConsumes a b r part → IfOk r (λ n. Consumes a b (take n (drop at (front ++ (part ++ rest)))))
consumed_part a b (Ok n) front part rest at long fits read =
    subst (Consumes a b) (sym (ap (take n) (drop_at front (part ++ rest) at long) ∙ take-append-le n part rest fits.0)) read.0
consumed_part a b (Err e) front part rest at long fits read = tt

-- one read and then another
joined : (a b c : Option (List ℕ)) (first second : List ℕ) → Consumes a b first → Consumes b c second → Consumes a c (first ++ second)
joined None b c first second p q = tt
joined (Some x) None c first second p q = absurd p
joined (Some x) (Some y) None first second p q = absurd q
joined (Some x) (Some y) (Some z) first second p q = p ∙ ap (λ l. first ++ l) q ∙ sym (append_assoc first second z)

-- the front of the space, and the bytes that a further read put behind it
pub consumed_more : (a b c : Option (List ℕ)) (old new : List ℕ) (done n : ℕ) → take done new ≡ take done old
    → Consumes a b (take done old) → Consumes b c (take n (drop done new)) → Consumes a c (take (done + n) new)
consumed_more a b c old new done n front before read =
    subst (Consumes a c) (sym (take-add done n new))
    (joined a b c (take done new) (take n (drop done new)) (subst (Consumes a b) (sym front) before) read)
