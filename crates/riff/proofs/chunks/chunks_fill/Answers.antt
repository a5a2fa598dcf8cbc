-- `riff::chunks::chunks_fill` meets its contract. The loop's invariant: the walk from here on ends where the whole walk does. The measure is
-- what is left of the file. Assumes nothing.
use Rattle.std.proofs.Common.{◌≡◌, ℕ, ◌+◌, ◌-◌, ◌<◌, ◌≤◌, false, eqb, List, length, sym, refl, ap, ◌∙◌, arith, ne_eqb}
use Rattle.riff.specs.Chunks.{head_bytes, padded, size_at, next_at, end_from}
use Rattle.riff.proofs.Walk.{end_more, end_none, never_back}
use Rattle.riff.proofs.chunks.chunks_fill.Goals as goal

-- a chunk whose head is there, with what its padded body takes
module _ (file : List ℕ) (at size taken whole : ℕ) (there : at + head_bytes ≤ length file) (of_size : size ≡ size_at file at)
    (of-body : taken ≡ padded size) (rest : end_from file at ≡ whole) where
  next : at + (head_bytes + taken) ≡ next_at file at
  next = omega (arith, of-body ∙ ap padded of_size)

  -- it is passed
  passed : end_from file (at + (head_bytes + taken)) ≡ whole
  passed = ap (end_from file) next ∙ sym (end_more file at there) ∙ rest

  -- it runs past the end of the file
  runs_past : length file - at - head_bytes < taken → false ≡ eqb whole (length file)
  runs_past h =
      sym (ne_eqb whole (length file) (λ (e : whole ≡ length file).
      omega (arith, never_back file (at + (head_bytes + taken)), passed)))

-- no head is left
ended : (file : List ℕ) (at whole : ℕ) → length file - at < head_bytes → at ≤ length file → end_from file at ≡ whole
    → eqb at (length file) ≡ eqb whole (length file)
ended file at whole h within rest =
    ap (λ (n : ℕ). eqb n (length file)) (sym (end_none file at (omega arith)) ∙ rest)

pub loop-at-init : goal.loop-at-init
loop-at-init c = (omega arith, refl)

pub returns-then-file-at : goal.returns-then-file-at
returns-then-file-at c =
    runs_past _ c.loop-at.at _ _ _ (omega arith) c.word_at.ensures c.padded-taken.ensures c.loop-at.invariant.1
    c.if-file-at.true

pub loop-at-preserved : goal.loop-at-preserved
loop-at-preserved c = (
  omega arith,
  passed _ c.loop-at.at _ _ _ (omega arith) c.word_at.ensures c.padded-taken.ensures c.loop-at.invariant.1,
)

pub returns : goal.returns
returns c =
    let file = c.args.file.now in
    ended file c.loop-at.at _ (omega arith) c.loop-at.invariant.0 c.loop-at.invariant.1
