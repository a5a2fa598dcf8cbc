-- `riff::chunks::first_named` meets its contract. The loop's invariant: the walk from here on ends with the file, and the first such chunk
-- from here on is the first of all. The measure is what is left of the file. Assumes nothing.
use Rattle.std.proofs.Common.{◌≡◌, ℕ, ◌+◌, ◌<◌, ◌≤◌, Bool, true, false, List, length, sym, refl, ap, ◌∙◌, arith}
use Rattle.riff.specs.Chunks.{head_bytes, padded, size_at, next_at, named, chunks_from, end_from, first_of}
use Rattle.riff.specs.Wav.{first_chunk, first_named}
use Rattle.riff.proofs.Walk.{chunks_more, chunks_none, end_more, never_back, head_there, next_within, first_here, first_later}
use Rattle.riff.proofs.chunks.first_named.Goals as goal

-- at a chunk before the file's end
module _ (file : List ℕ) (test : ℕ → Bool) (at whole : ℕ) (ends : end_from file at ≡ length file) (more : at < length file)
    (rest : first_of test (length file) (chunks_from file at) ≡ whole) where
  there : at + head_bytes ≤ length file
  there = head_there file at ends more

  -- the test takes it
  takes : test at ≡ true → at ≡ whole
  takes yes' =
      sym (ap (first_of test (length file)) (chunks_more file at there) ∙ first_here test (length file) at (chunks_from file (next_at file at)) yes')
      ∙ rest

  -- or passes it, with what its padded body takes
  module _ (size taken : ℕ) (of_size : size ≡ size_at file at) (of-body : taken ≡ padded size) where
    next : at + (head_bytes + taken) ≡ next_at file at
    next = omega (arith, of-body ∙ ap padded of_size)

    within : at + (head_bytes + taken) ≤ length file
    within = omega (arith, next, next_within file at ends there)

    ends_later : end_from file (at + (head_bytes + taken)) ≡ length file
    ends_later = ap (end_from file) next ∙ sym (end_more file at there) ∙ ends

    passes : test at ≡ false → first_of test (length file) (chunks_from file (at + (head_bytes + taken))) ≡ whole
    passes no' =
        ap (λ (i : ℕ). first_of test (length file) (chunks_from file i)) next
        ∙ sym (ap (first_of test (length file)) (chunks_more file at there)
        ∙ first_later test (length file) at (chunks_from file (next_at file at)) no')
        ∙ rest

-- none was taken: the end of the file is given
none_taken : (file : List ℕ) (test : ℕ → Bool) (at whole : ℕ) → length file ≤ at → at ≤ length file
    → first_of test (length file) (chunks_from file at) ≡ whole → at ≡ whole
unfolding first_of
none_taken file test at whole h k rest =
    let here : at ≡ length file = omega arith in
    here ∙ sym (ap (first_of test (length file)) (chunks_none file at (omega arith))) ∙ rest

pub loop-at-init : goal.loop-at-init
loop-at-init c = (omega (arith, never_back c.args.file.now first_chunk, c.requires), c.requires, unfold first_named in refl)

pub is_named-requires : goal.is_named-requires
is_named-requires c =
    let head_at : c.loop-at.at + head_bytes ≤ length c.args.file.now = head_there c.args.file.now c.loop-at.at c.loop-at.invariant.1 c.loop-at-test.true in
    head_at

pub returns-then-is_named : goal.returns-then-is_named
returns-then-is_named c =
    let a = c.args in
    takes a.file.now (named a.file.now a.name a.fewest) c.loop-at.at _ c.loop-at.invariant.1
    c.loop-at-test.true c.loop-at.invariant.2
    (sym c.is_named.ensures ∙ c.if-is_named.true)

pub word_at-requires : goal.word_at-requires
word_at-requires c =
    let head_at : c.loop-at.at + head_bytes ≤ length c.args.file.now = head_there c.args.file.now c.loop-at.at c.loop-at.invariant.1 c.loop-at-test.true in
    omega (arith, head_at)

-- and the next chunk begins within the file
next-at : (c : goal.After-padded)
    → c.loop-at.at + (head_bytes + c.padded.result) ≤ length c.args.file.now
next-at c =
    let a = c.args in
    within a.file.now (named a.file.now a.name a.fewest) c.loop-at.at _ c.loop-at.invariant.1
    c.loop-at-test.true c.loop-at.invariant.2 _ _ c.word_at.ensures c.padded.ensures

pub loop-at-preserved : goal.loop-at-preserved
loop-at-preserved c =
    let a = c.args in
    let test = named a.file.now a.name a.fewest in
    let more = c.loop-at-test.true in (
      next-at c,
      ends_later a.file.now test c.loop-at.at _ c.loop-at.invariant.1 more c.loop-at.invariant.2 _ _ c.word_at.ensures
          c.padded.ensures,
      passes a.file.now test c.loop-at.at _ c.loop-at.invariant.1 more c.loop-at.invariant.2 _ _ c.word_at.ensures
          c.padded.ensures (sym c.is_named.ensures ∙ c.if-is_named.false),
    )

pub returns : goal.returns
returns c =
    let a = c.args in
    none_taken a.file.now (named a.file.now a.name a.fewest) c.loop-at.at _ c.loop-at-test.false c.loop-at.invariant.0
    c.loop-at.invariant.2
