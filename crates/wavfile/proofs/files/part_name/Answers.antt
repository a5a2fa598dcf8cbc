-- The suffix is copied behind the name.
use Rattle.std.proofs.Common.{◌≡◌, ℕ, ◌+◌, List, length, refl, ap, ◌∙◌, arith}
use Rattle.std.proofs.lemmas.List.Edits.{sets}
use Rattle.leaves.proofs.Stores.{stored_behind}
use Rattle.wavfile.specs.Files.{suffix, part_name}
use Rattle.wavfile.proofs.files.part_name.Goals as goal

-- the suffix stands behind the name
both : (l name mid end : List ℕ) → mid ≡ sets l 0 name → end ≡ sets mid (length name) suffix → end ≡ sets l 0 (part_name name)
both l name mid end e f =
    let here : length name ≡ 0 + length name = omega arith in
    f
    ∙ ap (λ (k : List ℕ). sets k (length name) suffix) e
    ∙ ap (λ (n : ℕ). sets (sets l 0 name) n suffix) here
    ∙ stored_behind l name suffix 0

pub returns : goal.returns
returns c = (refl, both c.args.part.now c.args.name.now c.copy_to.new.to _ c.copy_to.ensures c.copy_to-2.ensures)
