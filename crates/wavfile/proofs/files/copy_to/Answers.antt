-- `wavfile::files::copy_to` meets its contract: the part that was copied comes back to its place. Assumes nothing.
use Rattle.std.proofs.Common.{List, ℕ, length, ap, ◌∙◌}
use Rattle.std.proofs.lemmas.List.Edits.{sets}
use Rattle.leaves.proofs.Lists.{lent_back}
use Rattle.wavfile.proofs.files.copy_to.Goals as goal

pub returns : goal.returns
returns c =
    let same = c.copy_from_slice.ensures.after in
    lent_back c.args.at (length c.args.bytes.now) c.args.to.now _ c.requires (ap length same)
    ∙ ap (λ (part : List ℕ). sets c.args.to.now c.args.at part) same
