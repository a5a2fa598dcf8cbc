-- `wavfile::repair_file` is safe: a file that was read whole lies within the space. Assumes nothing.
use Prim.Native.Nat.{ℕ}
use mathlib.Core.Path.{sym, ◌∙◌}
use lib.ListN.{length-replicate}
use Rattle.wavfile.proofs.repair_file.Goals as goal

pub slice_bounds-load_file-end : goal.slice_bounds-load_file-end
slice_bounds-load_file-end g c = sym (length-replicate {0} {A = ℕ} 655360 0)

pub repair_loaded-requires : goal.repair_loaded-requires
repair_loaded-requires g c = (c.in-Some.ensures, c.requires)

pub slice_bounds-repair_loaded-end : goal.slice_bounds-repair_loaded-end
slice_bounds-repair_loaded-end g c = sym (c.load_file.auto.into ∙ length-replicate {0} {A = ℕ} 655360 0)
