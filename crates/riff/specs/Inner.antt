-- What the inner functions of this crate speak of: nothing that the promises of reading and writing need. Definitions only.
use Rattle.std.specs.Prelude.{ℕ, List, Result, Ok, Err}
use Rattle.std.specs.Prelude.{if◌then◌else◌}
use Rattle.riff.specs.Wav.{first_named, format_at, data_at, is_wave}
use Rattle.recording.specs.declared.Reason.{Reason}
use Rattle.recording.specs.declared.Reason.TheVariants.{Wave}

-- where the format and the data of a file begin, or 19
unfoldable pub sound_in : List ℕ → Result (ℕ × ℕ) Reason
unfolding is_wave first_named
sound_in file = if is_wave file then Ok (format_at file, data_at file) else Err Wave
