-- What request P1 of document 02 left as it was: the dropout runs that document 01 had before it. Definitions, and then two statements,
-- which are proved as `zeros_as_before` and `unheld_as_before` of proofs/Unheld.antt, which nobody has to read.
use Rattle.std.specs.Prelude.{◌≡◌, ℕ, zero, suc, ◌+◌, ◌-◌, ◌<◌, ◌≤◌, Bool, true, ◌&&◌, List, [], ◌∷◌, length, nat_le, slice_index}
use Rattle.std.specs.Prelude.{if◌then◌else◌}
use Rattle.recording.specs.Runs.{begins, run_length}
use Rattle.inpaint.specs.Auto.{zero_or_nan, holdable, run_at, gap_allowed, starts}
use Rattle.inpaint.specs.Runs.{Stretch, stretch, runs_of}

-- ---- The runs of document 01

-- "A dropout run is a longest run of samples equal to zero (either sign) or NaN."
abbrev pub zero_at : List ℕ → ℕ → Bool
zero_at samples i = zero_or_nan (slice_index samples i)

abbrev pub zeros_at : List ℕ → ℕ → ℕ
zeros_at samples i = run_length (zero_at samples) i (length samples - i)

-- "It qualifies if its length is at least 2 and within the limit, and it touches neither end."
abbrev pub zeros_qualify : ℕ → ℕ → ℕ → ℕ → Bool
zeros_qualify n most start len = nat_le 2 len && gap_allowed n most start len

abbrev pub zeros_start : List ℕ → ℕ → ℕ → Bool
zeros_start samples most i = begins (zero_at samples) i && zeros_qualify (length samples) most i (zeros_at samples i)

-- ascending, those that begin at one of the n places from i on, and all
unfoldable pub zeros_among : List ℕ → ℕ → ℕ → ℕ → List Stretch
unfolding begins run_length zero_or_nan
zeros_among samples most i zero = []
zeros_among samples most i (suc n) =
    let later = zeros_among samples most (i + 1) n in
    if zeros_start samples most i then stretch i (zeros_at samples i) ∷ later else later

abbrev pub zeros_of : List ℕ → ℕ → List Stretch
zeros_of samples most = zeros_among samples most 0 (length samples)

-- ---- What did not change

-- at a zero or a NaN of any recording a run begins and qualifies exactly where one did, and is as long, whatever the setting for held words
abbrev pub ZerosAsBefore : Type 0
ZerosAsBefore =
    (samples : List ℕ) (most held i : ℕ) → i < length samples → zero_at samples i ≡ true
    → (starts samples most held 0 i ≡ zeros_start samples most i) × (run_at samples i ≡ zeros_at samples i)

-- nowhere "16 or more equal words, in range and not zero", where `held` stands for the 16
abbrev pub NothingHeld : ℕ → List ℕ → Type 0
NothingHeld held samples =
    (i : ℕ) → i + held ≤ length samples → holdable (slice_index samples i) ≡ true
    → ((k : ℕ) → k < held → slice_index samples (i + k) ≡ slice_index samples i) → ⊥

-- a recording without a held word has the runs that it had
abbrev pub UnheldAsBefore : Type 0
UnheldAsBefore = (samples : List ℕ) (most held : ℕ) → NothingHeld held samples → runs_of samples most held ≡ zeros_of samples most
