-- When a call over samples is refused (01, 'Numbers of the refusals'): the rows of the table that apply to it, in table order. Each stands here and nowhere else.
use Rattle.std.specs.Prelude.{ℕ, ◌+◌, ◌/◌, ◌%◌, Bool, true, not, ◌&&◌, ◌||◌, List, [], ◌∷◌, ◌++◌, leb, ltb, eqb, length}
use Rattle.base_refusals.specs.declared.Refusal.TheVariants.{CHANNELS, SAMPLES, MAP, DEST}
use Rattle.base_refusals.specs.Rows.{Row, row}
use Rattle.filter_checks.specs.declared.Sizes.{Sizes}
use Rattle.samples.specs.Frames.{most_channels}

-- the bytes that a map admits: 0 for an unused channel, 1 for a used one
abbrev pub admits : ℕ → Bool
admits byte = leb byte 1

abbrev pub used : ℕ → Bool
used byte = not (eqb byte 0)

unfoldable pub all_admitted : List ℕ → Bool
all_admitted [] = true
all_admitted (byte ∷ bytes) = admits byte && all_admitted bytes

-- "channels 0 or above 8"
abbrev pub wrong_channels : ℕ → Bool
wrong_channels channels = eqb channels 0 || ltb most_channels channels

-- "data is not whole frames"
abbrev pub wrong_samples : ℕ → ℕ → Bool
wrong_samples channels samples = not (eqb (samples % channels) 0)

-- "map length differs from channels, or a byte is not 0 (unused) or 1"
abbrev pub wrong_map : ℕ → List ℕ → Bool
wrong_map channels map = not (eqb (length map) channels) || not (all_admitted map)

-- what a call with a destination is checked by: its channels, how many samples it has, the destination's length and the start index
abbrev pub sizes : ℕ → ℕ → ℕ → ℕ → Sizes
sizes channels samples room start = record { channels = channels; samples = samples; room = room; start = start }

-- "the destination is empty, not a multiple of channels, or start + frames exceeds its per-channel part"
abbrev pub wrong_dest : Sizes → Bool
wrong_dest s =
    eqb s.room 0 || (not (eqb (s.room % s.channels) 0) || ltb (s.room / s.channels) (s.start + s.samples / s.channels))

-- ---- the rows of each call, by how many samples there are
-- of every call
unfoldable pub frame_rows : ℕ → ℕ → List Row
frame_rows channels samples =
    row CHANNELS (wrong_channels channels)
    ∷ row SAMPLES (wrong_samples channels samples)
    ∷ []

-- of a call with a map
unfoldable pub map_rows : ℕ → List ℕ → List Row
map_rows channels map =
    row MAP (wrong_map channels map)
    ∷ []

-- of a call with a destination, which is written where loudness is on
unfoldable pub dest_rows : Bool → Sizes → List Row
dest_rows loudness s =
    row DEST (loudness && wrong_dest s)
    ∷ []

-- of `seed`, and of `process`
abbrev pub seed_rows : ℕ → ℕ → List ℕ → List Row
seed_rows channels samples map = frame_rows channels samples ++ map_rows channels map

abbrev pub process_rows : Bool → Sizes → List ℕ → List Row
process_rows loudness s map = seed_rows s.channels s.samples map ++ dest_rows loudness s
