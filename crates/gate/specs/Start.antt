-- Where a gate starts (01, step 8): "Histogram bins count from the threshold's bin, or the next if the threshold is above that bin's energy; below boundary 0
-- from bin 0; the start may be 1000. Queue energies count if not below the threshold."
use Rattle.std.specs.Prelude.{ℕ, ◌+◌, Bool, cond, not, Float}
use Rattle.std.specs.Float.Ieee.{lt}
use Rattle.bins_tables.specs.Tables.{boundary_at, energy_at}
use Rattle.bins.specs.Bin.{bin_of}

-- where a gate starts in a histogram
unfoldable pub start_bin : Float → ℕ
start_bin threshold =
    cond (lt threshold (boundary_at 0)) 0 (cond (lt (energy_at (bin_of threshold)) threshold) (bin_of threshold + 1) (bin_of threshold))

-- whether a block at this energy counts: it does if it is not below the threshold, so an equal one does
abbrev pub counts : Float → Float → Bool
counts threshold energy = not (lt energy threshold)
