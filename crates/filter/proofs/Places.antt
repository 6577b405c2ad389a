-- A channel's peak among the places that are stored: read where it has one, and 0 elsewhere. Assumes nothing.
use Rattle.std.proofs.Common.{◌≡◌, ℕ, Bool, true, false, cond, List, refl, ltb, get_or, slice_get, None}
use Rattle.std.proofs.lemmas.Option.{unwrap_or-slice_get}
use Rattle.std.specs.Option.{unwrap_or}
use lib.Ieee.{Float}
use Rattle.base_floats.specs.Entry.{plus_zero}
use Rattle.filter.specs.declared.Filter.{Filter}
use Rattle.filter.specs.Peaks.{peak_of}

pub peak_stored : (f : Filter) (stored : List Float) (channel : ℕ) → unwrap_or (cond (ltb channel f.channels) (slice_get stored channel) None) plus_zero ≡ peak_of f stored channel
peak_stored f stored channel = go (ltb channel f.channels)
  where
    go : (there : Bool) → unwrap_or (cond there (slice_get stored channel) None) plus_zero ≡ cond there (get_or stored channel plus_zero) plus_zero
    go true = unwrap_or-slice_get stored channel plus_zero
    go false = refl
