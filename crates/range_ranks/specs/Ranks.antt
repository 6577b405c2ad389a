-- The ranks of the loudness range (01, step 9), for n = blocks left - 1:
-- "low rank = floor((n+5)/10), high rank = floor((19n+10)/20), counted from the first block left. The Rust works these in floats."
use Rattle.std.specs.Prelude.{ℕ, ◌+◌, ◌*◌, ◌/◌, ◌^◌, false, pos, Float}
use Rattle.std.specs.Float.{binary64}
use Rattle.std.specs.Float.Ieee.{round, add, mul, of_int, to_unsigned}

abbrev pub low_rank : ℕ → ℕ
low_rank n = (n + 5) / 10

abbrev pub high_rank : ℕ → ℕ
high_rank n = (19 * n + 10) / 20

-- the Rust's `(n as f64 * share + 0.5) as u64`, with its shares 0.1 and 0.95
unfoldable pub rank_in_floats : Float → ℕ → ℕ
rank_in_floats share n = to_unsigned 64 (add binary64 (mul binary64 (of_int binary64 (pos n)) share) (round binary64 false 1 2))

unfoldable pub low_share : Float
low_share = round binary64 false 1 10

unfoldable pub high_share : Float
high_share = round binary64 false 95 100

-- below this n the floats give the whole-number ranks
abbrev pub exact_below : ℕ
exact_below = 2 ^ 46
