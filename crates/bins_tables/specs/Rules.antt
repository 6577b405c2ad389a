-- The rules that document 01 (port order, step 1) has the tables keep, as one test over the whole tables.
-- "All positive; each boundary below its energy, each energy below the next boundary; an entry 100 places on is ten times the entry within one part in 2^40."
use Rattle.std.specs.Prelude.{Bool, true, ◌&&◌, List, [], ◌∷◌, ◌+◌, ◌-◌, ◌*◌, ◌^◌, leb, drop, Float}
use Rattle.std.specs.Float.Ieee.{lt}
use Rattle.std.specs.Float.Ieee.Positive.{positive, num, den}
use Rattle.bins_tables.specs.Tables.{boundaries, energies}

-- a rule between the entries of two lists at each place that both have
abbrev pub pairs : (Float → Float → Bool) → List Float → List Float → Bool
pairs f [] ys = true
pairs f (x ∷ xs) [] = true
pairs f (x ∷ xs) (y ∷ ys) = f x y && pairs f xs ys

abbrev pub first_positive : Float → Float → Bool
first_positive x y = positive x

-- y is ten times x, within one part in 2^40 of that: 10x (2^40 - 1) ≤ 2^40 y ≤ 10x (2^40 + 1), where x is the fraction num x / den x
abbrev pub tenfold : Float → Float → Bool
tenfold x y =
    leb (10 * num x * den y * (2 ^ 40 - 1)) (num y * den x * 2 ^ 40) && leb (num y * den x * 2 ^ 40) (10 * num x * den y * (2 ^ 40 + 1))

-- the rules of each table by itself
abbrev pub scaled : List Float → Bool
scaled entries = pairs first_positive entries entries && pairs tenfold entries (drop 100 entries)

-- each boundary below its energy, each energy below the next boundary
abbrev pub interleaved : List Float → List Float → Bool
interleaved edges middles = pairs lt edges middles && pairs lt middles (drop 1 edges)

unfoldable pub rules_kept : Bool
unfolding lt boundaries energies
rules_kept = scaled boundaries && (scaled energies && interleaved boundaries energies)
