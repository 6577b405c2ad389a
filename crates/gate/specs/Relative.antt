-- The relative threshold (01, step 8): "Threshold = (sum / count) times the f64 nearest 1/10." Of a single history: "-70.0 when empty, otherwise the threshold
-- energy or NAN." -70.0 is a loudness, in LUFS; the other answer is an energy.
use Rattle.std.specs.Prelude.{ℕ, true, false, cond, not, ◌&&◌, List, [], ◌∷◌, ◌++◌, ◌==◌, is_nan, Float, Result, Ok, Err}
use Rattle.std.specs.Float.{binary64}
use Rattle.std.specs.Float.Ieee.{mul, round}
use Rattle.base_refusals.specs.Refusal.{number}
use Rattle.base_refusals.specs.declared.Refusal.{Refusal}
use Rattle.base_refusals.specs.declared.Refusal.TheVariants.{NAN}
use Rattle.base_refusals.specs.Outcome.{Question, answers, Said, says, refusal}
use Rattle.base_refusals.specs.Rows.{Row, row, by_rows}
use Rattle.history_set.specs.declared.set.Entry.{Entry}
use Rattle.history_set.specs.Set.{shows, set_rows}
use Rattle.gate.specs.declared.blocks.Totals.{Totals}
use Rattle.gate.specs.Totals.{mean_of}
use Rattle.gate.specs.Sums.{totals_of, alone}
use Rattle.gate.specs.declared.threshold.Threshold.{Threshold}
use Rattle.gate.specs.declared.threshold.Threshold.TheVariants.{Loudness, Energy}

-- the f64 nearest 1/10: 10 LU down
unfoldable pub tenth : Float
tenth = round binary64 false 1 10

abbrev pub threshold_of : Totals → Float
threshold_of totals = mul binary64 (mean_of totals) tenth

pub data Limit : Type 0 where
  loudness : Float → Limit
  energy : Float → Limit

-- the loudness of the absolute gate, -70.0
unfoldable pub lowest : Float
lowest = round binary64 true 70 1

abbrev pub level_of : Totals → Limit
level_of totals = cond (totals.count == 0) (loudness lowest) (energy (threshold_of totals))

-- NAN: "the threshold sum is NaN". Without blocks there is no threshold
abbrev pub level_rows : Totals → List Row
level_rows totals = row NAN (not (totals.count == 0) && is_nan totals.sum) ∷ []

-- ---- a single history's
abbrev pub relative_rows : Entry → List ℕ → List Float → List Row
relative_rows entry counters energies = set_rows (alone entry counters energies) ++ level_rows (totals_of (shows counters energies entry))

unfoldable pub relative_of : Entry → List ℕ → List Float → Question Limit
relative_of entry counters energies = by_rows (relative_rows entry counters energies) (answers (level_of (totals_of (shows counters energies entry))))

-- what an answer says: each case of `Threshold` is the limit of its name
abbrev pub limit_of : Threshold → Limit
limit_of (Loudness l) = loudness l
limit_of (Energy e) = energy e

abbrev pub said : Result Threshold Refusal → Said Limit
said (Ok threshold) = says (limit_of threshold)
said (Err r) = refusal (number r)
