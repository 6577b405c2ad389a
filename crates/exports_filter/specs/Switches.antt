-- What is on, as the C interface has it.
use Rattle.std.specs.Prelude.{ℕ, ◌/◌, ◌%◌, eqb}
use Rattle.filter.specs.declared.Switches.{Switches}

-- the sum of 1 for loudness, 2 for the sample peak and 4 for the true peak
abbrev pub switches_of : ℕ → Switches
switches_of on = record { loudness = eqb (on % 2) 1; peak = eqb (on / 2 % 2) 1; true_peak = eqb (on / 4 % 2) 1 }
