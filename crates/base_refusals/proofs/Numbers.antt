-- 0 is the number of no refusal, so an operation may answer it for none. Assumes nothing.
use mathlib.Core.Path.{◌≡◌}
use native.Mathlib.Omega.{arith}
use Rattle.base_refusals.specs.Refusal.{Refusal, number}
use Rattle.base_refusals.specs.declared.Refusal.TheVariants.{CHANNELS, SAMPLES, MAP, DEST, STORE, FULL, SET, MODE, NONE, NAN, SCALE, LENGTH, KIND, CONTENT, ROOM}

pub no_number : (r : Refusal) → number r ≡ 0 → ⊥
no_number CHANNELS e = omega (arith, e)
no_number SAMPLES e = omega (arith, e)
no_number MAP e = omega (arith, e)
no_number DEST e = omega (arith, e)
no_number STORE e = omega (arith, e)
no_number FULL e = omega (arith, e)
no_number SET e = omega (arith, e)
no_number MODE e = omega (arith, e)
no_number NONE e = omega (arith, e)
no_number NAN e = omega (arith, e)
no_number SCALE e = omega (arith, e)
no_number LENGTH e = omega (arith, e)
no_number KIND e = omega (arith, e)
no_number CONTENT e = omega (arith, e)
no_number ROOM e = omega (arith, e)
