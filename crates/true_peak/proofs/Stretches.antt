-- A channel's samples taken stretch by stretch: the stretches one after another are the whole, so hearing the first stretch and then the rest is hearing all. Assumes nothing.
use mathlib.Core.Path.{◌≡◌, sym, ap, ◌∙◌, subst}
use mathlib.Core.List.{List}
use Prim.Native.Nat.{ℕ, ◌+◌, ◌*◌, ◌-◌, ◌≤◌}
use native.Mathlib.Nat.{add-mul}
use native.Mathlib.Omega.{arith}
use lib.ListN.{length}
use lib.Seq.{sets, length-sets}
use lib.Ieee.{Float}
use Rattle.true_peak_interp.specs.declared.Interp.{Interp}
use Rattle.true_peak_interp.specs.Phase.{phases}
use Rattle.true_peak_state.specs.Channel.{Channel, channel, heard, past}
use Rattle.base_floats.specs.Largest.{largest}
use Rattle.true_peak_scan.specs.Line.{back, phases_over}
use Rattle.samples.specs.Frames.{column}
use Rattle.samples.proofs.Columns.{length_column, column_append}
use Rattle.true_peak_state.proofs.Cuts.{heard_append}
use Rattle.true_peak.proofs.Lines.{heard_stored}

-- one stretch of n samples: the line with it stored, scanned, and carried
pub stretch_heard : (i : Interp) (samples old stored new : List Float) (at step n : ℕ) (peak loud : Float)
    → past + n ≤ length old
    → stored ≡ sets old past (column samples at step n) → loud ≡ largest peak (phases_over (phases i) stored 0 n) → back new 0 past ≡ back stored n past
    → channel (back new 0 past) loud ≡ heard i (channel (back old 0 past) peak) (column samples at step n)
stretch_heard i samples old stored new at step n peak loud r es el en =
    let xs = column samples at step n in
    let k : length xs ≡ n = length_column samples at step n in
    ap (λ (q : List Float). channel q loud) en
    ∙ ap (channel (back stored n past)) el
    ∙ ap (λ (q : List Float). channel (back q n past) (largest peak (phases_over (phases i) q 0 n))) es
    ∙ ap (λ (m : ℕ). channel (back (sets old past xs) m past) (largest peak (phases_over (phases i) (sets old past xs) 0 m))) (sym k)
    ∙ sym (heard_stored i old xs peak (subst (λ (m : ℕ). past + m ≤ length old) (sym k) r))

-- a stretch heard, and what is left after it
pub stretches_turn : (i : Interp) (samples : List Float) (at step left n : ℕ) (old new : Channel) → n ≤ left → new ≡ heard i old (column samples at step n)
    → heard i new (column samples (at + n * step) step (left - n)) ≡ heard i old (column samples at step left)
stretches_turn i samples at step left n old new h e =
    let rest = column samples (at + n * step) step (left - n) in
    let f : n + (left - n) ≡ left = omega arith in
    ap (λ (ch : Channel). heard i ch rest) e
    ∙ sym (heard_append i old (column samples at step n) rest)
    ∙ ap (heard i old) (sym (column_append samples at step n (left - n)) ∙ ap (column samples at step) f)

-- the places that the frames left take, and those that a stretch of n takes
pub places : (n left step : ℕ) → n ≤ left → left * step ≡ (left - n) * step + n * step
places n left step h = let e : left ≡ (left - n) + n = omega arith in ap (λ (m : ℕ). m * step) e ∙ add-mul (left - n) n step

-- storing samples keeps a line's length
pub stored_length : (old stored xs : List Float) (n : ℕ) → stored ≡ sets old past xs → length old ≡ n → length stored ≡ n
stored_length old stored xs n e h = ap length e ∙ length-sets old past xs ∙ h
