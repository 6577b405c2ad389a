-- The sum of a phase, sample by sample, and phases side by side: one sample more, and floats that are each the phase of their place. Assumes nothing.
use Rattle.std.proofs.Common.{◌≡◌, ℕ, zero, suc, ◌+◌, ◌*◌, ◌<◌, List, [], ◌∷◌, length, get_or, drop, refl, ap, ◌∙◌, arith, add-one, drop-cons}
use Rattle.std.specs.Float.{Float, nan}
use Rattle.true_peak_interp.specs.Phase.{plus, summed, phase, phases_from}

-- one sample more
pub summed_turn : (taps : List Float) (factor f : ℕ) (sum : Float) (samples : List Float) (i : ℕ) → i < length samples
    → summed taps factor ((i + 1) * factor + f) (plus sum (get_or samples i nan) (get_or taps (i * factor + f) nan)) (drop (i + 1) samples) ≡ summed taps factor (i * factor + f) sum (drop i samples)
unfolding summed
summed_turn taps factor f sum samples i h =
    let next : (i + 1) * factor + f ≡ i * factor + f + factor = omega arith in
    rw (next, add-one, drop-cons samples i nan h)

-- n floats, each the phase of its place, counted from f on
pub each_phase : (taps : List Float) (factor : ℕ) (samples all : List Float) (f n : ℕ) → length all ≡ n → ((k : ℕ) → k < n → get_or all k nan ≡ phase taps factor samples (f + k)) → all ≡ phases_from taps factor samples f n
unfolding phases_from
each_phase taps factor samples [] f zero size at = refl
each_phase taps factor samples [] f (suc n) size at = absurd (omega arith)
each_phase taps factor samples (x ∷ all) f zero size at = absurd (omega arith)
each_phase taps factor samples (x ∷ all) f (suc n) size at =
    let z : f + 0 ≡ f = omega arith in
    let first : x ≡ phase taps factor samples f = at 0 (omega arith) ∙ ap (phase taps factor samples) z in
    let rest : all ≡ phases_from taps factor samples (suc f) n =
    each_phase taps factor samples all (suc f) n (omega arith)
    (λ k h. let e : f + suc k ≡ suc f + k = omega arith in at (suc k) (omega arith) ∙ ap (phase taps factor samples) e) in
    cc
