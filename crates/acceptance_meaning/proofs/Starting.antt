-- The bins that a gate leaves are those from its start bin on: each of them has an energy that is not below the gate, and each before it one that is.
-- Bins rise with energies, and the start bin is the gate's own, or the next where the gate is above its energy. Assumes nothing.
use mathlib.Core.Path.{◌≡◌, refl, sym, ap, ◌∙◌, subst}
use mathlib.Core.Logic.{inl, inr}
use mathlib.Core.Bool.{Bool, true, false}
use Prim.Native.Nat.{ℕ, ◌+◌, ◌≤◌, ◌<◌}
use native.Mathlib.Nat.{eq-or-lt_of_le}
use native.Mathlib.Omega.{arith}
use lib.Dec.{T}
use lib.Ieee.{Float, lt, le, is_nan}
use lib.Ieee.Positive.{above, above_of_le}
use Rattle.base_floats.proofs.Nan.{only_nan}
use Rattle.base_floats.proofs.Order.{float_le_trans, lt→le, lt_not_le}
use Rattle.bins_tables.specs.Tables.{boundary_at, energy_at}
use Rattle.bins.specs.Bin.{bins, bin_of}
use Rattle.bins_tables.proofs.Rules.{boundary_positive, boundaries_rise, boundary_below_energy, energy_below_next}
use Rattle.bins.proofs.Bins.{bin_below, bins_rise, bin_of_energy, bin_of_nan}
use Rattle.gate.specs.Start.{start_bin}
use Rattle.gate.proofs.Start.{start_below, start_next, start_here}
use Rattle.order_rules.proofs.Energies.{not_below_lem, above_up, same_at_most}
use Rattle.range_queues.proofs.Looking.{above_one}

pub low_energy : (b : ℕ) → b < bins → T (le (boundary_at 0) (energy_at b))
low_energy b h =
    float_le_trans (boundary_at 0) (boundary_at b) (energy_at b) (boundaries_rise 0 b (omega arith) (omega arith))
    (lt→le (boundary_at b) (energy_at b) (boundary_below_energy b h))

pub above_energy : (b : ℕ) → b < bins → T (above (energy_at b))
above_energy b h = above_of_le (boundary_at 0) (energy_at b) (boundary_positive 0 (omega arith)) (low_energy b h)

-- the energies of the bins rise
pub energies_rise : (i j : ℕ) → i ≤ j → j < bins → T (le (energy_at i) (energy_at j))
energies_rise i j h l = elim (eq-or-lt_of_le h) [
  | inl e ↦ subst (λ (k : ℕ). T (le (energy_at i) (energy_at k))) e (same_at_most (energy_at i) (above_energy i (omega arith)))
  | inr g ↦
      float_le_trans (energy_at i) (boundary_at (1 + i)) (energy_at j) (lt→le (energy_at i) (boundary_at (1 + i)) (energy_below_next i (omega arith)))
      (float_le_trans (boundary_at (1 + i)) (boundary_at j) (energy_at j) (boundaries_rise (1 + i) j (omega arith) (omega arith))
      (lt→le (boundary_at j) (energy_at j) (boundary_below_energy j l)))
]

module _ (gate : Float) (b : ℕ) (h : b < bins) where
  too_low : start_bin gate ≤ b → T (lt (energy_at b) gate) → b ≤ bin_of gate → (c d : Bool) → lt gate (boundary_at 0) ≡ c → lt (energy_at (bin_of gate)) gate ≡ d → ⊥
  too_low s t far true d p q =
      lt_not_le gate (boundary_at 0) (subst T (sym p) tt) (float_le_trans (boundary_at 0) (energy_at b) gate (low_energy b h) (lt→le (energy_at b) gate t))
  too_low s t far false true p q = omega (arith, start_next gate p q)
  too_low s t far false false p q =
      let here : b ≡ bin_of gate = omega (arith, start_here gate p q) in
      subst T (ap (λ (k : ℕ). lt (energy_at k) gate) here ∙ q) t

  pub from_start : start_bin gate ≤ b → lt (energy_at b) gate ≡ false
  from_start s = go (lt (energy_at b) gate) refl
    where
      go : (c : Bool) → lt (energy_at b) gate ≡ c → c ≡ false
      go false e = refl
      go true e =
          let t : T (lt (energy_at b) gate) = subst T (sym e) tt in
          absurd (too_low s t (omega (arith, bins_rise (energy_at b) gate (lt→le (energy_at b) gate t), bin_of_energy b h)) (lt gate (boundary_at 0)) (lt (energy_at (bin_of gate)) gate) refl refl)

  no_nan : b < bin_of gate → (n : Bool) → is_nan gate ≡ n → lt gate (boundary_at 0) ≡ false → lt (energy_at b) gate ≡ false → ⊥
  no_nan s true n p e = omega (arith, ap bin_of (only_nan gate n), bin_of_nan)
  no_nan s false n p e =
      let g : T (above gate) = above_one (boundary_at 0) gate (boundary_positive 0 (omega arith)) p n in
      omega (arith, bins_rise gate (energy_at b) (not_below_lem (energy_at b) gate (above_energy b h) g e), bin_of_energy b h)

  too_high : b < start_bin gate → lt (energy_at b) gate ≡ false → (c d : Bool) → lt gate (boundary_at 0) ≡ c → lt (energy_at (bin_of gate)) gate ≡ d → ⊥
  too_high s e true d p q = omega (arith, start_below gate p)
  too_high s e false true p q =
      let t : T (lt (energy_at (bin_of gate)) gate) = subst T (sym q) tt in
      let g : T (above gate) = above_up (energy_at (bin_of gate)) gate (above_energy (bin_of gate) (bin_below gate)) (lt→le (energy_at (bin_of gate)) gate t) in
      lt_not_le (energy_at (bin_of gate)) gate t
      (float_le_trans gate (energy_at b) (energy_at (bin_of gate)) (not_below_lem (energy_at b) gate (above_energy b h) g e)
      (energies_rise b (bin_of gate) (omega (arith, start_next gate p q)) (bin_below gate)))
  too_high s e false false p q = no_nan (omega (arith, start_here gate p q)) (is_nan gate) refl p e

  pub below_start : b < start_bin gate → lt (energy_at b) gate ≡ true
  below_start s = go (lt (energy_at b) gate) refl
    where
      go : (c : Bool) → lt (energy_at b) gate ≡ c → c ≡ true
      go true e = refl
      go false e = absurd (too_high s e (lt gate (boundary_at 0)) (lt (energy_at (bin_of gate)) gate) refl refl)
