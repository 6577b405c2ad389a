-- What a rate has, by its kind: the interpolator of a rate is one of the two, and the factor tells them apart. Assumes nothing.
use mathlib.Core.Path.{◌≡◌, sym, ap}
use mathlib.Core.Logic.{inl, inr}
use mathlib.Core.Bool.{Bool, true, false, cond}
use Prim.Native.Nat.{ℕ}
use native.Mathlib.Omega.{arith}
use lib.Dec.{ltb}
use Rattle.true_peak_interp.specs.declared.Interp.{Interp}
use Rattle.true_peak_interp.specs.Interp.{fourfold, twofold, fourfold_below, twofold_below, upsampled, no_true_peak, kind_of, Known}

pub rate_known : (rate : ℕ) (i : Interp) → upsampled i ≡ kind_of rate → Known i
rate_known rate i = go (ltb rate fourfold_below) (ltb rate twofold_below)
  where
    go : (b d : Bool) → upsampled i ≡ cond b (upsampled fourfold) (cond d (upsampled twofold) no_true_peak) → Known i
    go true d e = inl (cc)
    go false true e = inr (cc)
    go false false e = let z : ◌≡◌ {A = ℕ} 0 1 = cc in absurd (omega arith)

pub known_fourfold : (i : Interp) → Known i → i.factor ≡ 4 → fourfold ≡ i
known_fourfold i (inl e) h = sym e
known_fourfold i (inr e) h = let n : i.factor ≡ 2 = ap (λ (j : Interp). j.factor) e in absurd (omega arith)

pub known_twofold : (i : Interp) → Known i → (i.factor ≡ 4 → ⊥) → twofold ≡ i
known_twofold i (inl e) h = absurd (h (ap (λ (j : Interp). j.factor) e))
known_twofold i (inr e) h = sym e
