-- Energies and their patterns: what is written is let in and read again, and what was let in is written again. NaN comes back because it is written as one
-- pattern, and no other is let in. Assumes nothing.
use mathlib.Core.Path.{◌≡◌, refl, sym, ap, ◌∙◌}
use mathlib.Core.Bool.{Bool, true, false, not, ◌||◌, and-eq-true_iff}
use mathlib.Core.List.{List, [], ◌∷◌}
use Prim.Native.Nat.{ℕ, suc, ◌^◌, ◌<◌}
use borrow.Author.Tests.{eq-eqb, eqb-true, not-true}
use lib.Dec.{T, eqb}
use lib.ListN.{get_or}
use lib.Ieee.{Float, nan, binary64, of_bits, to_bits, is_nan, fits}
use lib.Ieee.Bits.{of_bits-to_bits, to_bits-of_bits, of_bits-fits}
use Rattle.base_floats.proofs.Nan.{only_nan}
use Rattle.bins.specs.Energy.{dropped}
use Rattle.history_set.specs.Set.{none_below}
use Rattle.record_queue_reader.specs.QueueRecord.{nan_pattern, pattern_fits, every, all_fit, energies_of, patterns_of}

-- every energy is an f64
abbrev pub Doubles : List Float → Type 0
Doubles [] = Unit
Doubles (energy ∷ rest) = T (fits binary64 energy) × Doubles rest

pub doubles_read : (patterns : List ℕ) → Doubles (energies_of patterns)
doubles_read [] = tt
doubles_read (pattern ∷ rest) = (of_bits-fits binary64 pattern, doubles_read rest)

nan_written : to_bits binary64 nan ≡ nan_pattern
unfolding to_bits
nan_written = refl

pub energies_again : (energies : List Float) → Doubles energies → energies_of (patterns_of energies) ≡ energies
energies_again [] d = refl
energies_again (energy ∷ rest) d = rw (of_bits-to_bits binary64 energy d.0, energies_again rest d.1)

-- a written pattern is let in again
pattern_in : (energy : Float) → T (fits binary64 energy) → dropped energy ≡ false → pattern_fits (to_bits binary64 energy) ≡ true
unfolding pattern_fits
pattern_in energy f d = rw (of_bits-to_bits binary64 energy f, d) (go (is_nan energy) refl)
  where
    go : (b : Bool) → is_nan energy ≡ b → not b || eqb (to_bits binary64 energy) nan_pattern ≡ true
    go false e = refl
    go true e = eq-eqb (to_bits binary64 energy) nan_pattern (ap (to_bits binary64) (only_nan energy e) ∙ nan_written)

pub patterns_in_lem : (energies : List Float) → Doubles energies → none_below energies ≡ true → all_fit (patterns_of energies) ≡ true
unfolding none_below every
patterns_in_lem [] d h = refl
patterns_in_lem (energy ∷ rest) d h =
    let p = (and-eq-true_iff (not (dropped energy)) (none_below rest)).0 h in
    rw (pattern_in energy d.0 (not-true (dropped energy) p.0), patterns_in_lem rest d.1 p.1)

-- a pattern that was let in is written again
pattern_again : (pattern : ℕ) → pattern < 2 ^ 64 → pattern_fits pattern ≡ true → to_bits binary64 (of_bits binary64 pattern) ≡ pattern
unfolding pattern_fits
pattern_again pattern small h =
    go (is_nan (of_bits binary64 pattern)) refl
    ((and-eq-true_iff (not (dropped (of_bits binary64 pattern))) (not (is_nan (of_bits binary64 pattern)) || eqb pattern nan_pattern)).0 h).1
  where
    go : (b : Bool) → is_nan (of_bits binary64 pattern) ≡ b → not b || eqb pattern nan_pattern ≡ true → to_bits binary64 (of_bits binary64 pattern) ≡ pattern
    go false e t = to_bits-of_bits binary64 pattern small (rw e tt)
    go true e t = ap (to_bits binary64) (only_nan (of_bits binary64 pattern) e) ∙ nan_written ∙ sym (eqb-true pattern nan_pattern t)

pub patterns_again : (patterns : List ℕ) → ((i : ℕ) → get_or patterns i 0 < 2 ^ 64) → all_fit patterns ≡ true → patterns_of (energies_of patterns) ≡ patterns
unfolding every
patterns_again [] s h = refl
patterns_again (pattern ∷ rest) s h =
    let p = (and-eq-true_iff (pattern_fits pattern) (all_fit rest)).0 h in
    rw (pattern_again pattern (s 0) p.0, patterns_again rest (λ i. s (suc i)) p.1)

-- what was let in is not below boundary 0
pub energies_in : (patterns : List ℕ) → all_fit patterns ≡ true → none_below (energies_of patterns) ≡ true
unfolding none_below every pattern_fits
energies_in [] h = refl
energies_in (pattern ∷ rest) h =
    let p = (and-eq-true_iff (pattern_fits pattern) (all_fit rest)).0 h in
    let q = (and-eq-true_iff (not (dropped (of_bits binary64 pattern))) (not (is_nan (of_bits binary64 pattern)) || eqb pattern nan_pattern)).0 p.0 in
    rw (q.0, energies_in rest p.1)
