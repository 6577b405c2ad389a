-- Where a gate starts, case by case; that it starts no later than past the last bin; and that it starts where the energies reach the threshold: those rise
-- from bin to bin, each between its bin's boundaries. Assumes nothing.
use Rattle.std.proofs.Common.{◌≡◌, ℕ, ◌+◌, ◌-◌, ◌<◌, ◌≤◌, Bool, true, false, cond, T, ◌⊎◌, List, length, get_or, sym, refl, ap, ◌∙◌, subst, inl, inr, eq-zero-or-pos, arith}
use native.Mathlib.Nat.{eq-or-lt_of_le}
use lib.Ieee.{Float, nan, lt, is_nan}
use Rattle.base_floats.proofs.Order.{is_true, is_false, lt→le, lt_not_le, total, left_number, right_number, le_lt, lt_lt}
use Rattle.base_floats.proofs.Nan.{only_nan}
use Rattle.std.specs.List.Sorted.{IsPartitionedBy, IsPartitionPoint}
use Rattle.std.proofs.lemmas.List.{get_or_default}
use Rattle.bins_tables.proofs.Taken.{energy_entry}
use Rattle.bins_tables.specs.Tables.{energies, boundary_at, energy_at}
use Rattle.bins.specs.Bin.{bins, bin_of}
use Rattle.bins_tables.proofs.Rules.{energies_length, boundary_below_energy, energy_below_next, boundaries_rise}
use Rattle.bins.proofs.Bins.{bin_below, bin_is, bin_between, bin_of_nan}
use Rattle.gate.specs.Start.{start_bin}
use Rattle.gate.specs.Inner.{Past}

module _ (threshold : Float) where
  pub start_below : lt threshold (boundary_at 0) ≡ true → start_bin threshold ≡ 0
  unfolding start_bin
  start_below h = rw h

  pub start_next : lt threshold (boundary_at 0) ≡ false → lt (energy_at (bin_of threshold)) threshold ≡ true → start_bin threshold ≡ bin_of threshold + 1
  unfolding start_bin
  start_next h k = rw (h, k)

  pub start_here : lt threshold (boundary_at 0) ≡ false → lt (energy_at (bin_of threshold)) threshold ≡ false → start_bin threshold ≡ bin_of threshold
  unfolding start_bin
  start_here h k = rw (h, k)

  pub start_most : start_bin threshold ≤ bins
  unfolding start_bin
  start_most = go (lt threshold (boundary_at 0)) (lt (energy_at (bin_of threshold)) threshold)
    where
      go : (a b : Bool) → cond a 0 (cond b (bin_of threshold + 1) (bin_of threshold)) ≤ bins
      go true b = omega arith
      go false true = omega (arith, bin_below threshold)
      go false false = omega (arith, bin_below threshold)

-- ---- where the energies reach the threshold
by_test : {A : Type 0} (b : Bool) → (b ≡ true → A) → (b ≡ false → A) → A
by_test true f g = f refl
by_test false f g = g refl

holds : (b : Bool) → b ≡ true → T b
holds b e = subst T (sym e) tt

module _ (t : Float) where
  -- not past bin 0
  first_bin : lt (energy_at 0) t ≡ false → start_bin t ≡ 0
  first_bin h =
      by_test (lt t (boundary_at 0)) (start_below t)
      (λ (k : lt t (boundary_at 0) ≡ false).
      let is : bin_of t ≡ 0 = by_test (is_nan t) (λ n. ap bin_of (only_nan t n) ∙ bin_of_nan) (λ n.
      let low = boundary_below_energy 0 (omega arith) in
      let up = energy_below_next 0 (omega arith) in
      bin_between t 0 (omega arith) (total t (boundary_at 0) n (left_number (boundary_at 0) (energy_at 0) low) k)
      (le_lt t (energy_at 0) (boundary_at 1) n (total (energy_at 0) t (left_number (energy_at 0) (boundary_at 1) up) n h) up)) in
      start_here t k (ap (λ (i : ℕ). lt (energy_at i) t) is ∙ h) ∙ is)

  -- past bin i
  module _ (i : ℕ) (small : i < 1000) (past : lt (energy_at i) t ≡ true) where
    beyond : T (lt (boundary_at i) t)
    beyond = lt_lt (boundary_at i) (energy_at i) t (boundary_below_energy i small) (holds (lt (energy_at i) t) past)

    number : is_nan t ≡ false
    number = right_number (boundary_at i) t beyond

    on_scale : lt t (boundary_at 0) ≡ false
    on_scale = is_false (lt t (boundary_at 0)) (λ k. lt_not_le t (boundary_at 0) k (lt→le (boundary_at 0) t
        (le_lt (boundary_at 0) (boundary_at i) t (left_number (boundary_at 0) (energy_at 0) (boundary_below_energy 0 (omega arith))) (boundaries_rise 0 i (omega arith) (omega arith)) beyond)))

    own_bin : bin_of t ≡ i → start_bin t ≡ i + 1
    own_bin is = start_next t on_scale (ap (λ (n : ℕ). lt (energy_at n) t) is ∙ past) ∙ ap (λ (n : ℕ). n + 1) is

    last_bin : i ≡ 999 → start_bin t ≡ i + 1
    last_bin e = own_bin (bin_is t i small (lt→le (boundary_at i) t beyond) (λ k a b. absurd (omega (arith, e))))

    next_bin : i + 1 < 1000 → lt (energy_at (i + 1)) t ≡ false → start_bin t ≡ i + 1
    next_bin more h =
        by_test (lt t (boundary_at (i + 1)))
        (λ k. own_bin (bin_between t i small (lt→le (boundary_at i) t beyond) (subst (λ (n : ℕ). T (lt t (boundary_at n))) {x = i + 1} {y = 1 + i} (omega arith) (holds (lt t (boundary_at (i + 1))) k))))
        (λ k.
        let low = boundary_below_energy (i + 1) more in
        let up = energy_below_next (i + 1) more in
        let is = bin_between t (i + 1) more (total t (boundary_at (i + 1)) number (left_number (boundary_at (i + 1)) (energy_at (i + 1)) low) k)
        (le_lt t (energy_at (i + 1)) (boundary_at (1 + (i + 1))) number (total (energy_at (i + 1)) t (left_number (energy_at (i + 1)) (boundary_at (1 + (i + 1))) up) number h) up) in
        start_here t on_scale (ap (λ (n : ℕ). lt (energy_at n) t) is ∙ h) ∙ is)

  pub reached : (bin : ℕ) → bin ≤ 1000 → Past t bin → (bin ≡ 1000) ⊎ (lt (energy_at bin) t ≡ false) → bin ≡ start_bin t
  reached bin most (inl z) (inl e) = absurd (omega (arith, z, e))
  reached bin most (inl z) (inr h) = z ∙ sym (first_bin (ap (λ (n : ℕ). lt (energy_at n) t) (sym z) ∙ h))
  reached bin most (inr p) (inl e) =
      let back : bin - 1 + 1 ≡ bin = omega (arith, p.0) in
      sym back ∙ sym (last_bin (bin - 1) (omega (arith, p.0)) p.1 (omega (arith, e)))
  reached bin most (inr p) (inr h) =
      let back : bin - 1 + 1 ≡ bin = omega (arith, p.0) in
      sym back
      ∙ sym (by_end (bin - 1) (omega (arith, p.0)) p.1 (ap (λ (n : ℕ). lt (energy_at n) t) back ∙ h))
    where
      by_end : (i : ℕ) → i < 1000 → lt (energy_at i) t ≡ true → lt (energy_at (i + 1)) t ≡ false → start_bin t ≡ i + 1
      by_end i small past h = elim (eq-zero-or-pos (999 - i)) [
        | inl z ↦ last_bin i small past (omega (arith, z))
        | inr p ↦ next_bin i small past (omega (arith, p)) h
      ]

  -- ---- the energies rise, so those below a threshold come first
  energies_rise : (i j : ℕ) → i < j → j < 1000 → T (lt (energy_at i) (energy_at j))
  energies_rise i j h small =
      let up = energy_below_next i (omega arith) in
      lt_lt (energy_at i) (boundary_at (1 + i)) (energy_at j) up
      (le_lt (boundary_at (1 + i)) (boundary_at j) (energy_at j) (right_number (energy_at i) (boundary_at (1 + i)) up) (boundaries_rise (1 + i) j (omega arith) (omega arith)) (boundary_below_energy j small))

  pub below_first : (i j : ℕ) → i ≤ j → j < 1000 → lt (energy_at j) t ≡ true → lt (energy_at i) t ≡ true
  below_first i j h small e = elim (eq-or-lt_of_le h) [
    | inl same ↦ ap (λ (n : ℕ). lt (energy_at n) t) same ∙ e
    | inr less ↦ is_true (lt (energy_at i) t) (lt_lt (energy_at i) (energy_at j) t (energies_rise i j less small) (holds (lt (energy_at j) t) e))
  ]

  -- a table that was taken, in two: below the threshold, and not
  module _ (table : List Float) (taken : table ≡ energies) where
    entry : (i : ℕ) (d : Float) → i < 1000 → get_or table i d ≡ energy_at i
    entry i d h = get_or_default table i d nan (omega (arith, ap length taken, energies_length)) ∙ energy_entry table i taken

    pub split_below : IsPartitionedBy (λ x. lt x t) table
    split_below i j d h small e =
        let most : j < 1000 = omega (arith, ap length taken, energies_length) in
        ap (λ (x : Float). lt x t) (entry i d (omega arith)) ∙ below_first i j h most (ap (λ (x : Float). lt x t) (sym (entry j d most)) ∙ e)

    pub start_split : (bin : ℕ) → bin ≤ length table → IsPartitionPoint (λ x. lt x t ≡ true) (λ x. lt x t ≡ false) table bin → bin ≡ start_bin t
    start_split bin most (before, after) =
        let long : length table ≡ 1000 = ap length taken ∙ energies_length in
        reached bin (omega (arith, long))
        (elim (eq-zero-or-pos bin) [
          | inl z ↦ inl z
          | inr p ↦ inr (p, ap (λ (x : Float). lt x t) (sym (entry (bin - 1) nan (omega (arith, long)))) ∙ before (bin - 1) nan (omega arith) (omega arith))
        ])
        (elim (eq-or-lt_of_le most) [
          | inl same ↦ inl (same ∙ long)
          | inr less ↦ inr (ap (λ (x : Float). lt x t) (sym (entry bin nan (omega (arith, long)))) ∙ after bin nan (omega arith) less)
        ])
