-- The largest magnitude by lanes: lane j of a stretch has every `lanes`-th place from j on, and `each` lanes are of one channel.
-- The largest of the lanes' largest is the channel's, for a largest magnitude is the same in whatever order the places are taken. Assumes nothing.
use Prim.Native.Nat.{ℕ, zero, suc, ◌+◌, ◌*◌, ◌/◌, ◌%◌, ◌≤◌, ◌<◌}
use native.Mathlib.Nat.{suc-mul, add-mul, mul_assoc, mul_comm, mul-le-mul_right, div-add-mod', mod-lt, not-suc-le-zero, lt_of_not-le, lt_irrefl, eq-zero-or-pos, zero-mul}
use native.Mathlib.Omega.{arith}
use mathlib.Core.Path.{◌≡◌, refl, ap, sym, subst, ◌∙◌}
use mathlib.Core.Logic.{◌⊎◌, inl, inr}
use mathlib.Core.Bool.{false, true≢false}
use mathlib.Core.List.{List, [], ◌∷◌, ◌++◌}
use lib.Dec.{T}
use lib.ListN.{length, get_or}
use lib.Ieee.{Float, nan, binary64, lt, is_nan, fits}
use Rattle.base_floats.proofs.Order.{is_true, is_false, right_number, beaten}
use Rattle.samples.specs.Frames.{silence, column}
use Rattle.samples.proofs.Columns.{within}
use Rattle.base_floats.specs.Entry.{plus_zero}
use Rattle.base_floats.specs.Largest.{magnitude, greater, greatest, largest}
use Rattle.base_floats.proofs.Magnitude.{magnitude_again, High}
use Rattle.filter_sample_peak.proofs.Cutting.{largest_cut}
use Rattle.filter_sample_peak.proofs.Tops.{Top, Stands, top_of, one_top, same_magnitudes}

-- what a turn does to lane j's top
abbrev pub turn : List Float → ℕ → Float → Float
turn places j top = greater top (magnitude (get_or places j nan))

-- one turn, before those after it
pub next_turn : (places after : List Float) (lanes j : ℕ) (top : Float) → length places ≡ lanes → j < lanes
    → largest (turn places j top) (column after j lanes (length after / lanes)) ≡ largest top (column (places ++ after) j lanes (length (places ++ after) / lanes))
unfolding greatest column
next_turn places after lanes j top e h =
    ap (λ (x : Float). largest (greater top (magnitude x)) (column after j lanes (length after / lanes))) (within places j nan silence (omega arith))
    ∙ largest_cut places after lanes 1 (omega arith) top j h

-- ---- how many lanes there are

pub within_lanes : (c : ℕ) → 24 / c * c ≤ 24
within_lanes c = omega (arith, div-add-mod' 24 c)

pub fits_past_end : (l : List Float) (i : ℕ) → T (fits binary64 (get_or l i nan)) → T (fits binary64 (get_or l i silence))
unfolding fits
fits_past_end [] i h = tt
fits_past_end (x ∷ l) zero h = h
fits_past_end (x ∷ l) (suc i) h = fits_past_end l i h

-- ---- a channel's lanes

module _ (stretch lanes : List Float) (channels each turns k : ℕ) (own : k < channels) (room : each * channels ≤ length lanes)
    (filled : (j : ℕ) → j < each * channels → get_or lanes j nan ≡ largest plus_zero (column stretch j (each * channels) turns)) where
  lane : ℕ → Float
  lane i = get_or lanes (k + i * channels) silence

  Part : ℕ → Float → Type 0
  Part i = Stands stretch (k + i * channels) (each * channels) turns

  inside : (i : ℕ) → i < each → k + i * channels < each * channels
  inside i h = omega (arith, suc-mul i channels, mul-le-mul_right channels h)

  lane_top : (i : ℕ) → i < each → Top plus_zero (Part i) (lane i)
  unfolding lane Part
  lane_top i h =
      let p = inside i h in
      subst (Top plus_zero (Stands stretch (k + i * channels) (each * channels) turns))
      (sym (within lanes (k + i * channels) silence nan (omega arith) ∙ filled (k + i * channels) p))
      (top_of plus_zero stretch (k + i * channels) (each * channels) turns)

  -- a lane's top is a magnitude, and a number
  lane_magnitude : (i : ℕ) → i < each → magnitude (lane i) ≡ lane i
  unfolding lane Part
  lane_magnitude i h = go (lane_top i h).whence
    where
      go : (lane i ≡ plus_zero) ⊎ (T (lt plus_zero (lane i)) × Part i (lane i)) → magnitude (lane i) ≡ lane i
      go (inl e) = ap magnitude e ∙ sym e
      go (inr s) = ap magnitude s.1.same ∙ magnitude_again (get_or stretch (k + i * channels + s.1.turn * (each * channels)) silence) ∙ sym s.1.same

  lane_number : (i : ℕ) → i < each → is_nan (lane i) ≡ false
  unfolding lane is_nan
  lane_number i h = go (lane_top i h).whence
    where
      go : (lane i ≡ plus_zero) ⊎ (T (lt plus_zero (lane i)) × Part i (lane i)) → is_nan (lane i) ≡ false
      go (inl e) = ap is_nan e
      go (inr s) = right_number plus_zero (lane i) s.0

  -- the frame at turn q of lane i
  frame_place : (q i : ℕ) → k + (q * each + i) * channels ≡ k + i * channels + q * (each * channels)
  frame_place q i = omega (arith, add-mul (q * each) i channels, mul_assoc q each channels)

  soon : (q i : ℕ) → q < turns → i < each → q * each + i < each * turns
  soon q i h g = omega (arith, suc-mul q each, mul-le-mul_right each h, mul_comm turns each)

  turn_of : (r : ℕ) → r < each * turns → 0 < each
  turn_of r h = elim (eq-zero-or-pos each) [
    | inl z ↦ absurd (not-suc-le-zero (subst (λ (n : ℕ). r < n) (ap (λ (n : ℕ). n * turns) z ∙ zero-mul turns) h))
    | inr p ↦ p
  ]

  turn_soon : (r : ℕ) → r < each * turns → r / each < turns
  turn_soon r h = lt_of_not-le (λ g. lt_irrefl r (omega (arith, h, mul-le-mul_right each g, mul_comm turns each, div-add-mod' r each)))

  pub lanes_top : (p z : Float) → High p → Top p (Stands lanes k channels each) z → Top p (Stands stretch k channels (each * turns)) z
  unfolding lane Part
  lanes_top p z high t = record { whence = from t.whence; unbeaten = unbeaten }
    where
      stands : (s : Stands lanes k channels each z) → T (lt p z) → (lane s.turn ≡ plus_zero) ⊎ (T (lt plus_zero (lane s.turn)) × Part s.turn (lane s.turn)) → Stands stretch k channels (each * turns) z
      stands s h (inl e) =
          absurd (true≢false (sym (is_true (lt p plus_zero) (subst (λ (x : Float). T (lt p x)) (s.same ∙ ap magnitude e) h)) ∙ high))
      stands s h (inr u) = record {
        turn = u.1.turn * each + s.turn;
        soon = soon u.1.turn s.turn u.1.soon s.soon;
        same = s.same ∙ ap magnitude u.1.same ∙ magnitude_again (get_or stretch (k + s.turn * channels + u.1.turn * (each * channels)) silence) ∙ ap (λ (i : ℕ). magnitude (get_or stretch i silence)) (sym (frame_place u.1.turn s.turn));
      }

      from : (z ≡ p) ⊎ (T (lt p z) × Stands lanes k channels each z) → (z ≡ p) ⊎ (T (lt p z) × Stands stretch k channels (each * turns) z)
      from (inl e) = inl e
      from (inr s) = inr (s.0, stands s.1 s.0 (lane_top s.1.turn s.1.soon).whence)

      unbeaten : (v : Float) → Stands stretch k channels (each * turns) v → lt z v ≡ false
      unbeaten v s =
          let r = s.turn in
          let some = turn_of r s.soon in
          let i = r % each in
          let few : i < each = mod-lt r some in
          let here : Part i v = record {
            turn = r / each;
            soon = turn_soon r s.soon;
            same = s.same ∙ ap (λ (n : ℕ). magnitude (get_or stretch (k + n * channels) silence)) (sym (div-add-mod' r each)) ∙ ap (λ (n : ℕ). magnitude (get_or stretch n silence)) (frame_place (r / each) i);
          } in
          let top : lt z (lane i) ≡ false = ap (lt z) (sym (lane_magnitude i few)) ∙ t.unbeaten (magnitude (lane i)) (record { turn = i; soon = few; same = refl }) in
          is_false (lt z v) (λ h. subst T ((lane_top i few).unbeaten v here) (beaten z (lane i) v (lane_number i few) top h))

  pub lanes_give : (p : Float) → High p → ((i : ℕ) → T (fits binary64 (get_or stretch i nan)))
      → largest p (column lanes k channels each) ≡ largest p (column stretch k channels (turns * each))
  lanes_give p high f =
      one_top p (Stands stretch k channels (each * turns)) (same_magnitudes stretch k channels (each * turns) (λ i. fits_past_end stretch i (f i)))
      (largest p (column lanes k channels each)) (largest p (column stretch k channels (each * turns)))
      (lanes_top p (largest p (column lanes k channels each)) high (top_of p lanes k channels each)) (top_of p stretch k channels (each * turns))
      ∙ ap (λ (n : ℕ). largest p (column stretch k channels n)) (mul_comm each turns)
