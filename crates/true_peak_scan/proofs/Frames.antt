-- The largest phase of some frames, whatever the order in which they are compared: each place of a phase raises a peak of its own, and the largest of these is what all phases in order
-- make of the peak. Magnitudes that do not beat each other are the same, as f32 holds each number in one way. Assumes nothing.
use Rattle.std.proofs.Common.{◌≡◌, ℕ, zero, suc, ◌+◌, ◌*◌, ◌<◌, ◌≤◌, false, true≢false, List, [], ◌∷◌, length, get_or, take, refl, sym, ap, subst, ◌∙◌, arith}
use mathlib.Core.Logic.{◌⊎◌, inl, inr}
use native.Mathlib.Nat.{not-suc-le-zero, le_of_suc-le-suc, le_antisymm, eq-or-lt_of_le}
use borrow.Author.Tests.{ltb-false}
use lib.Dec.{T}
use lib.Ieee.{Float, nan, inf, fin, binary32, up, down, lt, is_nan, fits, mul}
use lib.Ieee.Fits.{down_pos, add-fits, nan-fits}
use Rattle.base_floats.specs.Entry.{plus_zero}
use Rattle.base_floats.specs.Largest.{magnitude, greater, greatest, largest}
use Rattle.base_floats.proofs.Magnitude.{magnitude_fits, largest_append}
use Rattle.base_floats.proofs.Value.{same_float}
use Rattle.true_peak_interp.specs.declared.Interp.{Interp}
use Rattle.true_peak_interp.specs.Phase.{plus, summed, phases_from, phases_by}
use Rattle.true_peak_scan.specs.Line.{back, phases_over}
use Rattle.true_peak_scan.proofs.Tops.{Top, top_none, top_one, top_as, top_then, top_join, Same, one_top}

-- ---- the largest magnitude of a list
record In (xs : List Float) (v : Float) : Type 0 where
  pub place : ℕ
  pub there : place < length xs
  pub same : v ≡ magnitude (get_or xs place nan)

top_list : (p : Float) (xs : List Float) → Top p (In xs) (largest p xs)
unfolding greatest
top_list p [] = top_none p (In []) (λ v s. not-suc-le-zero s.there)
top_list p (x ∷ xs) =
    let a = magnitude x in
    top_then p (λ v. v ≡ a) (In xs) (In (x ∷ xs)) first later split (greater p a) (largest (greater p a) xs) (top_one p a (λ v. v ≡ a) refl (λ v e. e)) (top_list (greater p a) xs)
  where
    first : (v : Float) → v ≡ magnitude x → In (x ∷ xs) v
    first v e = record { place = 0; there = omega arith; same = e }

    later : (v : Float) → In xs v → In (x ∷ xs) v
    later v s = record { place = suc s.place; there = let h = s.there in omega arith; same = s.same }

    by_place : (v : Float) (i : ℕ) → i < suc (length xs) → v ≡ magnitude (get_or (x ∷ xs) i nan) → (v ≡ magnitude x) ⊎ In xs v
    by_place v zero h e = inl e
    by_place v (suc i) h e = inr (record { place = i; there = le_of_suc-le-suc h; same = e })

    split : (v : Float) → In (x ∷ xs) v → (v ≡ magnitude x) ⊎ In xs v
    split v s = by_place v s.place s.there s.same

module _ (phases : List Float → List Float) (line : List Float) (factor : ℕ) (sizes : (at : ℕ) → length (phases (back line at 24)) ≡ factor) where
  -- ---- the magnitudes of n frames from frame `at` on
  pub record Heard (at n : ℕ) (v : Float) : Type 0 where
    pub frame : ℕ
    pub from : at ≤ frame
    pub to : frame < at + n
    pub place : ℕ
    pub within : place < factor
    pub same : v ≡ magnitude (get_or (phases (back line frame 24)) place nan)

  pub top_frames : (p : Float) (at n : ℕ) → Top p (Heard at n) (largest p (phases_over phases line at n))
  unfolding greatest phases_over
  top_frames p at zero = top_none p (Heard at zero) (λ v s. let h = s.from in let g = s.to in omega arith)
  top_frames p at (suc n) =
      let xs = phases (back line at 24) in
      let ys = phases_over phases line (suc at) n in
      subst (Top p (Heard at (suc n))) (sym (largest_append p xs ys))
      (top_then p (In xs) (Heard (suc at) n) (Heard at (suc n)) first later split (largest p xs) (largest (largest p xs) ys) (top_list p xs) (top_frames (largest p xs) (suc at) n))
    where
      first : (v : Float) → In (phases (back line at 24)) v → Heard at (suc n) v
      first v s = record { frame = at; from = omega arith; to = omega arith; place = s.place; within = let h = s.there in omega (arith, sizes at); same = s.same }

      later : (v : Float) → Heard (suc at) n v → Heard at (suc n) v
      later v s = record { frame = s.frame; from = let h = s.from in omega arith; to = let h = s.to in omega arith; place = s.place; within = s.within; same = s.same }

      by_frame : (v : Float) → (s : Heard at (suc n) v) → (at ≡ s.frame) ⊎ (at < s.frame) → In (phases (back line at 24)) v ⊎ Heard (suc at) n v
      by_frame v s (inl e) = inl (record {
        place = s.place;
        there = let h = s.within in omega (arith, sizes at);
        same = s.same ∙ ap (λ (k : ℕ). magnitude (get_or (phases (back line k 24)) s.place nan)) (sym e);
      })
      by_frame v s (inr l) = inr (record { frame = s.frame; from = l; to = let h = s.to in omega arith; place = s.place; within = s.within; same = s.same })

      split : (v : Float) → Heard at (suc n) v → In (phases (back line at 24)) v ⊎ Heard (suc at) n v
      split v s = by_frame v s (eq-or-lt_of_le s.from)

  -- ---- one place of the phases, over the first n frames
  pub record Lane (place n : ℕ) (v : Float) : Type 0 where
    pub frame : ℕ
    pub to : frame < n
    pub same : v ≡ magnitude (get_or (phases (back line frame 24)) place nan)

  pub lane_start : (p : Float) (place : ℕ) → Top p (Lane place 0) p
  lane_start p place = top_none p (Lane place 0) (λ v s. not-suc-le-zero s.to)

  pub lane_turn : (p : Float) (place n : ℕ) (t : Float) → Top p (Lane place n) t → Top p (Lane place (n + 1)) (greater t (magnitude (get_or (phases (back line n 24)) place nan)))
  lane_turn p place n t h =
      let a = magnitude (get_or (phases (back line n 24)) place nan) in
      top_then p (Lane place n) (λ v. v ≡ a) (Lane place (n + 1)) old new split t (greater t a) h (top_one t a (λ v. v ≡ a) refl (λ v e. e))
    where
      old : (v : Float) → Lane place n v → Lane place (n + 1) v
      old v s = record { frame = s.frame; to = let g = s.to in omega arith; same = s.same }

      new : (v : Float) → v ≡ magnitude (get_or (phases (back line n 24)) place nan) → Lane place (n + 1) v
      new v e = record { frame = n; to = omega arith; same = e }

      by_frame : (v : Float) (s : Lane place (n + 1) v) → (s.frame ≡ n) ⊎ (s.frame < n) → Lane place n v ⊎ (v ≡ magnitude (get_or (phases (back line n 24)) place nan))
      by_frame v s (inl e) = inr (s.same ∙ ap (λ (k : ℕ). magnitude (get_or (phases (back line k 24)) place nan)) e)
      by_frame v s (inr l) = inl (record { frame = s.frame; to = l; same = s.same })

      split : (v : Float) → Lane place (n + 1) v → Lane place n v ⊎ (v ≡ magnitude (get_or (phases (back line n 24)) place nan))
      split v s = by_frame v s (eq-or-lt_of_le (let g = s.to in omega arith))

  -- ---- the first m places
  pub record Lanes (m n : ℕ) (v : Float) : Type 0 where
    pub place : ℕ
    pub within : place < m
    pub lane : Lane place n v

  pub lanes_start : (p : Float) (n : ℕ) → Top p (Lanes 0 n) p
  lanes_start p n = top_none p (Lanes 0 n) (λ v s. not-suc-le-zero s.within)

  pub lanes_turn : (p : Float) (m n : ℕ) (t u : Float) → Top p (Lanes m n) t → Top p (Lane m n) u → Top p (Lanes (m + 1) n) (greater t u)
  lanes_turn p m n t u h g = top_join p (Lanes m n) (Lane m n) (Lanes (m + 1) n) old new split t u h g
    where
      old : (v : Float) → Lanes m n v → Lanes (m + 1) n v
      old v s = record { place = s.place; within = let k = s.within in omega arith; lane = s.lane }

      new : (v : Float) → Lane m n v → Lanes (m + 1) n v
      new v s = record { place = m; within = omega arith; lane = s }

      by_place : (v : Float) (s : Lanes (m + 1) n v) → (s.place ≡ m) ⊎ (s.place < m) → Lanes m n v ⊎ Lane m n v
      by_place v s (inl e) = inr (subst (λ (k : ℕ). Lane k n v) e s.lane)
      by_place v s (inr l) = inl (record { place = s.place; within = l; lane = s.lane })

      split : (v : Float) → Lanes (m + 1) n v → Lanes m n v ⊎ Lane m n v
      split v s = by_place v s (eq-or-lt_of_le (let k = s.within in omega arith))

  -- ---- all places are all phases
  pub lanes_end : (p : Float) (m n : ℕ) (t : Float) → m ≡ factor → Top p (Lanes m n) t → Top p (Heard 0 n) t
  lanes_end p m n t e h = top_as p (Lanes m n) (Heard 0 n) there back_ t h
    where
      there : (v : Float) → Lanes m n v → Heard 0 n v
      there v s = record { frame = s.lane.frame; from = omega arith; to = let k = s.lane.to in omega arith; place = s.place; within = let k = s.within in omega (arith, e); same = s.lane.same }

      back_ : (v : Float) → Heard 0 n v → Lanes m n v
      back_ v s = record { place = s.place; within = let k = s.within in omega (arith, e); lane = record { frame = s.frame; to = let k = s.to in omega arith; same = s.same } }

-- ---- magnitudes of values that f32 holds: two that do not beat each other are the same
one_magnitude : (x y : Float) → T (fits binary32 x) → T (fits binary32 y) → is_nan (magnitude x) ≡ false → is_nan (magnitude y) ≡ false
    → lt (magnitude x) (magnitude y) ≡ false → lt (magnitude y) (magnitude x) ≡ false → magnitude x ≡ magnitude y
unfolding lt is_nan
one_magnitude nan y f g a b h k = absurd (true≢false a)
one_magnitude (inf s) nan f g a b h k = absurd (true≢false b)
one_magnitude (inf s) (inf t) f g a b h k = refl
one_magnitude (inf s) (fin t n d) f g a b h k = absurd (true≢false k)
one_magnitude (fin s m e) nan f g a b h k = absurd (true≢false b)
one_magnitude (fin s m e) (inf t) f g a b h k = absurd (true≢false h)
one_magnitude (fin s m e) (fin t n d) f g a b h k =
    same_float binary32 (fin false m e) (fin false n d) false (n * up d) (down d) (down_pos d) (magnitude_fits binary32 (fin s m e) f) (magnitude_fits binary32 (fin t n d) g)
    (refl, le_antisymm (ltb-false (n * up d * down e) (m * up e * down d) k) (ltb-false (m * up e * down d) (n * up d * down e) h)) (refl, refl)

summed_fits : (taps : List Float) (factor j : ℕ) (sum : Float) (xs : List Float) → T (fits binary32 sum) → T (fits binary32 (summed taps factor j sum xs))
unfolding summed
summed_fits taps factor j sum [] h = h
summed_fits taps factor j sum (x ∷ xs) h = summed_fits taps factor (j + factor) (plus sum x (get_or taps j nan)) xs (add-fits binary32 sum (mul binary32 x (get_or taps j nan)))

zero_fits : T (fits binary32 plus_zero)
unfolding fits
zero_fits = tt

phase_fits : (taps : List Float) (factor : ℕ) (samples : List Float) (f n i : ℕ) → T (fits binary32 (get_or (phases_from taps factor samples f n) i nan))
unfolding phases_from
phase_fits taps factor samples f zero i = nan-fits binary32
phase_fits taps factor samples f (suc n) zero = summed_fits taps factor f plus_zero samples zero_fits
phase_fits taps factor samples f (suc n) (suc i) = phase_fits taps factor samples (suc f) n i

phases_size : (taps : List Float) (factor : ℕ) (samples : List Float) (f n : ℕ) → length (phases_from taps factor samples f n) ≡ n
unfolding phases_from
phases_size taps factor samples f zero = refl
phases_size taps factor samples f (suc n) = ap suc (phases_size taps factor samples (suc f) n)

module _ (taps : List Float) (i : Interp) (line : List Float) where
  pub sizes_by : (at : ℕ) → length (phases_by taps i (back line at 24)) ≡ i.factor
  unfolding phases_by
  sizes_by at = phases_size taps i.factor (take i.taps (back line at 24)) 0 i.factor

  fits_by : (at place : ℕ) → T (fits binary32 (get_or (phases_by taps i (back line at 24)) place nan))
  unfolding phases_by
  fits_by at place = phase_fits taps i.factor (take i.taps (back line at 24)) 0 i.factor place

  same_heard : (at n : ℕ) → Same (Heard (phases_by taps i) line i.factor sizes_by at n)
  same_heard at n v w s t a b h k =
      let x = get_or (phases_by taps i (back line s.frame 24)) s.place nan in
      let y = get_or (phases_by taps i (back line t.frame 24)) t.place nan in
      s.same
      ∙ one_magnitude x y (fits_by s.frame s.place) (fits_by t.frame t.place)
      (subst (λ (z : Float). is_nan z ≡ false) s.same a) (subst (λ (z : Float). is_nan z ≡ false) t.same b)
      (ap (λ (z : Float). lt z (magnitude y)) (sym s.same) ∙ ap (λ (z : Float). lt v z) (sym t.same) ∙ h)
      (ap (λ (z : Float). lt z (magnitude x)) (sym t.same) ∙ ap (λ (z : Float). lt w z) (sym s.same) ∙ k)
      ∙ sym t.same

  -- the largest of the places' peaks is what all phases in order make of the peak
  pub scanned : (p : Float) (m n : ℕ) (t : Float) → m ≡ i.factor → Top p (Lanes (phases_by taps i) line i.factor sizes_by m n) t → t ≡ largest p (phases_over (phases_by taps i) line 0 n)
  scanned p m n t e h =
      one_top p (Heard (phases_by taps i) line i.factor sizes_by 0 n) (same_heard 0 n) t (largest p (phases_over (phases_by taps i) line 0 n))
      (lanes_end (phases_by taps i) line i.factor sizes_by p m n t e h)
      (top_frames (phases_by taps i) line i.factor sizes_by p 0 n)
