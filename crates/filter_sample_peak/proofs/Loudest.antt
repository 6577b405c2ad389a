-- The sample peak: a channel's samples in turn, and the channels. Assumes nothing.
use Prim.Native.Nat.{ℕ, zero, suc, ◌+◌, ◌-◌, ◌*◌, ◌/◌, ◌≤◌, ◌<◌}
use native.Mathlib.Nat.{not-suc-le-zero}
use native.Mathlib.Numerals.{add-one}
use native.Mathlib.Omega.{arith}
use mathlib.Core.Path.{◌≡◌, refl, ap, sym, subst, ◌∙◌}
use mathlib.Core.List.{List, map}
use lib.ListN.{length, length-map, get_or, set, length-set}
use lib.Seq.{get_or-set_same, get_or-set_other}
use lib.Ieee.{Float, nan}
use Rattle.samples.specs.Frames.{silence, frames_of, column, channel_of}
use Rattle.base_floats.specs.Entry.{plus_zero}
use Rattle.base_floats.specs.Largest.{magnitude, greater, greatest, largest}
use Rattle.filter_sample_peak.specs.Peak.{over_channels, peaks_after}
use Rattle.base_floats.proofs.Magnitude.{largest_append}
use Rattle.samples.proofs.Columns.{within, frames_of_lem, column_append}

-- ---- samples

pub next_largest : (top high : Float) (l : List Float) (i s n : ℕ) → i + n * s < length l → high ≡ largest top (column l i s n)
    → greater high (magnitude (get_or l (i + n * s) nan)) ≡ largest top (column l i s (n + 1))
unfolding greatest column
next_largest top high l i s n here e =
    ap (λ (t : Float). greater t (magnitude (get_or l (i + n * s) nan))) e
    ∙ ap (λ (x : Float). greater (largest top (column l i s n)) (magnitude x)) (within l (i + n * s) nan silence here)
    ∙ sym (largest_append top (column l i s n) (column l (i + n * s) s 1))
    ∙ ap (largest top) (sym (column_append l i s n 1))

pub none_largest : (top : Float) (l : List Float) (i s n : ℕ) → n ≡ 0 → largest top (column l i s n) ≡ top
unfolding greatest column
none_largest top l i s n e = ap (λ (k : ℕ). largest top (column l i s k)) e

-- what the frames of a stretch do to channel k's top
abbrev pub peaks : List Float → ℕ → ℕ → ℕ → Float → Float
peaks stretch channels count k top = largest top (column stretch k channels count)

-- what a call does to channel k's peak
abbrev pub raises : List Float → ℕ → Float → Float
raises tops k peak = greater peak (get_or tops k nan)

-- ---- channels: n of them from channel k on

pub channels_length : (f : ℕ → Float → Float) (n k : ℕ) (v : List Float) → length (over_channels f n k v) ≡ length v
unfolding over_channels
channels_length f zero k v = refl
channels_length f (suc n) k v = channels_length f n (suc k) (set v k (f k (get_or v k nan))) ∙ length-set v k (f k (get_or v k nan))

channels_before : (f : ℕ → Float → Float) (n k j : ℕ) (v : List Float) → j < k → get_or (over_channels f n k v) j nan ≡ get_or v j nan
unfolding over_channels
channels_before f zero k j v h = refl
channels_before f (suc n) k j v h =
    channels_before f n (suc k) j (set v k (f k (get_or v k nan))) (omega arith) ∙ get_or-set_other v k j (f k (get_or v k nan)) nan (λ e. omega arith)

-- a channel's value afterwards is its own value changed, whatever the other channels hold
pub channels_own : (f : ℕ → Float → Float) (n k i : ℕ) (v : List Float) → i < n → k + n ≤ length v → get_or (over_channels f n k v) (k + i) nan ≡ f (k + i) (get_or v (k + i) nan)
unfolding over_channels
channels_own f zero k i v h few = absurd (not-suc-le-zero h)
channels_own f (suc n) k zero v h few =
    let e : k + 0 ≡ k = omega arith in
    let u = set v k (f k (get_or v k nan)) in
    ap (λ (j : ℕ). get_or (over_channels f n (suc k) u) j nan) e
    ∙ channels_before f n (suc k) k u (omega arith)
    ∙ get_or-set_same v k (f k (get_or v k nan)) nan (omega arith)
    ∙ ap (λ (j : ℕ). f j (get_or v j nan)) (sym e)
channels_own f (suc n) k (suc i) v h few =
    let e : k + suc i ≡ suc k + i = omega arith in
    let u = set v k (f k (get_or v k nan)) in
    ap (λ (j : ℕ). get_or (over_channels f n (suc k) u) j nan) e
    ∙ channels_own f n (suc k) i u (omega arith) (simp length-set (omega arith))
    ∙ ap (f (suc k + i)) (get_or-set_other v k (suc k + i) (f k (get_or v k nan)) nan (λ q. omega arith))
    ∙ ap (λ (j : ℕ). f j (get_or v j nan)) (sym e)

pub channels_first : (f : ℕ → Float → Float) (n i : ℕ) (v : List Float) → i < n → n ≤ length v → get_or (over_channels f n 0 v) i nan ≡ f i (get_or v i nan)
channels_first f n i v h few =
    let e : 0 + i ≡ i = omega arith in
    subst (λ (j : ℕ). get_or (over_channels f n 0 v) j nan ≡ f j (get_or v j nan)) e (channels_own f n 0 i v h (omega arith))

-- the channels past them keep theirs
pub channels_past : (f : ℕ → Float → Float) (n k j : ℕ) (v : List Float) → k + n ≤ j → get_or (over_channels f n k v) j nan ≡ get_or v j nan
unfolding over_channels
channels_past f zero k j v h = refl
channels_past f (suc n) k j v h =
    channels_past f n (suc k) j (set v k (f k (get_or v k nan))) (omega arith) ∙ get_or-set_other v k j (f k (get_or v k nan)) nan (λ e. omega arith)

-- two changes that agree on the channels in question
pub channels_same : (f g : ℕ → Float → Float) (n k : ℕ) (v : List Float) → ((j : ℕ) (x : Float) → j < k + n → f j x ≡ g j x) → over_channels f n k v ≡ over_channels g n k v
unfolding over_channels
channels_same f g zero k v h = refl
channels_same f g (suc n) k v h =
    ap (λ (x : Float). over_channels f n (suc k) (set v k x)) (h k (get_or v k nan) (omega arith))
    ∙ channels_same f g n (suc k) (set v k (g k (get_or v k nan))) (λ j x q. h j x (omega arith))

-- none done yet
pub channels_start : (f : ℕ → Float → Float) (n : ℕ) (v : List Float) → over_channels f (n - 0) 0 v ≡ over_channels f n 0 v
channels_start f n v = let e : n - 0 ≡ n = omega arith in ap (λ (k : ℕ). over_channels f k 0 v) e

-- one channel more
pub channels_again : (f : ℕ → Float → Float) (n k : ℕ) (v v' : List Float) → k < n → v' ≡ set v k (f k (get_or v k nan)) → over_channels f (n - (k + 1)) (k + 1) v' ≡ over_channels f (n - k) k v
unfolding over_channels
channels_again f n k v v' h e =
    let m : n - k ≡ suc (n - (k + 1)) = omega arith in
    ap (over_channels f (n - (k + 1)) (k + 1)) e
    ∙ ap (λ (j : ℕ). over_channels f (n - (k + 1)) j (set v k (f k (get_or v k nan)))) (add-one k)
    ∙ sym (ap (λ (j : ℕ). over_channels f j k v) m)

pub channels_end : (f : ℕ → Float → Float) (n k : ℕ) (v : List Float) → n ≤ k → over_channels f (n - k) k v ≡ v
unfolding over_channels
channels_end f n k v h = let z : n - k ≡ 0 = omega arith in ap (λ (j : ℕ). over_channels f j k v) z

-- the call, from each channel's largest magnitude over the frames that the code counts
pub peaks_are : {A : Type 0} (f : A → Float) (samples : List A) (stored tops : List Float) (channels : ℕ) → 0 < channels
    → ((k : ℕ) → k < channels → get_or tops k nan ≡ largest plus_zero (column (map f samples) k channels (length samples / channels)))
    → over_channels (raises tops) channels 0 stored ≡ peaks_after channels (map f samples) stored
unfolding peaks_after channel_of
peaks_are f samples stored tops channels some h =
    let floats = map f samples in
    let frames : length samples / channels ≡ frames_of channels (length floats) =
    ap (λ (n : ℕ). n / channels) (sym (length-map samples f)) ∙ sym (frames_of_lem channels (length floats) some) in
    channels_same (raises tops) (λ k peak. greater peak (largest plus_zero (column floats k channels (length samples / channels)))) channels 0 stored (λ k x q. ap (greater x) (h k (omega arith)))
    ∙ ap (λ (n : ℕ). over_channels (λ k peak. greater peak (largest plus_zero (column floats k channels n))) channels 0 stored) frames
