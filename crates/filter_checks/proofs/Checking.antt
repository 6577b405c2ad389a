-- The checks of a call: what a call that passes has, found by the refusal's name. All bytes of a map are admitted where each is. Assumes nothing.
use Prim.Native.Nat.{ℕ, ◌+◌, ◌*◌, ◌/◌, ◌%◌, ◌≤◌, ◌<◌}
use native.Mathlib.Nat.{div-add-mod'}
use native.Mathlib.Omega.{arith}
use mathlib.Core.Path.{◌≡◌, refl, ap, sym}
use mathlib.Core.List.{List, [], ◌∷◌}
use Rattle.std.specs.List.{list_all}
use mathlib.Core.Bool.{Bool, true, false, not, ◌&&◌, ◌||◌, true≢false}
use borrow.Author.Tests.{eqb-true, eqb-false, eq-eqb, ne_eqb, ltb-false, not-false, le-ltb}
use lib.Dec.{ltb, eqb}
use lib.ListN.{length}
use Rattle.base_refusals.specs.declared.Refusal.TheVariants.{CHANNELS, SAMPLES, MAP, DEST}
use Rattle.base_refusals.specs.Rows.{number_of}
use Rattle.base_refusals.proofs.Rows.{not_held, number_parts}
use Rattle.filter_checks.specs.declared.Sizes.{Sizes}
use Rattle.filter_checks.specs.Calls.{admits, all_admitted, wrong_channels, wrong_samples, wrong_map, wrong_dest, frame_rows, map_rows, dest_rows, seed_rows, process_rows}
use Rattle.samples.specs.Frames.{most_channels}
use Rattle.samples.specs.Stretches.{Framed}

-- ---- map bytes

pub all_of_each : (map : List ℕ) → all_admitted map ≡ list_all admits map
unfolding all_admitted
all_of_each [] = refl
all_of_each (byte ∷ bytes) = ap (λ (b : Bool). admits byte && b) (all_of_each bytes)

-- ---- what is not wrong

neither : (a b : Bool) → (a || b) ≡ false → (a ≡ false) × (b ≡ false)
neither true b e = absurd (true≢false e)
neither false b e = (refl, e)

framed : (channels samples : ℕ) → wrong_channels channels ≡ false → wrong_samples channels samples ≡ false → Framed channels samples
framed channels samples c s =
    let p = neither (eqb channels 0) (ltb most_channels channels) c in
    let z = eqb-false channels 0 p.0 in
    let w = eqb-true (samples % channels) 0 (not-false _ s) in
    record {
      some = omega arith;
      few = ltb-false most_channels channels p.1;
      whole = omega (arith, div-add-mod' samples channels);
    }

-- the map has a byte for each channel
mapped : (channels : ℕ) (map : List ℕ) → wrong_map channels map ≡ false → channels ≡ length map
mapped channels map e =
    let m = neither (not (eqb (length map) channels)) (not (all_admitted map)) e in
    sym (eqb-true (length map) channels (not-false _ m.0))

-- the destination has a part for each channel, and room in it
pub record Roomy (s : Sizes) : Type 0 where
  pub parts : s.room / s.channels * s.channels ≡ s.room
  pub fits : s.start + s.samples / s.channels ≤ s.room / s.channels

roomy : (s : Sizes) → wrong_dest s ≡ false → Roomy s
roomy s e =
    let d = neither (eqb s.room 0) (not (eqb (s.room % s.channels) 0) || ltb (s.room / s.channels) (s.start + s.samples / s.channels)) e in
    let f = neither (not (eqb (s.room % s.channels) 0)) (ltb (s.room / s.channels) (s.start + s.samples / s.channels)) d.1 in
    let w = eqb-true (s.room % s.channels) 0 (not-false _ f.0) in
    record { parts = omega (arith, div-add-mod' s.room s.channels); fits = ltb-false (s.room / s.channels) (s.start + s.samples / s.channels) f.1 }

-- ---- what a call that passes has

pub frames_fine : (channels samples : ℕ) → number_of (frame_rows channels samples) ≡ 0 → Framed channels samples
unfolding frame_rows
frames_fine channels samples e =
    let rows = frame_rows channels samples in
    framed channels samples (not_held CHANNELS rows e) (not_held SAMPLES rows e)

-- whole frames of 1 to 8 channels pass
pub frames_pass : (channels samples : ℕ) → 0 < channels → channels ≤ most_channels → samples % channels ≡ 0 → number_of (frame_rows channels samples) ≡ 0
unfolding frame_rows
frames_pass channels samples some few whole =
    rw (ne_eqb channels 0 (λ e. omega arith), le-ltb most_channels channels few, eq-eqb (samples % channels) 0 whole)

-- a call of `seed`
pub record Seeds (channels samples : ℕ) (map : List ℕ) : Type 0 where
  pub frames : Framed channels samples
  pub bytes : channels ≡ length map

pub seed_frames : (channels samples : ℕ) (map : List ℕ) → number_of (seed_rows channels samples map) ≡ 0 → number_of (frame_rows channels samples) ≡ 0
seed_frames channels samples map e = (number_parts (frame_rows channels samples) (map_rows channels map) e).0

pub seeds : (channels samples : ℕ) (map : List ℕ) → number_of (seed_rows channels samples map) ≡ 0 → Seeds channels samples map
unfolding frame_rows map_rows
seeds channels samples map e =
    record { frames = frames_fine channels samples (seed_frames channels samples map e); bytes = mapped channels map (not_held MAP (seed_rows channels samples map) e) }

-- a call of `process`, with loudness on
pub record Processes (s : Sizes) (map : List ℕ) : Type 0 where
  pub seed : Seeds s.channels s.samples map
  pub room : Roomy s

pub process_seeds : (loudness : Bool) (s : Sizes) (map : List ℕ) → number_of (process_rows loudness s map) ≡ 0 → number_of (seed_rows s.channels s.samples map) ≡ 0
process_seeds loudness s map e = (number_parts (seed_rows s.channels s.samples map) (dest_rows loudness s) e).0

pub processes : (s : Sizes) (map : List ℕ) → number_of (process_rows true s map) ≡ 0 → Processes s map
unfolding frame_rows map_rows dest_rows
processes s map e =
    record {
      seed = seeds s.channels s.samples map (process_seeds true s map e);
      room = roomy s (not_held DEST (process_rows true s map) e);
    }
