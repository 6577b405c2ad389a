-- One channel weighed: what is left of it gives what the whole of it gives, and a frame keeps it so. Assumes nothing.
use Prim.Native.Nat.{ℕ, ◌+◌, ◌-◌, ◌≤◌, ◌<◌}
use native.Mathlib.Omega.{arith}
use mathlib.Core.Path.{◌≡◌, refl, ap, sym, subst, ◌∙◌}
use mathlib.Core.List.{List, map}
use lib.ListN.{length, length-set, length-map, set, get_or}
use lib.Seq.{sets}
use lib.Ieee.{Float, nan}
use Rattle.samples.specs.Frames.{column, most_channels}
use Rattle.filter_recurrence.specs.declared.Memory.{Memory}
use Rattle.samples.specs.Stretches.{Reach}
use Rattle.filter_recurrence.specs.Recurrence.{head, output, next, out, after, outs}
use Rattle.samples.proofs.Reaching.{reach_here, reach_rest}
use Rattle.filter_recurrence.proofs.Moving.{turn_after, turn_outs, none_after, none_outs}

-- from memory m and a destination, `left` frames of a channel give this memory and this destination
pub record Single (a b stretch : List Float) (step : ℕ) (one : Memory) (whole : List Float) (m : Memory) (i j left : ℕ) (dest : List Float) : Type 0 where
  pub reach : Reach i step left (length stretch)
  pub room : j + left ≤ length dest
  pub memory : after a m (column stretch i step left) ≡ one
  pub given : sets dest j (outs a b m (column stretch i step left)) ≡ whole

-- the same at places and a number of frames that are the same
pub moved : (P : ℕ → ℕ → ℕ → Type 0) (i j left i' j' left' : ℕ) → i ≡ i' → j ≡ j' → left ≡ left' → P i j left → P i' j' left'
moved P i j left i' j' left' e g h p = subst (P i' j') h (subst (λ (k : ℕ). P i' k left) g (subst (λ (k : ℕ). P k j left) e p))

module _ {a b stretch : List Float} {step : ℕ} {one : Memory} {whole : List Float} {m : Memory} {i j left : ℕ} {dest : List Float} (f : Single a b stretch step one whole m i j left dest) where
  -- a frame
  pub turn : (m' : Memory) (dest' : List Float) → 0 < left → m' ≡ next a m (get_or stretch i nan) → dest' ≡ set dest j (out a b m (get_or stretch i nan))
      → Single a b stretch step one whole m' (i + step) (j + 1) (left - 1) dest'
  unfolding next out
  turn m' dest' some em ed =
      let x = get_or stretch i nan in
      let u = output b m (head a m x) in
      let here = reach_here i step left (length stretch) some f.reach in
      record {
        reach = reach_rest i step left (length stretch) some f.reach;
        room = omega (arith, ap length ed ∙ length-set dest j u, f.room);
        memory = turn_after a b m stretch i step left some here (head a m x) u m' refl em ∙ f.memory;
        given =
            ap (λ (d : List Float). sets d (j + 1) (outs a b m' (column stretch (i + step) step (left - 1)))) ed
            ∙ turn_outs a b m stretch i step left some here (head a m x) u m' refl em refl dest j
            ∙ f.given;
      }

  -- where the frame stands, and the one after it
  pub here : 0 < left → (i < length stretch) × (j < length dest)
  here some = (reach_here i step left (length stretch) some f.reach, omega (arith, f.room))

  pub following : 1 < left → (i + step < length stretch) × ((j + 1 < length dest) × (step ≤ most_channels))
  following two =
      let r = reach_rest i step left (length stretch) (omega arith) f.reach in
      (reach_here (i + step) step (left - 1) (length stretch) (omega arith) r, (omega (arith, f.room), r.few))

  pub at : (i0 j0 left0 : ℕ) → i ≡ i0 → j ≡ j0 → left ≡ left0 → Single a b stretch step one whole m i0 j0 left0 dest
  at i0 j0 left0 ei ej el = moved (λ p q k. Single a b stretch step one whole m p q k dest) i j left i0 j0 left0 ei ej el f

  -- no frames left
  pub end : left ≡ 0 → (m ≡ one) × (dest ≡ whole)
  end z = (sym (none_after a m stretch i step left z) ∙ f.memory, sym (none_outs a b m stretch i step left dest j z) ∙ f.given)

module _ {a b stretch : List Float} {step : ℕ} {one : Memory} {whole : List Float} {m : Memory} {i j left : ℕ} {dest : List Float} (f : Single a b stretch step one whole m i j left dest) where
  -- two frames
  pub twice : (m1 m2 : Memory) (d1 d2 : List Float) (i2 j2 left2 : ℕ) → 1 < left → i + step + step ≡ i2 → j + 2 ≡ j2 → left - 2 ≡ left2
      → m1 ≡ next a m (get_or stretch i nan) → d1 ≡ set dest j (out a b m (get_or stretch i nan))
      → m2 ≡ next a m1 (get_or stretch (i + step) nan) → d2 ≡ set d1 (j + 1) (out a b m1 (get_or stretch (i + step) nan))
      → Single a b stretch step one whole m2 i2 j2 left2 d2
  twice m1 m2 d1 d2 i2 j2 left2 two ei ej el em ed em1 ed1 =
      moved (λ p q k. Single a b stretch step one whole m2 p q k d2) (i + step + step) (j + 1 + 1) (left - 1 - 1) i2 j2 left2 ei (omega arith) (omega arith)
      (turn (turn f m1 d1 (omega arith) em ed) m2 d2 (omega arith) em1 ed1)

-- all frames are left
pub start : (a b stretch : List Float) (step : ℕ) (m : Memory) (i j left : ℕ) (dest : List Float) (i0 j0 left0 : ℕ) → i ≡ i0 → j ≡ j0 → left ≡ left0
    → Reach i step left (length stretch) → j + left ≤ length dest
    → Single a b stretch step (after a m (column stretch i step left)) (sets dest j (outs a b m (column stretch i step left))) m i0 j0 left0 dest
start a b stretch step m i j left dest i0 j0 left0 ei ej el r room =
    moved (λ p q k. Single a b stretch step (after a m (column stretch i step left)) (sets dest j (outs a b m (column stretch i step left))) m p q k dest) i j left i0 j0 left0 ei ej el
    (record { reach = r; room = room; memory = refl; given = refl })

-- the samples reach as far as the floats that they become
pub reach_by : {A : Type 0} (float : A → Float) (samples : List A) {i step left : ℕ} → Reach i step left (length samples) → Reach i step left (length (map float samples))
reach_by float samples {i} {step} {left} r = subst (λ (n : ℕ). Reach i step left n) (sym (length-map samples float)) r
