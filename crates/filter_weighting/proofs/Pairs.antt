-- Two channels weighed side by side: the first is told by its memory, the second by the law of one channel over what the first leaves.
-- The outputs of the first stand before those of the second, so an output of the second may be stored before the first's are all there. Assumes nothing.
use Prim.Native.Nat.{ℕ, ◌+◌, ◌-◌, ◌≤◌, ◌<◌}
use native.Mathlib.Nat.{suc-mul}
use native.Mathlib.Omega.{arith}
use mathlib.Core.Path.{◌≡◌, refl, ap, sym, ◌∙◌}
use mathlib.Core.List.{List, [], ◌∷◌}
use lib.ListN.{length, set, get_or}
use lib.Seq.{sets, length-sets}
use lib.Ieee.{Float, nan}
use Rattle.samples.specs.Frames.{column, most_channels}
use Rattle.samples.proofs.Columns.{length_column}
use Rattle.filter_recurrence.specs.declared.Memory.{Memory}
use Rattle.samples.specs.Stretches.{Reach}
use Rattle.filter_recurrence.specs.Recurrence.{head, next, out, after, outs}
use Rattle.filter_recurrence.specs.Channels.{memory_of, with_memory}
use Rattle.filter_recurrence.proofs.Memories.{memory_above}
use Rattle.filter_weighting.specs.declared.channels.Work.{Work}
use Rattle.filter_weighting.specs.Inner.{memory_in, outs_in, given_in, place_of, kept_of, weigh_one}
use Rattle.filter_recurrence.proofs.Moving.{turn_after, turn_outs, none_after, none_outs, length_outs}
use Rattle.samples.proofs.Stores.{sets_comm}
use Rattle.filter_weighting.proofs.Single.{Single, moved, turn, here, following, end}

-- from memories m and n and a destination, `left` frames of two neighbouring channels give these memories and this destination
pub record Both (a b stretch : List Float) (step part : ℕ) (one two : Memory) (whole : List Float) (m n : Memory) (i j left : ℕ) (dest : List Float) : Type 0 where
  pub apart : left ≤ part
  pub first : after a m (column stretch i step left) ≡ one
  pub second : Single a b stretch step two whole n (i + 1) (j + part) left (sets dest j (outs a b m (column stretch i step left)))

module _ {a b stretch : List Float} {step part : ℕ} {one two : Memory} {whole : List Float} {m n : Memory} {i j left : ℕ} {dest : List Float} (f : Both a b stretch step part one two whole m n i j left dest) where
  -- a frame of each
  pub both_turn : (m' n' : Memory) (dest' : List Float) → 0 < left → m' ≡ next a m (get_or stretch i nan) → n' ≡ next a n (get_or stretch (i + 1) nan)
      → dest' ≡ set (set dest j (out a b m (get_or stretch i nan))) (j + part) (out a b n (get_or stretch (i + 1) nan))
      → Both a b stretch step part one two whole m' n' (i + step) (j + 1) (left - 1) dest'
  unfolding next out
  both_turn m' n' dest' some em en ed =
      let near : i < length stretch = omega (arith, (here f.second some).0) in
      let x = get_or stretch i nan in
      let u = out a b m x in
      let v = out a b n (get_or stretch (i + 1) nan) in
      let mine = outs a b m' (column stretch (i + step) step (left - 1)) in
      let size : length mine ≡ left - 1 = length_outs a b m' (column stretch (i + step) step (left - 1)) ∙ length_column stretch (i + step) step (left - 1) in
      let stores : sets dest' (j + 1) mine ≡ set (sets dest j (outs a b m (column stretch i step left))) (j + part) v =
      ap (λ (d : List Float). sets d (j + 1) mine) ed
      ∙ sym (sets_comm mine (v ∷ []) (set dest j u) (j + 1) (j + part) (omega (arith, size, f.apart)))
      ∙ ap (λ (d : List Float). set d (j + part) v) (turn_outs a b m stretch i step left some near (head a m x) u m' refl em refl dest j) in
      record {
        apart = omega (arith, f.apart);
        first = turn_after a b m stretch i step left some near (head a m x) u m' refl em ∙ f.first;
        second =
            moved (λ p q k. Single a b stretch step two whole n' p q k (sets dest' (j + 1) mine)) (i + 1 + step) (j + part + 1) (left - 1) (i + step + 1) (j + 1 + part) (left - 1) (omega arith) (omega arith) refl
            (turn f.second n' (sets dest' (j + 1) mine) some en stores);
      }

  size : length (sets dest j (outs a b m (column stretch i step left))) ≡ length dest
  size = length-sets dest j (outs a b m (column stretch i step left))

  -- where the frame after this one stands
  pub both_next : 1 < left → (i + step + 1 < length stretch) × ((j + 1 + part < length dest) × (step ≤ most_channels))
  both_next more = let h = following f.second more in (omega (arith, h.0), (omega (arith, h.1.0, size), h.1.1))

  pub both_at : (i0 j0 left0 : ℕ) → i ≡ i0 → j ≡ j0 → left ≡ left0 → Both a b stretch step part one two whole m n i0 j0 left0 dest
  both_at i0 j0 left0 ei ej el = moved (λ p q k. Both a b stretch step part one two whole m n p q k dest) i j left i0 j0 left0 ei ej el f

  -- no frames left
  pub both_end : left ≡ 0 → (m ≡ one) × ((n ≡ two) × (dest ≡ whole))
  both_end z =
      let e = end f.second z in
      (sym (none_after a m stretch i step left z) ∙ f.first, (e.0, sym (none_outs a b m stretch i step left dest j z) ∙ e.1))

module _ {a b stretch : List Float} {step part : ℕ} {one two : Memory} {whole : List Float} {m n : Memory} {i j left : ℕ} {dest : List Float} (f : Both a b stretch step part one two whole m n i j left dest) where
  -- two frames of each
  pub both_twice : (m1 n1 m2 n2 : Memory) (d1 d2 : List Float) (i2 j2 left2 : ℕ) → 1 < left → i + step + step ≡ i2 → j + 2 ≡ j2 → left - 2 ≡ left2
      → m1 ≡ next a m (get_or stretch i nan) → n1 ≡ next a n (get_or stretch (i + 1) nan)
      → d1 ≡ set (set dest j (out a b m (get_or stretch i nan))) (j + part) (out a b n (get_or stretch (i + 1) nan))
      → m2 ≡ next a m1 (get_or stretch (i + step) nan) → n2 ≡ next a n1 (get_or stretch (i + step + 1) nan)
      → d2 ≡ set (set d1 (j + 1) (out a b m1 (get_or stretch (i + step) nan))) (j + 1 + part) (out a b n1 (get_or stretch (i + step + 1) nan))
      → Both a b stretch step part one two whole m2 n2 i2 j2 left2 d2
  both_twice m1 n1 m2 n2 d1 d2 i2 j2 left2 more ei ej el em en ed em1 en1 ed1 =
      moved (λ p q k. Both a b stretch step part one two whole m2 n2 p q k d2) (i + step + step) (j + 1 + 1) (left - 1 - 1) i2 j2 left2 ei (omega arith) (omega arith)
      (both_turn (both_turn f m1 n1 d1 (omega arith) em en ed) m2 n2 d2 (omega arith) em1 en1 ed1)

-- all frames are left
pub both_start : (a b stretch : List Float) (step part : ℕ) (m n : Memory) (i j left : ℕ) (dest : List Float) (i0 j0 left0 : ℕ) → i ≡ i0 → j ≡ j0 → left ≡ left0
    → Reach (i + 1) step left (length stretch) → left ≤ part → j + part + left ≤ length dest
    → let mine = outs a b m (column stretch i step left) in
    let other = column stretch (i + 1) step left in
    Both a b stretch step part (after a m (column stretch i step left)) (after a n other) (sets (sets dest j mine) (j + part) (outs a b n other)) m n i0 j0 left0 dest
both_start a b stretch step part m n i j left dest i0 j0 left0 ei ej el r h room =
    let mine = outs a b m (column stretch i step left) in
    let other = column stretch (i + 1) step left in
    moved (λ p q k. Both a b stretch step part (after a m (column stretch i step left)) (after a n other) (sets (sets dest j mine) (j + part) (outs a b n other)) m n p q k dest) i j left i0 j0 left0 ei ej el
    (record { apart = h; first = refl; second = record { reach = r; room = omega (arith, room, length-sets dest j mine); memory = refl; given = refl } })

-- ---- both in state and destination

pub pair_is : (work : Work) (samples : List Float) (k : ℕ) (v d : List Float)
    → let m = memory_in work samples k (memory_of v k) in
    let n = memory_in work samples (k + 1) (memory_of v (k + 1)) in
    kept_of (with_memory (with_memory v k m) (k + 1) n) (sets (sets d (place_of work k) (given_in work samples v k)) (place_of work k + work.part) (given_in work samples v (k + 1)))
    ≡ weigh_one work samples (k + 1) (weigh_one work samples k (kept_of v d))
pair_is work samples k v d =
    let m = memory_in work samples k (memory_of v k) in
    let mine = sets d (place_of work k) (given_in work samples v k) in
    let e = sym (memory_above v k (k + 1) m (omega arith)) in
    let p : place_of work k + work.part ≡ place_of work (k + 1) = omega (arith, suc-mul k work.part) in
    λ i. kept_of (with_memory (with_memory v k m) (k + 1) (memory_in work samples (k + 1) (e i))) (sets mine (p i) (outs_in work samples (k + 1) (e i)))
