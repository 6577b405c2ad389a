-- What the range answers over histograms is what Tech 3342 gives over their blocks, each with its bin's energy, with the gate that the bins' sum gives:
-- spread out bin by bin the blocks rise, a gate takes those of the first bins, and the block of a rank is of the first bin whose running count passes it.
-- Assumes nothing.
use mathlib.Core.Path.{◌≡◌, refl, sym, ap, ◌∙◌}
use mathlib.Core.Bool.{Bool, true, false, cond}
use mathlib.Core.List.{List, [], ◌∷◌, ◌++◌, append_assoc}
use Prim.Native.Nat.{ℕ, zero, suc, ◌+◌, ◌-◌, ◌≤◌, ◌<◌, zero-le}
use native.Mathlib.Nat.{le_refl}
use native.Mathlib.Omega.{arith}
use borrow.Author.Tests.{ltb-true, ltb-false, eqb-true, eqb-false}
use lib.Dec.{T, ltb, eqb}
use lib.ListN.{length, get_or, take, drop, replicate, length-append, length-drop, length-replicate, get_or-replicate, get_or-append}
use lib.Seq.{drop-nil, get_or-append-add}
use lib.Ieee.{Float, nan, lt, le}
use Rattle.base_floats.proofs.Order.{lt_not_le, is_false}
use Rattle.base_refusals.specs.Outcome.{went}
use Rattle.base_refusals.specs.Rows.{number_of}
use Rattle.bins_tables.specs.Tables.{energy_at}
use Rattle.bins.specs.Bin.{bins}
use Rattle.history_histogram.specs.Histogram.{empty}
use Rattle.history_set.specs.Set.{Histories, histories_of, chosen, set_rows}
use Rattle.gate.specs.Totals.{none, bins_from}
use Rattle.gate.specs.Start.{start_bin}
use Rattle.gate.proofs.Start.{start_most}
use Rattle.range_ranks.specs.Ranks.{low_rank, high_rank}
use Rattle.order_rules.specs.Order.{in_order}
use Rattle.order_rules.specs.Arrangement.{All, Rising}
use Rattle.order_rules.proofs.Perms.{all_join}
use Rattle.order_rules.proofs.InOrder.{rising_is}
use Rattle.range_ranks.specs.Span.{found, nothing, hundredth, gate_energy}
use Rattle.range_histograms.specs.Counted.{blocks_in, running_from, first_past, ranked_in, left_in, counted_span, added_to}
use Rattle.range.specs.Range.{queues_in, range_of}
use Rattle.acceptance_meaning.specs.Levels.{absolute_gate}
use Rattle.acceptance_meaning.specs.Range.{added, bins_gate}
use Rattle.acceptance_meaning.specs.Tech3342.{gated, percentile_rank, percentile, percentiles, range_above, blocks_from}
use Rattle.range_histograms.proofs.Counting.{count_is}
use Rattle.range_histograms.proofs.Adding.{zeros_length}
use Rattle.range_histograms.proofs.Answers.{counted_none, counted_some, left_none}
use Rattle.range.proofs.Answers.{range_counted}
use Rattle.acceptance_meaning.proofs.Arising.{added_length}
use Rattle.acceptance_meaning.proofs.Gating.{gated_all}
use Rattle.acceptance_meaning.proofs.Starting.{low_energy, energies_rise, from_start, below_start}
use Rattle.acceptance_meaning.proofs.OverQueues.{low_is, high_is}
use Rattle.acceptance_meaning.proofs.Sets.{every_bin}

-- ---- how many, and two parts
spread_length : (bin : ℕ) (l : List ℕ) → length (blocks_from bin l) ≡ blocks_in l
unfolding blocks_from blocks_in
spread_length bin [] = refl
spread_length bin (x ∷ l) =
    length-append (replicate x (energy_at bin)) (blocks_from (suc bin) l) ∙ omega (arith, length-replicate x (energy_at bin), spread_length (suc bin) l)

spread_split : (bin k : ℕ) (l : List ℕ) → blocks_from bin l ≡ blocks_from bin (take k l) ++ blocks_from (bin + k) (drop k l)
unfolding blocks_from
spread_split bin zero l = ap (λ (n : ℕ). blocks_from n l) {x = bin} {y = bin + 0} (omega arith)
spread_split bin (suc k) [] = refl
spread_split bin (suc k) (x ∷ l) =
    ap (λ (r : List Float). replicate x (energy_at bin) ++ r) (spread_split (suc bin) k l)
    ∙ sym (append_assoc (replicate x (energy_at bin)) (blocks_from (suc bin) (take k l)) (blocks_from (suc bin + k) (drop k l)))
    ∙ ap (λ (n : ℕ). replicate x (energy_at bin) ++ blocks_from (suc bin) (take k l) ++ blocks_from n (drop k l)) {x = suc bin + k} {y = bin + suc k} (omega arith)

blocks_parts : (k : ℕ) (l : List ℕ) → blocks_in (take k l) + blocks_in (drop k l) ≡ blocks_in l
unfolding blocks_in
blocks_parts zero l = omega arith
blocks_parts (suc k) [] = omega arith
blocks_parts (suc k) (x ∷ l) = omega (arith, blocks_parts k l)

-- ---- the block of a rank
ranked : (rank before bin : ℕ) (l : List ℕ) → before ≤ rank → rank < before + blocks_in l
    → energy_at (first_past rank bin (running_from before l)) ≡ get_or (blocks_from bin l) (rank - before) nan
unfolding first_past running_from blocks_in blocks_from
ranked rank before bin [] g h = absurd (omega arith)
ranked rank before bin (x ∷ l) g h =
    go (ltb rank (before + x)) refl (λ (a : before + x ≤ rank) (k : rank < before + x + blocks_in l). ranked rank (before + x) (suc bin) l a k)
  where
    go : (b : Bool) → ltb rank (before + x) ≡ b
        → (before + x ≤ rank → rank < before + x + blocks_in l
        → energy_at (first_past rank (suc bin) (running_from (before + x) l)) ≡ get_or (blocks_from (suc bin) l) (rank - (before + x)) nan)
        → energy_at (cond b bin (first_past rank (suc bin) (running_from (before + x) l))) ≡ get_or (replicate x (energy_at bin) ++ blocks_from (suc bin) l) (rank - before) nan
    go true e rest =
        let here : rank - before < x = omega (arith, ltb-true rank (before + x) e) in
        let inside : rank - before < length (replicate x (energy_at bin)) = omega (arith, length-replicate x (energy_at bin)) in
        sym (get_or-append (replicate x (energy_at bin)) (blocks_from (suc bin) l) nan (rank - before) inside
        ∙ get_or-replicate x (rank - before) (energy_at bin) nan here)
    go false e rest =
        let far : before + x ≤ rank = ltb-false rank (before + x) e in
        let near : rank < before + (x + blocks_in l) = h in
        rest far (omega arith)
        ∙ sym (ap (λ (k : ℕ). get_or (replicate x (energy_at bin) ++ blocks_from (suc bin) l) k nan)
        {x = rank - before} {y = length (replicate x (energy_at bin)) + (rank - (before + x))} (omega (arith, length-replicate x (energy_at bin)))
        ∙ get_or-append-add (replicate x (energy_at bin)) (blocks_from (suc bin) l) (rank - (before + x)) nan)

-- among the blocks from a bin on
ranked_left : (counters : List ℕ) (start r : ℕ) → r < length (blocks_from start (drop start counters))
    → ranked_in counters (r + blocks_in (take start counters)) ≡ get_or (blocks_from start (drop start counters)) r nan
ranked_left counters start r h =
    let before = blocks_in (take start counters) in
    let first = blocks_from 0 (take start counters) in
    let left = blocks_from start (drop start counters) in
    let within : r + before < 0 + blocks_in counters = omega (arith, spread_length start (drop start counters), blocks_parts start counters) in
    ranked (r + before) 0 0 counters zero-le within
    ∙ ap (λ (k : ℕ). get_or (blocks_from 0 counters) k nan) {x = r + before - 0} {y = length first + r} (omega (arith, spread_length 0 (take start counters)))
    ∙ ap (λ (l : List Float). get_or l (length first + r) nan)
    (spread_split 0 start counters ∙ ap (λ (n : ℕ). first ++ blocks_from n (drop start counters)) {x = 0 + start} {y = start} (omega arith))
    ∙ get_or-append-add first left r nan

-- ---- they rise
all_same : (P : Float → Type 0) (n : ℕ) (x : Float) → P x → All P (replicate n x)
all_same P zero x p = tt
all_same P (suc n) x p = (p, all_same P n x p)

-- what holds of the energy of every bin from one on holds of every block from there on
spread_all : (P : Float → Type 0) (from : ℕ) → ((b : ℕ) → from ≤ b → b < bins → P (energy_at b)) → (bin : ℕ) (l : List ℕ) → from ≤ bin → bin + length l ≤ bins
    → All P (blocks_from bin l)
unfolding blocks_from
spread_all P from p bin [] h g = tt
spread_all P from p bin (x ∷ l) h g =
    all_join P (replicate x (energy_at bin)) (blocks_from (suc bin) l) (all_same P x (energy_at bin) (p bin h (omega arith)))
    (spread_all P from p (suc bin) l (omega arith) (omega arith))

run_rising : (x : Float) (n : ℕ) (r : List Float) → T (le x x) → All (λ y. T (le x y)) r → Rising r
    → All (λ y. T (le x y)) (replicate n x ++ r) × Rising (replicate n x ++ r)
run_rising x zero r s a b = (a, b)
run_rising x (suc n) r s a b = let k = run_rising x n r s a b in ((s, k.0), (k.0, k.1))

spread_rises : (bin : ℕ) (l : List ℕ) → bin + length l ≤ bins → Rising (blocks_from bin l)
unfolding blocks_from
spread_rises bin [] g = tt
spread_rises bin (x ∷ l) g =
    (run_rising (energy_at bin) x (blocks_from (suc bin) l) (energies_rise bin bin (le_refl bin) (omega arith))
    (spread_all (λ y. T (le (energy_at bin) y)) bin (λ b h k. energies_rise bin b h k) (suc bin) l (omega arith) (omega arith))
    (spread_rises (suc bin) l (omega arith))).1

-- ---- a gate
gated_run : (gate x : Float) (n : ℕ) (r : List Float) → lt x gate ≡ true → gated gate (replicate n x ++ r) ≡ gated gate r
unfolding gated
gated_run gate x zero r e = refl
gated_run gate x (suc n) r e =
    ap (λ (b : Bool). cond b (gated gate (replicate n x ++ r)) (x ∷ gated gate (replicate n x ++ r))) e ∙ gated_run gate x n r e

gated_spread : (gate : Float) (bin : ℕ) (l : List ℕ) → bin + length l ≤ bins
    → gated gate (blocks_from bin l) ≡ blocks_from (bin + (start_bin gate - bin)) (drop (start_bin gate - bin) l)
unfolding blocks_from gated
gated_spread gate bin [] g = sym (ap (blocks_from (bin + (start_bin gate - bin))) (drop-nil (start_bin gate - bin)))
gated_spread gate bin (x ∷ l) g = go (ltb bin (start_bin gate)) refl (gated_spread gate (suc bin) l (omega arith))
  where
    go : (b : Bool) → ltb bin (start_bin gate) ≡ b
        → gated gate (blocks_from (suc bin) l) ≡ blocks_from (suc bin + (start_bin gate - suc bin)) (drop (start_bin gate - suc bin) l)
        → gated gate (blocks_from bin (x ∷ l)) ≡ blocks_from (bin + (start_bin gate - bin)) (drop (start_bin gate - bin) (x ∷ l))
    go true e rest =
        let before : bin < start_bin gate = ltb-true bin (start_bin gate) e in
        gated_run gate (energy_at bin) x (blocks_from (suc bin) l) (below_start gate bin (omega arith) before)
        ∙ rest
        ∙ ap (λ (n : ℕ). blocks_from n (drop (start_bin gate - suc bin) l)) {x = suc bin + (start_bin gate - suc bin)} {y = bin + (start_bin gate - bin)} (omega arith)
        ∙ ap (λ (n : ℕ). blocks_from (bin + (start_bin gate - bin)) (drop n (x ∷ l))) {x = suc (start_bin gate - suc bin)} {y = start_bin gate - bin} (omega arith)
    go false e rest =
        let after : start_bin gate ≤ bin = ltb-false bin (start_bin gate) e in
        gated_all gate (blocks_from bin (x ∷ l)) (spread_all (λ y. lt y gate ≡ false) bin (λ b h k. from_start gate b k (omega arith)) bin (x ∷ l) (le_refl bin) g)
        ∙ ap (λ (n : ℕ). blocks_from n (x ∷ l)) {x = bin} {y = bin + (start_bin gate - bin)} (omega arith)
        ∙ ap (λ (n : ℕ). blocks_from (bin + (start_bin gate - bin)) (drop n (x ∷ l))) {x = 0} {y = start_bin gate - bin} (omega arith)

-- ---- the range
module _ (counters : List ℕ) (whole : length counters ≡ bins) (gate : Float) where
  abbrev left : List Float
  left = blocks_from (start_bin gate) (drop (start_bin gate) counters)

  abbrev before : ℕ
  before = blocks_in (take (start_bin gate) counters)

  left_is : gated gate (gated absolute_gate (blocks_from 0 counters)) ≡ left
  left_is =
      ap (gated gate) (gated_all absolute_gate (blocks_from 0 counters)
      (spread_all (λ y. lt y absolute_gate ≡ false) 0 (λ b h k. is_false (lt (energy_at b) absolute_gate) (λ t. lt_not_le (energy_at b) absolute_gate t (low_energy b k))) 0 counters (le_refl 0) (omega arith)))
      ∙ gated_spread gate 0 counters (omega arith)
      ∙ ap (λ (n : ℕ). blocks_from n (drop (start_bin gate - 0) counters)) {x = 0 + (start_bin gate - 0)} {y = start_bin gate} (omega arith)
      ∙ ap (λ (n : ℕ). blocks_from (start_bin gate) (drop n counters)) {x = start_bin gate - 0} {y = start_bin gate} (omega arith)

  left_rises : in_order left ≡ left
  left_rises = rising_is left (spread_rises (start_bin gate) (drop (start_bin gate) counters) (omega (arith, start_most gate, length-drop (start_bin gate) counters)))

  at_rank : (r p : ℕ) → r < length left → r ≡ p → ranked_in counters (r + before) ≡ get_or (in_order left) p nan
  at_rank r p h e =
      ranked_left counters (start_bin gate) r h ∙ ap (λ (k : ℕ). get_or left k nan) e ∙ ap (λ (l : List Float). get_or l p nan) (sym left_rises)

  left_percentiles : left_in counters before (length left) ≡ percentiles left
  unfolding left_in percentiles
  left_percentiles = go (eqb (length left) 0) refl
    where
      go : (b : Bool) → eqb (length left) 0 ≡ b
          → cond b nothing (found (ranked_in counters (low_rank (length left - 1) + before)) (ranked_in counters (high_rank (length left - 1) + before)))
          ≡ cond b nothing (found (percentile 10 left) (percentile 95 left))
      go true e = refl
      go false e =
          let some : 0 < length left = omega (arith, eqb-false (length left) 0 e) in
          ap (λ (x : Float). found x (ranked_in counters (high_rank (length left - 1) + before)))
          (at_rank (low_rank (length left - 1)) (percentile_rank 10 (length left)) (omega arith) (low_is (length left)))
          ∙ ap (λ (x : Float). found (percentile 10 left) x)
          (at_rank (high_rank (length left - 1)) (percentile_rank 95 (length left)) (omega arith) (high_is (length left)))

  left_count : blocks_in counters - before ≡ length left
  left_count = omega (arith, spread_length (start_bin gate) (drop (start_bin gate) counters), blocks_parts (start_bin gate) counters)

counted_left : (counters : List ℕ) (before : ℕ) → before ≡ blocks_in (take (start_bin (gate_energy (bins_from none 0 counters))) counters)
    → counted_span counters ≡ left_in counters before ((bins_from none 0 counters).count - before)
counted_left counters before e = go (eqb (bins_from none 0 counters).count 0) refl
  where
    go : (b : Bool) → eqb (bins_from none 0 counters).count 0 ≡ b → counted_span counters ≡ left_in counters before ((bins_from none 0 counters).count - before)
    go true f =
        let none_counted : (bins_from none 0 counters).count ≡ 0 = eqb-true (bins_from none 0 counters).count 0 f in
        counted_none counters none_counted ∙ sym (left_none counters before ((bins_from none 0 counters).count - before) (omega arith))
    go false f = counted_some counters (bins_from none 0 counters) before refl (eqb-false (bins_from none 0 counters).count 0 f) e

pub counted_is_tech3342 : (counters : List ℕ) → length counters ≡ bins
    → counted_span counters ≡ range_above (gate_energy (bins_from none 0 counters)) (blocks_from 0 counters)
counted_is_tech3342 counters whole =
    let gate = gate_energy (bins_from none 0 counters) in
    let before = blocks_in (take (start_bin gate) counters) in
    counted_left counters before refl
    ∙ ap (left_in counters before) {x = (bins_from none 0 counters).count - before} {y = length (blocks_from (start_bin gate) (drop (start_bin gate) counters))}
    (omega (arith, count_is none 0 counters, left_count counters whole gate))
    ∙ left_percentiles counters whole gate
    ∙ sym (ap percentiles (left_is counters whole gate))

-- the gate of 01, from running totals, is the document's
gate_of_bins : (counters : List ℕ) → gate_energy (bins_from none 0 counters) ≡ bins_gate counters
unfolding hundredth
gate_of_bins counters = ap gate_energy (sym (every_bin none 0 counters))

-- over a set of histograms that nothing refuses
pub range_of_histograms_lem : (h : Histories) (work : List Float) → number_of (set_rows h) ≡ 0 → queues_in (histories_of h) ≡ 0
    → range_of h work ≡ went work (range_above (bins_gate (added h)) (blocks_from 0 (added h)))
unfolding empty
range_of_histograms_lem h work s q =
    let counters = added_to (replicate bins 0) (histories_of h) in
    range_counted h work q s
    ∙ ap (went work) (counted_is_tech3342 counters (added_length h.counters h.energies (chosen h) (replicate bins 0) ∙ zeros_length))
    ∙ ap (λ (gate : Float). went work (range_above gate (blocks_from 0 counters))) (gate_of_bins counters)
