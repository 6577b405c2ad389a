-- What the range of counters comes to, case by case. Assumes nothing.
use mathlib.Core.Path.{◌≡◌, refl, sym, ap, ◌∙◌}
use mathlib.Core.Bool.{Bool, true, false}
use mathlib.Core.List.{List}
use Prim.Native.Nat.{ℕ, ◌+◌, ◌-◌, ◌≤◌, ◌<◌}
use borrow.Author.Tests.{eq-eqb, ne_eqb, lt-ltb, le-ltb, ltb-true, ltb-false}
use lib.Dec.{ltb}
use lib.ListN.{length, take}
use lib.Ieee.{Float}
use Rattle.bins_tables.specs.Tables.{energy_at}
use Rattle.bins.specs.Bin.{bins}
use Rattle.history_set.specs.Set.{counters_at}
use Rattle.gate.specs.declared.blocks.Totals.{Totals}
use Rattle.gate.specs.Totals.{none, bins_from, from_bin}
use Rattle.gate.specs.Start.{start_bin}
use Rattle.gate.proofs.Running.{not_there, there}
use Rattle.range_ranks.specs.Ranks.{low_rank, high_rank}
use Rattle.range_ranks.specs.Span.{found, nothing, gate_energy}
use Rattle.range_one.specs.Counted.{blocks_in, running_from, first_past, ranked_in, left_in, gated_blocks, counted_span, span_at}

module _ (counters : List ℕ) where
  pub counted_none : (bins_from none 0 counters).count ≡ 0 → counted_span counters ≡ nothing
  unfolding counted_span
  counted_none e = rw (eq-eqb (bins_from none 0 counters).count 0 e)

  pub counted_some : (totals : Totals) (before : ℕ) → totals ≡ bins_from none 0 counters → (totals.count ≡ 0 → ⊥)
      → before ≡ blocks_in (take (start_bin (gate_energy totals)) counters) → counted_span counters ≡ left_in counters before (totals.count - before)
  unfolding counted_span gated_blocks
  counted_some totals before e z b = rw (← e, ne_eqb totals.count 0 z, b)

  pub left_none : (before left : ℕ) → left ≡ 0 → left_in counters before left ≡ nothing
  unfolding left_in
  left_none before left e = rw (eq-eqb left 0 e)

  pub left_found : (before left : ℕ) → (left ≡ 0 → ⊥)
      → left_in counters before left ≡ found (ranked_in counters (low_rank (left - 1) + before)) (ranked_in counters (high_rank (left - 1) + before))
  unfolding left_in
  left_found before left z = rw (ne_eqb left 0 z)

  -- the energies of the bins found
  pub left_read : (before left rank_low rank_high low high : ℕ) → (left ≡ 0 → ⊥) → rank_low ≡ low_rank (left - 1)
      → rank_high ≡ high_rank (left - 1) → low ≡ first_past (rank_low + before) 0 (running_from 0 counters)
      → high ≡ first_past (rank_high + before) 0 (running_from 0 counters) → found (energy_at low) (energy_at high) ≡ left_in counters before left
  left_read before left rank_low rank_high low high z p q e f =
      ap (λ (x : Float). found x (energy_at high)) (ap energy_at e ∙ ap (λ (k : ℕ). ranked_in counters (k + before)) p)
      ∙ ap (λ (x : Float). found (ranked_in counters (low_rank (left - 1) + before)) x)
      (ap energy_at f ∙ ap (λ (k : ℕ). ranked_in counters (k + before)) q)
      ∙ sym (left_found before left z)

-- ---- a histogram among the counters: it is not there, or it is
module _ (counters : List ℕ) (start : ℕ) where
  pub span_nowhere : length counters < start + bins → span_at counters start ≡ nothing
  unfolding span_at
  span_nowhere h = rw (lt-ltb (length counters) (start + bins) h)

  pub span_there : start + bins ≤ length counters → span_at counters start ≡ counted_span (counters_at counters start)
  unfolding span_at
  span_there h = rw (le-ltb (length counters) (start + bins) h)

  -- no block at all, and some
  pub span_none : (from_bin none.sum counters start 0).count ≡ 0 → span_at counters start ≡ nothing
  span_none e = go (ltb (length counters) (start + bins)) refl
    where
      go : (b : Bool) → ltb (length counters) (start + bins) ≡ b → span_at counters start ≡ nothing
      go true h = span_nowhere (ltb-true (length counters) (start + bins) h)
      go false h =
          let inside = ltb-false (length counters) (start + bins) h in
          span_there inside
          ∙ counted_none (counters_at counters start) (ap (λ (totals : Totals). totals.count) (sym (there none.sum counters start 0 inside)) ∙ e)

  pub blocks_there : ((from_bin none.sum counters start 0).count ≡ 0 → ⊥) → start + bins ≤ length counters
  blocks_there z = go (ltb (length counters) (start + bins)) refl
    where
      go : (b : Bool) → ltb (length counters) (start + bins) ≡ b → start + bins ≤ length counters
      go true h = absurd (z (ap (λ (totals : Totals). totals.count) (not_there none.sum counters start 0 (ltb-true (length counters) (start + bins) h))))
      go false h = ltb-false (length counters) (start + bins) h
