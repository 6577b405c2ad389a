-- `range_histograms::together` meets its contract. The invariant: the histories that are left, on top of what was added, give what all give. Assumes nothing.
use Rattle.std.proofs.Common.{ℕ, List, [], ◌*◌, ◌≤◌, length, sym, ap, ◌∙◌, arith}
use Rattle.base_refusals.specs.Outcome.{says}
use Rattle.history_histogram.specs.Histogram.{largest_count}
use Rattle.history_set.specs.Set.{all_show, counters_end}
use Rattle.history_set.proofs.Entries.{every_at}
use Rattle.range_histograms.specs.Counted.{added_to, counted_span}
use Rattle.range_histograms.proofs.Adding.{empty_is, zeros_most, added_turn, added_end}
use Rattle.range_histograms.proofs.together.Goals as goal

pub loop-entry-init : goal.loop-entry-init
loop-entry-init c = record {
  few = λ (bin : ℕ). omega (arith, zeros_most bin);
  same = ap (λ (l : List ℕ). added_to l (all_show c.args.counters.now [] c.args.entries.now)) empty_is;
}

pub add_history-requires : goal.add_history-requires
add_history-requires c = (
  every_at (λ entry. counters_end entry.shape ≤ length c.args.counters.now) c.args.entries.now c.loop-entry.entry-index (omega arith) c.requires.1,
  λ (bin : ℕ). omega (arith, c.loop-entry.invariant.few bin),
)

pub loop-entry-preserved : goal.loop-entry-preserved
loop-entry-preserved c =
    let i = c.loop-entry.entry-index in record {
      few = λ (bin : ℕ). omega (arith, c.add_history.ensures.1 (i * largest_count) c.loop-entry.invariant.few bin);
      same =
          added_turn c.args.counters.now c.args.entries.now i c.loop-entry.added (omega arith) c.add_history.new.added c.add_history.ensures.0
          ∙ c.loop-entry.invariant.same;
    }

pub returns : goal.returns
returns c =
    c.span_of.ensures
    ∙ ap (λ (l : List ℕ). says (counted_span l))
    (sym (added_end c.args.counters.now c.args.entries.now c.loop-entry.entry-index c.loop-entry.added (omega arith)) ∙ c.loop-entry.invariant.same)
