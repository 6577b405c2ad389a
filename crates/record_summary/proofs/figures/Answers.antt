-- `record_summary::figures` meets its contract, by each answer of the range. Assumes nothing.
use Rattle.std.proofs.Common.{◌≡◌, ℕ, List, [], map, sym, ap, ◌∙◌}
use Rattle.base_refusals.specs.Refusal.{number}
use Rattle.range_histograms.specs.Counted.{blocks_in}
use Rattle.range_histograms.proofs.Counting.{as_they_are}
use Rattle.range.specs.Range.{found, nothing, not_a_number, range_of}
use Rattle.record_summary.specs.Summary.{alone, figures_of}
use Rattle.record_summary.proofs.Ranges.{span_figures, refused_figures}
use Rattle.record_summary.proofs.figures.Goals as goal

-- the blocks of all bins
total : (counters : List ℕ) (blocks : ℕ) → blocks ≡ blocks_in (map (λ (count : ℕ). count) counters) → blocks ≡ blocks_in counters
total counters blocks e = e ∙ ap blocks_in (as_they_are counters)

pub returns-in-Found : goal.returns-in-Found
unfolding figures_of alone
returns-in-Found c =
    let counters = c.args.counters.now in
    rw (c.saturating_sub.ensures, c.find_histogram_index-low.ensures, c.find_histogram_index-high.ensures, total counters c.blocks-blocks.result c.blocks-blocks.ensures)
    (sym (span_figures (blocks_in counters) (range_of (alone counters) []) (found c.in-Found.low c.in-Found.high) c.in-Found.ensures.0))

pub returns-in-Nothing : goal.returns-in-Nothing
unfolding figures_of alone
returns-in-Nothing c =
    let counters = c.args.counters.now in
    rw (total counters c.blocks-blocks.result c.blocks-blocks.ensures) (sym (span_figures (blocks_in counters) (range_of (alone counters) []) nothing c.in-Nothing.ensures.0))

pub returns-in-NotANumber : goal.returns-in-NotANumber
unfolding figures_of alone
returns-in-NotANumber c =
    let counters = c.args.counters.now in
    rw (total counters c.blocks-blocks.result c.blocks-blocks.ensures) (sym (span_figures (blocks_in counters) (range_of (alone counters) []) not_a_number c.in-NotANumber.ensures.0))

pub returns-in-Refused : goal.returns-in-Refused
unfolding figures_of alone
returns-in-Refused c =
    let counters = c.args.counters.now in
    sym (refused_figures (blocks_in counters) (range_of (alone counters) []) (number c.in-Refused.refusal) c.in-Refused.ensures.0)
