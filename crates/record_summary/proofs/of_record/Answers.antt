-- `record_summary::of_record` meets its contract: the counters are empty before the record is read. Assumes nothing.
use mathlib.Core.Path.{sym, ap, ◌∙◌}
use mathlib.Core.List.{List}
use Prim.Native.Nat.{ℕ}
use Rattle.base_refusals.specs.Refusal.{number}
use Rattle.base_refusals.specs.Outcome.{said_by, kept_by}
use Rattle.history_histogram.specs.Histogram.{empty}
use Rattle.record_histogram.specs.Record.{read_histogram}
use Rattle.record_summary.specs.Summary.{figures_of, summary_of}
use Rattle.range_histograms.proofs.Adding.{empty_is}
use Rattle.record_summary.proofs.Ranges.{read_figures, unread_figures}
use Rattle.std.proofs.lemmas.Result.{err_from_is_err_and}
use Rattle.record_summary.proofs.of_record.Goals as goal

pub returns-in_err-read_histogram : goal.returns-in_err-read_histogram
unfolding summary_of
returns-in_err-read_histogram c =
    let bytes = c.args.bytes.now in
    let answered = c.in_err-read_histogram.ensures.0 ∙ ap (λ (l : List ℕ). said_by (read_histogram bytes l)) empty_is in
    let p = err_from_is_err_and c.from_residual.result c.from_residual.ensures.1 in
    rw (p.1, p.2) (sym (unread_figures (read_histogram bytes empty) (number c.in_err-read_histogram.field-0.0) answered))

pub returns : goal.returns
unfolding summary_of
returns c =
    let bytes = c.args.bytes.now in
    let left = c.read_histogram.ensures.1 ∙ ap (λ (l : List ℕ). kept_by l (read_histogram bytes l)) empty_is in
    let answered = c.in_ok-read_histogram.ensures.0 ∙ ap (λ (l : List ℕ). said_by (read_histogram bytes l)) empty_is in
    c.figures.ensures ∙ ap (λ (l : List ℕ). said_by (figures_of l)) left ∙ sym (ap said_by (read_figures (read_histogram bytes empty) empty answered))
