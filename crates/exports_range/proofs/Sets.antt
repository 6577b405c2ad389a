-- The range over a set goes by the entries that count, and refuses more than a set may have with SET. Assumes nothing.
use Rattle.std.proofs.Common.{◌≡◌, ℕ, ◌||◌, not, List, ◌∷◌, [], ◌++◌, length, ltb, Float, ap, ◌∙◌, lt-ltb}
use Rattle.base_refusals.specs.declared.Refusal.TheVariants.{STORE, SET}
use Rattle.base_refusals.specs.Outcome.{Outcome, went}
use Rattle.base_refusals.specs.Rows.{Row, row, by_rows}
use Rattle.history_set.specs.declared.set.Entry.{Entry}
use Rattle.history_set.specs.Set.{History, Histories, most_histories, any_outside, all_sound, all_show}
use Rattle.range.specs.Range.{Span, work_after, span_over, mode_rows, range_of}
use Rattle.exports_entries.proofs.Asked.{OfASet}

module _ (work : List Float) where
  -- by how many entries count, and which
  module _ (counters : List ℕ) (energies : List Float) where
    abbrev shown : List Entry → List History
    shown entries = all_show counters energies entries

    abbrev rows : ℕ → List Entry → List Row
    rows count entries =
        (row SET (ltb most_histories count || any_outside (length counters) (length energies) entries) ∷ row STORE (not (all_sound energies entries)) ∷ [])
        ++ mode_rows work (shown entries)

    abbrev ranged : ℕ → List Entry → Outcome (List Float) Span
    ranged count entries = by_rows (rows count entries) (went (work_after work (shown entries)) (span_over (shown entries)))

    same : {count other : ℕ} {entries more : List Entry} → count ≡ other → entries ≡ more → ranged count entries ≡ ranged other more
    same {count} {other} {entries} p q = ap (λ (n : ℕ). ranged n entries) p ∙ ap (ranged other) q

  pub range_of_set : OfASet (λ (h : Histories). range_of h work)
  unfolding range_of
  range_of_set = record {
    many = λ h l. rw (lt-ltb most_histories h.count l);
    chosen_only = λ entries more count other counters energies p q. same counters energies p q;
  }
