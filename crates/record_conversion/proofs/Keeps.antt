-- A conversion keeps every count and energy: the converted record passes and is read as the given one is, into any store; converted back it has the given
-- one's bytes; and what was written, converted, is what the other model's writer writes. Each follows from reading what was written and writing what was read.
-- Assumes nothing.
use mathlib.Core.Path.{◌≡◌, refl, sym, ap, ◌∙◌}
use mathlib.Core.List.{List}
use Prim.Native.Nat.{ℕ, ◌+◌, ◌≤◌, ◌<◌}
use native.Mathlib.Omega.{arith}
use lib.ListN.{length, get_or, drop}
use lib.Seq.{get_or-drop}
use lib.Ieee.{Float}
use Rattle.base_refusals.specs.Outcome.{went, done}
use Rattle.base_refusals.specs.Rows.{number_of, by_rows}
use Rattle.bins.specs.Bin.{bins}
use Rattle.history_queue.specs.Queue.{longest}
use Rattle.record_layout.specs.declared.Model.{Model}
use Rattle.record_layout.specs.declared.Model.TheVariants.{Ours, Third}
use Rattle.record_layout.specs.declared.Kind.TheVariants.{Histogram, Queue}
use Rattle.record_layout.specs.Layout.{head_width, count_width, energy_width, least_length, order_by, body_in, frame_rows}
use Rattle.record_layout.proofs.Runs.{numbers_length, numbers_small}
use Rattle.record_histogram.specs.Record.{counters_in, store_rows, read_counters}
use Rattle.record_histogram.specs.Writing.{counters_record}
use Rattle.record_histogram.proofs.Cases.{read_behind}
use Rattle.record_histogram.proofs.Again.{Counting, written_passes, counters_again, write_what_was_read}
use Rattle.record_queue_reader.specs.QueueRecord.{maximum_in, held_in, patterns_in, energies_of, stored, check_rows, read_energies}
use Rattle.record_queue_reader.proofs.Cases.{numbers_within, energies_count, read_behind as queue_behind}
use Rattle.record_queue_writer.specs.Writing.{energies_record}
use Rattle.record_queue_writer.proofs.Patterns.{Doubles, doubles_read, energies_again, patterns_again, energies_in}
use Rattle.record_queue_writer.proofs.Again.{
  maximum_again,
  held_again,
  patterns_are,
  written_passes as queue_passes,
  write_what_was_read as queue_written_lem,
}
use Rattle.record_conversion.specs.Conversion.{other_model, converted_record}
use Rattle.record_conversion.proofs.Cases.{content}

other_other : (model : Model) → other_model (other_model model) ≡ model
other_other Ours = refl
other_other Third = refl

-- ---- counters
-- what was written, converted
pub counters_written_lem : (model : Model) (counters : List ℕ) → length counters ≡ bins → Counting counters
    → converted_record (Histogram model) (counters_record model counters) ≡ counters_record (other_model model) counters
unfolding converted_record
counters_written_lem model counters h fit = ap (counters_record (other_model model)) (counters_again model counters h fit)

module _ (model : Model) (bytes : List ℕ) (b : (i : ℕ) → get_or bytes i 0 < 256) (e : number_of (frame_rows (Histogram model) bytes) ≡ 0) where
  abbrev counters : List ℕ
  counters = counters_in model bytes

  thousand : length counters ≡ bins
  unfolding counters_in
  thousand = numbers_length (order_by model) count_width bins (body_in bytes)

  fit : Counting counters
  unfolding counters_in
  fit = numbers_small (order_by model) count_width bins (body_in bytes) (λ i. rw (get_or-drop head_width bytes i 0) (b (head_width + i)))

  pub counters_pass : number_of (frame_rows (Histogram (other_model model)) (converted_record (Histogram model) bytes)) ≡ 0
  unfolding converted_record
  counters_pass = written_passes (other_model model) counters thousand

  pub counters_kept : (store : List ℕ) → read_counters (other_model model) (converted_record (Histogram model) bytes) store ≡ read_counters model bytes store
  unfolding converted_record
  counters_kept store =
      read_behind (other_model model) (counters_record (other_model model) counters) store counters_pass
      ∙ ap (λ (l : List ℕ). by_rows (store_rows store) (went l done)) (counters_again (other_model model) counters thousand fit)
      ∙ sym (read_behind model bytes store e)

  pub counters_back : converted_record (Histogram (other_model model)) (converted_record (Histogram model) bytes) ≡ bytes
  unfolding converted_record
  counters_back =
      counters_written_lem (other_model model) counters thousand fit
      ∙ ap (λ (m : Model). counters_record m counters) (other_other model)
      ∙ write_what_was_read model bytes b e

-- ---- energies
-- what was written, converted
pub energies_written_lem : (model : Model) (maximum : ℕ) (energies : List Float) → maximum ≤ longest → length energies ≤ maximum → Doubles energies
    → converted_record (Queue model) (energies_record model maximum energies) ≡ energies_record (other_model model) maximum energies
unfolding converted_record energies_record
energies_written_lem model maximum energies few within doubles =
    ap (λ (n : ℕ). energies_record (other_model model) n (energies_of (patterns_in model (energies_record model maximum energies)))) (maximum_again model maximum energies few within)
    ∙ ap (λ (l : List ℕ). energies_record (other_model model) maximum (energies_of l)) (patterns_are model maximum energies few within doubles)
    ∙ ap (energies_record (other_model model) maximum) (energies_again energies doubles)

module _ (model : Model) (bytes : List ℕ) (b : (i : ℕ) → get_or bytes i 0 < 256) (e : number_of (check_rows model bytes) ≡ 0) where
  abbrev maximum : ℕ
  maximum = maximum_in model bytes

  abbrev patterns : List ℕ
  patterns = patterns_in model bytes

  abbrev energies : List Float
  energies = energies_of patterns

  abbrev other : Model
  other = other_model model

  limits : (1 ≤ maximum) × (maximum ≤ longest) × (held_in model bytes ≤ maximum)
  limits = numbers_within maximum (held_in model bytes) (content model bytes e).numbers

  few : length energies ≤ maximum
  few = omega (arith, limits.2, energies_count model bytes)

  pub energies_pass : number_of (check_rows other (converted_record (Queue model) bytes)) ≡ 0
  unfolding converted_record
  energies_pass = queue_passes other maximum energies limits.1 few (doubles_read patterns) limits.0 (energies_in patterns (content model bytes e).fit)

  -- its fields are those of the given one
  same_maximum : maximum_in other (converted_record (Queue model) bytes) ≡ maximum
  unfolding converted_record energies_record
  same_maximum = maximum_again other maximum energies limits.1 few

  same_held : held_in other (converted_record (Queue model) bytes) ≡ held_in model bytes
  unfolding converted_record energies_record
  same_held = held_again other maximum energies limits.1 few ∙ energies_count model bytes

  same_patterns : patterns_in other (converted_record (Queue model) bytes) ≡ patterns
  unfolding converted_record energies_record
  same_patterns =
      patterns_are other maximum energies limits.1 few (doubles_read patterns)
      ∙ patterns_again patterns
      (numbers_small (order_by model) energy_width (held_in model bytes) (drop least_length bytes) (λ i. rw (get_or-drop least_length bytes i 0) (b (least_length + i))))
      (content model bytes e).fit

  pub energies_kept : (store : List Float) → read_energies other (converted_record (Queue model) bytes) store ≡ read_energies model bytes store
  unfolding stored
  energies_kept store =
      let record' = converted_record (Queue model) bytes in
      queue_behind other record' store energies_pass
      ∙ rw (same_patterns, same_maximum, same_held)
      (sym (queue_behind model bytes store e))

  pub energies_back : converted_record (Queue other) (converted_record (Queue model) bytes) ≡ bytes
  unfolding converted_record
  energies_back =
      energies_written_lem other maximum energies limits.1 few (doubles_read patterns)
      ∙ ap (λ (m : Model). energies_record m maximum energies) (other_other model)
      ∙ queue_written_lem model bytes b e
