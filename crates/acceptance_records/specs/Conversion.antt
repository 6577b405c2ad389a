-- The conversion (02, CR 3): "a conversion each way that keeps every count and energy"; and "KIND now knows four". `after` and `n` are what an operation leaves in its
-- output and the number of bytes that it answers: the first n of `after` are the record. proofs/Conversion.antt proves `ConversionKeeps` and `FourKinds`.
use Rattle.std.specs.Prelude.{ℕ, Some, ◌^◌, ◌<◌, ◌≤◌, ◌≡◌, List, [], ◌∷◌, ◌++◌, T, length, get_or, take, drop, Float}
use Rattle.std.specs.Float.{binary64}
use Rattle.std.specs.Float.Ieee.{fits}
use Rattle.base_refusals.specs.Refusal.{number}
use Rattle.base_refusals.specs.declared.Refusal.TheVariants.{KIND}
use Rattle.base_refusals.specs.Outcome.{went}
use Rattle.base_refusals.specs.Rows.{number_of}
use Rattle.history_queue.specs.Queue.{Stored, held_of}
use Rattle.record_layout.specs.declared.Model.{Model}
use Rattle.record_layout.specs.declared.Kind.{Kind}
use Rattle.record_layout.specs.declared.Kind.TheVariants.{Histogram, Queue}
use Rattle.record_layout.specs.Layout.{kind_number, known_of, frame_rows}
use Rattle.record_histogram.specs.Record.{read_counters}
use Rattle.record_histogram.specs.Writing.{write_counters}
use Rattle.record_queue_reader.specs.QueueRecord.{read_energies}
use Rattle.record_queue_writer.specs.Writing.{write_energies}
use Rattle.record_conversion.specs.Conversion.{other_model, turned, converted}

-- bytes, counters of 32 bits, and energies that are f64s
abbrev pub Octets : List ℕ → Type 0
Octets bytes = (i : ℕ) → get_or bytes i 0 < 256

abbrev pub Words : List ℕ → Type 0
Words counters = (bin : ℕ) → get_or counters bin 0 < 2 ^ 32

abbrev pub AllF64 : List Float → Type 0
AllF64 [] = Unit
AllF64 (energy ∷ rest) = T (fits binary64 energy) × AllF64 rest

pub record ConversionKeeps : Type 0 where
  -- the converted record is read, into any store, as the given one is
  pub counters : (model : Model) (bytes out after : List ℕ) (n : ℕ) → Octets bytes → converted (Histogram model) bytes out ≡ went after n
      → (store : List ℕ) → read_counters (other_model model) (take n after) store ≡ read_counters model bytes store
  pub energies : (model : Model) (bytes out after : List ℕ) (n : ℕ) → Octets bytes → converted (Queue model) bytes out ≡ went after n
      → (store : List Float) → read_energies (other_model model) (take n after) store ≡ read_energies model bytes store
  -- converted back it is the given one to the byte
  pub back : (kind : Kind) (bytes out after : List ℕ) (n : ℕ) → Octets bytes → converted kind bytes out ≡ went after n
      → (again : List ℕ) → n ≤ length again → converted (turned kind) (take n after) again ≡ went (bytes ++ drop n again) n
  -- to convert what was written is to write the other kind
  pub counters_written : (model : Model) (counters out after : List ℕ) (n : ℕ) → Words counters → write_counters model counters out ≡ went after n
      → (other : List ℕ) → converted (Histogram model) (take n after) other ≡ write_counters (other_model model) counters other
  pub energies_written : (model : Model) (s : Stored) (out after : List ℕ) (n : ℕ) → AllF64 (held_of s) → write_energies model s out ≡ went after n
      → (other : List ℕ) → converted (Queue model) (take n after) other ≡ write_energies (other_model model) s other

pub record FourKinds : Type 0 where
  -- a kind is known by its number, and no other number is that of a kind
  pub known : (kind : Kind) → known_of (kind_number kind) ≡ Some kind
  pub no_other : (asked : ℕ) (kind : Kind) → known_of asked ≡ Some kind → asked ≡ kind_number kind
  -- a record of one kind, asked for as one of another, is refused as KIND
  pub apart : (kind asked : Kind) (bytes : List ℕ) → number_of (frame_rows kind bytes) ≡ 0 → (asked ≡ kind → ⊥) → number_of (frame_rows asked bytes) ≡ number KIND
