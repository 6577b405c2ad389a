-- Demand 2, the gate: "ITU-R BS.1770 and EBU Tech 3342 decide the meaning of gating and range." `measured` is BS.1770's measurement over blocks, by its two gates;
-- Bs1770.antt says what it rests on. Departures: the Rust keeps a block that stands at a gate (`equals_kept`) where the document leaves it
-- out (`strict`), and a histogram's block stands at the energy of its bin. proofs/Gate.antt proves `GateIsBs1770`.
use Rattle.std.specs.Prelude.{ℕ, ◌≡◌, true, false, List, [], ◌∷◌, Float}
use Rattle.std.specs.Float.Ieee.{is_nan}
use Rattle.base_refusals.specs.Rows.{number_of}
use Rattle.history_set.specs.declared.set.Entry.{Entry}
use Rattle.history_set.specs.Set.{Histories, histories_of, set_rows}
use Rattle.gate.specs.Sums.{alone}
use Rattle.gate.specs.Relative.{relative_of}
use Rattle.gate.specs.Gate.{gate_of}
use Rattle.gate.specs.GatedEnergy.{gated_energy_of}
use Rattle.acceptance_meaning.specs.Levels.{absolute_gate}
use Rattle.acceptance_meaning.specs.Bs1770.{
  strict,
  equals_kept,
  each_through,
  relative_gate,
  measured,
  mean_of_these,
  measured_energy,
  measured_gate,
  measured_set,
  none_of_each_at,
  Feed,
  material_of,
  shown_by,
}

-- the question asks over queues, each filled from its own part of the material, with room for it
pub record Fed (feeds : List Feed) (question : Histories) : Type 0 where
  pub whole : number_of (set_rows question) ≡ 0
  pub shown : histories_of question ≡ shown_by feeds

-- no block of the material is NaN or stands at a gate
pub record NoneAtAGate (material : List (List Float)) : Type 0 where
  pub absolute : none_of_each_at absolute_gate material ≡ true
  pub known : is_nan (relative_gate (each_through equals_kept absolute_gate material)) ≡ false
  pub relative : none_of_each_at (relative_gate (each_through equals_kept absolute_gate material)) (each_through equals_kept absolute_gate material) ≡ true

pub record GateIsBs1770 : Type 0 where
  -- the gate question is the blocks above both gates, with blocks at a gate kept, and gated energy the measurement: their mean
  pub kept : (feeds : List Feed) (question : Histories) → Fed feeds question → gate_of question ≡ measured equals_kept (material_of feeds)
  pub energy : (feeds : List Feed) (question : Histories) → Fed feeds question → gated_energy_of question ≡ measured_energy equals_kept (material_of feeds)
  -- and where none stands at a gate it is the measurement to the letter
  pub letter : (feeds : List Feed) (question : Histories) → Fed feeds question → NoneAtAGate (material_of feeds) → gate_of question ≡ measured strict (material_of feeds)
  -- the relative threshold of a queue is the relative gate of its material
  pub threshold : (feed : Feed) (entry : Entry) (counters : List ℕ) (energies : List Float) → Fed (feed ∷ []) (alone entry counters energies)
      → relative_of entry counters energies ≡ measured_gate equals_kept feed.blocks
  -- over any set that is not refused, histograms and queues mixed: the blocks that the gate lets through of what they hold, and their mean
  pub sets : (question : Histories) → number_of (set_rows question) ≡ 0 → gate_of question ≡ measured_set equals_kept (histories_of question)
  pub sets_energy : (question : Histories) → number_of (set_rows question) ≡ 0 → gated_energy_of question ≡ mean_of_these (measured_set equals_kept (histories_of question))
