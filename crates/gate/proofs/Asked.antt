-- Histories added up, asked by themselves: SET, STORE, or their blocks and the sum of their energies; and what a question comes to that stands behind them.
-- Assumes nothing.
use Rattle.std.proofs.Common.{◌≡◌, ℕ, true, false, List, ◌++◌, sym, ap, ◌∙◌}
use Rattle.base_refusals.specs.Refusal.{number}
use Rattle.base_refusals.specs.declared.Refusal.TheVariants.{STORE, SET}
use Rattle.base_refusals.specs.Outcome.{Question, says, refusal, said_by}
use Rattle.base_refusals.specs.Rows.{Row, by_rows, number_of}
use Rattle.base_refusals.proofs.Behind.{passed, stopped_said, goes_on}
use Rattle.history_set.specs.declared.set.Histories.{Histories as Lent}
use Rattle.history_set.specs.Lent.{lent}
use Rattle.history_set.specs.Set.{Histories, histories_of, all_show, outside_set, all_sound, set_rows}
use Rattle.history_set.proofs.Entries.{all_chosen}
use Rattle.gate.specs.declared.blocks.Totals.{Totals}
use Rattle.gate.specs.Sums.{all_of}
use Rattle.gate.specs.Inner.{sums_of}

-- ---- a set as it is lent, whose entries all count
module _ (set : Lent) where
  pub shown : histories_of (lent set) ≡ all_show set.counters.now set.energies.now set.entries.now
  shown = ap (all_show set.counters.now set.energies.now) (all_chosen set)

  pub outside_asked : outside_set (lent set) ≡ true → refusal (number SET) ≡ said_by (sums_of (lent set))
  unfolding sums_of
  outside_asked e = rw e

  pub unsound_asked : outside_set (lent set) ≡ false → all_sound set.energies.now set.entries.now ≡ false → refusal (number STORE) ≡ said_by (sums_of (lent set))
  unfolding sums_of
  unsound_asked e s = rw (e, ap (all_sound set.energies.now) (all_chosen set) ∙ s)

  pub sound_asked : outside_set (lent set) ≡ false → all_sound set.energies.now set.entries.now ≡ true
      → (all : Totals) → all ≡ all_of (all_show set.counters.now set.energies.now set.entries.now) → says all ≡ said_by (sums_of (lent set))
  unfolding sums_of
  sound_asked e s all a = rw (e, ap (all_sound set.energies.now) (all_chosen set) ∙ s) (ap says (a ∙ ap all_of (sym shown)))

-- ---- a question behind them
module _ (h : Histories) where
  pub sums_told : (all : Totals) → says all ≡ said_by (sums_of h) → (number_of (set_rows h) ≡ 0) × (all ≡ all_of (histories_of h))
  unfolding sums_of
  sums_told = passed (all_of (histories_of h)) (set_rows h)

  module _ {Values : Type 0} (outcome : Question Values) (rows : List Row) (told : Question Values) (e : told ≡ by_rows (set_rows h ++ rows) outcome) where
    pub refused_behind : (n : ℕ) → refusal n ≡ said_by (sums_of h) → refusal n ≡ said_by told
    unfolding sums_of
    refused_behind n r = (stopped_said (all_of (histories_of h)) outcome (set_rows h) rows tt n r).says ∙ ap said_by (sym e)

    pub asked_behind : number_of (set_rows h) ≡ 0 → said_by (by_rows rows outcome) ≡ said_by told
    asked_behind z = ap said_by (sym (goes_on outcome (set_rows h) rows z) ∙ sym e)
