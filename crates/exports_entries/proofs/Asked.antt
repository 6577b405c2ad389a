-- A question is asked of whole entries only, and no more than a set may have. It goes by the entries that count. Assumes nothing.
use Rattle.std.proofs.Common.{◌≡◌, ℕ, ◌/◌, ◌%◌, ◌<◌, ◌⊎◌, inl, inr, Result, Err, List, length, take, Float, refl, sym, ap, ◌∙◌, eq-eqb, ne_eqb, eq-zero-or-pos, arith}
use Rattle.std.proofs.lemmas.Bool.{cases_lt}
use Rattle.std.proofs.Math.Seq.{take-length}
use Rattle.base_refusals.specs.declared.Refusal.TheVariants.{SET}
use Rattle.base_refusals.specs.declared.Refusal.{Refusal}
use Rattle.base_refusals.specs.Answer.{said}
use Rattle.base_refusals.specs.Outcome.{Outcome, refused, said_by}
use Rattle.history_set.specs.declared.set.Entry.{Entry}
use Rattle.history_set.specs.declared.set.Histories.{Histories as Lent}
use Rattle.history_set.specs.Lent.{lent}
use Rattle.history_set.specs.Set.{most_histories, Histories, histories}
use Rattle.exports_entries.specs.Sets.{numbers_an_entry, entries_from, entries_of, Whole, set_of, asked}
use Rattle.exports_entries.proofs.Reading.{entries_many, first_entries}

-- ---- whole entries
module _ {Kept Values : Type 0} (question : Histories → Outcome Kept Values) (numbers counters : List ℕ) (energies : List Float) where
  pub asked_part : (length numbers % numbers_an_entry ≡ 0 → ⊥) → asked question numbers counters energies ≡ refused SET
  asked_part h = rw (ne_eqb (length numbers % numbers_an_entry) 0 h)

  pub asked_whole : length numbers % numbers_an_entry ≡ 0 → asked question numbers counters energies ≡ question (set_of numbers counters energies)
  asked_whole h = rw (eq-eqb (length numbers % numbers_an_entry) 0 h)

-- ---- a question that refuses more entries than a set may have with SET, and goes by those that count
pub record OfASet {Kept Values : Type 0} (question : Histories → Outcome Kept Values) : Type 0 where
  pub many : (h : Histories) → most_histories < h.count → question h ≡ refused SET
  pub chosen_only : (entries more : List Entry) (count other : ℕ) (counters : List ℕ) (energies : List Float) → count ≡ other → take count entries ≡ take other more
      → question (histories entries count counters energies) ≡ question (histories more other counters energies)

module _ {Kept Values : Type 0} (question : Histories → Outcome Kept Values) (q : OfASet question) (numbers counters : List ℕ) (energies : List Float) where
  whole_or_not : Whole numbers ⊎ (Whole numbers → ⊥)
  whole_or_not = elim (eq-zero-or-pos (length numbers % numbers_an_entry)) [
    | inl whole ↦ elim (cases_lt most_histories (length numbers / numbers_an_entry)) [
      | inl many ↦ inr (λ w. omega (arith, many, w.1))
      | inr few ↦ inl (whole, few)
    ]
    | inr part ↦ inr (λ w. omega (arith, part, w.0))
  ]

  pub asked_refused : (Whole numbers → ⊥) → asked question numbers counters energies ≡ refused SET
  asked_refused h = elim (eq-zero-or-pos (length numbers % numbers_an_entry)) [
    | inl whole ↦ elim (cases_lt most_histories (length numbers / numbers_an_entry)) [
      | inl many ↦ asked_whole question numbers counters energies whole ∙ q.many (set_of numbers counters energies) many
      | inr few ↦ absurd (h (whole, few))
    ]
    | inr part ↦ asked_part question numbers counters energies (λ whole. omega (arith, part, whole))
  ]

  pub asked_entries : Whole numbers → (entries : List Entry) → entries ≡ entries_of numbers
      → question (histories entries (length entries) counters energies) ≡ asked question numbers counters energies
  asked_entries whole entries e =
      let long : length entries ≡ length numbers / numbers_an_entry = ap length e ∙ entries_many numbers 0 (length numbers / numbers_an_entry) in
      q.chosen_only entries (entries_from numbers 0 most_histories) (length entries) (length numbers / numbers_an_entry) counters energies long
      (take-length entries ∙ e ∙ sym (first_entries numbers 0 (length numbers / numbers_an_entry) most_histories whole.1))
      ∙ sym (asked_whole question numbers counters energies whole.0)

  -- what an answer says of the set of the numbers, or SET
  pub asked_told : (answer : Result Values Refusal)
      → (Whole numbers → (set : Lent) × (lent set ≡ histories (entries_of numbers) (length (entries_of numbers)) counters energies) × (Lent × (said answer ≡ said_by (question (lent set)))))
      → ((Whole numbers → ⊥) → answer ≡ Err SET) → said answer ≡ said_by (asked question numbers counters energies)
  asked_told answer over part = elim whole_or_not [
    | inl whole ↦ let w = over whole in w.2.1 ∙ ap (λ (h : Histories). said_by (question h)) w.1 ∙ ap said_by (asked_entries whole (entries_of numbers) refl)
    | inr not_whole ↦ ap said (part not_whole) ∙ ap said_by (sym (asked_refused not_whole))
  ]
