-- Entries read one after the other: each stands at its place. Assumes nothing.
use Rattle.std.proofs.Common.{◌≡◌, ℕ, zero, suc, ◌+◌, ◌*◌, ◌<◌, ◌≤◌, List, ◌∷◌, length, get_or, take, refl, sym, ap, ◌∙◌, arith}
use Rattle.std.proofs.lemmas.List.{same_lists, get_or_default}
use Rattle.history_set.specs.declared.set.Entry.{Entry}
use Rattle.exports_entries.specs.Sets.{numbers_an_entry, entry_at, entries_from}

module _ (numbers : List ℕ) where
  pub entries_many : (place n : ℕ) → length (entries_from numbers place n) ≡ n
  unfolding entries_from
  entries_many place zero = refl
  entries_many place (suc n) = ap suc (entries_many (place + numbers_an_entry) n)

  one_of : (place n i : ℕ) (d : Entry) → i < n → get_or (entries_from numbers place n) i d ≡ entry_at numbers (place + i * numbers_an_entry)
  unfolding entries_from
  one_of place zero i d h = absurd (omega arith)
  one_of place (suc n) zero d h = ap (entry_at numbers) {x = place} {y = place + 0 * numbers_an_entry} (omega arith)
  one_of place (suc n) (suc i) d h =
      one_of (place + numbers_an_entry) n i d (omega arith)
      ∙ ap (entry_at numbers) {x = place + numbers_an_entry + i * numbers_an_entry} {y = place + suc i * numbers_an_entry} (omega arith)

  -- the first of them
  pub first_entries : (place m n : ℕ) → m ≤ n → take m (entries_from numbers place n) ≡ entries_from numbers place m
  unfolding entries_from
  first_entries place zero n h = refl
  first_entries place (suc m) zero h = absurd (omega arith)
  first_entries place (suc m) (suc n) h = ap (λ (l : List Entry). entry_at numbers place ∷ l) (first_entries (place + numbers_an_entry) m n (omega arith))

  pub all_read : (entries : List Entry) (d : Entry) → ((i : ℕ) → i < length entries → get_or entries i d ≡ entry_at numbers (i * numbers_an_entry))
      → entries ≡ entries_from numbers 0 (length entries)
  all_read entries d each =
      same_lists entries (entries_from numbers 0 (length entries)) (omega (arith, entries_many 0 (length entries)))
      (λ i e h.
      get_or_default entries i e d h
      ∙ each i h
      ∙ ap (entry_at numbers) {x = i * numbers_an_entry} {y = 0 + i * numbers_an_entry} (omega arith)
      ∙ sym (one_of 0 (length entries) i e h))
