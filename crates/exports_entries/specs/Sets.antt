-- A set of histories as the C interface takes it: five numbers an entry, which are its kind (0 a histogram, 1 a queue), start, maximum, head and held.
use Rattle.std.specs.Prelude.{◌≡◌, ◌≤◌, ℕ, zero, suc, ◌+◌, ◌/◌, ◌%◌, not, cond, List, [], ◌∷◌, eqb, length, get_or, Float}
use Rattle.base_refusals.specs.declared.Refusal.TheVariants.{SET}
use Rattle.base_refusals.specs.Outcome.{Outcome, Question}
use Rattle.base_refusals.specs.Rows.{Row, row, by_rows}
use Rattle.history_queue.specs.declared.Queue.{Queue}
use Rattle.history_set.specs.declared.set.Entry.{Entry}
use Rattle.history_set.specs.declared.set.Shape.TheVariants.{Histogram, Queue as Queue-at}
use Rattle.history_set.specs.Set.{most_histories, Histories, histories}

-- how many numbers an entry has
abbrev pub numbers_an_entry : ℕ
numbers_an_entry = 5

-- a place that no slice reaches: an entry of another kind lies there, and so it is refused with SET
abbrev pub nowhere : ℕ
nowhere = 18446744073709551615

-- an entry of a kind
abbrev pub entry_of : ℕ → ℕ → Queue → Entry
entry_of kind start queue =
    cond (eqb kind 0) (record { shape = Histogram start }) (cond (eqb kind 1) (record { shape = Queue-at start queue }) (record { shape = Histogram nowhere }))

-- the entry whose numbers start at a place
unfoldable pub entry_at : List ℕ → ℕ → Entry
entry_at numbers place =
    entry_of (get_or numbers place 0) (get_or numbers (place + 1) 0)
    (record { maximum = get_or numbers (place + 2) 0; head = get_or numbers (place + 3) 0; held = get_or numbers (place + 4) 0 })

-- so many entries from a place on
unfoldable pub entries_from : List ℕ → ℕ → ℕ → List Entry
entries_from numbers place zero = []
entries_from numbers place (suc more) = entry_at numbers place ∷ entries_from numbers (place + numbers_an_entry) more

-- as many entries as there are numbers for
abbrev pub entries_of : List ℕ → List Entry
entries_of numbers = entries_from numbers 0 (length numbers / numbers_an_entry)

-- numbers that are whole entries, and no more of them than a set may have
abbrev pub Whole : List ℕ → Type 0
Whole numbers = (length numbers % numbers_an_entry ≡ 0) × (length numbers / numbers_an_entry ≤ most_histories)

-- the set of the numbers over the lent slices. All sixteen entries have a value; as many count as there are numbers for
abbrev pub set_of : List ℕ → List ℕ → List Float → Histories
set_of numbers counters energies = histories (entries_from numbers 0 most_histories) (length numbers / numbers_an_entry) counters energies

-- a question over the set, and SET where the numbers are not whole entries
abbrev pub uneven : List ℕ → Row
uneven numbers = row SET (not (eqb (length numbers % numbers_an_entry) 0))

abbrev pub asked : {Kept Values : Type 0} → (Histories → Outcome Kept Values) → List ℕ → List ℕ → List Float → Outcome Kept Values
asked question numbers counters energies = by_rows (uneven numbers ∷ []) (question (set_of numbers counters energies))

-- a question over a single history, and SET where the numbers are not one entry
abbrev pub not_one : List ℕ → Row
not_one numbers = row SET (not (eqb (length numbers) numbers_an_entry))

abbrev pub asked_alone : {Values : Type 0} → (Entry → List ℕ → List Float → Question Values) → List ℕ → List ℕ → List Float → Question Values
asked_alone question numbers counters energies = by_rows (not_one numbers ∷ []) (question (entry_at numbers 0) counters energies)
