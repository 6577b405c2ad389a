-- A set of histories (01, 'Numbers of the refusals' and 'What must change shape'): what its entries show of the lent slices, and what refuses it.
use Rattle.std.specs.Prelude.{ℕ, ◌+◌, ◌≤◌, Bool, true, false, not, ◌&&◌, ◌||◌, List, [], ◌∷◌, ltb, length, take, drop, Float}
use Rattle.base_refusals.specs.declared.Refusal.TheVariants.{STORE, SET}
use Rattle.base_refusals.specs.Rows.{Row, row}
use Rattle.bins.specs.Bin.{bins}
use Rattle.history_queue.specs.declared.Queue.{Queue}
use Rattle.history_set.specs.declared.set.Entry.{Entry}
use Rattle.history_set.specs.declared.set.Shape.{Shape}
use Rattle.history_set.specs.declared.set.Shape.TheVariants.{Histogram, Queue as Queue-at}
use Rattle.bins.specs.Energy.{dropped}
use Rattle.history_queue.specs.Queue.{Stored, over, suits, held_of}

-- the most histories of a set
abbrev pub most_histories : ℕ
most_histories = 16

-- the entries, how many of them count, and the lent slices
pub record Histories : Type 0 where
  pub entries : List Entry
  pub count : ℕ
  pub counters : List ℕ
  pub energies : List Float

abbrev pub histories : List Entry → ℕ → List ℕ → List Float → Histories
histories entries count counters energies = record { entries = entries; count = count; counters = counters; energies = energies }

-- the entries that count
abbrev pub chosen : Histories → List Entry
chosen h = take h.count h.entries

-- ---- what an entry shows
-- the counters of a histogram, or the energies that a queue holds, oldest first
pub data History : Type 0 where
  counted : List ℕ → History
  listed : List Float → History

-- 1,000 counters from a place on
abbrev pub counters_at : List ℕ → ℕ → List ℕ
counters_at counters start = take bins (drop start counters)

-- a queue over its store, which starts at a place of the energies
abbrev pub queue_at : List Float → ℕ → Queue → Stored
queue_at energies start queue = over queue (take queue.maximum (drop start energies))

abbrev pub shape_shows : List ℕ → List Float → Shape → History
shape_shows counters energies (Histogram start) = counted (counters_at counters start)
shape_shows counters energies (Queue-at start queue) = listed (held_of (queue_at energies start queue))

abbrev pub shows : List ℕ → List Float → Entry → History
shows counters energies entry = shape_shows counters energies entry.shape

unfoldable pub all_show : List ℕ → List Float → List Entry → List History
all_show counters energies [] = []
all_show counters energies (entry ∷ rest) = shows counters energies entry ∷ all_show counters energies rest

-- the histories of the set, in order
abbrev pub histories_of : Histories → List History
histories_of h = all_show h.counters h.energies (chosen h)

-- ---- SET: "more than 16 histories, or an entry reaching outside its lent slice"
-- where the counters of an entry end, and where its energies do
abbrev pub counters_end : Shape → ℕ
counters_end (Histogram start) = start + bins
counters_end (Queue-at start queue) = 0

abbrev pub store_end : Shape → ℕ
store_end (Histogram start) = 0
store_end (Queue-at start queue) = start + queue.maximum

-- whether an entry reaches outside so many counters or so many energies
abbrev pub is_outside : ℕ → ℕ → Entry → Bool
is_outside counters energies entry = ltb counters (counters_end entry.shape) || ltb energies (store_end entry.shape)

unfoldable pub any_outside : ℕ → ℕ → List Entry → Bool
any_outside counters energies [] = false
any_outside counters energies (entry ∷ rest) = is_outside counters energies entry || any_outside counters energies rest

-- whether SET refuses a set
abbrev pub outside_set : Histories → Bool
outside_set h = ltb most_histories h.count || any_outside (length h.counters) (length h.energies) (chosen h)

-- what every entry keeps
abbrev pub Every : (Entry → Type 0) → List Entry → Type 0
Every P [] = Unit
Every P (entry ∷ rest) = P entry × Every P rest

-- the counters of every histogram end within so many, and every store within so many energies
abbrev pub counters_inside : ℕ → List Entry → Type 0
counters_inside counters = Every (λ entry. counters_end entry.shape ≤ counters)

abbrev pub stores_inside : ℕ → List Entry → Type 0
stores_inside energies = Every (λ entry. store_end entry.shape ≤ energies)

-- ---- STORE: a queue that does not suit its store, or "in a question or writer, a held energy below boundary 0". NaN is not below it
unfoldable pub none_below : List Float → Bool
none_below [] = true
none_below (energy ∷ rest) = not (dropped energy) && none_below rest

abbrev pub shape_sound : List Float → Shape → Bool
shape_sound energies (Histogram start) = true
shape_sound energies (Queue-at start queue) = suits queue queue.maximum && none_below (held_of (queue_at energies start queue))

abbrev pub is_sound : List Float → Entry → Bool
is_sound energies entry = shape_sound energies entry.shape

unfoldable pub all_sound : List Float → List Entry → Bool
all_sound energies [] = true
all_sound energies (entry ∷ rest) = is_sound energies entry && all_sound energies rest

-- ---- what refuses a set, before all else: "SET comes first for every entry, then STORE entry by entry"
abbrev pub set_rows : Histories → List Row
set_rows h = row SET (outside_set h) ∷ row STORE (not (all_sound h.energies (chosen h))) ∷ []
