-- The entries of a set, gone through in order: whether every store is sound, what each keeps of a set that is not refused, and what they show.
-- Each is by recursion on the entries, so that a turn of a loop settles the first and leaves the rest. Assumes nothing.
use Rattle.std.proofs.Common.{◌≡◌, ◌+◌, ◌≤◌, ◌<◌, ℕ, zero, suc, Bool, true, false, ◌&&◌, ◌||◌, List, [], ◌∷◌, ◌++◌, length, get_or, drop, ltb, Float, refl, sym, ap, ◌∙◌, arith}
use mathlib.Core.Bool.{true≢false, and_assoc, or-false}
use native.Mathlib.Nat.{le_of_suc-le-suc, not-suc-le-zero}
use borrow.Author.Tests.{le-ltb, ltb-false}
use Rattle.bins.specs.Bin.{bins}
use Rattle.std.proofs.lemmas.List.{drop_more}
use Rattle.std.proofs.Math.Seq.{take-length}
use Rattle.std.proofs.Math.ListN.{drop_of_length-le}
use Rattle.history_queue.specs.declared.Queue.{Queue}
use Rattle.history_set.specs.declared.set.Entry.{Entry}
use Rattle.history_set.specs.declared.set.Shape.TheVariants.{Histogram, Queue as Queue-at}
use Rattle.history_queue.specs.Queue.{suits, held_of}
use Rattle.history_set.specs.declared.set.Histories.{Histories as Lent}
use Rattle.history_set.specs.Lent.{lent}
use Rattle.history_set.specs.Set.{
  chosen,
  queue_at,
  shows,
  all_show,
  counters_end,
  store_end,
  Every,
  counters_inside,
  stores_inside,
  is_outside,
  any_outside,
  none_below,
  shape_sound,
  is_sound,
  all_sound,
}

-- all entries of a set as it is lent count
pub all_chosen : (set : Lent) → chosen (lent set) ≡ set.entries.now
all_chosen set = take-length set.entries.now

-- what is read past the last entry
abbrev pub past_the_last : Entry
past_the_last = record { shape = Histogram 0 }

-- ---- energies below boundary 0
pub none_below_append : (a b : List Float) → none_below (a ++ b) ≡ none_below a && none_below b
unfolding none_below
none_below_append [] b = refl
none_below_append (x ∷ a) b = rw (none_below_append a b, and_assoc)

-- ---- whether a histogram reaches outside
pub histogram_outside : (counters energies : ℕ) (entry : Entry) (start : ℕ) → entry.shape ≡ Histogram start
    → is_outside counters energies entry ≡ ltb counters (start + bins)
histogram_outside counters energies entry start e = rw (e, le-ltb energies 0 (omega arith)) (or-false (ltb counters (start + bins)))

-- ---- sound stores: the first of the entries that are left, and none left
module _ (energies : List Float) where
  pub all_found : (l : List Entry) (i : ℕ) → i < length l → is_sound energies (get_or l i past_the_last) ≡ false → all_sound energies (drop i l) ≡ false
  unfolding all_sound
  all_found l i h e = rw (drop_more l i past_the_last h, e)

  pub all_passed : (l : List Entry) (i : ℕ) → i < length l → is_sound energies (get_or l i past_the_last) ≡ true
      → all_sound energies (drop i l) ≡ all_sound energies (drop (i + 1) l)
  unfolding all_sound
  all_passed l i h e = rw (drop_more l i past_the_last h, e)

  pub all_end : (l : List Entry) (i : ℕ) → length l ≤ i → all_sound energies (drop i l) ≡ true
  unfolding all_sound
  all_end l i h = rw (drop_of_length-le l h)

-- ---- two tests of which neither holds, and two that both hold
pub either_not : (a b : Bool) → a || b ≡ false → (a ≡ false) × (b ≡ false)
either_not true b h = absurd (true≢false h)
either_not false b h = (refl, h)

pub both : (a b : Bool) → a && b ≡ true → (a ≡ true) × (b ≡ true)
both true b h = (refl, h)
both false b h = absurd (true≢false (sym h))

-- ---- one entry of those of which each keeps something
pub every_at : (P : Entry → Type 0) (l : List Entry) (i : ℕ) → i < length l → Every P l → P (get_or l i past_the_last)
every_at P [] i h e = absurd (not-suc-le-zero h)
every_at P (entry ∷ l) zero h e = e.0
every_at P (entry ∷ l) (suc i) h e = every_at P l i (le_of_suc-le-suc h) e.1

every_map : {P Q : Entry → Type 0} → ((entry : Entry) → P entry → Q entry) → (l : List Entry) → Every P l → Every Q l
every_map f [] e = tt
every_map f (entry ∷ l) e = (f entry e.0, every_map f l e.1)

-- ---- a set of which no entry reaches outside
module _ (counters energies : ℕ) where
  each_inside : (l : List Entry) → any_outside counters energies l ≡ false → Every (λ entry. is_outside counters energies entry ≡ false) l
  unfolding any_outside
  each_inside [] h = tt
  each_inside (entry ∷ l) h = let w = either_not (is_outside counters energies entry) (any_outside counters energies l) h in (w.0, each_inside l w.1)

  pub inside_at : (l : List Entry) (i : ℕ) → i < length l → any_outside counters energies l ≡ false → is_outside counters energies (get_or l i past_the_last) ≡ false
  inside_at l i h e = every_at (λ entry. is_outside counters energies entry ≡ false) l i h (each_inside l e)

  pub counters_inside_lem : (entry : Entry) → is_outside counters energies entry ≡ false → counters_end entry.shape ≤ counters
  counters_inside_lem entry e =
      ltb-false counters (counters_end entry.shape) (either_not (ltb counters (counters_end entry.shape)) (ltb energies (store_end entry.shape)) e).0

  pub store_inside : (entry : Entry) → is_outside counters energies entry ≡ false → store_end entry.shape ≤ energies
  store_inside entry e =
      ltb-false energies (store_end entry.shape) (either_not (ltb counters (counters_end entry.shape)) (ltb energies (store_end entry.shape)) e).1

  pub all_counters_inside : (l : List Entry) → any_outside counters energies l ≡ false → counters_inside counters l
  all_counters_inside l h = every_map counters_inside_lem l (each_inside l h)

  pub stores_inside_lem : (l : List Entry) → any_outside counters energies l ≡ false → stores_inside energies l
  stores_inside_lem l h = every_map store_inside l (each_inside l h)

-- ---- and of which every store is sound
module _ (energies : List Float) where
  each_sound : (l : List Entry) → all_sound energies l ≡ true → Every (λ entry. is_sound energies entry ≡ true) l
  unfolding all_sound
  each_sound [] h = tt
  each_sound (entry ∷ l) h = let w = both (is_sound energies entry) (all_sound energies l) h in (w.0, each_sound l w.1)

  pub sound_at : (l : List Entry) (i : ℕ) → i < length l → all_sound energies l ≡ true → is_sound energies (get_or l i past_the_last) ≡ true
  sound_at l i h e = every_at (λ entry. is_sound energies entry ≡ true) l i h (each_sound l e)

  -- a queue's store suits it, and holds nothing below boundary 0
  pub sound_queue : (entry : Entry) (start : ℕ) (queue : Queue) → entry.shape ≡ Queue-at start queue → is_sound energies entry ≡ true
      → (suits queue queue.maximum ≡ true) × (none_below (held_of (queue_at energies start queue)) ≡ true)
  sound_queue entry start queue e s =
      both (suits queue queue.maximum) (none_below (held_of (queue_at energies start queue))) (sym (ap (shape_sound energies) e) ∙ s)

-- ---- what the entries show, in order
module _ (counters : List ℕ) (energies : List Float) (l : List Entry) (i : ℕ) where
  pub shows_next : i < length l
      → all_show counters energies (drop i l) ≡ shows counters energies (get_or l i past_the_last) ∷ all_show counters energies (drop (i + 1) l)
  unfolding all_show
  shows_next h = rw (drop_more l i past_the_last h)

  pub shows_end : length l ≤ i → all_show counters energies (drop i l) ≡ []
  unfolding all_show
  shows_end h = rw (drop_of_length-le l h)
