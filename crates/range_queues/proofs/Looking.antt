-- The energies that the entries hold, an entry at a time: how many, whether one is NaN, and that all are above zero where none is NaN.
-- An entry's energies stand before those of the rest; none is below boundary 0, which is above zero. Assumes nothing.
use mathlib.Core.Path.{◌≡◌, refl, sym, ap, ◌∙◌}
use Rattle.std.proofs.Common.{Option, Some, None}
use mathlib.Core.Bool.{Bool, true, false, cond, not, ◌&&◌, ◌||◌, true≢false, or-false, or_assoc}
use mathlib.Core.List.{List, [], ◌∷◌, ◌++◌}
use Prim.Native.Nat.{ℕ, zero, suc, ◌+◌, ◌*◌, ◌≤◌, ◌<◌}
use native.Mathlib.Nat.{mul-pos}
use native.Mathlib.Omega.{arith}
use borrow.Author.Tests.{lt-ltb, not-true}
use lib.Dec.{T, ltb→lt, lt→ltb}
use lib.ListN.{length, get_or, drop, length-append}
use lib.Seq.{sets}
use lib.Ieee.{Float, nan, inf, fin, up, down, lt, ne, is_nan}
use lib.Ieee.Fits.{up_pos, down_pos}
use lib.Ieee.Positive.{positive, above}
use Rattle.base_floats.proofs.Nan.{differs}
use Rattle.base_floats.proofs.Order.{is_true}
use Rattle.bins_tables.specs.Tables.{boundary_at}
use Rattle.bins_tables.proofs.Rules.{boundary_positive}
use Rattle.bins.specs.Energy.{dropped}
use Rattle.history_set.specs.declared.set.Entry.{Entry}
use Rattle.history_set.specs.declared.set.Shape.{Shape}
use Rattle.history_set.specs.declared.set.Shape.TheVariants.{Histogram, Queue as Queue-at}
use Rattle.history_queue.specs.Queue.{suits, held_of}
use Rattle.history_set.specs.Set.{queue_at, store_end, stores_inside, none_below, shape_sound, is_sound, all_sound, shows, shape_shows, all_show}
use Rattle.std.proofs.lemmas.List.{drop_more}
use Rattle.std.proofs.Math.ListN.{drop_of_length-le}
use Rattle.history_set.proofs.Entries.{past_the_last, both, either_not, every_at, all_end, shows_next, shows_end, none_below_append}
use Rattle.order_rules.specs.Order.{all_above}
use Rattle.range_queues.specs.declared.Seen.{Seen}
use Rattle.range_queues.specs.Listed.{held_by, all_held, any_nan}
use Rattle.range_queues.specs.Inner.{held_in, held_at, suits_at, with_seen}
use Rattle.range_queues.proofs.Copying.{sets_append}

-- ---- NaN among the energies that are left
module _ (l : List Float) (i : ℕ) (found : Bool) where
  pub nan_turn : (d : Float) → i < length l → (found || ne (get_or l i d) (get_or l i d)) || any_nan (drop (i + 1) l) ≡ found || any_nan (drop i l)
  unfolding any_nan
  nan_turn d h = rw (or_assoc, drop_more l i d h, differs (get_or l i d))

  pub nan_end : length l ≤ i → found || any_nan (drop i l) ≡ found
  unfolding any_nan
  nan_end h = rw (drop_of_length-le l h) (or-false found)

-- ---- what was seen, and then more
nan_append : (a b : List Float) → any_nan (a ++ b) ≡ any_nan a || any_nan b
unfolding any_nan
nan_append [] b = refl
nan_append (x ∷ a) b = rw (nan_append a b, or_assoc)

pub seen_is : (before : Seen) (l : List Float) (blocks : ℕ) (nans : Bool) → blocks ≡ before.blocks + length l
    → nans ≡ before.nan || any_nan l → record { blocks = blocks; nan = nans } ≡ with_seen before l
seen_is before l blocks nans p q = rw (p, q)

pub seen_append : (before : Seen) (a b : List Float) → with_seen (with_seen before a) b ≡ with_seen before (a ++ b)
seen_append before a b = seen_is before (a ++ b) _ _ (omega (arith, length-append a b)) (rw (nan_append, or_assoc))

pub seen_none : (seen : Seen) → with_seen seen [] ≡ seen
unfolding any_nan
seen_none seen = sym (seen_is seen [] seen.blocks seen.nan (omega arith) (sym (or-false seen.nan)))

-- ---- what a look answers
abbrev pub Looked : Option Seen → Bool → Seen → Type 0
Looked r fine seen = r ≡ cond fine (Some seen) None

pub looked_fine : (fine : Bool) (s seen : Seen) → Looked (Some s) fine seen → (fine ≡ true) × (s ≡ seen)
looked_fine true s seen e = (refl, cc)
looked_fine false s seen e = cc

pub looked_not : (fine : Bool) (seen : Seen) → Looked None fine seen → fine ≡ false
looked_not true seen e = cc
looked_not false seen e = refl

pub look_passed : (fine : Bool) (s seen : Seen) → fine ≡ true → s ≡ seen → Looked (Some s) fine seen
look_passed fine s seen e f = rw (e, f)

pub look_failed : (fine : Bool) (seen : Seen) → fine ≡ false → Looked None fine seen
look_failed fine seen e = rw e

-- ---- an entry that is inside and sound
pub store_at : (energies : ℕ) (l : List Entry) (i : ℕ) → i < length l → stores_inside energies l → store_end (get_or l i past_the_last).shape ≤ energies
store_at energies = every_at (λ entry. store_end entry.shape ≤ energies)

pub suits_sound : (energies : List Float) (s : Shape) → shape_sound energies s ≡ true → suits_at s ≡ true
suits_sound energies (Histogram start) h = refl
suits_sound energies (Queue-at start queue) h = (both (suits queue queue.maximum) (none_below (held_of (queue_at energies start queue))) h).0

-- an entry that suits its store is sound where none of its energies is below boundary 0
pub sound_suits : (energies : List Float) (s : Shape) → suits_at s ≡ true → none_below (held_by (shape_shows [] energies s)) ≡ shape_sound energies s
unfolding none_below
sound_suits energies (Histogram start) h = refl
sound_suits energies (Queue-at start queue) h = rw h

-- ---- entry by entry
module _ (energies : List Float) (l : List Entry) (i : ℕ) where
  pub held_end : length l ≤ i → held_in energies (drop i l) ≡ []
  unfolding all_held
  held_end h = ap all_held (shows_end [] energies l i h)

  held_next : i < length l
      → held_in energies (drop i l) ≡ held_by (shows [] energies (get_or l i past_the_last)) ++ held_in energies (drop (i + 1) l)
  unfolding all_held
  held_next h = ap all_held (shows_next [] energies l i h)

  pub held_count : i < length l
      → length (held_in energies (drop i l)) ≡ length (held_at energies (get_or l i past_the_last)) + length (held_in energies (drop (i + 1) l))
  held_count h =
      ap length (held_next h) ∙ length-append (held_at energies (get_or l i past_the_last)) (held_in energies (drop (i + 1) l))

  pub sound_next : i < length l → is_sound energies (get_or l i past_the_last) && all_sound energies (drop (i + 1) l) ≡ all_sound energies (drop i l)
  unfolding all_sound
  sound_next h = rw (drop_more l i past_the_last h)

  pub sound_end : length l ≤ i → all_sound energies (drop i l) ≡ true
  sound_end h = all_end energies l i h

  pub seen_next : i < length l → (before seen : Seen) → seen ≡ with_seen before (held_at energies (get_or l i past_the_last))
      → with_seen seen (held_in energies (drop (i + 1) l)) ≡ with_seen before (held_in energies (drop i l))
  seen_next h before seen e =
      let rest = held_in energies (drop (i + 1) l) in
      ap (λ (s : Seen). with_seen s rest) e
      ∙ seen_append before (held_at energies (get_or l i past_the_last)) rest
      ∙ ap (with_seen before) (sym (held_next h))

  -- this entry's energies are stored, and then those of the others
  pub held_set : i < length l → (work next : List Float) (at after : ℕ) → next ≡ sets work at (held_at energies (get_or l i past_the_last))
      → after ≡ at + length (held_at energies (get_or l i past_the_last))
      → sets next after (held_in energies (drop (i + 1) l)) ≡ sets work at (held_in energies (drop i l))
  held_set h work next at after e f =
      let here = held_at energies (get_or l i past_the_last) in
      let rest = held_in energies (drop (i + 1) l) in
      ap (λ (w : List Float). sets w after rest) e
      ∙ ap (λ (n : ℕ). sets (sets work at here) n rest) f
      ∙ sym (sets_append work here rest at)
      ∙ ap (sets work at) (sym (held_next h))

-- ---- the two parts of an entry
module _ (energies : List Float) (entry : Entry) (older newer : List Float) (is : older ++ newer ≡ held_at energies entry) where
  pub parts_count : length (held_at energies entry) ≡ length older + length newer
  parts_count = ap length (sym is) ∙ length-append older newer

  pub parts_below : none_below older && none_below newer ≡ none_below (held_at energies entry)
  parts_below = sym (none_below_append older newer) ∙ ap none_below is

  pub parts_seen : (before a : Seen) → a ≡ with_seen before older → with_seen a newer ≡ with_seen before (held_at energies entry)
  parts_seen before a f = ap (λ (s : Seen). with_seen s newer) f ∙ seen_append before older newer ∙ ap (with_seen before) is

  pub parts_set : (work : List Float) (at middle : ℕ) → middle ≡ at + length older → sets (sets work at older) middle newer ≡ sets work at (held_at energies entry)
  parts_set work at middle e =
      ap (λ (n : ℕ). sets (sets work at older) n newer) e ∙ sym (sets_append work older newer at) ∙ ap (sets work at) is

-- counters play no part
pub held_any : (counters : List ℕ) (energies : List Float) (l : List Entry) → held_in energies l ≡ all_held (all_show counters energies l)
unfolding all_held all_show
held_any counters energies [] = refl
held_any counters energies (entry ∷ l) = one entry.shape (held_any counters energies l)
  where
    one : (s : Shape) → held_in energies l ≡ all_held (all_show counters energies l)
        → held_by (shape_shows [] energies s) ++ held_in energies l ≡ held_by (shape_shows counters energies s) ++ all_held (all_show counters energies l)
    one (Histogram start) e = e
    one (Queue-at start queue) e = ap (λ (r : List Float). held_of (queue_at energies start queue) ++ r) e

-- ---- above zero
-- below no boundary 0 and no NaN: above zero
pub above_one : (lo x : Float) → T (positive lo) → lt x lo ≡ false → is_nan x ≡ false → T (above x)
unfolding lt is_nan
above_one nan x p h n = absurd p
above_one (inf s) x p h n = absurd p
above_one (fin true m e) x p h n = absurd p
above_one (fin false m e) nan p h n = absurd (true≢false n)
above_one (fin false m e) (inf true) p h n = absurd (true≢false h)
above_one (fin false m e) (inf false) p h n = tt
above_one (fin false m e) (fin true q d) p h n =
    absurd (true≢false (sym (lt-ltb 0 (q * up d * down e + m * up e * down d) (omega (arith, mul-pos (mul-pos (ltb→lt 0 m p) (up_pos e)) (down_pos d)))) ∙ h))
above_one (fin false m e) (fin false zero d) p h n =
    absurd (true≢false (sym (lt-ltb (0 * up d * down e) (m * up e * down d) (omega (arith, mul-pos (mul-pos (ltb→lt 0 m p) (up_pos e)) (down_pos d)))) ∙ h))
above_one (fin false m e) (fin false (suc q) d) p h n = lt→ltb 0 (suc q) (omega arith)

pub above_held : (l : List Float) → none_below l ≡ true → any_nan l ≡ false → all_above l ≡ true
unfolding none_below any_nan all_above
above_held [] b n = refl
above_held (x ∷ l) b n =
    let p = both (not (dropped x)) (none_below l) b in
    let q = either_not (is_nan x) (any_nan l) n in
    rw (
      is_true (above x) (above_one (boundary_at 0) x (boundary_positive 0 (omega arith)) (not-true (dropped x) p.0) q.0),
      above_held l p.1 q.1,
    )

pub none_below_held : (energies : List Float) (l : List Entry) → all_sound energies l ≡ true → none_below (held_in energies l) ≡ true
unfolding all_sound all_held all_show none_below
none_below_held energies [] s = refl
none_below_held energies (entry ∷ l) s =
    let p = both (is_sound energies entry) (all_sound energies l) s in
    one entry.shape p.0 (none_below_held energies l p.1)
  where
    one : (s : Shape) → shape_sound energies s ≡ true → none_below (held_in energies l) ≡ true → none_below (held_by (shape_shows [] energies s) ++ held_in energies l) ≡ true
    one (Histogram start) h r = r
    one (Queue-at start queue) h r =
        let q = both (suits queue queue.maximum) (none_below (held_of (queue_at energies start queue))) h in
        rw (none_below_append (held_of (queue_at energies start queue)) (held_in energies l), q.1, r)
