-- What refuses a set of histories, by its tests, and what a set that no row refuses keeps: few entries, none outside, every store sound. Assumes nothing.
use mathlib.Core.Path.{◌≡◌}
use mathlib.Core.Bool.{true, false}
use Prim.Native.Nat.{◌≤◌}
use borrow.Author.Tests.{le-ltb, ltb-false, not-false}
use lib.Dec.{ltb}
use lib.ListN.{length}
use Rattle.base_refusals.specs.Refusal.{number}
use Rattle.base_refusals.specs.declared.Refusal.TheVariants.{STORE, SET}
use Rattle.base_refusals.specs.Rows.{number_of}
use Rattle.base_refusals.proofs.Rows.{not_held}
use Rattle.history_set.proofs.Entries.{all_chosen, either_not}
use Rattle.history_set.specs.declared.set.Histories.{Histories as Lent}
use Rattle.history_set.specs.Lent.{lent}
use Rattle.history_set.specs.Set.{most_histories, Histories, chosen, any_outside, outside_set, all_sound, set_rows}

module _ (h : Histories) where
  -- ---- SET
  pub not_too_many : h.count ≤ most_histories → outside_set h ≡ any_outside (length h.counters) (length h.energies) (chosen h)
  not_too_many l = rw (le-ltb most_histories h.count l)

  pub none_outside : outside_set h ≡ false → (h.count ≤ most_histories) × (any_outside (length h.counters) (length h.energies) (chosen h) ≡ false)
  none_outside e =
      let w = either_not (ltb most_histories h.count) (any_outside (length h.counters) (length h.energies) (chosen h)) e in
      (ltb-false most_histories h.count w.0, w.1)

  -- ---- the first row that holds
  pub set_refused : outside_set h ≡ true → number_of (set_rows h) ≡ number SET
  set_refused e = rw e

  pub one_unsound : outside_set h ≡ false → all_sound h.energies (chosen h) ≡ false → number_of (set_rows h) ≡ number STORE
  one_unsound e s = rw (e, s)

  pub all_well : outside_set h ≡ false → all_sound h.energies (chosen h) ≡ true → number_of (set_rows h) ≡ 0
  all_well e s = rw (e, s)

-- ---- a set that no row refuses
pub record Kept (h : Histories) : Type 0 where
  pub few : h.count ≤ most_histories
  pub inside : any_outside (length h.counters) (length h.energies) (chosen h) ≡ false
  pub stores : all_sound h.energies (chosen h) ≡ true

pub kept : (h : Histories) → number_of (set_rows h) ≡ 0 → Kept h
kept h e =
    let w = none_outside h (not_held SET (set_rows h) e) in
    record { few = w.0; inside = w.1; stores = not-false (all_sound h.energies (chosen h)) (not_held STORE (set_rows h) e) }

-- ---- the same of a set as it is lent, whose entries all count
pub none_reaches : (set : Lent) → outside_set (lent set) ≡ false → any_outside (length set.counters.now) (length set.energies.now) set.entries.now ≡ false
none_reaches set e = rw all_chosen at (none_outside (lent set) e).1

pub record KeptLent (set : Lent) : Type 0 where
  pub few : length set.entries.now ≤ most_histories
  pub inside : any_outside (length set.counters.now) (length set.energies.now) set.entries.now ≡ false
  pub stores : all_sound set.energies.now set.entries.now ≡ true

pub kept_lent : (set : Lent) → number_of (set_rows (lent set)) ≡ 0 → KeptLent set
kept_lent set e = let k = kept (lent set) e in record { few = k.few; inside = rw all_chosen at k.inside; stores = rw all_chosen at k.stores }
