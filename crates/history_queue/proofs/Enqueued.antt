-- What `enqueued` comes to, case by case. It picks its case by tests, and each law settles those tests. Assumes nothing.
use mathlib.Core.Path.{◌≡◌, sym, ap, ◌∙◌}
use mathlib.Core.Bool.{true, false}
use mathlib.Core.List.{List}
use Prim.Native.Nat.{ℕ, ◌+◌, ◌-◌, ◌%◌, ◌≤◌, ◌<◌}
use native.Mathlib.Nat.{mod-eq_of_lt, mod-eq-sub-mod}
use native.Mathlib.Omega.{arith}
use borrow.Author.Tests.{lt-ltb, le-ltb}
use lib.ListN.{length, set}
use lib.Ieee.{Float}
use Rattle.base_refusals.specs.Outcome.{went, done}
use Rattle.bins.specs.Energy.{dropped}
use Rattle.history_queue.specs.declared.Queue.{Queue}
use Rattle.history_queue.specs.Queue.{over, suits}
use Rattle.history_queue.specs.Adding.{next_place, advanced, enqueued}

module _ (queue : Queue) (store : List Float) (energy : Float) where
  pub enqueue_dropped : suits queue (length store) ≡ true → dropped energy ≡ true → enqueued (over queue store) energy ≡ went (over queue store) done
  unfolding enqueued
  enqueue_dropped h d = rw (h, d)

  pub enqueue_went : suits queue (length store) ≡ true → dropped energy ≡ false
      → enqueued (over queue store) energy ≡ went (over (advanced queue) (set store (next_place queue) energy)) done
  unfolding enqueued
  enqueue_went h d = rw (h, d)

pub advance_more : (queue : Queue) → queue.held < queue.maximum
    → advanced queue ≡ record { maximum = queue.maximum; head = queue.head; held = queue.held + 1 }
advance_more queue h = rw (lt-ltb queue.held queue.maximum h)

pub advance_full : (queue : Queue) → queue.maximum ≤ queue.held
    → advanced queue ≡ record { maximum = queue.maximum; head = (queue.head + 1) % queue.maximum; held = queue.held }
advance_full queue h = rw (le-ltb queue.held queue.maximum h)

-- the next place of a full queue is that of its oldest
pub full_place : (queue : Queue) → queue.head < queue.maximum → queue.held ≡ queue.maximum → queue.head ≡ next_place queue
full_place queue h f =
    let on : queue.maximum ≤ queue.head + queue.held = omega (arith, f) in
    let back : queue.head + queue.held - queue.maximum ≡ queue.head = omega (arith, f) in
    sym (mod-eq-sub-mod on ∙ ap (λ (n : ℕ). n % queue.maximum) back ∙ mod-eq_of_lt h)
