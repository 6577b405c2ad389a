-- A queue to which energies are added one after the other, with room for them all, holds those that are not dropped, in order, after what it held.
-- Each is either dropped, which leaves the queue as it is, or becomes the last. Assumes nothing.
use mathlib.Core.Path.{◌≡◌, refl, sym, ap, ◌∙◌, subst}
use mathlib.Core.Bool.{Bool, true, false, cond}
use mathlib.Core.List.{List, [], ◌∷◌, ◌++◌, append-nil, append_assoc}
use Prim.Native.Nat.{ℕ, ◌+◌, ◌≤◌, ◌<◌}
use native.Mathlib.Omega.{arith}
use lib.ListN.{length, set}
use lib.Ieee.{Float}
use Rattle.base_refusals.specs.Outcome.{kept_by}
use Rattle.history_queue.specs.declared.Queue.{Queue}
use Rattle.bins.specs.Energy.{dropped}
use Rattle.history_queue.specs.Queue.{longest, Stored, over, started, held_from, held_of}
use Rattle.history_queue.proofs.Ring.{Suited, suits_it}
use Rattle.history_queue.specs.Adding.{advanced, next_place, enqueued, fed_to, taken}
use Rattle.history_queue.proofs.Enqueued.{advance_more, enqueue_dropped, enqueue_went}
use Rattle.history_queue.proofs.Newest.{held_more, suited_after}

-- what the rest gives, by whether the energy is dropped
abbrev taken_next : Bool → Float → List Float → List Float
taken_next drop_it energy rest = cond drop_it (taken rest) (energy ∷ taken rest)

pub held_of_fed : (energies : List Float) (queue : Queue) (store : List Float) → Suited queue (length store)
    → queue.held + length (taken energies) ≤ queue.maximum
    → held_of (fed_to (over queue store) energies) ≡ held_of (over queue store) ++ taken energies
unfolding fed_to taken
held_of_fed [] queue store fit room = sym (append-nil (held_of (over queue store)))
held_of_fed (energy ∷ rest) queue store fit room =
    go (dropped energy) refl room (held_of_fed rest queue store fit)
    (held_of_fed rest (advanced queue) (set store (next_place queue) energy) (suited_after queue store fit energy))
  where
    go : (b : Bool) → dropped energy ≡ b → queue.held + length (taken_next b energy rest) ≤ queue.maximum
        → (queue.held + length (taken rest) ≤ queue.maximum → held_of (fed_to (over queue store) rest) ≡ held_of (over queue store) ++ taken rest)
        → ((advanced queue).held + length (taken rest) ≤ (advanced queue).maximum
        → held_of (fed_to (over (advanced queue) (set store (next_place queue) energy)) rest)
        ≡ held_of (over (advanced queue) (set store (next_place queue) energy)) ++ taken rest)
        → held_of (fed_to (kept_by (over queue store) (enqueued (over queue store) energy)) rest) ≡ held_of (over queue store) ++ taken_next b energy rest
    go true e room passed more =
        ap (λ (s : Stored). held_of (fed_to s rest)) (ap (kept_by (over queue store)) (enqueue_dropped queue store energy (suits_it queue (length store) fit) e)) ∙ passed room
    go false e room passed more =
        let space : queue.held < queue.maximum = omega arith in
        ap (λ (s : Stored). held_of (fed_to s rest)) (ap (kept_by (over queue store)) (enqueue_went queue store energy (suits_it queue (length store) fit) e))
        ∙ more (subst (λ (q : Queue). q.held + length (taken rest) ≤ q.maximum) (sym (advance_more queue space)) (omega arith))
        ∙ ap (λ (l : List Float). l ++ taken rest) (held_more queue store fit energy space)
        ∙ append_assoc (held_of (over queue store)) (energy ∷ []) (taken rest)

-- a new queue holds what is not dropped
pub held_of_new : (energies : List Float) (maximum : ℕ) (store : List Float) → 1 ≤ maximum → maximum ≤ longest → maximum ≡ length store
    → length (taken energies) ≤ maximum → held_of (fed_to (over (started maximum) store) energies) ≡ taken energies
unfolding held_from
held_of_new energies maximum store least most whole room =
    held_of_fed energies (started maximum) store (record { least = least; most = most; whole = whole; within = least; full = omega arith }) (omega arith)
