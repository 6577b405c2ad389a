-- What an energy that is added does to those that a queue holds: it becomes the last, and the first of a full queue goes.
-- Places on the ring differ as long as they are less than a whole turn apart. Assumes nothing.
use mathlib.Core.Path.{◌≡◌, refl, sym, ap, ◌∙◌, subst}
use mathlib.Core.Bool.{Bool, true, false, cond}
use mathlib.Core.Logic.{◌⊎◌, inl, inr}
use mathlib.Core.List.{List, [], ◌∷◌, ◌++◌}
use Prim.Native.Nat.{ℕ, zero, suc, ◌+◌, ◌-◌, ◌%◌, ◌≤◌, ◌<◌}
use native.Mathlib.Nat.{mod-eq_of_lt, mod-eq-sub-mod, mod-lt, mod-mod, add-mod_right}
use native.Mathlib.Numerals.{add-one}
use native.Mathlib.Omega.{arith}
use borrow.Author.Tests.{lt-ltb, le-ltb}
use lib.Dec.{ltb}
use lib.ListN.{length, drop, set, length-set}
use lib.Seq.{get_or-set_same, get_or-set_other}
use lib.Ieee.{Float, nan}
use Rattle.history_queue.specs.declared.Queue.{Queue}
use Rattle.history_queue.specs.Queue.{over, held_from, held_of}
use Rattle.history_queue.proofs.Ring.{Suited}
use Rattle.history_queue.proofs.Held.{less_or_not, held_count, same_place, held_append}
use Rattle.history_queue.specs.Adding.{next_place, advanced, with_newest}
use Rattle.history_queue.proofs.Enqueued.{advance_more, advance_full}

-- places on a ring of m
-- below two turns, a place is itself, or itself less one turn
turned : (p m : ℕ) → p < m + m → ((p < m) × (p % m ≡ p)) ⊎ ((m ≤ p) × (p % m ≡ p - m))
turned p m h = elim (less_or_not p m) [
  | inl l ↦ inl (l, mod-eq_of_lt l)
  | inr g ↦ inr (g, mod-eq-sub-mod g ∙ mod-eq_of_lt (omega arith))
]

apart : (p i j m : ℕ) → p < m → i < j → j < m → (p + i) % m ≡ (p + j) % m → ⊥
apart p i j m P I J e = elim (turned (p + i) m (omega arith)) [
  | inl a ↦ elim (turned (p + j) m (omega arith)) [ inl b ↦ omega (arith, a.1, b.1) | inr b ↦ omega (arith, a.1, b.0, b.1) ]
  | inr a ↦ elim (turned (p + j) m (omega arith)) [ inl b ↦ omega (arith, a.0, a.1, b.0) | inr b ↦ omega (arith, a.0, a.1, b.0, b.1) ]
]

after_first : (store : List Float) (m p n : ℕ) → drop 1 (held_from store m p (suc n)) ≡ held_from store m (suc p) n
unfolding held_from
after_first store m p n = refl

-- a place that none of them has may be written
elsewhere : (store : List Float) (m place : ℕ) (energy : Float) (p n : ℕ) → ((i : ℕ) → i < n → (p + i) % m ≡ place → ⊥)
    → held_from (set store place energy) m p n ≡ held_from store m p n
unfolding held_from
elsewhere store m place energy p zero h = refl
elsewhere store m place energy p (suc n) h =
    rw (
      get_or-set_other store place (p % m) energy nan (λ e. h 0 (omega arith) (ap (λ (k : ℕ). k % m) {x = p + 0} {y = p} (omega arith) ∙ e)),
      elsewhere store m place energy (suc p) n (λ i l e. h (suc i) (omega arith) (ap (λ (k : ℕ). k % m) {x = p + suc i} {y = suc p + i} (omega arith) ∙ e)),
    )

-- the energy at the place that was just written
newest : (queue : Queue) (store : List Float) → Suited queue (length store) → (energy : Float)
    → held_from (set store (next_place queue) energy) queue.maximum (queue.head + queue.held) 1 ≡ energy ∷ []
unfolding held_from
newest queue store fit energy =
    rw (get_or-set_same store (next_place queue) energy nan (subst (λ (n : ℕ). next_place queue < n) fit.whole (mod-lt (queue.head + queue.held) fit.least)))

module _ (queue : Queue) (store : List Float) (fit : Suited queue (length store)) where
  -- an energy that is added while there is a place left
  pub held_more : (energy : Float) → queue.held < queue.maximum
      → held_of (over (advanced queue) (set store (next_place queue) energy)) ≡ held_of (over queue store) ++ (energy ∷ [])
  held_more energy h =
      let now = set store (next_place queue) energy in
      ap (λ (q : Queue). held_of (over q now)) (advance_more queue h)
      ∙ held_append now queue.maximum queue.head queue.held 1
      ∙ ap (λ (l : List Float). l ++ held_from now queue.maximum (queue.head + queue.held) 1)
      (elsewhere store queue.maximum (next_place queue) energy queue.head queue.held (λ i l. apart queue.head i queue.held queue.maximum fit.within l h))
      ∙ ap (λ (l : List Float). held_of (over queue store) ++ l) (newest queue store fit energy)

  -- an energy that is added to a full queue
  pub held_full : (energy : Float) → queue.maximum ≤ queue.held
      → held_of (over (advanced queue) (set store (next_place queue) energy)) ≡ drop 1 (held_of (over queue store)) ++ (energy ∷ [])
  held_full energy h =
      let now = set store (next_place queue) energy in
      let m = queue.maximum in
      let p = queue.head + 1 in
      let others = queue.held - 1 in
      let full : queue.held ≡ m = omega (arith, fit.full) in
      ap (λ (q : Queue). held_of (over q now)) (advance_full queue h)
      ∙ same_place now m (p % m) p queue.held (mod-mod p m)
      ∙ ap (held_from now m p) {x = queue.held} {y = others + 1} (omega (arith, fit.least))
      ∙ held_append now m p others 1
      ∙ ap (λ (l : List Float). l ++ held_from now m (p + others) 1)
      (elsewhere store m (next_place queue) energy p others (λ i l e. apart queue.head 0 (1 + i) m fit.within (omega arith) (omega (arith, fit.least)) (start full ∙ sym (ap (λ (k : ℕ). k % m) {x = queue.head + (1 + i)} {y = p + i} (omega arith) ∙ e))))
      ∙ ap (λ (k : ℕ). held_from store m p others ++ held_from now m k 1) {x = p + others} {y = queue.head + queue.held} (omega (arith, fit.least))
      ∙ ap (λ (l : List Float). held_from store m p others ++ l) (newest queue store fit energy)
      ∙ ap (λ (l : List Float). l ++ (energy ∷ [])) (sym (after_first store m queue.head others ∙ ap (λ (k : ℕ). held_from store m k others) (sym (add-one queue.head))))
      ∙ ap (λ (k : ℕ). drop 1 (held_from store m queue.head k) ++ (energy ∷ [])) {x = suc others} {y = queue.held} (omega (arith, fit.least))
    where
      -- the next place of a full queue is its head's
      start : queue.held ≡ queue.maximum → (queue.head + 0) % queue.maximum ≡ next_place queue
      start full =
          ap (λ (k : ℕ). k % queue.maximum) {x = queue.head + 0} {y = queue.head} (omega arith)
          ∙ sym (add-mod_right queue.head queue.maximum)
          ∙ ap (λ (k : ℕ). (queue.head + k) % queue.maximum) (sym full)

-- ---- what `enqueued` comes to, in terms of the energies held
module _ (queue : Queue) (store : List Float) (fit : Suited queue (length store)) (energy : Float) where
  -- the queue goes on to suit its store
  pub suited_after : Suited (advanced queue) (length (set store (next_place queue) energy))
  suited_after = elim (less_or_not queue.held queue.maximum) [
    | inl l ↦ subst (λ (q : Queue). Suited q (length (set store (next_place queue) energy))) (sym (advance_more queue l)) (more l)
    | inr g ↦ subst (λ (q : Queue). Suited q (length (set store (next_place queue) energy))) (sym (advance_full queue g)) whole_turn
  ]
    where
      kept : queue.maximum ≡ length (set store (next_place queue) energy)
      kept = fit.whole ∙ sym (length-set store (next_place queue) energy)

      more : queue.held < queue.maximum
          → Suited (record { maximum = queue.maximum; head = queue.head; held = queue.held + 1 }) (length (set store (next_place queue) energy))
      more l = record { least = fit.least; most = fit.most; whole = kept; within = fit.within; full = omega arith }

      whole_turn : Suited (record { maximum = queue.maximum; head = (queue.head + 1) % queue.maximum; held = queue.held }) (length (set store (next_place queue) energy))
      whole_turn =
          record { least = fit.least; most = fit.most; whole = kept; within = mod-lt (queue.head + 1) fit.least; full = fit.full }

  pub held_after : held_of (over (advanced queue) (set store (next_place queue) energy)) ≡ with_newest queue.maximum (held_of (over queue store)) energy
  held_after = elim (less_or_not queue.held queue.maximum) [
    | inl l ↦ held_more queue store fit energy l ∙ sym (rest true (count ∙ lt-ltb queue.held queue.maximum l))
    | inr g ↦ held_full queue store fit energy g ∙ sym (rest false (count ∙ le-ltb queue.held queue.maximum g))
  ]
    where
      count : ltb (length (held_of (over queue store))) queue.maximum ≡ ltb queue.held queue.maximum
      count = ap (λ (n : ℕ). ltb n queue.maximum) (held_count store queue.maximum queue.head queue.held)

      rest : (b : Bool) → ltb (length (held_of (over queue store))) queue.maximum ≡ b
          → with_newest queue.maximum (held_of (over queue store)) energy ≡ cond b (held_of (over queue store)) (drop 1 (held_of (over queue store))) ++ (energy ∷ [])
      rest b e = ap (λ (t : Bool). cond t (held_of (over queue store)) (drop 1 (held_of (over queue store))) ++ (energy ∷ [])) e
