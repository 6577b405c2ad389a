-- The energies that a queue holds are two slices of those in which its store stands, one after the other: the store is itself a slice, so that its parts are.
-- Assumes nothing.
use mathlib.Core.Path.{◌≡◌, refl, sym, ap, ◌∙◌, subst}
use mathlib.Core.Bool.{Bool, true, false, not, and-eq-true_iff}
use mathlib.Core.List.{List, [], ◌∷◌, ◌++◌}
use Prim.Native.Nat.{ℕ, zero, suc, ◌+◌, ◌-◌, ◌≤◌}
use native.Mathlib.Omega.{arith}
use borrow.Author.Tests.{not-true, le-ltb, ltb-false}
use lib.Dec.{ltb}
use lib.ListN.{length, take, drop, length-take, length-drop}
use lib.Seq.{take-take, take_all, drop-drop, take-nil}
use lib.Ieee.{Float}
use Rattle.history_queue.specs.declared.Queue.{Queue}
use Rattle.history_queue.specs.declared.Parts.{Parts}
use Rattle.history_queue.specs.Queue.{longest, over, suits, held_of, first_part, stands, standing, nowhere, parts_of, slice, in_parts}
use Rattle.history_queue.proofs.Ring.{Suited, suited}
use Rattle.history_queue.proofs.Held.{held_parts}

-- ---- slices
drop_take : {A : Type 0} (i n : ℕ) (l : List A) → drop i (take n l) ≡ take (n - i) (drop i l)
drop_take zero n l = ap (λ (k : ℕ). take k l) {x = n} {y = n - 0} (omega arith)
drop_take (suc i) zero l = sym (ap (λ (k : ℕ). take k (drop (suc i) l)) {x = zero - suc i} {y = 0} (omega arith))
drop_take (suc i) (suc n) [] = sym (take-nil (suc n - suc i))
drop_take (suc i) (suc n) (x ∷ l) = drop_take i n l ∙ ap (λ (k : ℕ). take k (drop i l)) {x = n - i} {y = suc n - suc i} (omega arith)

pub slice_length : {A : Type 0} (from until : ℕ) (l : List A) → until ≤ length l → length (slice from until l) ≡ until - from
slice_length from until l h = simp (length-take, length-drop) (omega arith)

-- ---- whether a store stands
module _ (queue : Queue) (start places : ℕ) where
  pub inside : start + queue.maximum ≤ places → stands queue start places ≡ suits queue queue.maximum
  inside h = rw (le-ltb places (start + queue.maximum) h)

  pub stands_well : stands queue start places ≡ true → (start + queue.maximum ≤ places) × Suited queue queue.maximum
  stands_well h =
      let w = (and-eq-true_iff (not (ltb places (start + queue.maximum))) (suits queue queue.maximum)).0 h in
      (ltb-false places (start + queue.maximum) (not-true (ltb places (start + queue.maximum)) w.0), suited queue queue.maximum w.1)

  -- ---- where its energies stand
  pub parts_standing : stands queue start places ≡ true → parts_of queue start places ≡ standing queue start
  unfolding parts_of
  parts_standing h = rw h

  pub parts_nowhere : stands queue start places ≡ false → parts_of queue start places ≡ nowhere
  unfolding parts_of
  parts_nowhere h = rw h

-- within so many places, and no more than the longest queue holds
pub record Within (parts : Parts) (places : ℕ) : Type 0 where
  pub older : parts.from ≤ parts.until
  pub inside : parts.until ≤ places
  pub newer : parts.start ≤ parts.end
  pub within : parts.end ≤ places
  pub few : parts.until - parts.from + (parts.end - parts.start) ≤ longest

pub nowhere_within : (places : ℕ) → Within nowhere places
nowhere_within places = record { older = omega arith; inside = omega arith; newer = omega arith; within = omega arith; few = omega arith }

pub parts_within : (queue : Queue) (start places : ℕ) (parts : Parts) → parts ≡ parts_of queue start places → Within parts places
parts_within queue start places parts e = subst (λ (at : Parts). Within at places) (sym e) (go (stands queue start places) refl)
  where
    go : (b : Bool) → stands queue start places ≡ b → Within (parts_of queue start places) places
    go true h =
        let w = stands_well queue start places h in
        let f = w.1 in
        subst (λ (at : Parts). Within at places) (sym (parts_standing queue start places h)) (record {
          older = omega arith;
          inside = omega (arith, w.0, f.within);
          newer = omega arith;
          within = omega (arith, w.0, f.full);
          few = omega (arith, f.full, f.most);
        })
    go false h = subst (λ (at : Parts). Within at places) (sym (parts_nowhere queue start places h)) (nowhere_within places)

-- ---- the energies held
module _ (queue : Queue) (start : ℕ) (energies : List Float) (h : stands queue start (length energies) ≡ true) where
  abbrev store : List Float
  store = take queue.maximum (drop start energies)

  -- the store has the queue's maximum of places
  suited_there : Suited queue (length store)
  suited_there =
      let w = stands_well queue start (length energies) h in
      let long : length store ≡ queue.maximum = simp (length-take, length-drop) (omega (arith, w.0)) in
      subst (Suited queue) (sym long) w.1

  slices : held_of (over queue store) ≡ in_parts (standing queue start) energies
  slices =
      let fit = (stands_well queue start (length energies) h).1 in
      let first = first_part queue in
      let rest = queue.held - first in
      held_parts queue store suited_there
      ∙ ap (λ (l : List Float). take first l ++ take rest store) (drop_take queue.head queue.maximum (drop start energies))
      ∙ ap (λ (l : List Float). l ++ take rest store)
      (take-take first (queue.maximum - queue.head) (drop queue.head (drop start energies)) (omega arith)
      ∙ ap (take first) (drop-drop queue.head start energies)
      ∙ ap (λ (k : ℕ). take k (drop (start + queue.head) energies)) {x = first} {y = start + queue.head + first - (start + queue.head)} (omega arith))
      ∙ ap (λ (l : List Float). slice (start + queue.head) (start + queue.head + first) energies ++ l)
      (take-take rest queue.maximum (drop start energies) (omega (arith, fit.full))
      ∙ ap (λ (k : ℕ). take k (drop start energies)) {x = rest} {y = start + rest - start} (omega arith))

  pub held_in_parts : held_of (over queue store) ≡ in_parts (parts_of queue start (length energies)) energies
  held_in_parts = slices ∙ ap (λ (parts : Parts). in_parts parts energies) (sym (parts_standing queue start (length energies) h))

-- those of a queue over a store of its own
pub held_in_store : (queue : Queue) (store : List Float) → suits queue (length store) ≡ true
    → held_of (over queue store) ≡ in_parts (parts_of queue 0 (length store)) store
held_in_store queue store h =
    let f = suited queue (length store) h in
    let there = inside queue 0 (length store) (omega (arith, f.whole)) ∙ ap (suits queue) f.whole ∙ h in
    ap (λ (l : List Float). held_of (over queue l)) (sym (take_all queue.maximum store (omega (arith, f.whole)))) ∙ held_in_parts queue 0 store there
