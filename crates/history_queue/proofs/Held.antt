-- The energies that a queue holds, oldest first: how many they are and where each stands, and that they are two straight parts of the store. Assumes nothing.
use mathlib.Core.Path.{◌≡◌, refl, sym, ap, ◌∙◌}
use mathlib.Core.Bool.{Bool, true, false}
use mathlib.Core.Logic.{◌⊎◌, inl, inr}
use mathlib.Core.List.{List, [], ◌∷◌, ◌++◌}
use Prim.Native.Nat.{ℕ, zero, suc, ◌+◌, ◌-◌, ◌%◌, ◌≤◌, ◌<◌}
use native.Mathlib.Nat.{mod-eq_of_lt, mod_self, zero-mod, suc-mod}
use native.Mathlib.Omega.{arith}
use borrow.Author.Tests.{ltb-true, ltb-false}
use lib.Dec.{ltb}
use lib.ListN.{length, get_or, take, drop}
use lib.Seq.{drop-cons}
use lib.Ieee.{Float, nan}
use Rattle.history_queue.specs.declared.Queue.{Queue}
use Rattle.history_queue.specs.Queue.{over, held_from, held_of, first_part}
use Rattle.history_queue.proofs.Ring.{Suited}

pub less_or_not : (a b : ℕ) → (a < b) ⊎ (b ≤ a)
less_or_not a b = go (ltb a b) refl
  where
    go : (t : Bool) → ltb a b ≡ t → (a < b) ⊎ (b ≤ a)
    go true e = inl (ltb-true a b e)
    go false e = inr (ltb-false a b e)

-- energies from a place on
module _ (store : List Float) (m : ℕ) where
  pub held_count : (p n : ℕ) → length (held_from store m p n) ≡ n
  unfolding held_from
  held_count p zero = refl
  held_count p (suc n) = ap suc (held_count (suc p) n)

  -- the same place of the ring, the same energies
  pub same_place : (p q n : ℕ) → p % m ≡ q % m → held_from store m p n ≡ held_from store m q n
  unfolding held_from
  same_place p q zero e = refl
  same_place p q (suc n) e =
      rw (e, same_place (suc p) (suc q) n (suc-mod p m ∙ ap (λ (k : ℕ). suc k % m) e ∙ sym (suc-mod q m)))

  -- first some, then the rest
  pub held_append : (p a b : ℕ) → held_from store m p (a + b) ≡ held_from store m p a ++ held_from store m (p + a) b
  unfolding held_from
  held_append p zero b =
      ap (held_from store m p) {x = zero + b} {y = b} (omega arith) ∙ ap (λ (k : ℕ). held_from store m k b) {x = p} {y = p + zero} (omega arith)
  held_append p (suc a) b =
      ap (held_from store m p) {x = suc a + b} {y = suc (a + b)} (omega arith)
      ∙ ap {B = List Float} (λ (l : List Float). get_or store (p % m) nan ∷ l)
      (held_append (suc p) a b ∙ ap (λ (k : ℕ). held_from store m (suc p) a ++ held_from store m k b) {x = suc p + a} {y = p + suc a} (omega arith))

  -- up to the end of the store, the energies stand side by side
  straight : length store ≡ m → (p n : ℕ) → p + n ≤ m → held_from store m p n ≡ take n (drop p store)
  unfolding held_from
  straight e p zero h = refl
  straight e p (suc n) h =
      let l : p < length store = omega (arith, e) in
      rw (mod-eq_of_lt {n = p} {m = m} (omega arith), straight e (suc p) n (omega arith), drop-cons store p nan l)

module _ (queue : Queue) (store : List Float) (fit : Suited queue (length store)) where
  -- the energies are the first part, up to the end of the store, and the rest from its start
  pub held_parts : held_of (over queue store)
      ≡ take (first_part queue) (drop queue.head store) ++ take (queue.held - first_part queue) store
  held_parts =
      let first = first_part queue in
      let rest = queue.held - first in
      ap (held_from store queue.maximum queue.head) {x = queue.held} {y = first + rest} (omega arith)
      ∙ held_append store queue.maximum queue.head first rest
      ∙ ap (λ (l : List Float). l ++ held_from store queue.maximum (queue.head + first) rest)
      (straight store queue.maximum (sym fit.whole) queue.head first (omega (arith, fit.within)))
      ∙ ap (λ (l : List Float). take first (drop queue.head store) ++ l) (second (less_or_not (queue.head + queue.held) queue.maximum))
    where
      second : (queue.head + queue.held < queue.maximum) ⊎ (queue.maximum ≤ queue.head + queue.held)
          → held_from store queue.maximum (queue.head + first_part queue) (queue.held - first_part queue) ≡ take (queue.held - first_part queue) store
      second (inl l) =
          let z : queue.held - first_part queue ≡ 0 = omega (arith, fit.within) in
          ap (λ (k : ℕ). held_from store queue.maximum (queue.head + first_part queue) k) z ∙ none ∙ ap (λ (k : ℕ). take k store) (sym z)
        where
          none : held_from store queue.maximum (queue.head + first_part queue) 0 ≡ []
          none = unfold held_from in refl
      second (inr g) =
          let rest = queue.held - first_part queue in
          let e : queue.head + first_part queue ≡ queue.maximum = omega (arith, fit.within) in
          ap (λ (k : ℕ). held_from store queue.maximum k rest) e
          ∙ same_place store queue.maximum queue.maximum 0 rest (mod_self queue.maximum ∙ sym (zero-mod queue.maximum))
          ∙ straight store queue.maximum (sym fit.whole) 0 rest (omega (arith, fit.full))
