-- The recurrence of one channel: a frame more.
-- Memory and outputs go by the list of samples, head first, so a turn of the loop takes the head off. Assumes nothing.
use Prim.Native.Nat.{ℕ, suc, ◌+◌, ◌-◌, ◌<◌}
use native.Mathlib.Numerals.{add-one}
use mathlib.Core.Path.{◌≡◌, refl, ap, sym, ◌∙◌}
use mathlib.Core.List.{List, [], ◌∷◌, ◌++◌}
use lib.ListN.{set, get_or, length}
use lib.Seq.{sets}
use lib.Ieee.{Float, nan}
use Rattle.samples.specs.Frames.{silence, column}
use Rattle.samples.proofs.Columns.{within}
use Rattle.samples.proofs.Reaching.{one_less}
use Rattle.filter_recurrence.specs.declared.Memory.{Memory}
use Rattle.filter_recurrence.specs.Recurrence.{head, output, shift, next, out, after, outs}

-- ---- one turn: x is the sample, g the new s0, y the output and m' the memory after it

module _ (a b : List Float) (m : Memory) (l : List Float) (i s n : ℕ) (h : 0 < n) (here : i < length l) (g y : Float) (m' : Memory) (eg : g ≡ head a m (get_or l i nan)) (em : m' ≡ shift m g) where
  new_head : g ≡ head a m (get_or l i silence)
  new_head = eg ∙ ap (head a m) (within l i nan silence here)

  new_memory : m' ≡ next a m (get_or l i silence)
  unfolding next
  new_memory = em ∙ ap (shift m) new_head

  pub turn_after : after a m' (column l (i + s) s (n - 1)) ≡ after a m (column l i s n)
  unfolding after column
  turn_after =
      sym (ap (λ (k : ℕ). after a m (column l i s k)) (one_less n h) ∙ ap (λ (k : Memory). after a k (column l (i + s) s (n - 1))) (sym new_memory))

  pub turn_outs : (ey : y ≡ output b m g) (d : List Float) (j : ℕ) → sets (set d j y) (j + 1) (outs a b m' (column l (i + s) s (n - 1))) ≡ sets d j (outs a b m (column l i s n))
  unfolding outs out column
  turn_outs ey d j =
      sym (ap (λ (k : ℕ). sets d j (outs a b m (column l i s k))) (one_less n h)
      ∙ ap (λ (v : Float). sets (set d j v) (suc j) (outs a b (next a m (get_or l i silence)) (column l (i + s) s (n - 1)))) (sym (ey ∙ ap (output b m) new_head))
      ∙ ap (λ (k : Memory). sets (set d j y) (suc j) (outs a b k (column l (i + s) s (n - 1)))) (sym new_memory)
      ∙ ap (λ (k : ℕ). sets (set d j y) k (outs a b m' (column l (i + s) s (n - 1)))) (sym (add-one j)))

-- ---- no frames left

pub none_after : (a : List Float) (m : Memory) (l : List Float) (i s n : ℕ) → n ≡ 0 → after a m (column l i s n) ≡ m
unfolding after column
none_after a m l i s n e = ap (λ (k : ℕ). after a m (column l i s k)) e

pub none_outs : (a b : List Float) (m : Memory) (l : List Float) (i s n : ℕ) (d : List Float) (j : ℕ) → n ≡ 0 → sets d j (outs a b m (column l i s n)) ≡ d
unfolding outs column
none_outs a b m l i s n d j e = ap (λ (k : ℕ). sets d j (outs a b m (column l i s k))) e

-- ---- as many outputs as samples

pub length_outs : (a b : List Float) (m : Memory) (xs : List Float) → length (outs a b m xs) ≡ length xs
unfolding outs
length_outs a b m [] = refl
length_outs a b m (x ∷ xs) = ap suc (length_outs a b (next a m x) xs)

-- ---- samples, and then further ones

pub after_append : (a : List Float) (m : Memory) (xs ys : List Float) → after a m (xs ++ ys) ≡ after a (after a m xs) ys
unfolding after
after_append a m [] ys = refl
after_append a m (x ∷ xs) ys = after_append a (next a m x) xs ys
