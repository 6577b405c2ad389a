-- The leading energies below a gate, skipped one after the other, the energies at the two ranks among those left, and the totals over energies.
-- Assumes nothing.
use mathlib.Core.Path.{◌≡◌, refl, sym, ap, ◌∙◌, subst}
use mathlib.Core.Bool.{true, false}
use mathlib.Core.List.{List, [], ◌∷◌}
use Prim.Native.Nat.{ℕ, zero, suc, ◌+◌, ◌-◌}
use native.Mathlib.Omega.{arith}
use borrow.Author.Tests.{eq-eqb, ne_eqb}
use lib.ListN.{length, get_or, drop}
use Rattle.std.specs.List.Sorted.{IsPartitionPoint, IsPartitionedBy}
use Rattle.std.proofs.lemmas.List.{get_or_default}
use mathlib.Core.Logic.{◌⊎◌, inl, inr}
use lib.Dec.{T}
use Rattle.base_floats.specs.Entry.{at}
use Rattle.base_floats.proofs.Order.{is_true, le_lt}
use Rattle.order_rules.specs.Arrangement.{Rising}
use Rattle.order_rules.proofs.Places.{same_or_other, rising_at}
use lib.Seq.{get_or-drop}
use lib.Ieee.{Float, nan, inf, fin, is_nan, le, lt}
use Rattle.gate.specs.declared.blocks.Totals.{Totals}
use Rattle.gate.specs.Totals.{with_blocks, none, energies_from}
use Rattle.range_ranks.specs.Ranks.{low_rank, high_rank}
use Rattle.range_ranks.specs.Span.{found, nothing, gate_energy}
use Rattle.range_queues.specs.Rising.{from_gate, at_ranks}

-- ---- in a list that rises the energies below the gate stand first
le_number : (x y : Float) → T (le x y) → is_nan x ≡ false
unfolding le is_nan
le_number nan y h = absurd h
le_number (inf s) y h = refl
le_number (fin s m e) y h = refl

pub below_first : (gate : Float) (l : List Float) → Rising l → IsPartitionedBy (λ x. lt x gate) l
below_first gate l r i j d h g e = go (same_or_other i j)
  where
    at_i : get_or l i d ≡ at l i
    at_i = get_or_default l i d nan (omega arith)

    at_j : get_or l j d ≡ at l j
    at_j = get_or_default l j d nan g

    under : T (le (at l i) (at l j)) → lt (at l i) gate ≡ true
    under k = is_true (lt (at l i) gate) (le_lt (at l i) (at l j) gate (le_number (at l i) (at l j) k) k (subst T (sym (subst (λ (x : Float). lt x gate ≡ true) at_j e)) tt))

    go : (i ≡ j) ⊎ (i ≡ j → ⊥) → lt (get_or l i d) gate ≡ true
    go (inl q) = rw q e
    go (inr n) = rw at_i (under (rising_at l r i j (omega arith) g))

pub left_from : (gate : Float) (l : List Float) (i : ℕ) → IsPartitionPoint (λ x. lt x gate ≡ true) (λ x. lt x gate ≡ false) l i → drop i l ≡ from_gate gate l
unfolding from_gate
left_from gate [] zero p = refl
left_from gate [] (suc i) p = refl
left_from gate (x ∷ l) zero p = rw (p.1 0 nan (omega arith) (omega arith))
left_from gate (x ∷ l) (suc i) p =
    rw (p.0 0 nan (omega arith) (omega arith))
    (left_from gate l i ((λ k d h g. p.0 (suc k) d (omega arith) (omega arith)), (λ k d h g. p.1 (suc k) d (omega arith) (omega arith))))

-- ---- the energies at the two ranks among those left
pub ranks_none : (left : List Float) → length left ≡ 0 → at_ranks left ≡ nothing
unfolding at_ranks
ranks_none left e = rw (eq-eqb (length left) 0 e)

pub ranks_found : (left : List Float) (last : ℕ) → last ≡ length left - 1 → (length left ≡ 0 → ⊥)
    → at_ranks left ≡ found (get_or left (low_rank last) nan) (get_or left (high_rank last) nan)
unfolding at_ranks
ranks_found left last e z = rw (ne_eqb (length left) 0 z, e)

pub span_found : (rising : List Float) (first last low high : ℕ) → last ≡ length (drop first rising) - 1 → (length (drop first rising) ≡ 0 → ⊥)
    → low ≡ low_rank last → high ≡ high_rank last → found (get_or rising (first + low) nan) (get_or rising (first + high) nan) ≡ at_ranks (drop first rising)
span_found rising first last low high e z p q =
    ap (λ (k : ℕ). found (get_or rising (first + k) nan) (get_or rising (first + high) nan)) p
    ∙ ap (λ (k : ℕ). found (get_or rising (first + low_rank last) nan) (get_or rising (first + k) nan)) q
    ∙ ap (λ (x : Float). found x (get_or rising (first + high_rank last) nan)) (sym (get_or-drop first rising (low_rank last) nan))
    ∙ ap (λ (x : Float). found (get_or (drop first rising) (low_rank last) nan) x) (sym (get_or-drop first rising (high_rank last) nan))
    ∙ sym (ranks_found (drop first rising) last e z)

-- ---- the totals over energies
energies_count : (totals : Totals) (l : List Float) → (energies_from totals l).count ≡ totals.count + length l
unfolding energies_from
energies_count totals [] = omega arith
energies_count totals (x ∷ l) = omega (arith, energies_count (with_blocks totals 1 x) l)

pub gate_of_lem : (l : List Float) (count : ℕ) (sum : Float) → count ≡ length l → sum ≡ (energies_from none l).sum
    → gate_energy (record { count = count; sum = sum }) ≡ gate_energy (energies_from none l)
gate_of_lem l count sum e f =
    ap (λ (n : ℕ). gate_energy (record { count = n; sum = sum })) {x = count} {y = (energies_from none l).count} (omega (arith, energies_count none l))
    ∙ ap (λ (x : Float). gate_energy (record { count = (energies_from none l).count; sum = x })) f
