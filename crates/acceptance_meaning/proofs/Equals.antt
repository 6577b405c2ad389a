-- Where no block is NaN and none stands at a gate, the rule that keeps equals and the document's strict rule let the same blocks through.
-- Two floats that are not NaN and not equal are in `lt` one way or the other. Assumes nothing.
use mathlib.Core.Path.{◌≡◌, refl, sym, ap, ◌∙◌}
use mathlib.Core.Bool.{Bool, true, false, not, ◌&&◌, cond, true≢false}
use mathlib.Core.List.{List, [], ◌∷◌}
use Prim.Native.Nat.{ℕ, ◌+◌, ◌*◌}
use native.Mathlib.Omega.{arith}
use borrow.Author.Tests.{ltb-true, ltb-false, eq-eqb, not-true}
use lib.Dec.{T, eqb, ltb}
use lib.Ieee.{Float, nan, inf, fin, up, down, below, level, lt, eq, is_nan}
use lib.Ieee.Positive.{positive}
use Rattle.bins_tables.proofs.Rules.{boundary_positive}
use Rattle.history_set.proofs.Entries.{both}
use Rattle.acceptance_meaning.specs.Levels.{absolute_gate}
use Rattle.acceptance_meaning.specs.Bs1770.{
  strict,
  equals_kept,
  through,
  each_through,
  by_history,
  together,
  relative_gate,
  unless_none,
  above_both,
  measured,
  none_at,
  none_of_each_at,
}

-- ---- signed whole numbers that differ
both_false : (a b : Bool) → a && b ≡ false → a ≡ true → b ≡ false
both_false true b h e = h
both_false false b h e = absurd (true≢false (sym e))

one_way : (s : Bool) (a : ℕ) (t : Bool) (b : ℕ) → level t b s a ≡ false → below s a t b ≡ not (below t b s a)
one_way false a false b h = go (ltb a b) (ltb b a) refl refl
  where
    differ : (b ≡ a) → ⊥
    differ e = true≢false (both_false (eqb b a) true h (eq-eqb b a e))

    go : (x y : Bool) → ltb a b ≡ x → ltb b a ≡ y → x ≡ not y
    go true true p q = absurd (omega (arith, ltb-true a b p, ltb-true b a q))
    go true false p q = refl
    go false true p q = refl
    go false false p q = absurd (differ (omega (arith, ltb-false a b p, ltb-false b a q)))
one_way false a true b h = go (ltb 0 (b + a)) refl
  where
    go : (x : Bool) → ltb 0 (b + a) ≡ x → false ≡ not x
    go true p = refl
    go false p =
        let z : b + a ≡ 0 = omega (arith, ltb-false 0 (b + a) p) in
        absurd (true≢false (sym (eq-eqb b 0 (omega arith)) ∙ both_false (eqb b a) (eqb b 0) h (eq-eqb b a (omega arith))))
one_way true a false b h = go (ltb 0 (a + b)) refl
  where
    go : (x : Bool) → ltb 0 (a + b) ≡ x → x ≡ true
    go true p = refl
    go false p =
        let z : a + b ≡ 0 = omega (arith, ltb-false 0 (a + b) p) in
        absurd (true≢false (sym (eq-eqb b 0 (omega arith)) ∙ both_false (eqb b a) (eqb b 0) h (eq-eqb b a (omega arith))))
one_way true a true b h = go (ltb b a) (ltb a b) refl refl
  where
    differ : (b ≡ a) → ⊥
    differ e = true≢false (both_false (eqb b a) true h (eq-eqb b a e))

    go : (x y : Bool) → ltb b a ≡ x → ltb a b ≡ y → x ≡ not y
    go true true p q = absurd (omega (arith, ltb-true b a p, ltb-true a b q))
    go true false p q = refl
    go false true p q = refl
    go false false p q = absurd (differ (omega (arith, ltb-false b a p, ltb-false a b q)))

-- ---- floats
rules_agree : (gate energy : Float) → is_nan gate ≡ false → is_nan energy ≡ false → eq energy gate ≡ false → strict gate energy ≡ equals_kept gate energy
unfolding lt eq is_nan
rules_agree nan energy g e h = absurd (true≢false g)
rules_agree (inf s) nan g e h = absurd (true≢false e)
rules_agree (inf true) (inf true) g e h = absurd (true≢false h)
rules_agree (inf true) (inf false) g e h = refl
rules_agree (inf false) (inf true) g e h = refl
rules_agree (inf false) (inf false) g e h = absurd (true≢false h)
rules_agree (inf true) (fin t n d) g e h = refl
rules_agree (inf false) (fin t n d) g e h = refl
rules_agree (fin s m c) nan g e h = absurd (true≢false e)
rules_agree (fin s m c) (inf true) g e h = refl
rules_agree (fin s m c) (inf false) g e h = refl
rules_agree (fin s m c) (fin t n d) g e h = one_way s (m * up c * down d) t (n * up d * down c) h

-- ---- blocks
module _ (gate : Float) (known : is_nan gate ≡ false) where
  through_same : (blocks : List Float) → none_at gate blocks ≡ true → through strict gate blocks ≡ through equals_kept gate blocks
  unfolding through none_at
  through_same [] h = refl
  through_same (energy ∷ rest) h =
      let w = both (not (is_nan energy) && not (eq energy gate)) (none_at gate rest) h in
      let v = both (not (is_nan energy)) (not (eq energy gate)) w.0 in
      ap (λ (b : Bool). cond b (energy ∷ through strict gate rest) (through strict gate rest))
      (rules_agree gate energy known (not-true (is_nan energy) v.0) (not-true (eq energy gate) v.1))
      ∙ ap (λ (l : List Float). cond (equals_kept gate energy) (energy ∷ l) l) (through_same rest w.1)

  each_same : (material : List (List Float)) → none_of_each_at gate material ≡ true → each_through strict gate material ≡ each_through equals_kept gate material
  unfolding each_through none_of_each_at
  each_same [] h = refl
  each_same (blocks ∷ rest) h =
      let w = both (none_at gate blocks) (none_of_each_at gate rest) h in
      ap (λ (l : List Float). l ∷ each_through strict gate rest) (through_same blocks w.0)
      ∙ ap {B = List (List Float)} (λ (l : List (List Float)). through equals_kept gate blocks ∷ l) (each_same rest w.1)

not_nan : (x : Float) → T (positive x) → is_nan x ≡ false
unfolding is_nan
not_nan nan h = absurd h
not_nan (inf s) h = refl
not_nan (fin s m e) h = refl

-- the measurement to the letter of the document, and the one that keeps equals, where no block stands at a gate
pub strict_same : (material : List (List Float)) →
    let blocks = each_through equals_kept absolute_gate material in
    none_of_each_at absolute_gate material ≡ true → is_nan (relative_gate blocks) ≡ false → none_of_each_at (relative_gate blocks) blocks ≡ true
    → measured strict material ≡ measured equals_kept material
unfolding measured
strict_same material absolute known relative =
    let blocks = each_through equals_kept absolute_gate material in
    ap (above_both strict) (each_same absolute_gate (not_nan absolute_gate (boundary_positive 0 (omega arith))) material absolute)
    ∙ ap (λ (left : List (List Float)). unless_none (by_history blocks) (together left)) (each_same (relative_gate blocks) known blocks relative)
