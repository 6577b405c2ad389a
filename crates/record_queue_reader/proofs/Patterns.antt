-- Which patterns fit: below infinity's by one comparison of their float, and from there on two alone, since past it are NaNs and floats with a sign.
-- And patterns one after the other: one turn of a loop that tests them, and of one that stores their floats. Assumes nothing.
use mathlib.Core.Path.{◌≡◌, refl, sym, ap, subst, ◌∙◌}
use mathlib.Core.Bool.{Bool, true, false, not, ◌&&◌, ◌||◌, cond, true≢false, or-false, and-eq-true_iff}
use mathlib.Core.List.{List, [], ◌∷◌}
use Prim.Native.Nat.{ℕ, zero, suc, ◌+◌, ◌/◌, ◌%◌, ◌<◌, ◌≤◌}
use native.Mathlib.Numerals.{add-one}
use native.Mathlib.Omega.{arith}
use borrow.Author.Tests.{ltb-true, ltb-false, lt-ltb, le-ltb, leb-true, leb-false, le-leb, eqb-true, eqb-false, eq-eqb, ne_eqb}
use lib.ListN.{drop, set}
use lib.Seq.{sets}
use lib.Arith.{lt_of_le-ne}
use lib.Dec.{T, eqb, leb, ltb, eqb→eq}
use lib.Ieee.Positive.{positive, above, above_of_le}
use lib.Ieee.Bits.{nan_bits_is}
use lib.Ieee.{Float, nan, inf, fin, Format, prec, low, hid, ones, odd, of_fields, of_bits, binary64, is_nan, nan_bits, lt, le}
use Rattle.base_floats.proofs.Order.{is_true, is_false, lt_not_le, le_nan, le_infinity, total}
use Rattle.base_floats.proofs.Nan.{only_nan, nan_pattern_lem, to_infinity, past_infinity}
use Rattle.bins.specs.Energy.{dropped}
use Rattle.bins_tables.specs.Tables.{boundary_at}
use Rattle.bins_tables.proofs.Rules.{boundary_positive}
use Rattle.base_fields.specs.declared.Order.{Order}
use Rattle.base_fields.specs.Field.{number_in}
use Rattle.record_layout.specs.Layout.{numbers_in}
use Rattle.record_layout.proofs.Turns.{next_number}
use Rattle.record_queue_reader.specs.QueueRecord.{nan_pattern, pattern_fits, every, all_fit, energies_of}
use Rattle.record_queue_reader.specs.Inner.{infinity_pattern, finite_fits, all_finite}

-- ---- which patterns fit
own : (pattern : ℕ) → T (eqb pattern nan_pattern) → is_nan (of_bits binary64 pattern) ≡ true
unfolding is_nan
own pattern h =
    ap (λ (p : ℕ). is_nan (of_bits binary64 p)) (eqb→eq pattern nan_pattern h)
    ∙ ap is_nan (nan_pattern_lem nan_pattern refl (λ e. let z : ◌≡◌ {A = ℕ} 0 1 = cc in absurd (omega arith)))

-- where its float is from the least energy on, or it is NaN's own
module _ (least : Float) (is_number : is_nan least ≡ false) (pattern : ℕ) where
  abbrev energy : Float
  energy = of_bits binary64 pattern

  of_number : is_nan energy ≡ false → (b : Bool) → lt energy least ≡ b → le least energy || eqb pattern nan_pattern ≡ not b && true
  of_number h false l = rw (is_true (le least energy) (total energy least h is_number l))
  of_number h true l =
      rw
      (is_false (le least energy) (λ e. lt_not_le energy least (subst T (sym l) tt) e), is_false (eqb pattern nan_pattern) (λ e. true≢false (sym (own pattern e) ∙ h)))

  by_nan : (b : Bool) → is_nan energy ≡ b → le least energy || eqb pattern nan_pattern ≡ not (lt energy least) && (not b || eqb pattern nan_pattern)
  unfolding lt
  by_nan true h = rw (only_nan energy h, le_nan least)
  by_nan false h = of_number h (lt energy least) refl

  fits_by : le least energy || eqb pattern nan_pattern ≡ not (lt energy least) && (not (is_nan energy) || eqb pattern nan_pattern)
  fits_by = by_nan (is_nan energy) refl

lowest_number : (x : Float) → T (positive x) → is_nan x ≡ false
unfolding is_nan
lowest_number (fin s m e) h = refl
lowest_number (inf s) h = refl
lowest_number nan h = absurd h

fits_is : (pattern : ℕ) → le (boundary_at 0) (of_bits binary64 pattern) || eqb pattern nan_pattern ≡ pattern_fits pattern
unfolding pattern_fits
fits_is pattern = fits_by (boundary_at 0) (lowest_number (boundary_at 0) (boundary_positive 0 (omega arith))) pattern

-- a pattern that fits is NaN's own or a number's
pub own_nan : (pattern : ℕ) → pattern ≡ nan_pattern → nan ≡ of_bits binary64 pattern
own_nan pattern e = sym (only_nan (of_bits binary64 pattern) (own pattern (subst T (sym (eq-eqb pattern nan_pattern e)) tt)))

pub other_number : (pattern : ℕ) → pattern_fits pattern ≡ true → (pattern ≡ nan_pattern → ⊥) → T (not (nan_bits binary64 pattern))
unfolding pattern_fits
other_number pattern h k =
    let number = ((and-eq-true_iff (not (dropped (of_bits binary64 pattern))) (not (is_nan (of_bits binary64 pattern)) || eqb pattern nan_pattern)).0 h).1 in
    let told : not (is_nan (of_bits binary64 pattern)) ≡ true =
    sym (or-false (not (is_nan (of_bits binary64 pattern)))) ∙ ap (λ (b : Bool). not (is_nan (of_bits binary64 pattern)) || b) (sym (ne_eqb pattern nan_pattern k)) ∙ number in
    subst (λ (b : Bool). T (not b)) (sym (nan_bits_is binary64 pattern)) (subst T (sym told) tt)

-- ---- those of finite floats
-- below infinity's pattern no other test is left
pub finite_is : (pattern : ℕ) → pattern < infinity_pattern → le (boundary_at 0) (of_bits binary64 pattern) ≡ finite_fits pattern
unfolding finite_fits
finite_is pattern h =
    let number = ne_eqb pattern nan_pattern (λ e. omega (arith, h, e)) in
    sym (or-false (le (boundary_at 0) (of_bits binary64 pattern)))
    ∙ ap (λ (b : Bool). le (boundary_at 0) (of_bits binary64 pattern) || b) (sym number)
    ∙ fits_is pattern ∙ ap (λ (b : Bool). b && pattern_fits pattern) (sym (lt-ltb pattern infinity_pattern h))

pub not_finite : (pattern : ℕ) → infinity_pattern ≤ pattern → finite_fits pattern ≡ false
unfolding finite_fits
not_finite pattern h = rw (le-ltb pattern infinity_pattern h)

pub below_infinity : (pattern : ℕ) → pattern < infinity_pattern → T (not (nan_bits binary64 pattern))
below_infinity pattern h = to_infinity pattern (omega (arith, h))

pub finite_fit : (patterns : List ℕ) → all_finite patterns ≡ true → all_fit patterns ≡ true
unfolding every finite_fits
finite_fit [] h = refl
finite_fit (pattern ∷ rest) h =
    let p = (and-eq-true_iff (finite_fits pattern) (all_finite rest)).0 h in
    rw (((and-eq-true_iff (ltb pattern infinity_pattern) (pattern_fits pattern)).0 p.0).1, finite_fit rest p.1)

-- ---- from infinity's on
not_above_odd : (d q k l : ℕ) → above (odd d true q k l) ≡ false
unfolding odd
not_above_odd d zero k l = refl
not_above_odd d (suc q) k l = refl

not_above_lem : (f : Format) (x t : ℕ) → above (of_fields f true x t) ≡ false
unfolding of_fields
not_above_lem f zero t = not_above_odd (prec f) t 0 (low f)
not_above_lem f (suc x) t = go (eqb (suc x) (ones f)) (eqb t 0)
  where
    go : (a b : Bool) → above (cond a (cond b (inf true) nan) (odd (prec f) true (hid f + t) x (low f))) ≡ false
    go true true = refl
    go true false = refl
    go false b = not_above_odd (prec f) (hid f + t) x (low f)

-- a pattern with the sign is that of no float above 0
signed : (pattern : ℕ) → 0x8000_0000_0000_0000 ≤ pattern → above (of_bits binary64 pattern) ≡ false
unfolding of_bits
signed pattern h =
    ap (λ (s : Bool). above (of_fields binary64 s (pattern % 0x8000_0000_0000_0000 / 0x0010_0000_0000_0000) (pattern % 0x0010_0000_0000_0000))) (le-leb 0x8000_0000_0000_0000 pattern h)
    ∙ not_above_lem binary64 (pattern % 0x8000_0000_0000_0000 / 0x0010_0000_0000_0000) (pattern % 0x0010_0000_0000_0000)

of_infinity : of_bits binary64 infinity_pattern ≡ inf false
unfolding of_bits
of_infinity = refl

-- infinity's alone is that of an energy from the least on
module _ (least : Float) (is_positive : T (positive least)) (pattern : ℕ) where
  not_from : infinity_pattern < pattern → (b : Bool) → leb 0x8000_0000_0000_0000 pattern ≡ b → le least (of_bits binary64 pattern) ≡ false
  not_from h true e =
      is_false (le least (of_bits binary64 pattern))
      (λ t. subst T (signed pattern (leb-true 0x8000_0000_0000_0000 pattern e)) (above_of_le least (of_bits binary64 pattern) is_positive t))
  not_from h false e = let l = leb-false 0x8000_0000_0000_0000 pattern e in rw (past_infinity pattern (omega (arith, h, l))) (le_nan least)

  infinite : infinity_pattern ≤ pattern → eqb pattern infinity_pattern ≡ le least (of_bits binary64 pattern)
  infinite h = go (eqb pattern infinity_pattern) refl
    where
      go : (b : Bool) → eqb pattern infinity_pattern ≡ b → b ≡ le least (of_bits binary64 pattern)
      go true e = sym (ap (λ (n : ℕ). le least (of_bits binary64 n)) (eqb-true pattern infinity_pattern e) ∙ ap (le least) of_infinity ∙ le_infinity least is_positive)
      go false e =
          let k = eqb-false pattern infinity_pattern e in
          sym (not_from (lt_of_le-ne h (λ z. k (sym z))) (leb 0x8000_0000_0000_0000 pattern) refl)

pub told_apart : (pattern : ℕ) → (finite_fits pattern || eqb pattern infinity_pattern) || eqb pattern nan_pattern ≡ pattern_fits pattern
unfolding finite_fits
told_apart pattern = go (ltb pattern infinity_pattern) refl
  where
    go : (b : Bool) → ltb pattern infinity_pattern ≡ b → ((b && pattern_fits pattern) || eqb pattern infinity_pattern) || eqb pattern nan_pattern ≡ pattern_fits pattern
    go true e =
        let l = ltb-true pattern infinity_pattern e in
        rw (ne_eqb pattern infinity_pattern (λ z. omega (arith, l, z)), ne_eqb pattern nan_pattern (λ z. omega (arith, l, z))) (or-false (pattern_fits pattern || false) ∙ or-false (pattern_fits pattern))
    go false e =
        ap (λ (b : Bool). b || eqb pattern nan_pattern) (infinite (boundary_at 0) (boundary_positive 0 (omega arith)) pattern (ltb-false pattern infinity_pattern e))
        ∙ fits_is pattern

-- ---- one after the other
module _ (order : Order) (width : ℕ) (bytes : List ℕ) (at next n k value : ℕ) (more : n ≡ suc k) (on : next ≡ at + width)
    (is : value ≡ number_in order width (drop at bytes)) where
  -- a field, and the others
  taken : numbers_in order width n (drop at bytes) ≡ value ∷ numbers_in order width k (drop next bytes)
  taken = next_number order width bytes at next n k value more on is

  pub test_turn : (test : ℕ → Bool) (found passes : Bool) → passes ≡ test value
      → (found && passes) && every test (numbers_in order width k (drop next bytes)) ≡ found && every test (numbers_in order width n (drop at bytes))
  unfolding every
  test_turn test true passes e = rw (taken, e)
  test_turn test false passes e = refl

  -- where all pass, this one does, and the others
  pub each : (test : ℕ → Bool) → every test (numbers_in order width n (drop at bytes)) ≡ true
      → (test value ≡ true) × (every test (numbers_in order width k (drop next bytes)) ≡ true)
  unfolding every
  each test h = (and-eq-true_iff (test value) (every test (numbers_in order width k (drop next bytes)))).0 (sym (ap (every test) taken) ∙ h)

  pub store_turn : (store : List Float) (i : ℕ) (energy : Float) → energy ≡ of_bits binary64 value
      → sets (set store i energy) (i + 1) (energies_of (numbers_in order width k (drop next bytes))) ≡ sets store i (energies_of (numbers_in order width n (drop at bytes)))
  store_turn store i energy e = rw (taken, add-one i, e)

pub test_end : (order : Order) (width n : ℕ) (bytes : List ℕ) (test : ℕ → Bool) (found : Bool) → n ≡ 0 → found && every test (numbers_in order width n bytes) ≡ found
unfolding numbers_in every
test_end order width n bytes test true z = rw z
test_end order width n bytes test false z = refl

pub store_end_lem : (order : Order) (width n i : ℕ) (bytes : List ℕ) (store : List Float) → n ≡ 0 → sets store i (energies_of (numbers_in order width n bytes)) ≡ store
unfolding numbers_in
store_end_lem order width n i bytes store z = rw z
