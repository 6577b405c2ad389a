-- Adding 0 to a sum without a minus leaves it as it is, and such sums stay so while energies without a minus are added.
-- The exact sum is the number itself, which the format holds, and a number is written in one way: its bits say which. Assumes nothing.
use Rattle.std.proofs.Common.{◌≡◌, ℕ, zero, suc, ◌+◌, ◌-◌, ◌*◌, ◌/◌, ◌%◌, ◌^◌, ◌<◌, ◌≤◌, Bool, true, false, cond, ◌&&◌, T, eqb, ltb, leb, List, [], ◌∷◌, ℤ, pos, negsuc, sym, refl, ap, ◌∙◌, subst, inl, inr, true≢false, lt_of_lt_of_le, add-zero, lt_irrefl, mul_assoc, mul_comm, eq-zero-or-pos, add_comm, mul-pos, lt_of_not-le, zero-mul, mul-one, arith, ltb→lt, leb→le, pow_pos, pow_mono, pow-add, shl_lt, ltb-false}
use Prim.Native.Nat.{compare}
use lib.Pow.{pow-lt}
use lib.Ieee.{Float, nan, inf, fin, Format, binary64, prec, emax, low, up, down, size, nearest, odd, units, round, sum, add, mul, of_int, of_bits, fits, lt}
use lib.Ieee.Digits.{back}
use lib.Ieee.Fits.{and_l, and_r, up_pos, down_pos, reach, round_is, round-fits, add-fits}
use lib.Ieee.Exact.{HasValue, round_exact}
use lib.Ieee.Bits.{of_bits-fits}
use lib.Ieee.Positive.{positive}
use Rattle.base_floats.specs.Entry.{plus_zero}
use Rattle.base_floats.proofs.Nan.{zero_pattern}
use Rattle.base_floats.proofs.Value.{same_float, round_zero}
use Rattle.bins_tables.specs.Tables.{energy_at}
use Rattle.bins_tables.proofs.Rules.{energy_positive, energy_past}
use Rattle.gate.specs.declared.blocks.Totals.{Totals}
use Rattle.gate.specs.Totals.{with_blocks, bins_from}
use Rattle.gate.specs.Inner.{unsigned, Steady}

-- ---- a number that the format holds is its own rounding
module _ (f : Format) (s : Bool) where
  no_deeper : (k l : ℕ) → 2 ^ k ≤ 2 ^ l → k ≤ l
  no_deeper k l h =
      let below : k < suc l = lt_of_not-le (λ (g : suc l ≤ k). lt_irrefl (2 ^ l) (lt_of_lt_of_le (pow-lt g) h)) in
      omega arith

  within : (p l k e : ℕ) → p ≤ suc e → p + (l - suc k) ≤ l + suc e
  within p l k e h = omega arith

  -- what `round` keeps of it: q times 2 ^ j of the smallest values
  held : (m : ℕ) (e : ℤ) → m < 2 ^ prec f → down e ≤ 2 ^ low f → m * up e < 2 ^ suc (emax f) * down e → HasValue (round f s (m * up e) (down e)) s (m * up e) (down e)
  held m (pos k) small deep high =
      round_exact f s (m * 2 ^ k) 1 m (k + low f) (omega arith) small
      (subst (λ (x : ℕ). x < 2 ^ (low f + suc (emax f))) (scaled m k (low f))
      (subst (λ (x : ℕ). m * 2 ^ k * 2 ^ low f < 2 ^ x) (add_comm (suc (emax f)) (low f)) (shl_lt (suc (emax f)) (low f) (subst (λ (x : ℕ). m * 2 ^ k < x) (mul-one (2 ^ suc (emax f))) high))))
      (scaled m k (low f) ∙ sym (mul-one (m * 2 ^ (k + low f))))
    where
      scaled : (m k l : ℕ) → m * 2 ^ k * 2 ^ l ≡ m * 2 ^ (k + l)
      scaled m k l = mul_assoc m (2 ^ k) (2 ^ l) ∙ ap (λ (x : ℕ). m * x) (sym (pow-add 2 k l))
  held m (negsuc k) small deep high =
      let l = low f in
      let deeper : suc k ≤ l = no_deeper (suc k) l deep in
      let j = l - suc k in
      round_exact f s (m * 1) (2 ^ suc k) m j (pow_pos (suc k)) small
      (lt_of_lt_of_le (shl_lt (prec f) j small) (pow_mono (within (prec f) l k (emax f) (reach f))))
      (ap (λ (x : ℕ). x * 2 ^ l) (mul-one m) ∙ ap (λ (x : ℕ). m * 2 ^ x) (sym (back l (suc k) deeper)) ∙ ap (λ (x : ℕ). m * x) (pow-add 2 j (suc k)) ∙ sym (mul_assoc m (2 ^ j) (2 ^ suc k)))

  of_fitting : (m : ℕ) (e : ℤ) → T (fits f (fin s m e)) → HasValue (round f s (m * up e) (down e)) s (m * up e) (down e)
  unfolding fits
  of_fitting zero e p =
      round_exact f s (0 * up e) (down e) 0 0 (down_pos e) (pow_pos (prec f)) (pow_pos (low f + suc (emax f)))
      (ap (λ (x : ℕ). x * 2 ^ low f) (zero-mul (up e)) ∙ zero-mul (2 ^ low f) ∙ sym (zero-mul (down e)))
  of_fitting (suc m) e p =
      let A = eqb (suc m % 2) 1 in
      let B = ltb (suc m) (2 ^ prec f) in
      let C = leb (down e) (2 ^ low f) in
      let D = ltb (suc m * up e) (2 ^ suc (emax f) * down e) in
      held (suc m) e
      (ltb→lt (suc m) (2 ^ prec f) (and_r A B (and_l (A && B) C (and_l (A && B && C) D p))))
      (leb→le (down e) (2 ^ low f) (and_r (A && B) C (and_l (A && B && C) D p)))
      (ltb→lt (suc m * up e) (2 ^ suc (emax f) * down e) (and_r (A && B && C) D p))

  own_rounding : (m : ℕ) (e : ℤ) → T (fits f (fin s m e)) → round f s (m * up e) (down e) ≡ fin s m e
  own_rounding m e p = same_float f (round f s (m * up e) (down e)) (fin s m e) s (m * up e) (down e) (down_pos e) (round-fits f s (m * up e) (down e)) p (of_fitting m e p) (refl, refl)

-- ---- 0 added
add_nothing : (x : Float) → T (fits binary64 x) → T (unsigned x) → add binary64 x plus_zero ≡ x
unfolding add sum unsigned
add_nothing nan p u = refl
add_nothing (inf minus) p u = refl
add_nothing (fin true m e) p u = absurd u
add_nothing (fin false m e) p u =
    ap (λ (x : ℕ). round binary64 false x (down e * 1)) (ap (λ (x : ℕ). m * up e * 1 + x) (zero-mul (down e)) ∙ add-zero (m * up e * 1) ∙ mul-one (m * up e))
    ∙ ap (round binary64 false (m * up e)) (mul-one (down e))
    ∙ own_rounding binary64 false m e p

pub nothing_added : (x : Float) → Steady x → add binary64 x (of_bits binary64 0) ≡ x
nothing_added x p = ap (add binary64 x) zero_pattern ∙ add_nothing x p.0 p.1

-- and added to 0
swapped : (x : Float) → T (unsigned x) → add binary64 plus_zero x ≡ add binary64 x plus_zero
unfolding add sum unsigned
swapped nan u = refl
swapped (inf s) u = refl
swapped (fin true m e) u = absurd u
swapped (fin false m e) u =
    ap (λ (n : ℕ). round binary64 false n (down (pos 0) * down e)) (add_comm (0 * up (pos 0) * down e) (m * up e * down (pos 0)))
    ∙ ap (round binary64 false (m * up e * down (pos 0) + 0 * up (pos 0) * down e)) (mul_comm (down (pos 0)) (down e))

pub to_nothing : (x : Float) → Steady x → add binary64 (of_bits binary64 0) x ≡ x
to_nothing x p = ap (λ (z : Float). add binary64 z x) zero_pattern ∙ swapped x p.1 ∙ add_nothing x p.0 p.1

-- ---- no block times an energy is 0
pub none_times : (x : Float) → T (positive x) → mul binary64 (of_int binary64 (pos 0)) x ≡ of_bits binary64 0
unfolding mul of_int
none_times nan p = elim p [ ]
none_times (inf _) p = elim p [ ]
none_times (fin true n d) p = elim p [ ]
none_times (fin false n d) p =
    ap (λ (z : Float). mul binary64 z (fin false n d)) (round_zero binary64 false 1 (omega arith))
    ∙ ap (λ (k : ℕ). round binary64 false k (1 * down d)) (zero-mul (n * up d))
    ∙ round_zero binary64 false (1 * down d) (omega (arith, down_pos d))
    ∙ sym zero_pattern

-- ---- no minus comes of two without one
odd_unsigned : (d q k l : ℕ) → T (unsigned (odd d false q k l))
unfolding odd unsigned
odd_unsigned d zero k l = tt
odd_unsigned d (suc q) k l = tt

units_unsigned : (f : Format) (q k : ℕ) → T (unsigned (units f false q k))
unfolding units unsigned
units_unsigned f q k = go (ltb (q * 2 ^ k) (2 ^ (low f + suc (emax f))))
  where
    go : (b : Bool) → T (unsigned (cond b (odd (suc (prec f)) false q k (low f)) (inf false)))
    go true = odd_unsigned (suc (prec f)) q k (low f)
    go false = tt

round_unsigned : (f : Format) (a c : ℕ) → T (unsigned (round f false a c))
round_unsigned f a c =
    let k = size (a * 2 ^ low f / c) - prec f in
    let u = c * 2 ^ k in
    subst (λ (x : Float). T (unsigned x)) (sym (round_is f false a c)) (units_unsigned f (nearest (a * 2 ^ low f / u) (compare (a * 2 ^ low f % u * 2) u)) k)

nan_unsigned : T (unsigned nan)
unfolding unsigned
nan_unsigned = tt

zero_unsigned : T (unsigned plus_zero)
unfolding unsigned
zero_unsigned = tt

nan_or_infinity : (b : Bool) → T (unsigned (cond b nan (inf false)))
unfolding unsigned
nan_or_infinity true = tt
nan_or_infinity false = tt

pub add_unsigned : (x y : Float) → T (unsigned x) → T (unsigned y) → T (unsigned (add binary64 x y))
unfolding add sum unsigned
add_unsigned nan y p q = tt
add_unsigned (inf false) nan p q = tt
add_unsigned (inf false) (inf false) p q = tt
add_unsigned (inf false) (fin t n d) p q = tt
add_unsigned (fin s m e) nan p q = tt
add_unsigned (fin s m e) (inf false) p q = tt
add_unsigned (inf false) (inf true) p q = elim q [ ]
add_unsigned (inf true) y p q = elim p [ ]
add_unsigned (fin s m e) (inf true) p q = elim q [ ]
add_unsigned (fin false m e) (fin true n d) p q = elim q [ ]
add_unsigned (fin true m e) (fin t n d) p q = elim p [ ]
add_unsigned (fin false m e) (fin false n d) p q = round_unsigned binary64 (m * up e * down d + n * up d * down e) (down e * down d)

pub steady_added : (x y : Float) → Steady x → T (unsigned y) → Steady (add binary64 x y)
steady_added x y p q = (add-fits binary64 x y, add_unsigned x y p.1 q)

pub mul_unsigned : (x y : Float) → T (unsigned x) → T (unsigned y) → T (unsigned (mul binary64 x y))
unfolding mul unsigned
mul_unsigned nan y p q = tt
mul_unsigned (inf false) nan p q = tt
mul_unsigned (inf false) (inf false) p q = tt
mul_unsigned (inf false) (fin false n d) p q = nan_or_infinity (eqb n 0)
mul_unsigned (fin s m e) nan p q = tt
mul_unsigned (fin false m e) (inf false) p q = nan_or_infinity (eqb m 0)
mul_unsigned (inf false) (inf true) p q = elim q [ ]
mul_unsigned (inf false) (fin true n d) p q = elim q [ ]
mul_unsigned (inf true) y p q = elim p [ ]
mul_unsigned (fin false m e) (inf true) p q = elim q [ ]
mul_unsigned (fin true m e) (inf _) p q = elim p [ ]
mul_unsigned (fin false m e) (fin true n d) p q = elim q [ ]
mul_unsigned (fin true m e) (fin _ n d) p q = elim p [ ]
mul_unsigned (fin false m e) (fin false n d) p q = round_unsigned binary64 (m * up e * (n * up d)) (down e * down d)

pub nothing_steady : Steady (of_bits binary64 0)
nothing_steady = (of_bits-fits binary64 0, subst (λ (x : Float). T (unsigned x)) (sym zero_pattern) zero_unsigned)

-- ---- the energies of blocks have none
positive_unsigned : (x : Float) → T (positive x) → T (unsigned x)
unfolding unsigned
positive_unsigned nan p = elim p [ ]
positive_unsigned (inf _) p = elim p [ ]
positive_unsigned (fin true m e) p = elim p [ ]
positive_unsigned (fin false m e) p = tt

pub table_unsigned : (bin : ℕ) → T (unsigned (energy_at bin))
table_unsigned bin = elim (eq-zero-or-pos (1000 - bin)) [
  | inl z ↦ subst (λ (x : Float). T (unsigned x)) (sym (energy_past bin (omega arith))) nan_unsigned
  | inr p ↦ positive_unsigned (energy_at bin) (energy_positive bin (omega arith))
]

pub count_unsigned : (n : ℕ) → T (unsigned (of_int binary64 (pos n)))
unfolding of_int
count_unsigned n = round_unsigned binary64 n 1

-- an energy that is not below a positive one
pub not_below_unsigned : (least x : Float) → T (positive least) → lt x least ≡ false → T (unsigned x)
unfolding lt unsigned
not_below_unsigned nan _ p h = elim p [ ]
not_below_unsigned (inf _) _ p h = elim p [ ]
not_below_unsigned (fin true n d) _ p h = elim p [ ]
not_below_unsigned (fin false n d) nan p h = tt
not_below_unsigned (fin false n d) (inf true) p h = absurd (true≢false h)
not_below_unsigned (fin false n d) (inf false) p h = tt
not_below_unsigned (fin false n d) (fin true m e) p h =
    let above : 0 < n * up d * down e = mul-pos (mul-pos (ltb→lt 0 n p) (up_pos d)) (down_pos e) in
    let none : m * up e * down d + n * up d * down e ≤ 0 = ltb-false 0 (m * up e * down d + n * up d * down e) h in
    absurd (lt_irrefl 0 (lt_of_lt_of_le above (last (m * up e * down d) (n * up d * down e) none)))
  where
    last : (a b : ℕ) → a + b ≤ 0 → b ≤ 0
    last a b h = omega arith
not_below_unsigned (fin false n d) (fin false m e) p h = tt

pub bins_steady : (totals : Totals) (bin : ℕ) (l : List ℕ) → Steady totals.sum → Steady (bins_from totals bin l).sum
unfolding bins_from
bins_steady totals bin [] p = p
bins_steady totals bin (count ∷ l) p =
    bins_steady (with_blocks totals count (mul binary64 (of_int binary64 (pos count)) (energy_at bin))) (suc bin) l
    (steady_added totals.sum (mul binary64 (of_int binary64 (pos count)) (energy_at bin)) p (mul_unsigned (of_int binary64 (pos count)) (energy_at bin) (count_unsigned count) (table_unsigned bin)))
