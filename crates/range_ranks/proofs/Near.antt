-- What `round` makes of a fraction lies between two values that the format holds, where the fraction does. The lower one may lie above the fraction
-- by half of a last digit: v * (1 + 2 ^ -(prec + 1)) is no less than it. So a factor that is a hair too small still reaches a product that the format holds.
-- Assumes nothing.
use Rattle.std.proofs.Common.{◌≡◌, ℕ, suc, ◌+◌, ◌-◌, ◌*◌, ◌/◌, ◌%◌, ◌^◌, ◌<◌, ◌≤◌, Bool, true, false, not, ◌&&◌, ◌||◌, T, eqb, ltb, leb, ◌⊎◌, sym, refl, ap, ◌∙◌, subst, inl, inr, true≢false, le_trans, lt_trans, le_of_eq, lt_of_lt_of_le, le_of_suc-le-suc, le_of_lt, mul-le-mul_right, mod-lt, mul_assoc, mul_comm, div-lt_iff_lt-mul, lt_of_mul-lt-mul_right, mul-lt-mul_of_pos_right, mul-pos, div-add-mod', le_of_mul-le-mul_right, mul_left_comm, arith, eqb→eq, ltb→lt, leb→le, pow_pos, pow_mono, pow-add, shl_lt}
use Prim.Native.Nat.{compare, Ordering}
use native.Mathlib.Nat.{pow-succ'}
use lib.Dec.{is_le, compare_is_eq, nleb→lt, eqb_refl}
use lib.Arith.{lt_of_le-ne}
use lib.Ieee.{Float, nan, inf, fin, Format, prec, emax, low, up, down, size, nearest, round, le}
use lib.Ieee.Digits.{size-lt, size-le, back}
use lib.Ieee.Fits.{reach, and_l}
use lib.Ieee.Exact.{HasValue, round_exact}
use lib.Ieee.Nearest.{closest, nearest-ge}
use lib.Ieee.Order.{drop, kept, transfer, round_mono}
use lib.Ieee.Scale.{grid, finite, round_val, round_under}
use lib.Ieee.Positive.{num, den, den_pos, value→cross}

-- ---- the closest whole number reaches r where the fraction is above r - 1/2
abbrev Cmp : Ordering → ℕ → ℕ → Type 0
Cmp Ordering.lt a b = a < b
Cmp Ordering.eq a b = a ≡ b
Cmp Ordering.gt a b = b < a

cmp : (a b : ℕ) → Cmp (compare a b) a b
cmp a b = go (compare a b) (leb→le a b) (nleb→lt a b) (eqb→eq a b) (λ (e : a ≡ b). subst (λ (x : ℕ). T (eqb a x)) e (eqb_refl a))
  where
    go : (o : Ordering) → (T (is_le o) → a ≤ b) → (T (not (is_le o)) → b < a) → (T (compare_is_eq o) → a ≡ b) → (a ≡ b → T (compare_is_eq o)) → Cmp o a b
    go Ordering.lt h k e n = lt_of_le-ne (h tt) n
    go Ordering.eq h k e n = e tt
    go Ordering.gt h k e n = k tt

up_to_half : (a u w m r : ℕ) → w * u + m ≡ a → m * 2 ≤ u → 2 * (r * u) < 2 * a + u → r * u < suc w * u
up_to_half a u w m r d c h = omega arith

past_half : (a u w m r : ℕ) → w * u + m ≡ a → m < u → 2 * (r * u) < 2 * a + u → 2 * r * u < (2 * w + 3) * u
past_half a u w m r d c h = omega arith

at_most_next : (w r : ℕ) → 2 * r < 2 * w + 3 → r ≤ suc w
at_most_next w r h = omega arith

closest_reaches : (a u r : ℕ) → 0 < u → 2 * (r * u) < 2 * a + u → r ≤ closest a u
closest_reaches a u r U h = go (compare (a % u * 2) u) (cmp (a % u * 2) u)
  where
    go : (o : Ordering) → Cmp o (a % u * 2) u → r ≤ nearest (a / u) o
    go Ordering.lt c = le_of_suc-le-suc (lt_of_mul-lt-mul_right u (up_to_half a u (a / u) (a % u) r (div-add-mod' a u) (le_of_lt c) h))
    go Ordering.eq c =
        le_trans (le_of_suc-le-suc (lt_of_mul-lt-mul_right u (up_to_half a u (a / u) (a % u) r (div-add-mod' a u) (le_of_eq c) h)))
        (nearest-ge (a / u) Ordering.eq)
    go Ordering.gt c = at_most_next (a / u) r (lt_of_mul-lt-mul_right u (past_half a u (a / u) (a % u) r (div-add-mod' a u) (mod-lt a U) h))

-- ---- n / den in units of the format's smallest value, for a format of p digits: what it rounds to reaches y * 2 ^ j units, for a y of at most p digits
spare : (z p l : ℕ) → z ≤ p + l → z - p ≤ l
spare z p l h = omega arith

cover : (z p : ℕ) → z ≤ p + (z - p)
cover z p = omega arith

half_digit : (A n v P : ℕ) → A * (2 * P) ≤ n * suc (2 * P) → n < v * P → 2 * A * P < (2 * n + v) * P
half_digit A n v P h k = omega arith

grid_reaches : (p n den y j : ℕ) → 0 < den → y < 2 ^ p → n < y * 2 ^ j * den → y * 2 ^ j * den * 2 ^ suc p ≤ n * suc (2 ^ suc p)
    → y * 2 ^ j ≤ kept p n den * 2 ^ drop p n den
grid_reaches p n den y j D Y below near =
    let k = drop p n den in
    let u = den * 2 ^ k in
    let z = size (n / den) in
    let k_le : k ≤ j = spare z p j (size-le (n / den) (p + j) (lt_trans ((div-lt_iff_lt-mul D).1 below) (shl_lt p j Y))) in
    let r = y * 2 ^ (j - k) in
    let whole : r * 2 ^ k ≡ y * 2 ^ j =
    mul_assoc y (2 ^ (j - k)) (2 ^ k) ∙ ap (λ (x : ℕ). y * x) (sym (pow-add 2 (j - k) k) ∙ ap (λ (x : ℕ). 2 ^ x) (back j k k_le)) in
    let same : y * 2 ^ j * den ≡ r * u = ap (λ (x : ℕ). x * den) (sym whole) ∙ mul_comm (r * 2 ^ k) den ∙ mul_left_comm den r (2 ^ k) in
    let span : 2 ^ (p + k) * den ≡ u * 2 ^ p =
    ap (λ (x : ℕ). x * den) (pow-add 2 p k) ∙ mul_comm (2 ^ p * 2 ^ k) den ∙ mul_left_comm den (2 ^ p) (2 ^ k) ∙ mul_comm (2 ^ p) u in
    let fits : n < u * 2 ^ p = subst (λ (x : ℕ). n < x) span ((div-lt_iff_lt-mul D).0 (lt_of_lt_of_le (size-lt (n / den)) (pow_mono (cover z p)))) in
    let near' : r * u * (2 * 2 ^ p) ≤ n * suc (2 * 2 ^ p) =
    subst (λ (x : ℕ). r * u * x ≤ n * suc x) (pow-succ' 2 p) (subst (λ (x : ℕ). x * 2 ^ suc p ≤ n * suc (2 ^ suc p)) same near) in
    subst (λ (x : ℕ). x ≤ kept p n den * 2 ^ k) whole
    (mul-le-mul_right (2 ^ k) (closest_reaches n u r (mul-pos D (pow_pos k)) (lt_of_mul-lt-mul_right (2 ^ p) (half_digit (r * u) n u (2 ^ p) near' fits))))

-- ---- the order of two values, as one of fractions: a zero included
or_split : (a b : Bool) → T (a || b) → T a ⊎ T b
or_split true b t = inl tt
or_split false b t = inr t

lt_or_eq : (a b : ℕ) → T (ltb a b || (eqb a b && true)) → a ≤ b
lt_or_eq a b t =
    elim (or_split (ltb a b) (eqb a b && true) t) [ inl u ↦ le_of_lt (ltb→lt a b u) | inr u ↦ le_of_eq (eqb→eq a b (and_l (eqb a b) true u)) ]

own_value : (x : Float) (a c : ℕ) → HasValue x false a c → HasValue x false (num x) (den x)
own_value nan a c h = h
own_value (inf s) a c h = h
own_value (fin s m e) a c h = (h.0, refl)

cross : (x y : Float) (a c b d : ℕ) → HasValue x false a c → HasValue y false b d → T (le x y) → num x * den y ≤ num y * den x
unfolding le
cross nan y a c b d p q h = absurd p
cross (inf s) y a c b d p q h = absurd p
cross (fin true m e) y a c b d p q h = absurd (true≢false p.0)
cross (fin false m e) nan a c b d p q h = absurd q
cross (fin false m e) (inf t) a c b d p q h = absurd q
cross (fin false m e) (fin true n k) a c b d p q h = absurd (true≢false q.0)
cross (fin false m e) (fin false n k) a c b d p q h = lt_or_eq (m * up e * down k) (n * up k * down e) h

fractions : (x y : Float) (a c b d : ℕ) → HasValue x false a c → HasValue y false b d → T (le x y) → a * d ≤ b * c
fractions x y a c b d p q h =
    transfer a b c d (num x) (num y) (den x) (den y) (den_pos x) (den_pos y) (sym (value→cross x a c p)) (sym (value→cross y b d q)) (cross x y a c b d p q h)

finite_between : (x y z : Float) (a c b d : ℕ) → HasValue x false a c → HasValue z false b d → T (le x y) → T (le y z) → T (finite y)
unfolding le
finite_between nan y z a c b d p q h k = absurd p
finite_between (inf s) y z a c b d p q h k = absurd p
finite_between (fin s m e) nan z a c b d p q h k = absurd h
finite_between (fin s m e) (inf true) z a c b d p q h k = absurd h
finite_between (fin s m e) (inf false) nan a c b d p q h k = absurd q
finite_between (fin s m e) (inf false) (inf t) a c b d p q h k = absurd q
finite_between (fin s m e) (inf false) (fin t n i) a c b d p q h k = absurd k
finite_between (fin s m e) (fin t n i) z a c b d p q h k = tt

-- ---- x is finite and not negative, and lo / c ≤ x ≤ hi / c
abbrev pub Within : Float → ℕ → ℕ → ℕ → Type 0
Within nan lo hi c = ⊥
Within (inf s) lo hi c = ⊥
Within (fin true m e) lo hi c = ⊥
Within (fin false m e) lo hi c = (lo * down e ≤ m * up e * c) × (m * up e * c ≤ hi * down e)

within : (x : Float) (a b lo hi c : ℕ) → HasValue x false a b → lo * den x ≤ num x * c → num x * c ≤ hi * den x → Within x lo hi c
within nan a b lo hi c v p q = v
within (inf s) a b lo hi c v p q = v
within (fin true m e) a b lo hi c v p q = true≢false v.0
within (fin false m e) a b lo hi c v p q = (p, q)

-- ---- both sides times J
below_times : (a lo b t J : ℕ) → 0 < J → a * t < lo * b → a * J * t < lo * J * b
below_times a lo b t J p h = omega (arith, mul-lt-mul_of_pos_right h p)

near_times : (a lo b t J Q : ℕ) → lo * b * Q ≤ a * t * suc Q → lo * J * b * Q ≤ a * J * t * suc Q
near_times a lo b t J Q h = omega (arith, mul-le-mul_right J h)

reached : (lo g n d t J : ℕ) → lo * J ≤ g → n * J * t ≡ g * d → lo * d * J ≤ n * t * J
reached lo g n d t J h e = omega (arith, mul-le-mul_right d h)

module _ (f : Format) (j t : ℕ) (split : j + t ≡ low f) where
  units_of : (q : ℕ) → q * 2 ^ low f ≡ q * 2 ^ j * 2 ^ t
  units_of q = ap (λ (x : ℕ). q * 2 ^ x) (sym split) ∙ ap (λ (x : ℕ). q * x) (pow-add 2 j t) ∙ sym (mul_assoc q (2 ^ j) (2 ^ t))

  room : (p l m : ℕ) → p ≤ m → j + t ≡ l → p + j ≤ l + m
  room p l m h e = omega arith

  -- the format holds q / 2 ^ t
  pub held : (q : ℕ) → q < 2 ^ prec f → HasValue (round f false q (2 ^ t)) false q (2 ^ t)
  held q h =
      round_exact f false q (2 ^ t) q j (pow_pos t) h (lt_of_lt_of_le (shl_lt (prec f) j h) (pow_mono (room (prec f) (low f) (suc (emax f)) (reach f) split))) (units_of q)

  pub round_within : (a b lo hi : ℕ) → 0 < b → lo < 2 ^ prec f → hi < 2 ^ prec f → lo * b * 2 ^ suc (prec f) ≤ a * 2 ^ t * suc (2 ^ suc (prec f))
      → a * 2 ^ t ≤ hi * b → Within (round f false a b) lo hi (2 ^ t)
  round_within a b lo hi B L H near under =
      within x (grid f a b) (2 ^ low f) lo hi (2 ^ t) v
      (lower (leb (lo * b) (a * 2 ^ t)) (leb→le (lo * b) (a * 2 ^ t)) (nleb→lt (lo * b) (a * 2 ^ t)))
      (fractions x top (num x) (den x) hi (2 ^ t) own (held hi H) x_top)
    where
      x : Float
      x = round f false a b

      top : Float
      top = round f false hi (2 ^ t)

      bottom : Float
      bottom = round f false 0 (2 ^ t)

      x_top : T (le x top)
      x_top = round_mono f a b hi (2 ^ t) B (pow_pos t) under

      v : HasValue x false (grid f a b) (2 ^ low f)
      v =
          round_val f a b
          (round_under f a b
          (finite_between bottom x top 0 (2 ^ t) hi (2 ^ t) (held 0 (pow_pos (prec f))) (held hi H)
          (round_mono f 0 (2 ^ t) a b (pow_pos t) B (omega arith)) x_top))

      own : HasValue x false (num x) (den x)
      own = own_value x (grid f a b) (2 ^ low f) v

      lower : (c : Bool) → (T c → lo * b ≤ a * 2 ^ t) → (T (not c) → a * 2 ^ t < lo * b) → lo * den x ≤ num x * 2 ^ t
      lower true h k =
          fractions (round f false lo (2 ^ t)) x lo (2 ^ t) (num x) (den x) (held lo L) own (round_mono f lo (2 ^ t) a b (pow_pos t) B (h tt))
      lower false h k =
          le_of_mul-le-mul_right
          (reached lo (grid f a b) (num x) (den x) (2 ^ t) (2 ^ j)
          (grid_reaches (prec f) (a * 2 ^ low f) b lo j B L
          (subst (λ (z : ℕ). z < lo * 2 ^ j * b) (sym (units_of a)) (below_times a lo b (2 ^ t) (2 ^ j) (pow_pos j) (k tt)))
          (subst (λ (z : ℕ). lo * 2 ^ j * b * 2 ^ suc (prec f) ≤ z * suc (2 ^ suc (prec f))) (sym (units_of a))
          (near_times a lo b (2 ^ t) (2 ^ j) (2 ^ suc (prec f)) near)))
          (sym (units_of (num x)) ∙ value→cross x (grid f a b) (2 ^ low f) v))
          (pow_pos j)
