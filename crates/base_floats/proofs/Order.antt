-- The order of floats, infinities and NaN among them: `le` is transitive, `lt` is within `le`, no two floats are in `lt` one way and `le` the other, and floats that are no NaN
-- are in one of them.
-- Two finite floats compare as the whole numbers that stand over their common denominator, so each law is one on signed whole numbers. Assumes nothing.
use mathlib.Core.Path.{◌≡◌, refl, sym, subst}
use mathlib.Core.Logic.{◌⊎◌, inl, inr}
use mathlib.Core.Bool.{Bool, true, false, ◌&&◌, ◌||◌, true≢false}
use Prim.Native.Nat.{ℕ, ◌+◌, ◌*◌, ◌≤◌, ◌<◌, zero-le}
use native.Mathlib.Nat.{le_trans, le_of_eq, le_of_lt, lt_irrefl, eq-or-lt_of_le, eq-zero-or-pos, mul-pos, zero-mul}
use native.Mathlib.Omega.{arith}
use borrow.Author.Tests.{ltb-false}
use lib.Dec.{T, ltb, eqb, ltb→lt, lt→ltb, eqb→eq}
use lib.Ieee.{Float, nan, inf, fin, up, down, below, level, lt, eq, le, is_nan}
use lib.Ieee.Fits.{down_pos, and_l, and_r, and_i, eq→eqb}
use lib.Ieee.Positive.{positive, through}

pub is_true : (b : Bool) → T b → b ≡ true
is_true true h = refl
is_true false h = absurd h

pub is_false : (b : Bool) → (T b → ⊥) → b ≡ false
is_false true h = absurd (h tt)
is_false false h = refl

or_split : (a b : Bool) → T (a || b) → T a ⊎ T b
or_split true b t = inl tt
or_split false b t = inr t

or_l : (a b : Bool) → T a → T (a || b)
or_l true b t = tt
or_l false b t = absurd t

or_r : (a b : Bool) → T b → T (a || b)
or_r true b t = tt
or_r false b t = t

pub lt→le : (x y : Float) → T (lt x y) → T (le x y)
unfolding le
lt→le x y h = or_l (lt x y) (eq x y) h

-- ±a ≤ ±b, as a test and as a fact
abbrev test : Bool → ℕ → Bool → ℕ → Bool
test s a t b = below s a t b || level s a t b

abbrev Fact : Bool → ℕ → Bool → ℕ → Type 0
Fact false a false b = a ≤ b
Fact false a true b = (a ≡ 0) × (b ≡ 0)
Fact true a false b = Unit
Fact true a true b = b ≤ a

pub at_most : (a b : ℕ) → T (ltb a b || (eqb a b && true)) → a ≤ b
at_most a b h = elim (or_split (ltb a b) (eqb a b && true) h) [ inl u ↦ le_of_lt (ltb→lt a b u) | inr u ↦ le_of_eq (eqb→eq a b (and_l (eqb a b) true u)) ]

to_fact : (s : Bool) (a : ℕ) (t : Bool) (b : ℕ) → T (test s a t b) → Fact s a t b
to_fact false a false b h = at_most a b h
to_fact false a true b h =
    let p : a ≡ b = eqb→eq a b (and_l (eqb a b) (eqb a 0) h) in
    let q : a ≡ 0 = eqb→eq a 0 (and_r (eqb a b) (eqb a 0) h) in
    (q, omega arith)
to_fact true a false b h = tt
to_fact true a true b h =
    elim (or_split (ltb b a) (eqb a b && true) h) [ inl u ↦ le_of_lt (ltb→lt b a u) | inr u ↦ le_of_eq (sym (eqb→eq a b (and_l (eqb a b) true u))) ]

to_test : (s : Bool) (a : ℕ) (t : Bool) (b : ℕ) → Fact s a t b → T (test s a t b)
to_test false a false b h =
    elim (eq-or-lt_of_le h) [ inl e ↦ or_r (ltb a b) (eqb a b && true) (and_i (eqb a b) true (eq→eqb e) tt) | inr l ↦ or_l (ltb a b) (eqb a b && true) (lt→ltb a b l) ]
to_test false a true b h =
    let p : a ≡ 0 = h.0 in
    let q : b ≡ 0 = h.1 in
    let e : a ≡ b = omega arith in
    and_i (eqb a b) (eqb a 0) (eq→eqb e) (eq→eqb p)
to_test true a false b h = elim (eq-zero-or-pos (a + b)) [
  | inl z ↦
      let p : a ≡ 0 = omega arith in
      let e : a ≡ b = omega arith in
      or_r (ltb 0 (a + b)) (eqb a b && eqb a 0) (and_i (eqb a b) (eqb a 0) (eq→eqb e) (eq→eqb p))
  | inr l ↦ or_l (ltb 0 (a + b)) (eqb a b && eqb a 0) (lt→ltb 0 (a + b) l)
]
to_test true a true b h =
    elim (eq-or-lt_of_le h) [ inl e ↦ or_r (ltb b a) (eqb a b && true) (and_i (eqb a b) true (eq→eqb (sym e)) tt) | inr l ↦ or_l (ltb b a) (eqb a b && true) (lt→ltb b a l) ]

-- a product with a positive factor is zero only where the other factor is
none : (n d : ℕ) → 0 < d → n * d ≤ 0 → n ≡ 0
none n d D h = elim (eq-zero-or-pos n) [ inl z ↦ z | inr p ↦ let q : 0 < n * d = mul-pos p D in absurd (lt_irrefl 0 (omega arith)) ]

zeros : (n d : ℕ) → n ≡ 0 → n * d ≡ 0
zeros n d e = subst (λ (k : ℕ). k * d ≡ 0) (sym e) (zero-mul d)

-- ±x / p ≤ ±y / q ≤ ±z / r
across : (s t u : Bool) (x y z p q r : ℕ) → 0 < p → 0 < q → 0 < r
    → Fact s (x * q) t (y * p) → Fact t (y * r) u (z * q) → Fact s (x * r) u (z * p)
across false false false x y z p q r P Q R h k = through x y z p q r Q h k
across false false true x y z p q r P Q R h k =
    let y0 : y ≡ 0 = none y r R (le_of_eq k.0) in
    let z0 : z ≡ 0 = none z q Q (le_of_eq k.1) in
    let x0 : x ≡ 0 = none x q Q (le_trans h (le_of_eq (zeros y p y0))) in
    (zeros x r x0, zeros z p z0)
across false true false x y z p q r P Q R h k = le_trans (le_of_eq (zeros x r (none x q Q (le_of_eq h.0)))) zero-le
across false true true x y z p q r P Q R h k =
    let y0 : y ≡ 0 = none y p P (le_of_eq h.1) in
    let z0 : z ≡ 0 = none z q Q (le_trans k (le_of_eq (zeros y r y0))) in
    (zeros x r (none x q Q (le_of_eq h.0)), zeros z p z0)
across true false false x y z p q r P Q R h k = tt
across true false true x y z p q r P Q R h k = le_trans (le_of_eq (zeros z p (none z q Q (le_of_eq k.1)))) zero-le
across true true false x y z p q r P Q R h k = tt
across true true true x y z p q r P Q R h k = through z y x r q p Q k h

not_le_nan : (x : Float) → T (le x nan) → ⊥
unfolding le
not_le_nan nan h = h
not_le_nan (inf s) h = h
not_le_nan (fin s m e) h = h

pub float_le_trans : (x y z : Float) → T (le x y) → T (le y z) → T (le x z)
unfolding le
float_le_trans nan y z h k = absurd h
float_le_trans (inf true) y nan h k = absurd (not_le_nan y k)
float_le_trans (inf true) y (inf true) h k = tt
float_le_trans (inf true) y (inf false) h k = tt
float_le_trans (inf true) y (fin u o c) h k = tt
float_le_trans (inf false) nan z h k = absurd h
float_le_trans (inf false) (inf true) z h k = absurd h
float_le_trans (inf false) (inf false) z h k = k
float_le_trans (inf false) (fin t n d) z h k = absurd h
float_le_trans (fin s m e) nan z h k = absurd h
float_le_trans (fin s m e) (inf true) z h k = absurd h
float_le_trans (fin s m e) (inf false) nan h k = absurd k
float_le_trans (fin s m e) (inf false) (inf true) h k = absurd k
float_le_trans (fin s m e) (inf false) (inf false) h k = tt
float_le_trans (fin s m e) (inf false) (fin u o c) h k = absurd k
float_le_trans (fin s m e) (fin t n d) nan h k = absurd k
float_le_trans (fin s m e) (fin t n d) (inf true) h k = absurd k
float_le_trans (fin s m e) (fin t n d) (inf false) h k = tt
float_le_trans (fin s m e) (fin t n d) (fin u o c) h k =
    to_test s (m * up e * down c) u (o * up c * down e)
    (across s t u (m * up e) (n * up d) (o * up c) (down e) (down d) (down c) (down_pos e) (down_pos d) (down_pos c)
    (to_fact s (m * up e * down d) t (n * up d * down e) h) (to_fact t (n * up d * down c) u (o * up c * down d) k))

-- ---- `lt` and `le` the other way round
clash : (s : Bool) (a : ℕ) (t : Bool) (b : ℕ) → T (below s a t b) → Fact t b s a → ⊥
clash false a false b h k = let l : a < b = ltb→lt a b h in omega arith
clash false a true b h k = h
clash true a false b h k =
    let l : 0 < a + b = ltb→lt 0 (a + b) h in
    let p : b ≡ 0 = k.0 in
    let q : a ≡ 0 = k.1 in
    omega arith
clash true a true b h k = let l : b < a = ltb→lt b a h in omega arith

pub lt_not_le : (x y : Float) → T (lt x y) → T (le y x) → ⊥
unfolding lt le
lt_not_le nan y h k = h
lt_not_le (inf s) nan h k = h
lt_not_le (inf true) (inf true) h k = h
lt_not_le (inf true) (inf false) h k = k
lt_not_le (inf false) (inf t) h k = h
lt_not_le (inf true) (fin t n d) h k = k
lt_not_le (inf false) (fin t n d) h k = h
lt_not_le (fin s m e) nan h k = h
lt_not_le (fin s m e) (inf true) h k = h
lt_not_le (fin s m e) (inf false) h k = k
lt_not_le (fin s m e) (fin t n d) h k = clash s (m * up e * down d) t (n * up d * down e) h (to_fact t (n * up d * down e) s (m * up e * down d) k)

-- nothing is below or at NaN, and what is positive is below infinity
pub le_nan : (x : Float) → le x nan ≡ false
unfolding le
le_nan nan = refl
le_nan (inf s) = refl
le_nan (fin s m e) = refl

pub le_infinity : (x : Float) → T (positive x) → le x (inf false) ≡ true
unfolding le
le_infinity nan h = absurd h
le_infinity (inf s) h = absurd h
le_infinity (fin s m e) h = refl

-- ---- the order of floats that are no NaN is total
-- ±b ≤ ±a where not ±a < ±b
other_way : (s : Bool) (a : ℕ) (t : Bool) (b : ℕ) → below s a t b ≡ false → Fact t b s a
other_way false a false b h = ltb-false a b h
other_way false a true b h = tt
other_way true a false b h =
    let z : a + b ≤ 0 = ltb-false 0 (a + b) h in
    (omega arith, omega arith)
other_way true a true b h = ltb-false b a h

pub total : (x y : Float) → is_nan x ≡ false → is_nan y ≡ false → lt x y ≡ false → T (le y x)
unfolding is_nan lt le eq
total nan y p q h = absurd (true≢false p)
total (inf s) nan p q h = absurd (true≢false q)
total (inf true) (inf true) p q h = tt
total (inf true) (inf false) p q h = absurd (true≢false h)
total (inf false) (inf true) p q h = tt
total (inf false) (inf false) p q h = tt
total (inf true) (fin t n d) p q h = absurd (true≢false h)
total (inf false) (fin t n d) p q h = tt
total (fin s m e) nan p q h = absurd (true≢false q)
total (fin s m e) (inf true) p q h = tt
total (fin s m e) (inf false) p q h = absurd (true≢false h)
total (fin s m e) (fin t n d) p q h = to_test t (n * up d * down e) s (m * up e * down d) (other_way s (m * up e * down d) t (n * up d * down e) h)

pub left_number : (x y : Float) → T (lt x y) → is_nan x ≡ false
unfolding is_nan lt
left_number nan y h = absurd h
left_number (inf s) y h = refl
left_number (fin s m e) y h = refl

pub right_number : (x y : Float) → T (lt x y) → is_nan y ≡ false
unfolding is_nan lt
right_number nan y h = absurd h
right_number (inf s) nan h = absurd h
right_number (inf s) (inf t) h = refl
right_number (inf s) (fin t n d) h = refl
right_number (fin s m e) nan h = absurd h
right_number (fin s m e) (inf t) h = refl
right_number (fin s m e) (fin t n d) h = refl

pub irreflexive : (x : Float) → T (lt x x) → ⊥
irreflexive x h = lt_not_le x x h (lt→le x x h)

pub le_lt : (x y z : Float) → is_nan x ≡ false → T (le x y) → T (lt y z) → T (lt x z)
le_lt x y z n h k = go (lt x z) refl
  where
    go : (b : Bool) → lt x z ≡ b → T b
    go true e = tt
    go false e = lt_not_le y z k (float_le_trans z x y (total x z n (right_number y z k) e) h)

pub lt_lt : (x y z : Float) → T (lt x y) → T (lt y z) → T (lt x z)
lt_lt x y z h k = le_lt x y z (left_number x y h) (lt→le x y h) k

-- what is not below v, and beaten by a, has v beaten by a
pub beaten : (q v a : Float) → is_nan v ≡ false → lt q v ≡ false → T (lt q a) → T (lt v a)
beaten q v a n h k = le_lt v q a n (total q v (left_number q a k) n h) k
