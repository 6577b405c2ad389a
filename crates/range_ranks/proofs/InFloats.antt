-- The ranks as the Rust works them in floats: n times a share, plus a half, cut to a whole number. For every n below 2 ^ 46 they are the whole-number ranks,
-- and every n that can arise is below it. Neither share is held exactly (0.1 is a hair above, 0.95 a hair below), but no hair of such an n reaches the next rank.
-- Assumes nothing.
use Rattle.std.proofs.Common.{◌≡◌, ℕ, suc, ◌+◌, ◌-◌, ◌*◌, ◌/◌, ◌^◌, ◌<◌, ◌≤◌, min, true, false, ℤ, pos, negsuc, sym, refl, ap, ◌∙◌, subst, true≢false, add-zero, mul-le-mul_right, mul-pos, le_of_mul-le-mul_right, arith, lit<, lit≤, pow_pos}
use native.Mathlib.Nat.{mul-mul-mul_comm, div-eq_of_lt-le}
use lib.Ieee.{Float, nan, inf, fin, Format, binary64, prec, low, up, down, round, add, mul, of_int, to_unsigned}
use lib.Ieee.Fits.{down_pos}
use lib.Ieee.Exact.{HasValue}
use lib.Ieee.Scale.{round_same}
use Rattle.range_ranks.specs.Ranks.{low_rank, high_rank, rank_in_floats, low_share, high_share, exact_below}
use Rattle.range_ranks.proofs.Near.{Within, held, round_within}

-- ---- an integer as a float, and a product, by the fraction that the float equals
of_whole : (f : Format) (n : ℕ) → n < 2 ^ prec f → HasValue (of_int f (pos n)) false n 1
unfolding of_int
of_whole f n h = held f (low f) 0 (add-zero (low f)) n h

product : (f : Format) (x : Float) (a m : ℕ) (d : ℤ) → HasValue x false a 1 → mul f x (fin false m d) ≡ round f false (a * (m * up d)) (1 * down d)
unfolding mul
product f nan a m d h = absurd h
product f (inf s) a m d h = absurd h
product f (fin true q e) a m d h = absurd (true≢false h.0)
product f (fin false q e) a m d h =
    let n = m * up d in
    round_same f false (q * up e * n) (down e * down d) (a * n) (1 * down d) (mul-pos (down_pos e) (down_pos d)) (mul-pos (pow_pos 0) (down_pos d))
    (mul-mul-mul_comm (q * up e) n 1 (down d) ∙ ap (λ (z : ℕ). z * (n * down d)) h.1 ∙ mul-mul-mul_comm a (down e) n (down d))

-- ---- plus a half, in 32nds
near_of_le : (a b Q : ℕ) → a ≤ b → a * Q ≤ b * suc Q
near_of_le a b Q h = omega (arith, mul-le-mul_right Q h)

more : (lo n d : ℕ) → lo * d ≤ n * 32 → (lo + 16) * (d * 2) ≤ (n * 2 + 1 * d) * 32
more lo n d h = omega arith

no_more : (hi n d : ℕ) → n * 32 ≤ hi * d → (n * 2 + 1 * d) * 32 ≤ (hi + 16) * (d * 2)
no_more hi n d h = omega arith

abbrev pub half : Float
half = fin false 1 (negsuc 0)

plus_half : (f : Format) (j : ℕ) → j + 5 ≡ low f → (x : Float) (lo hi : ℕ) → lo + 16 < 2 ^ prec f → hi + 16 < 2 ^ prec f → Within x lo hi 32
    → Within (add f x half) (lo + 16) (hi + 16) 32
unfolding add
plus_half f j split nan lo hi L H w = absurd w
plus_half f j split (inf s) lo hi L H w = absurd w
plus_half f j split (fin true m e) lo hi L H w = absurd w
plus_half f j split (fin false m e) lo hi L H w =
    let n = m * up e in
    let d = down e in
    round_within f j 5 split (n * 2 + 1 * d) (d * 2) (lo + 16) (hi + 16) (mul-pos (down_pos e) (pow_pos 1)) L H
    (near_of_le ((lo + 16) * (d * 2)) ((n * 2 + 1 * d) * 32) (2 ^ suc (prec f)) (more lo n d w.0))
    (no_more hi n d w.1)

-- ---- cut to a whole number
cut_low : (K lo n d : ℕ) → 32 * K ≤ lo → lo * d ≤ n * 32 → K * d ≤ n
cut_low K lo n d h k = omega (arith, mul-le-mul_right d h)

cut_high : (K hi n d : ℕ) → 0 < d → hi ≤ 32 * K + 31 → n * 32 ≤ hi * d → n < (K + 1) * d
cut_high K hi n d D h k = omega (arith, mul-le-mul_right d h)

uncapped : (q K : ℕ) → q ≡ K → K < 2 ^ 64 → min q (2 ^ 64 - 1) ≡ K
uncapped q K e h = omega arith

cut : (x : Float) (K lo hi : ℕ) → 32 * K ≤ lo → hi ≤ 32 * K + 31 → K < 2 ^ 64 → Within x lo hi 32 → to_unsigned 64 x ≡ K
unfolding to_unsigned
cut nan K lo hi p q h w = absurd w
cut (inf s) K lo hi p q h w = absurd w
cut (fin true m e) K lo hi p q h w = absurd w
cut (fin false m e) K lo hi p q h w =
    let n = m * up e in
    let d = down e in
    uncapped (n / d) K (div-eq_of_lt-le d (cut_low K lo n d p w.0) (cut_high K hi n d (down_pos e) q w.1)) h

-- ---- n times the factor m * 2 ^ d, plus a half, cut: it is K where the product lies from K - 1/2 to K + 1/2 - 1/32.
-- The lower of the two it may miss by half of a last digit
room : (K P : ℕ) → 32 * K + 31 < P → (32 * K - 16 + 16 < P) × (32 * K + 15 + 16 < P) × (32 * K - 16 < P) × (32 * K + 15 < P)
room K P h = omega arith

ends : (K : ℕ) → (32 * K ≤ 32 * K - 16 + 16) × (32 * K + 15 + 16 ≤ 32 * K + 31)
ends K = omega arith

pub rank_is : (f : Format) (j : ℕ) → j + 5 ≡ low f → (n m : ℕ) (d : ℤ) (K : ℕ) → n < 2 ^ prec f → 32 * K + 31 < 2 ^ prec f → K < 2 ^ 64
    → (32 * K - 16) * (1 * down d) * 2 ^ suc (prec f) ≤ n * (m * up d) * 32 * suc (2 ^ suc (prec f))
    → n * (m * up d) * 32 ≤ (32 * K + 15) * (1 * down d)
    → to_unsigned 64 (add f (mul f (of_int f (pos n)) (fin false m d)) half) ≡ K
rank_is f j split n m d K N R C lower upper =
    let r = room K (2 ^ prec f) R in
    cut (add f (mul f (of_int f (pos n)) (fin false m d)) half) K (32 * K - 16 + 16) (32 * K + 15 + 16) (ends K).0 (ends K).1 C
    (plus_half f j split (mul f (of_int f (pos n)) (fin false m d)) (32 * K - 16) (32 * K + 15) r.0 r.1
    (subst (λ (x : Float). Within x (32 * K - 16) (32 * K + 15) 32) (sym (product f (of_int f (pos n)) n m d (of_whole f n N)))
    (round_within f j 5 split (n * (m * up d)) (1 * down d) (32 * K - 16) (32 * K + 15) (mul-pos (pow_pos 0) (down_pos d)) r.2 r.3 lower upper)))

-- ---- the two shares
small : (n K : ℕ) → n < 2 ^ 46 → K ≤ n → (n < 2 ^ 53) × (32 * K + 31 < 2 ^ 53) × (K < 2 ^ 64)
small n K h k = omega arith

-- z ≤ 32 n a / b, and the factor m / u reaches a / b with half of a last digit: so z does not pass 32 n m / u by more
reaches : (z n a b m u Q : ℕ) → 0 < b → z * b ≤ 32 * (a * n) → a * u * Q ≤ m * b * suc Q → z * u * Q ≤ n * m * 32 * suc Q
reaches z n a b m u Q B h k = le_of_mul-le-mul_right (scaled (mul-le-mul_right (u * Q) h) (mul-le-mul_right (32 * n) k)) B
  where
    scaled : z * b * (u * Q) ≤ 32 * (a * n) * (u * Q) → a * u * Q * (32 * n) ≤ m * b * suc Q * (32 * n) → z * u * Q * b ≤ n * m * 32 * suc Q * b
    scaled p q = omega arith

half_is : round binary64 false 1 2 ≡ half
unfolding round
half_is = refl

low_share_is : low_share ≡ fin false 3602879701896397 (negsuc 54)
unfolding low_share round
low_share_is = refl

high_share_is : high_share ≡ fin false 4278419646001971 (negsuc 51)
unfolding high_share round
high_share_is = refl

-- n times the share that is the float nearest a / b
rank_at : (share : Float) (m k a b n K : ℕ) → share ≡ fin false m (negsuc k) → 0 < b → a * (1 * 2 ^ suc k) * 2 ^ 54 ≤ m * 1 * b * suc (2 ^ 54)
    → n < 2 ^ 46 → K ≤ n → (32 * K - 16) * b ≤ 32 * (a * n) → n * (m * 1) * 32 ≤ (32 * K + 15) * (1 * 2 ^ suc k) → rank_in_floats share n ≡ K
unfolding rank_in_floats
rank_at share m k a b n K e B c h s lower upper =
    let r = small n K h s in
    rw (e, half_is)
    (rank_is binary64 1069 refl n m (negsuc k) K r.0 r.1 r.2 (reaches (32 * K - 16) n a b (m * 1) (1 * 2 ^ suc k) (2 ^ 54) B lower c) upper)

pub low_rank_is_the_rust's : (n : ℕ) → n < exact_below → rank_in_floats low_share n ≡ low_rank n
low_rank_is_the_rust's n h =
    rank_at low_share 3602879701896397 54 1 10 n (low_rank n) low_share_is (lit< tt) (lit≤ tt) h (omega arith) (omega arith) (omega arith)

pub high_rank_is_the_rust's : (n : ℕ) → n < exact_below → rank_in_floats high_share n ≡ high_rank n
high_rank_is_the_rust's n h =
    rank_at high_share 4278419646001971 51 19 20 n (high_rank n) high_share_is (lit< tt) (lit≤ tt) h (omega arith) (omega arith) (omega arith)
