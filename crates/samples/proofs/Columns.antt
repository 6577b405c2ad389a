-- Frames of interleaved samples: how many there are, and how the samples of a channel are taken apart.
-- A channel's sample in frame k is `channels` places on from its sample in frame k - 1, so samples from one frame on are a column of their own. Assumes nothing.
use Rattle.std.proofs.Common.{◌≡◌, ℕ, zero, suc, ◌+◌, ◌*◌, ◌/◌, ◌<◌, ◌≤◌, List, [], ◌∷◌, ◌++◌, map, length, get_or, sym, refl, ap, ◌∙◌, le_of_suc-le-suc, not-suc-le-zero, suc-mul, zero-mul, arith, ne_eqb}
use lib.Ieee.{Float}
use Rattle.samples.specs.Frames.{silence, frames_of, column}

pub frames_of_lem : (channels samples : ℕ) → 0 < channels → frames_of channels samples ≡ samples / channels
frames_of_lem channels samples h = rw (ne_eqb channels 0 (λ e. omega arith))

-- an entry of the floats that the samples become, of whatever kind
pub entry_of : {A : Type 0} (f : A → Float) (l : List A) (i : ℕ) (d : A) (e : Float) → i < length l → get_or (map f l) i e ≡ f (get_or l i d)
entry_of f [] i d e h = absurd (not-suc-le-zero h)
entry_of f (x ∷ l) zero d e h = refl
entry_of f (x ∷ l) (suc i) d e h = entry_of f l i d e (le_of_suc-le-suc h)

-- the float of an entry that was read
pub read_as : {A : Type 0} (f : A → Float) (l : List A) (i : ℕ) (x : A) (e : Float) → i < length l → x ≡ get_or l i x → f x ≡ get_or (map f l) i e
read_as f l i x e h r = ap f r ∙ sym (entry_of f l i x e h)

-- ---- columns

-- a place within a list does not depend on what stands past its end
pub within : (l : List Float) (i : ℕ) (d e : Float) → i < length l → get_or l i d ≡ get_or l i e
within [] i d e h = absurd (not-suc-le-zero h)
within (x ∷ l) zero d e h = refl
within (x ∷ l) (suc i) d e h = within l i d e (le_of_suc-le-suc h)

pub length_column : (l : List Float) (at step count : ℕ) → length (column l at step count) ≡ count
unfolding column
length_column l at step zero = refl
length_column l at step (suc count) = ap suc (length_column l (at + step) step count)

pub column_append : (l : List Float) (at step n m : ℕ) → column l at step (n + m) ≡ column l at step n ++ column l (at + n * step) step m
unfolding column
column_append l at step zero m =
    let e : 0 + m ≡ m = omega arith in
    let z : at + 0 * step ≡ at = omega (arith, zero-mul step) in
    ap (column l at step) e ∙ ap (λ (i : ℕ). column l i step m) (sym z)
column_append l at step (suc n) m =
    let e : suc n + m ≡ suc (n + m) = omega arith in
    let z : at + step + n * step ≡ at + suc n * step = omega (arith, suc-mul n step) in
    ap (column l at step) e
    ∙ ap (λ (t : List Float). get_or l at silence ∷ t) (column_append l (at + step) step n m)
    ∙ ap (λ (i : ℕ). get_or l at silence ∷ (column l (at + step) step n ++ column l i step m)) z

-- a column depends on the places that it visits alone: here those of l, from `far` on in l'
pub column_agrees : (l l' : List Float) (far at step count : ℕ) → ((i : ℕ) → i + step ≤ at + count * step → get_or l i silence ≡ get_or l' (far + i) silence)
    → column l at step count ≡ column l' (far + at) step count
unfolding column
column_agrees l l' far at step zero h = refl
column_agrees l l' far at step (suc n) h =
    let e : far + (at + step) ≡ far + at + step = omega arith in
    ap (λ (x : Float). x ∷ column l (at + step) step n) (h at (omega (arith, suc-mul n step)))
    ∙ ap (λ (t : List Float). get_or l' (far + at) silence ∷ t)
    (column_agrees l l' far (at + step) step n (λ i q. h i (omega (arith, suc-mul n step)))
    ∙ ap (λ (i : ℕ). column l' i step n) e)
