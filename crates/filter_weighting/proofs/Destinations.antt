-- The destination, part by part: each used channel's outputs in its own equal part, and what that leaves at each place.
-- A part is no other channel's. Assumes nothing.
use Prim.Native.Nat.{ℕ, zero, suc, ◌+◌, ◌*◌, ◌/◌, ◌≤◌, ◌<◌}
use native.Mathlib.Nat.{suc-mul, mul_comm, mul-le-mul_right, not-suc-le-zero, le_of_suc-le-suc, le-add_right}
use native.Mathlib.Omega.{arith}
use mathlib.Core.Path.{◌≡◌, refl, ap, sym, subst, ◌∙◌}
use mathlib.Core.List.{List, [], ◌∷◌}
use mathlib.Core.Logic.{◌⊎◌, inl, inr}
use mathlib.Core.Bool.{Bool, true, false, cond}
use lib.ListN.{length, get_or}
use lib.Seq.{sets, length-sets}
use lib.Ieee.{Float}
use Rattle.samples.specs.Frames.{column, channel_of}
use Rattle.filter_checks.specs.Calls.{used}
use Rattle.samples.proofs.Stored.{at_before, at_after, at_within}
use Rattle.samples.proofs.Cutting.{frames_are}
use Rattle.filter_recurrence.specs.Recurrence.{outs}
use Rattle.filter_recurrence.specs.Channels.{Weighing, memory_of, each_used}
use Rattle.filter_weighting.specs.Weighting.{over_parts, dest_after}

abbrev stored : (ℕ → List Float) → ℕ → ℕ → Bool → ℕ → List Float → List Float
stored g part start b k d = cond b (sets d (k * part + start) (g k)) d

stored_length : (g : ℕ → List Float) (part start : ℕ) (b : Bool) (k : ℕ) (d : List Float) → length (stored g part start b k d) ≡ length d
stored_length g part start true k d = length-sets d (k * part + start) (g k)
stored_length g part start false k d = refl

-- a channel's frames lie within the destination
pub part_ends : (k channels part to count room : ℕ) → k < channels → part * channels ≡ room → to + count ≤ part → k * part + to + count ≤ room
part_ends k channels part to count room h e fit = omega (arith, mul-le-mul_right part h, suc-mul k part, mul_comm channels part)

-- ---- one place

-- a place that no used channel's outputs reach stays
pub parts_stay : (g : ℕ → List Float) (part start : ℕ) (bytes : List ℕ) (k : ℕ) (d : List Float) (p : ℕ) (x : Float)
    → ((i : ℕ) → i < length bytes → used (get_or bytes i 0) ≡ true → p < (k + i) * part + start ⊎ (k + i) * part + start + length (g (k + i)) ≤ p)
    → get_or (over_parts g part start bytes k d) p x ≡ get_or d p x
unfolding each_used
parts_stay g part start [] k d p x h = refl
parts_stay g part start (b ∷ bytes) k d p x h =
    parts_stay g part start bytes (suc k) (stored g part start (used b) k d) p x
    (λ i q t. let e : k + suc i ≡ suc k + i = omega arith in subst (λ (j : ℕ). p < j * part + start ⊎ j * part + start + length (g j) ≤ p) e (h (suc i) (omega arith) t))
    ∙ go (used b) (h 0 (omega arith))
  where
    outside : p < k * part + start ⊎ k * part + start + length (g k) ≤ p → get_or (sets d (k * part + start) (g k)) p x ≡ get_or d p x
    outside (inl q) = at_before (g k) d (k * part + start) p x q
    outside (inr q) = at_after (g k) d (k * part + start) p x q

    go : (t : Bool) → (t ≡ true → p < (k + 0) * part + start ⊎ (k + 0) * part + start + length (g (k + 0)) ≤ p) → get_or (stored g part start t k d) p x ≡ get_or d p x
    go true q = let e : k + 0 ≡ k = omega arith in outside (subst (λ (j : ℕ). p < j * part + start ⊎ j * part + start + length (g j) ≤ p) e (q refl))
    go false q = refl

-- output f of a used channel k + i stands in that channel's own part, whatever the other channels give
pub parts_own : (g : ℕ → List Float) (part start n : ℕ) → ((j : ℕ) → length (g j) ≡ n) → start + n ≤ part
    → (bytes : List ℕ) (k i f : ℕ) (d : List Float) (x : Float) → i < length bytes → f < n → (k + length bytes) * part ≤ length d → used (get_or bytes i 0) ≡ true
    → get_or (over_parts g part start bytes k d) ((k + i) * part + start + f) x ≡ get_or (g (k + i)) f x
unfolding each_used
parts_own g part start n gn fit [] k i f d x h q r u = absurd (not-suc-le-zero h)
parts_own g part start n gn fit (b ∷ bytes) k zero f d x h q r u =
    let e : k + 0 ≡ k = omega arith in
    let s = stored g part start (used b) k d in
    let w : suc k * part ≤ (k + suc (length bytes)) * part = mul-le-mul_right part (omega arith) in
    ap (λ (j : ℕ). get_or (over_parts g part start bytes (suc k) s) (j * part + start + f) x) e
    ∙ parts_stay g part start bytes (suc k) s (k * part + start + f) x
    (λ i' _ _. inl (omega (arith, suc-mul k part, mul-le-mul_right part (le-add_right (suc k) i'))))
    ∙ ap (λ (t : Bool). get_or (stored g part start t k d) (k * part + start + f) x) u
    ∙ at_within (g k) d (k * part + start) f x (omega (arith, gn k)) (omega (arith, suc-mul k part))
    ∙ ap (λ (j : ℕ). get_or (g j) f x) (sym e)
parts_own g part start n gn fit (b ∷ bytes) k (suc i) f d x h q r u =
    let e : k + suc i ≡ suc k + i = omega arith in
    let s = stored g part start (used b) k d in
    let m : suc k + length bytes ≡ k + suc (length bytes) = omega arith in
    ap (λ (j : ℕ). get_or (over_parts g part start bytes (suc k) s) (j * part + start + f) x) e
    ∙ parts_own g part start n gn fit bytes (suc k) i f s x (le_of_suc-le-suc h) q
    (subst (λ (l : ℕ). (suc k + length bytes) * part ≤ l) (sym (stored_length g part start (used b) k d)) (subst (λ (j : ℕ). j * part ≤ length d) (sym m) r)) u
    ∙ ap (λ (j : ℕ). get_or (g j) f x) (sym e)

-- ---- the call, at the number of frames that the code counts

pub dest_is : (call : Weighing) (counted : ℕ) → 0 < call.channels → counted ≡ length call.samples → (dest : List Float) (start : ℕ)
    → over_parts (λ k. outs call.coefficients.a call.coefficients.b (memory_of call.state.values k) (column call.samples k call.channels (counted / call.channels))) (length dest / call.channels) start call.map 0 dest
    ≡ dest_after call dest start
unfolding dest_after channel_of
dest_is call counted some e dest start =
    ap (λ (n : ℕ). over_parts (λ k. outs call.coefficients.a call.coefficients.b (memory_of call.state.values k) (column call.samples k call.channels n)) (length dest / call.channels) start call.map 0 dest) (frames_are call.channels counted (length call.samples) some e)
