-- The flat state, channel by channel: a change of each used channel's memory, and what it leaves of each channel.
-- A channel's five places are no other channel's, so a change of one leaves the others. Assumes nothing.
use Prim.Native.Nat.{ℕ, zero, suc, ◌+◌, ◌*◌, ◌≤◌, ◌<◌}
use native.Mathlib.Nat.{not-suc-le-zero, le_of_suc-le-suc}
use native.Mathlib.Omega.{arith}
use mathlib.Core.Path.{◌≡◌, refl, ap, sym, ◌∙◌}
use mathlib.Core.List.{List, [], ◌∷◌}
use mathlib.Core.Bool.{Bool, true, false, cond}
use lib.ListN.{length, get_or, set, get_or-eq_default}
use lib.Seq.{length-sets, set-get_or}
use lib.Ieee.{Float, nan}
use Rattle.samples.proofs.Fill.{past_end}
use Rattle.filter_checks.specs.Calls.{used}
use Rattle.samples.proofs.Stored.{at_before, at_after, at_within}
use Rattle.samples.proofs.Stores.{five_stores, sets_comm, sets_again}
use Rattle.samples.specs.Frames.{most_channels}
use Rattle.filter_recurrence.specs.declared.Memory.{Memory}
use Rattle.base_floats.specs.Entry.{at}
use Rattle.filter_recurrence.specs.Channels.{state_places, memory_of, with_memory, each_used, over_used}
use Rattle.filter_recurrence.proofs.Each.{each_twice}

abbrev five : Memory → List Float
five m = m.s0 ∷ m.s1 ∷ m.s2 ∷ m.s3 ∷ m.s4 ∷ []

-- ---- one channel's memory

same_five : {x0 x1 x2 x3 x4 y0 y1 y2 y3 y4 : Float} → x0 ≡ y0 → x1 ≡ y1 → x2 ≡ y2 → x3 ≡ y3 → x4 ≡ y4
    → ◌≡◌ {A = Memory} (record { s0 = x0; s1 = x1; s2 = x2; s3 = x3; s4 = x4 }) (record { s0 = y0; s1 = y1; s2 = y2; s3 = y3; s4 = y4 })
same_five e0 e1 e2 e3 e4 = cc

pub length_with : (v : List Float) (k : ℕ) (m : Memory) → length (with_memory v k m) ≡ length v
unfolding with_memory
length_with v k m = length-sets v (k * 5) (five m)

-- memories of channels j < k
module _ (v : List Float) (j k : ℕ) (m : Memory) (h : j < k) where
  pub memory_below : memory_of (with_memory v k m) j ≡ memory_of v j
  unfolding with_memory
  memory_below =
      same_five
      (at_before (five m) v (k * 5) (j * 5) nan (omega arith))
      (at_before (five m) v (k * 5) (j * 5 + 1) nan (omega arith))
      (at_before (five m) v (k * 5) (j * 5 + 2) nan (omega arith))
      (at_before (five m) v (k * 5) (j * 5 + 3) nan (omega arith))
      (at_before (five m) v (k * 5) (j * 5 + 4) nan (omega arith))

  pub memory_above : memory_of (with_memory v j m) k ≡ memory_of v k
  unfolding with_memory
  memory_above =
      same_five
      (at_after (five m) v (j * 5) (k * 5) nan (omega arith))
      (at_after (five m) v (j * 5) (k * 5 + 1) nan (omega arith))
      (at_after (five m) v (j * 5) (k * 5 + 2) nan (omega arith))
      (at_after (five m) v (j * 5) (k * 5 + 3) nan (omega arith))
      (at_after (five m) v (j * 5) (k * 5 + 4) nan (omega arith))

pub memory_same : (v : List Float) (k : ℕ) (m : Memory) → k < most_channels → length v ≡ state_places → memory_of (with_memory v k m) k ≡ m
unfolding with_memory
memory_same v k m h l =
    let e : k * 5 ≡ k * 5 + 0 = omega arith in
    same_five
    (ap (at (with_memory v k m)) e ∙ at_within (five m) v (k * 5) 0 nan (omega arith) (omega arith))
    (at_within (five m) v (k * 5) 1 nan (omega arith) (omega arith))
    (at_within (five m) v (k * 5) 2 nan (omega arith) (omega arith))
    (at_within (five m) v (k * 5) 3 nan (omega arith) (omega arith))
    (at_within (five m) v (k * 5) 4 nan (omega arith) (omega arith))

-- a memory put over another, and memories of two channels in either order
with_again : (v : List Float) (k : ℕ) (m n : Memory) → with_memory (with_memory v k m) k n ≡ with_memory v k n
unfolding with_memory
with_again v k m n = sets_again (five m) (five n) v (k * 5) refl

with_past : (v : List Float) (j k : ℕ) (m n : Memory) → j < k → with_memory (with_memory v k n) j m ≡ with_memory (with_memory v j m) k n
unfolding with_memory
with_past v j k m n h = sym (sets_comm (five m) (five n) v (j * 5) (k * 5) (omega arith))

-- a channel's own memory put in its places
pub with_own : (v : List Float) (k : ℕ) → with_memory v k (memory_of v k) ≡ v
unfolding with_memory
with_own v k =
    let p = k * 5 in
    sym (five_stores v p (at v p) (at v (p + 1)) (at v (p + 2)) (at v (p + 3)) (at v (p + 4)))
    ∙ ap (λ (u : List Float). set (set (set (set u (p + 1) (at v (p + 1))) (p + 2) (at v (p + 2))) (p + 3) (at v (p + 3))) (p + 4) (at v (p + 4))) (set-get_or v p nan)
    ∙ ap (λ (u : List Float). set (set (set u (p + 2) (at v (p + 2))) (p + 3) (at v (p + 3))) (p + 4) (at v (p + 4))) (set-get_or v (p + 1) nan)
    ∙ ap (λ (u : List Float). set (set u (p + 3) (at v (p + 3))) (p + 4) (at v (p + 4))) (set-get_or v (p + 2) nan)
    ∙ ap (λ (u : List Float). set u (p + 4) (at v (p + 4))) (set-get_or v (p + 3) nan)
    ∙ set-get_or v (p + 4) nan

-- a channel past the eighth has no places
module _ (v : List Float) (k : ℕ) (h : most_channels ≤ k) (l : length v ≡ state_places) where
  pub memory_nowhere : memory_of v k ≡ record { s0 = nan; s1 = nan; s2 = nan; s3 = nan; s4 = nan }
  memory_nowhere =
      same_five
      (get_or-eq_default v nan (omega arith))
      (get_or-eq_default v nan (omega arith))
      (get_or-eq_default v nan (omega arith))
      (get_or-eq_default v nan (omega arith))
      (get_or-eq_default v nan (omega arith))

  pub with_nowhere : (m : Memory) → with_memory v k m ≡ v
  unfolding with_memory
  with_nowhere m = past_end (five m) v (k * 5) (omega arith)

-- ---- a change of one channel's memory where its byte says so

abbrev changed : (ℕ → Memory → Memory) → Bool → ℕ → List Float → List Float
changed f b k v = cond b (with_memory v k (f k (memory_of v k))) v

changed_length : (f : ℕ → Memory → Memory) (b : Bool) (k : ℕ) (v : List Float) → length (changed f b k v) ≡ length v
changed_length f true k v = length_with v k (f k (memory_of v k))
changed_length f false k v = refl

changed_below : (f : ℕ → Memory → Memory) (b : Bool) (j k : ℕ) (v : List Float) → j < k → memory_of (changed f b k v) j ≡ memory_of v j
changed_below f true j k v h = memory_below v j k (f k (memory_of v k)) h
changed_below f false j k v h = refl

changed_above : (f : ℕ → Memory → Memory) (b : Bool) (j k : ℕ) (v : List Float) → j < k → memory_of (changed f b j v) k ≡ memory_of v k
changed_above f true j k v h = memory_above v j k (f j (memory_of v j)) h
changed_above f false j k v h = refl

-- changes of two channels, in either order
changes_part : (f g : ℕ → Memory → Memory) (i j : ℕ) (v : List Float) → i < j
    → with_memory (with_memory v j (f j (memory_of v j))) i (g i (memory_of (with_memory v j (f j (memory_of v j))) i))
    ≡ with_memory (with_memory v i (g i (memory_of v i))) j (f j (memory_of (with_memory v i (g i (memory_of v i))) j))
changes_part f g i j v h =
    ap (λ (m : Memory). with_memory (with_memory v j (f j (memory_of v j))) i (g i m)) (memory_below v i j (f j (memory_of v j)) h)
    ∙ with_past v i j (g i (memory_of v i)) (f j (memory_of v j)) h
    ∙ ap (λ (m : Memory). with_memory (with_memory v i (g i (memory_of v i))) j (f j m)) (sym (memory_above v i j (g i (memory_of v i)) h))

-- ---- the channels

-- a channel before k keeps its memory
pub over_before : (f : ℕ → Memory → Memory) (bytes : List ℕ) (j k : ℕ) (v : List Float) → j < k → memory_of (over_used f bytes k v) j ≡ memory_of v j
unfolding each_used
over_before f [] j k v h = refl
over_before f (b ∷ bytes) j k v h = over_before f bytes j (suc k) (changed f (used b) k v) (omega arith) ∙ changed_below f (used b) j k v h

-- one change of each memory after another is one change
pub over_twice : (f g : ℕ → Memory → Memory) (bytes : List ℕ) (v : List Float) → length bytes ≤ most_channels → length v ≡ state_places
    → over_used g bytes 0 (over_used f bytes 0 v) ≡ over_used (λ k m. g k (f k m)) bytes 0 v
over_twice f g bytes v few l =
    each_twice (λ u. length u ≡ state_places) (λ j u. with_memory u j (f j (memory_of u j))) (λ j u. with_memory u j (g j (memory_of u j))) most_channels
    (λ i j u h. changes_part f g i j u h)
    (λ j u q. length_with (with_memory u j (f j (memory_of u j))) j (g j (memory_of (with_memory u j (f j (memory_of u j))) j)) ∙ length_with u j (f j (memory_of u j)) ∙ q)
    (λ j u. with_memory u j (g j (f j (memory_of u j))))
    (λ j u h q. with_again u j (f j (memory_of u j)) (g j (memory_of (with_memory u j (f j (memory_of u j))) j)) ∙ ap (λ (m : Memory). with_memory u j (g j m)) (memory_same u j (f j (memory_of u j)) h q))
    bytes 0 v (omega arith) l

-- ---- one channel alone: channel k + i's memory afterwards is its own memory, changed where its byte says so, whatever the other channels hold

pub over_own : (f : ℕ → Memory → Memory) (bytes : List ℕ) (k i : ℕ) (v : List Float) → i < length bytes → k + i < most_channels → length v ≡ state_places
    → memory_of (over_used f bytes k v) (k + i) ≡ cond (used (get_or bytes i 0)) (f (k + i) (memory_of v (k + i))) (memory_of v (k + i))
unfolding each_used
over_own f [] k i v h few l = absurd (not-suc-le-zero h)
over_own f (b ∷ bytes) k zero v h few l =
    let e : k + 0 ≡ k = omega arith in
    ap (memory_of (over_used f bytes (suc k) (changed f (used b) k v))) e
    ∙ over_before f bytes k (suc k) (changed f (used b) k v) (omega arith)
    ∙ go (used b)
    ∙ ap (λ (j : ℕ). cond (used b) (f j (memory_of v j)) (memory_of v j)) (sym e)
  where
    go : (t : Bool) → memory_of (changed f t k v) k ≡ cond t (f k (memory_of v k)) (memory_of v k)
    go true = memory_same v k (f k (memory_of v k)) (omega arith) l
    go false = refl
over_own f (b ∷ bytes) k (suc i) v h few l =
    let e : k + suc i ≡ suc k + i = omega arith in
    let u = changed f (used b) k v in
    let s : memory_of u (suc k + i) ≡ memory_of v (suc k + i) = changed_above f (used b) k (suc k + i) v (omega arith) in
    ap (memory_of (over_used f bytes (suc k) u)) e
    ∙ over_own f bytes (suc k) i u (le_of_suc-le-suc h) (omega arith) (changed_length f (used b) k v ∙ l)
    ∙ ap (λ (m : Memory). cond (used (get_or bytes i 0)) (f (suc k + i) m) m) s
    ∙ ap (λ (j : ℕ). cond (used (get_or bytes i 0)) (f j (memory_of v j)) (memory_of v j)) (sym e)
