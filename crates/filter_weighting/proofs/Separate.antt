-- State and destination by themselves: the channels' memories after a call, and their outputs, which come from the memories before it.
-- A channel that is still to be weighed has the memory that it came with. Assumes nothing.
use Prim.Native.Nat.{ℕ, suc, ◌≤◌}
use native.Mathlib.Omega.{arith}
use mathlib.Core.Path.{◌≡◌, refl, ap, ◌∙◌}
use mathlib.Core.Bool.{Bool, true, false, cond}
use mathlib.Core.List.{List, [], ◌∷◌}
use lib.Seq.{sets}
use lib.Ieee.{Float}
use Rattle.filter_checks.specs.Calls.{used}
use Rattle.filter_recurrence.specs.declared.Memory.{Memory}
use Rattle.filter_recurrence.specs.Channels.{memory_of, with_memory, each_used, over_used}
use Rattle.filter_recurrence.proofs.Memories.{memory_above}
use Rattle.filter_weighting.specs.declared.channels.Work.{Work}
use Rattle.filter_weighting.specs.Weighting.{over_parts}
use Rattle.filter_weighting.specs.Inner.{memory_in, outs_in, given_in, place_of, kept_of, weigh_one}

parts_from : (work : Work) (samples v₀ : List Float) (bytes : List ℕ) (k : ℕ) (v d : List Float) → ((j : ℕ) → k ≤ j → memory_of v j ≡ memory_of v₀ j)
    → each_used (weigh_one work samples) bytes k (kept_of v d) ≡ kept_of (over_used (memory_in work samples) bytes k v) (over_parts (given_in work samples v₀) work.part work.place bytes k d)
unfolding each_used
parts_from work samples v₀ [] k v d same = refl
parts_from work samples v₀ (b ∷ bytes) k v d same =
    go (used b) (λ u e t. parts_from work samples v₀ bytes (suc k) u e t)
  where
    v' : List Float
    v' = with_memory v k (memory_in work samples k (memory_of v k))

    go : (t : Bool)
        → ((u e : List Float) → ((j : ℕ) → suc k ≤ j → memory_of u j ≡ memory_of v₀ j)
        → each_used (weigh_one work samples) bytes (suc k) (kept_of u e) ≡ kept_of (over_used (memory_in work samples) bytes (suc k) u) (over_parts (given_in work samples v₀) work.part work.place bytes (suc k) e))
        → each_used (weigh_one work samples) bytes (suc k) (cond t (weigh_one work samples k (kept_of v d)) (kept_of v d))
        ≡ kept_of (over_used (memory_in work samples) bytes (suc k) (cond t v' v)) (over_parts (given_in work samples v₀) work.part work.place bytes (suc k) (cond t (sets d (place_of work k) (given_in work samples v₀ k)) d))
    go true rest =
        rest v' (sets d (place_of work k) (given_in work samples v k)) (λ j h. memory_above v k j (memory_in work samples k (memory_of v k)) h ∙ same j (omega arith))
        ∙ ap (λ (m : Memory). kept_of (over_used (memory_in work samples) bytes (suc k) v') (over_parts (given_in work samples v₀) work.part work.place bytes (suc k) (sets d (place_of work k) (outs_in work samples k m)))) (same k (omega arith))
    go false rest = rest v d (λ j h. same j (omega arith))

pub by_themselves : (work : Work) (samples : List Float) (map : List ℕ) (v d : List Float)
    → each_used (weigh_one work samples) map 0 (kept_of v d) ≡ kept_of (over_used (memory_in work samples) map 0 v) (over_parts (given_in work samples v) work.part work.place map 0 d)
by_themselves work samples map v d = parts_from work samples v map 0 v d (λ j h. refl)
