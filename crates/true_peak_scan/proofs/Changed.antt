-- A list whose places are changed one after the other: those done have their new values, the others are as they were. Assumes nothing.
use Rattle.std.proofs.Common.{◌≡◌, ◌≢◌, ℕ, ◌+◌, ◌<◌, ◌≤◌, List, length, get_or, refl, ◌∙◌, arith, below_more, get_or-set_same, get_or-set_other}
use lib.ListN.{set, length-set}
use lib.Ieee.{Float, nan}

pub record Changed (n : ℕ) (value : ℕ → Float) (old l : List Float) (k : ℕ) : Type 0 where
  pub size : length l ≡ n
  pub done : (i : ℕ) → i < k → get_or l i nan ≡ value i
  pub kept : (i : ℕ) → k ≤ i → get_or l i nan ≡ get_or old i nan

pub changed_start : (n : ℕ) (value : ℕ → Float) (l : List Float) → length l ≡ n → Changed n value l l 0
changed_start n value l e = record { size = e; done = λ i h. absurd (omega arith); kept = λ i h. refl }

pub changed_turn : (n : ℕ) (value : ℕ → Float) (old l : List Float) (k : ℕ) (x : Float) → k < n → x ≡ value k → Changed n value old l k → Changed n value old (set l k x) (k + 1)
changed_turn n value old l k x h e c =
    let here : k < length l = omega (arith, c.size) in
    record {
      size = length-set l k x ∙ c.size;
      done = below_more _ _ (λ i g. let ne : i ≢ k = omega arith in rw get_or-set_other (c.done i g)) (rw get_or-set_same e);
      kept = λ i g. let ne : i ≢ k = omega arith in rw get_or-set_other (c.kept i (omega arith));
    }

pub changed_end : (n : ℕ) (value : ℕ → Float) (old l : List Float) (k : ℕ) → n ≤ k → Changed n value old l k → (i : ℕ) → i < n → get_or l i nan ≡ value i
changed_end n value old l k h c i g = c.done i (omega arith)
