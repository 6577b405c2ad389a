-- One list of energies stored after another is their joint list stored, and stored from the first place on it stands first. Assumes nothing.
use mathlib.Core.Path.{◌≡◌, ap, ◌∙◌}
use mathlib.Core.List.{List, [], ◌∷◌, ◌++◌}
use Prim.Native.Nat.{ℕ, suc, ◌+◌, ◌≤◌}
use native.Mathlib.Omega.{arith}
use lib.ListN.{length, drop, set}
use lib.Seq.{sets, sets-eq}
use lib.Ieee.{Float}

pub sets_append : (work a b : List Float) (at : ℕ) → sets work at (a ++ b) ≡ sets (sets work at a) (at + length a) b
sets_append work [] b at = ap (λ (k : ℕ). sets work k b) {x = at} {y = at + 0} (omega arith)
sets_append work (x ∷ a) b at =
    sets_append (set work at x) a b (suc at)
    ∙ ap (λ (k : ℕ). sets (sets (set work at x) (suc at) a) k b) {x = suc at + length a} {y = at + suc (length a)} (omega arith)

-- from the first place on
pub sets_front : (work l : List Float) → length l ≤ length work → sets work 0 l ≡ l ++ drop (length l) work
sets_front work l h = sets-eq l work 0 (omega arith) ∙ ap (λ (k : ℕ). l ++ drop k work) {x = 0 + length l} {y = length l} (omega arith)
