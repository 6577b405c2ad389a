-- Where bytes go: the patterns of energies one after the other, and of two parts of a store. Assumes nothing.
use mathlib.Core.Path.{◌≡◌, refl, sym, ap, ◌∙◌}
use mathlib.Core.List.{List, [], ◌∷◌, ◌++◌, append-nil}
use Prim.Native.Nat.{ℕ, zero, suc, ◌+◌, ◌-◌, ◌<◌}
use native.Mathlib.Nat.{not-suc-le-zero, le_of_suc-le-suc}
use native.Mathlib.Omega.{arith}
use borrow.Rule.Slice.PartMut.{put_mid}
use lib.ListN.{length, get_or, drop, length-drop, drop_of_length-le}
use lib.Seq.{take_at}
use lib.Ieee.{Float, nan, to_bits, binary64}
use Rattle.history_queue.specs.declared.Queue.{Queue}
use Rattle.history_queue.specs.Queue.{over, held_of}
use Rattle.history_queue.proofs.Held.{held_count}
use Rattle.base_fields.specs.declared.Order.{Order}
use Rattle.record_layout.specs.Layout.{all_bytes}
use Rattle.record_layout.proofs.Runs.{all_append}
use Rattle.record_queue_reader.specs.QueueRecord.{patterns_of}

-- ---- patterns
pub patterns_length : (energies : List Float) → length (patterns_of energies) ≡ length energies
patterns_length [] = refl
patterns_length (x ∷ energies) = ap suc (patterns_length energies)

pub pattern_at : (energies : List Float) (i : ℕ) → i < length energies → get_or (patterns_of energies) i 0 ≡ to_bits binary64 (get_or energies i nan)
pattern_at [] i h = absurd (not-suc-le-zero h)
pattern_at (x ∷ energies) zero h = refl
pattern_at (x ∷ energies) (suc i) h = pattern_at energies i (le_of_suc-le-suc h)

patterns_append : (a b : List Float) → patterns_of (a ++ b) ≡ patterns_of a ++ patterns_of b
patterns_append [] b = refl
patterns_append (x ∷ a) b = ap {B = List ℕ} (λ l. to_bits binary64 x ∷ l) (patterns_append a b)

-- the energies of two parts, one after the other
pub parts_bytes : (order : Order) (a b : List Float) → all_bytes order 8 (patterns_of a) ++ all_bytes order 8 (patterns_of b) ≡ all_bytes order 8 (patterns_of (a ++ b))
parts_bytes order a b = sym (ap (all_bytes order 8) (patterns_append a b) ∙ all_append order 8 (patterns_of a) (patterns_of b))

-- what is written up to a place, and then from there to the end
pub two_parts : (first second fields : List ℕ) (next : ℕ) → length first ≡ next → length fields ≡ next + length second
    → put_mid next (length (first ++ drop next fields) - next) (first ++ drop next fields) second ≡ first ++ second
two_parts first second fields next e f =
    let base = first ++ drop next fields in
    let k = length base - next in
    ap (λ (l : List ℕ). l ++ (second ++ drop k (drop next base))) (take_at first (drop next fields) next e)
    ∙ ap (λ (l : List ℕ). first ++ (second ++ l)) (drop_of_length-le (drop next base) {i = k} (simp length-drop (omega arith)))
    ∙ ap (λ (l : List ℕ). first ++ l) (append-nil second)

-- ---- the energies held
pub held_number : (queue : Queue) (store : List Float) → length (held_of (over queue store)) ≡ queue.held
held_number queue store = held_count store queue.maximum queue.head queue.held
