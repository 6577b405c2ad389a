-- Stretches of bins: bins without blocks leave a sum as it is, since each of them adds 0 to it; and what bins come to in two parts, one after the other.
-- Assumes nothing.
use Rattle.std.proofs.Common.{◌≡◌, ℕ, suc, ◌+◌, ◌-◌, ◌≤◌, List, [], ◌∷◌, ◌++◌, length, take, drop, pos, sym, refl, ap, ◌∙◌, arith}
use Rattle.std.proofs.lemmas.List.{length-take, length-drop, take-append-drop, drop-drop}
use lib.Ieee.{Float, binary64, add, mul, of_int}
use Rattle.bins_tables.specs.Tables.{energy_at}
use Rattle.bins_tables.proofs.Rules.{energy_positive}
use Rattle.bins.specs.Bin.{bins}
use Rattle.gate.specs.declared.blocks.Totals.{Totals}
use Rattle.gate.specs.Totals.{with_blocks, bins_from, blocks_in}
use Rattle.gate.specs.Inner.{onwards, sum_from, blocks_above, sum_above, Steady}
use Rattle.gate.proofs.Looking.{same}
use Rattle.gate.proofs.Running.{bins_split}
use Rattle.gate.proofs.Nothing.{nothing_added, none_times}

-- ---- two parts
pub bins_append : (totals : Totals) (bin : ℕ) (a b : List ℕ) → bins_from totals bin (a ++ b) ≡ bins_from (bins_from totals bin a) (bin + length a) b
unfolding bins_from
bins_append totals bin [] b = ap (λ (n : ℕ). bins_from totals n b) {x = bin} {y = bin + 0} (omega arith)
bins_append totals bin (x ∷ a) b =
    let next = with_blocks totals x (mul binary64 (of_int binary64 (pos x)) (energy_at bin)) in
    bins_append next (suc bin) a b ∙ ap (λ (n : ℕ). bins_from (bins_from next (suc bin) a) n b) {x = suc bin + length a} {y = bin + suc (length a)} (omega arith)

-- the bins of a histogram from one up to another, and then the others
pub bins_up_to : (counters : List ℕ) (totals : Totals) (bin next : ℕ) → bin ≤ next → next ≤ length counters
    → onwards (bins_from totals bin (take (next - bin) (drop bin counters))) next counters ≡ onwards totals bin counters
bins_up_to counters totals bin next h most =
    let left = drop bin counters in
    let n = next - bin in
    let there : bin + n ≡ next = omega arith in
    let more = bins_from totals bin (take n left) in
    ap (λ (k : ℕ). bins_from more k (drop next counters)) {x = next} {y = bin + length (take n left)} (omega (arith, length-take n left, length-drop bin counters))
    ∙ ap (bins_from more (bin + length (take n left))) (ap (λ (k : ℕ). drop k counters) (sym there) ∙ sym (drop-drop n bin counters))
    ∙ sym (bins_append totals bin (take n left) (drop n left))
    ∙ ap (bins_from totals bin) (take-append-drop n left)

blocks_append : (a b : List ℕ) → blocks_in (a ++ b) ≡ blocks_in a + blocks_in b
unfolding blocks_in
blocks_append [] b = omega arith
blocks_append (x ∷ a) b = omega (arith, blocks_append a b)

sum_append : (sum : Float) (bin : ℕ) (a b : List ℕ) → sum_from sum bin (a ++ b) ≡ sum_from (sum_from sum bin a) (bin + length a) b
unfolding sum_from
sum_append sum bin [] b = ap (λ (n : ℕ). sum_from sum n b) {x = bin} {y = bin + 0} (omega arith)
sum_append sum bin (x ∷ a) b =
    let next = add binary64 sum (mul binary64 (of_int binary64 (pos x)) (energy_at bin)) in
    sum_append next (suc bin) a b ∙ ap (λ (n : ℕ). sum_from (sum_from next (suc bin) a) n b) {x = suc bin + length a} {y = bin + suc (length a)} (omega arith)

-- ---- bins without blocks
module _ (sum : Float) (steady : Steady sum) where
  pub none_added : (bin : ℕ) (l : List ℕ) → bin + length l ≤ bins → blocks_in l ≡ 0 → sum_from sum bin l ≡ sum
  unfolding blocks_in sum_from
  none_added bin [] h e = refl
  none_added bin (x ∷ l) h e =
      let none : x ≡ 0 = omega (arith, e) in
      let plus : add binary64 sum (mul binary64 (of_int binary64 (pos x)) (energy_at bin)) ≡ sum =
      ap (λ (n : ℕ). add binary64 sum (mul binary64 (of_int binary64 (pos n)) (energy_at bin))) none
      ∙ ap (add binary64 sum) (none_times (energy_at bin) (energy_positive bin (omega arith)))
      ∙ nothing_added sum steady in
      ap (λ (s : Float). sum_from s (suc bin) l) plus ∙ none_added (suc bin) l (omega arith) (omega (arith, e))

pub bins_empty : (totals : Totals) (bin : ℕ) (l : List ℕ) → Steady totals.sum → bin + length l ≤ bins → blocks_in l ≡ 0 → totals ≡ bins_from totals bin l
bins_empty totals bin l s h e =
    same {count = totals.count} {count' = totals.count + blocks_in l} (omega (arith, e)) (sym (none_added totals.sum s bin l h e))
    ∙ sym (bins_split totals.count totals.sum bin l)

-- from a bin of a histogram up to another there is no block
module _ (counters : List ℕ) (whole : length counters ≡ bins) (sum : Float) (steady : Steady sum) where
  pub passed : (bin next : ℕ) → bin ≤ next → next ≤ bins → blocks_above bin counters ≡ blocks_above next counters → sum_above sum bin counters ≡ sum_above sum next counters
  passed bin next h most e =
      let left = drop bin counters in
      let n = next - bin in
      let rest : drop n left ≡ drop next counters = drop-drop n bin counters ∙ ap (λ (k : ℕ). drop k counters) {x = bin + n} {y = next} (omega arith) in
      let long : length (take n left) ≡ n = omega (arith, length-take n left, length-drop bin counters) in
      let none : blocks_in (take n left) ≡ 0 = omega (arith, blocks_append (take n left) (drop n left), ap blocks_in (take-append-drop n left), ap blocks_in rest, e) in
      ap (sum_from sum bin) (sym (take-append-drop n left))
      ∙ sum_append sum bin (take n left) (drop n left)
      ∙ ap (λ (s : Float). sum_from s (bin + length (take n left)) (drop n left)) (none_added sum steady bin (take n left) (omega arith) none)
      ∙ ap (λ (k : ℕ). sum_from sum k (drop n left)) {x = bin + length (take n left)} {y = next} (omega (arith, long))
      ∙ ap (sum_from sum next) rest
