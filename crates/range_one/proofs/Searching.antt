-- The first bin whose running count passes a rank: one bin on, from a bin below which too few blocks stand, and where it can be.
-- No bin before it passes, so that a search may start at any of those. Assumes nothing.
use mathlib.Core.Path.{◌≡◌, refl, sym, ap, ◌∙◌}
use mathlib.Core.Bool.{Bool, true, false, cond}
use mathlib.Core.List.{List, [], ◌∷◌}
use Prim.Native.Nat.{ℕ, zero, suc, ◌+◌, ◌≤◌, ◌<◌}
use native.Mathlib.Nat.{le_of_suc-le-suc, not-suc-le-zero}
use native.Mathlib.Numerals.{add-one}
use native.Mathlib.Omega.{arith}
use borrow.Author.Tests.{lt-ltb, le-ltb, ltb-true, ltb-false}
use lib.Dec.{ltb}
use lib.ListN.{length, get_or, take, drop, drop_of_length-le}
use lib.Seq.{drop-cons}
use Rattle.range_one.specs.Counted.{blocks_in, running_from, first_past}
use Rattle.range_one.proofs.Counting.{blocks_suc, running_at, running_length}

-- ---- a turn of the search
module _ (running : List ℕ) (rank bin : ℕ) where
  next : (b : Bool) → bin < length running → ltb rank (get_or running bin 0) ≡ b
      → first_past rank bin (drop bin running) ≡ cond b bin (first_past rank (bin + 1) (drop (bin + 1) running))
  unfolding first_past
  next b h e =
      ap (first_past rank bin) (drop-cons running bin 0 h)
      ∙ ap (λ (t : Bool). cond t bin (first_past rank (suc bin) (drop (suc bin) running))) e
      ∙ ap (λ (n : ℕ). cond b bin (first_past rank n (drop n running))) (sym (add-one bin))

  pub past_here : bin < length running → rank < get_or running bin 0 → first_past rank bin (drop bin running) ≡ bin
  past_here h p = next true h (lt-ltb rank (get_or running bin 0) p)

  pub past_end : length running ≤ bin → first_past rank bin (drop bin running) ≡ bin
  unfolding first_past
  past_end h = ap (first_past rank bin) (drop_of_length-le running h)

-- ---- a search that starts further on
skip : (rank before bin : ℕ) (l : List ℕ) (k : ℕ) → k ≤ length l → before + blocks_in (take k l) ≤ rank
    → first_past rank (bin + k) (drop k (running_from before l)) ≡ first_past rank bin (running_from before l)
unfolding first_past running_from blocks_in
skip rank before bin l zero h g = ap (λ (n : ℕ). first_past rank n (running_from before l)) {x = bin + 0} {y = bin} (omega arith)
skip rank before bin [] (suc k) h g = absurd (not-suc-le-zero h)
skip rank before bin (x ∷ l) (suc k) h g =
    let far : before + (x + blocks_in (take k l)) ≤ rank = g in
    ap (λ (n : ℕ). first_past rank n (drop k (running_from (before + x) l))) {x = bin + suc k} {y = suc bin + k} (omega arith)
    ∙ skip rank (before + x) (suc bin) l k (le_of_suc-le-suc h) (omega arith)
    ∙ sym (ap (λ (b : Bool). cond b bin (first_past rank (suc bin) (running_from (before + x) l))) (le-ltb rank (before + x) (omega arith)))

pub search_from : (rank : ℕ) (l : List ℕ) (k : ℕ) → k ≤ length l → blocks_in (take k l) ≤ rank
    → first_past rank k (drop k (running_from 0 l)) ≡ first_past rank 0 (running_from 0 l)
search_from rank l k h g =
    ap (λ (n : ℕ). first_past rank n (drop k (running_from 0 l))) {x = k} {y = 0 + k} (omega arith) ∙ skip rank 0 0 l k h (omega arith)

-- ---- too few blocks stand below a bin, and with it there are enough, or it is past the last
pub found_at : (rank : ℕ) (block : List ℕ) (bin : ℕ) → bin ≤ length block → blocks_in (take bin block) ≤ rank
    → (bin < length block → rank < blocks_in (take bin block) + get_or block bin 0) → bin ≡ first_past rank 0 (running_from 0 block)
found_at rank block bin h few past = go (ltb bin (length block)) refl
  where
    running : List ℕ
    running = running_from 0 block

    long : length running ≡ length block
    long = running_length 0 block

    from : first_past rank bin (drop bin running) ≡ first_past rank 0 running
    from = search_from rank block bin h few

    go : (b : Bool) → ltb bin (length block) ≡ b → bin ≡ first_past rank 0 running
    go true k =
        let inside = ltb-true bin (length block) k in
        sym (past_here running rank bin (omega (arith, inside, long)) (omega (arith, past inside, running_at 0 block bin inside, blocks_suc block bin inside))) ∙ from
    go false k = sym (past_end running rank bin (omega (arith, ltb-false bin (length block) k, long))) ∙ from
