-- Demand 3, proved. "Each merged counter is the number of listed energies that 01 puts in that bin"; the whole sentence stands above the definitions, in
-- specs/Dealing.antt. Tallies, Counts, Plans and Together carry the steps. Assumes nothing.
use mathlib.Core.Path.{◌≡◌, refl, sym, ap, ◌∙◌, subst}
use mathlib.Core.List.{List, [], ◌∷◌, append-nil}
use Prim.Native.Nat.{ℕ, ◌≤◌, ◌<◌}
use native.Mathlib.Omega.{arith}
use lib.ListN.{length, get_or}
use lib.Ieee.{Float}
use Rattle.base_refusals.specs.Outcome.{Outcome, went, NoValues, done, kept_by}
use Rattle.bins.specs.Bin.{bins}
use Rattle.history_histogram.specs.Histogram.{largest_count, empty}
use Rattle.history_set.specs.Set.{most_histories, Histories}
use Rattle.order_rules.proofs.Perms.{perm_length}
use Rattle.range_histograms.specs.Counted.{counted_span, blocks_in}
use Rattle.range.specs.Range.{range_of}
use Rattle.acceptance_dealing.specs.Dealing.{count_in, counters_of, Plan, fresh, filled, run, store_of, stores_of, energies_of, in_one_run, Dealt, Asks, ForEach, range_of_bins, Demand3}
use Rattle.acceptance_dealing.proofs.Tallies.{tally_length, tally_at, tally_same}
use Rattle.acceptance_dealing.proofs.Counts.{count_append, count_reordered, run_reordered, blocks_counted}
use Rattle.acceptance_dealing.proofs.Plans.{planned, run_plan}
use Rattle.acceptance_dealing.proofs.Together.{counts, range_together}

-- ---- the parts
-- a part's bins hold no more than the whole's
abbrev Fits : List Float → Type 0
Fits l = (bin : ℕ) → bin < bins → count_in bin l ≤ largest_count

fill_each : (dealt : List (List Float)) → Fits (in_one_run dealt) → ForEach (λ part. run (filled fresh part) ≡ went (counters_of part) done) dealt
fill_each [] h = tt
fill_each (part ∷ rest) h = (
  run_plan (filled fresh part) (λ i k. omega (arith, h i k, count_append i part (in_one_run rest))),
  fill_each rest (λ i k. omega (arith, h i k, count_append i part (in_one_run rest))),
)

stores_are : (dealt : List (List Float)) → ForEach (λ part. run (filled fresh part) ≡ went (counters_of part) done) dealt → stores_of dealt ≡ counts dealt
stores_are [] h = refl
stores_are (part ∷ rest) h =
    ap (λ (o : Outcome (List ℕ) NoValues). kept_by empty o ∷ stores_of rest) h.0
    ∙ ap {B = List (List ℕ)} (λ (l : List (List ℕ)). counters_of part ∷ l) (stores_are rest h.1)

-- ---- the whole
module _ (whole : List Float) (dealt : List (List Float)) (plan : Plan) (d : Dealt whole dealt plan) where
  same_counts : (bin : ℕ) → count_in bin whole ≡ count_in bin (in_one_run dealt)
  same_counts bin = count_reordered bin whole (in_one_run dealt) d.all

  as_planned : (bin : ℕ) → planned plan bin ≡ count_in bin whole
  as_planned bin = sym (count_reordered bin whole (energies_of plan) d.once)

  merges : run plan ≡ went (counters_of whole) done
  merges =
      run_plan plan (λ i k. omega (arith, as_planned i, d.fits i k))
      ∙ ap (λ (l : List ℕ). went l done) (tally_same (planned plan) (λ i. count_in i whole) (λ i k. as_planned i))

  store_is : store_of plan ≡ counters_of whole
  store_is = ap (kept_by empty) merges

  fills : ForEach (λ part. run (filled fresh part) ≡ went (counters_of part) done) dealt
  fills = fill_each dealt (λ i k. omega (arith, same_counts i, d.fits i k))

  ranged : (parts : List (List Float)) (question : Histories) (work : List Float) → length parts ≤ most_histories → Asks (counts parts) question
      → ((bin : ℕ) → count_in bin (in_one_run parts) ≡ count_in bin whole) → range_of question work ≡ went work (range_of_bins whole)
  ranged parts question work few asks e =
      range_together parts few question asks work
      ∙ ap (λ (l : List ℕ). went work (counted_span l)) (tally_same (λ i. count_in i (in_one_run parts)) (λ i. count_in i whole) (λ i k. e i))

pub demand_3 : Demand3
demand_3 whole dealt plan d = record {
  filling = fills whole dealt plan d;
  merging = merges whole dealt plan d;
  thousand = ap length (store_is whole dealt plan d) ∙ tally_length (λ i. count_in i whole);
  counting = λ bin h. ap (λ (l : List ℕ). get_or l bin 0) (store_is whole dealt plan d) ∙ tally_at (λ i. count_in i whole) bin h;
  range_merged =
      λ question work asks.
      ranged whole dealt plan d (whole ∷ []) question work (omega arith) (subst (λ (l : List ℕ). Asks (l ∷ []) question) (store_is whole dealt plan d) asks)
      (λ bin. ap (count_in bin) (append-nil whole));
  range_dealt =
      λ parts other question work asks.
      let inside : Fits (in_one_run parts) = λ i k. omega (arith, same_counts whole dealt plan d i, run_reordered i dealt parts other, d.fits i k) in
      ranged whole dealt plan d parts question work (omega (arith, d.few, perm_length other))
      (subst (λ (l : List (List ℕ)). Asks l question) (stores_are parts (fill_each parts inside)) asks)
      (λ bin. sym (same_counts whole dealt plan d bin ∙ run_reordered bin dealt parts other));
  blocks = ap blocks_in (store_is whole dealt plan d) ∙ blocks_counted whole;
}
