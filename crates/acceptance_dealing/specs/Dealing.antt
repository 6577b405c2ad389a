-- Demand 3. "A list of energies (any floats), dealt in any way to up to 16 histograms that start empty, each filled by `add` in any order of its part, then
-- merged once each in any order and grouping, with no other block in any store. If no bin of the whole list holds more than the largest count: no add and no
-- merge is refused; each merged counter is the number of listed energies that 01 puts in that bin; the range of the merged store, and the range over the
-- parts together as a set of entries in the order dealt, are both what 01's histogram gate and whole-number ranks give for the list's bins. The block total
-- reported is the length of the list less the dropped energies."
-- `add_to`, `merge_into` and `range_of` are what the contracts of the code cite: so this speaks of the code. proofs/Dealing.antt proves `Demand3`.
use Rattle.std.specs.Prelude.{ℕ, zero, suc, ◌+◌, ◌-◌, ◌≤◌, ◌<◌, ◌≡◌, Bool, not, ◌&&◌, cond, List, [], ◌∷◌, ◌++◌, eqb, length, get_or, Float}
use Rattle.base_refusals.specs.Outcome.{Outcome, went, refused, NoValues, done, kept_by}
use Rattle.bins.specs.Bin.{bins, bin_of}
use Rattle.bins.specs.Energy.{dropped}
use Rattle.history_histogram.specs.Histogram.{empty, add_to}
use Rattle.history_histogram.specs.Merge.{merge_into}
use Rattle.history_set.specs.declared.set.Entry.{Entry}
use Rattle.history_set.specs.declared.set.Shape.TheVariants.{Histogram}
use Rattle.history_set.specs.Set.{Histories, chosen, counters_at}
use Rattle.order_rules.specs.Arrangement.{Reordered}
use Rattle.range_ranks.specs.Span.{Span}
use Rattle.range_histograms.specs.Counted.{counted_span, blocks_in}
use Rattle.range.specs.Range.{range_of}

-- ---- the list's bins
-- 01 puts an energy in a bin: the energy is not below boundary 0, and the bin is its own
abbrev pub is_in : ℕ → Float → Bool
is_in bin energy = not (dropped energy) && eqb (bin_of energy) bin

-- how many of the listed energies 01 puts in a bin
abbrev pub count_in : ℕ → List Float → ℕ
count_in bin [] = 0
count_in bin (energy ∷ rest) = cond (is_in bin energy) 1 0 + count_in bin rest

-- a number for each of the first n bins
abbrev pub table : ℕ → (ℕ → ℕ) → List ℕ
table zero f = []
table (suc n) f = f zero ∷ table n (λ bin. f (suc bin))

-- a histogram with such counters. It is shut, so that no proof writes its thousand counters out
unfoldable pub tally : (ℕ → ℕ) → List ℕ
tally f = table bins f

abbrev pub counters_of : List Float → List ℕ
counters_of energies = tally (λ bin. count_in bin energies)

-- the energies of the list that are dropped
abbrev pub dropped_of : List Float → List Float
dropped_of [] = []
dropped_of (energy ∷ rest) = cond (dropped energy) (energy ∷ dropped_of rest) (dropped_of rest)

-- ---- filling and merging
-- an operation after another, unless that is refused
abbrev pub next : Outcome (List ℕ) NoValues → (List ℕ → Outcome (List ℕ) NoValues) → Outcome (List ℕ) NoValues
next (went store done) operation = operation store
next (refused r) operation = refused r

-- energies added to a store, one after the other
abbrev pub add_each : List Float → List ℕ → Outcome (List ℕ) NoValues
add_each [] store = went store done
add_each (energy ∷ rest) store = next (add_to store energy) (add_each rest)

-- what is done with stores, in any order and grouping: a fresh one; energies added to one, whatever was merged into it before; one merged into another
pub data Plan : Type 0 where
  fresh : Plan
  filled : Plan → List Float → Plan
  merged : Plan → Plan → Plan

-- every store starts empty
abbrev pub run : Plan → Outcome (List ℕ) NoValues
run fresh = went empty done
run (filled into energies) = next (run into) (add_each energies)
run (merged into from) = next (run into) (λ store. next (run from) (merge_into store))

-- the store that a plan leaves
abbrev pub store_of : Plan → List ℕ
store_of plan = kept_by empty (run plan)

-- the energies that a plan adds to its stores
abbrev pub energies_of : Plan → List Float
energies_of fresh = []
energies_of (filled into energies) = energies_of into ++ energies
energies_of (merged into from) = energies_of into ++ energies_of from

-- ---- the premises
-- the energies of all the parts
abbrev pub in_one_run : List (List Float) → List Float
in_one_run [] = []
in_one_run (part ∷ rest) = part ++ in_one_run rest

-- the whole list is any list of floats. Each dealt part is in the order in which its energies are added; a part may be empty
pub record Dealt (whole : List Float) (dealt : List (List Float)) (plan : Plan) : Type 0 where
  -- to up to 16 histograms
  pub few : length dealt ≤ 16
  -- in any way: every listed energy is in one part, as often as it is listed
  pub all : Reordered whole (in_one_run dealt)
  -- the plan adds each of them once, in whatever order, to whichever of its stores, before or after a merge, and merges each store once
  pub once : Reordered whole (energies_of plan)
  -- no bin of the whole list holds more than the largest count
  pub fits : (bin : ℕ) → bin < bins → count_in bin whole ≤ 4_294_967_295

-- ---- histograms together, as a set question takes them
-- an entry is the histogram whose counters these are, wherever they stand in the lent ones
pub record StandsIn (lent : List ℕ) (entry : Entry) (store : List ℕ) : Type 0 where
  pub start : ℕ
  pub shape : entry.shape ≡ Histogram start
  pub inside : start + 1000 ≤ length lent
  pub holds : counters_at lent start ≡ store

abbrev pub AllStand : List ℕ → List Entry → List (List ℕ) → Type 0
AllStand lent [] [] = Unit
AllStand lent [] (store ∷ stores) = ⊥
AllStand lent (entry ∷ entries) [] = ⊥
AllStand lent (entry ∷ entries) (store ∷ stores) = StandsIn lent entry store × AllStand lent entries stores

-- the question asks over these stores, with an entry for each. Between, before and behind them any counters may stand; what the other entries are, and what
-- energies are lent, is left open
pub record Asks (stores : List (List ℕ)) (question : Histories) : Type 0 where
  pub number : question.count ≡ length stores
  pub entered : AllStand question.counters (chosen question) stores

-- the store of one part, filled by itself, and the stores of parts in their order
abbrev pub store_of_part : List Float → List ℕ
store_of_part part = store_of (filled fresh part)

abbrev pub stores_of : List (List Float) → List (List ℕ)
stores_of [] = []
stores_of (part ∷ rest) = store_of_part part ∷ stores_of rest

-- ---- the demand
abbrev pub ForEach : (List Float → Type 0) → List (List Float) → Type 0
ForEach Holds [] = Unit
ForEach Holds (part ∷ rest) = Holds part × ForEach Holds rest

-- what 01's histogram gate and whole-number ranks give for the list's bins
abbrev pub range_of_bins : List Float → Span
range_of_bins whole = counted_span (counters_of whole)

pub record Met (whole : List Float) (dealt : List (List Float)) (plan : Plan) : Type 0 where
  -- no add to any part's store is refused, and the store's counters are those of its part
  pub filling : ForEach (λ part. run (filled fresh part) ≡ went (counters_of part) done) dealt
  -- nor is any add or merge of the plan, and the merged counters are those of the whole list
  pub merging : run plan ≡ went (counters_of whole) done
  -- each of the 1,000 merged counters is the number of listed energies that 01 puts in that bin
  pub thousand : length (store_of plan) ≡ bins
  pub counting : (bin : ℕ) → bin < bins → get_or (store_of plan) bin 0 ≡ count_in bin whole
  -- the range of the merged store: a set of one
  pub range_merged : (question : Histories) (work : List Float) → Asks (store_of plan ∷ []) question → range_of question work ≡ went work (range_of_bins whole)
  -- the range over the parts together, as a set of entries in the order dealt, or in any other
  pub range_dealt : (parts : List (List Float)) → Reordered dealt parts
      → (question : Histories) (work : List Float) → Asks (stores_of parts) question → range_of question work ≡ went work (range_of_bins whole)
  -- the block total is the length of the list less the dropped energies
  pub blocks : blocks_in (store_of plan) ≡ length whole - length (dropped_of whole)

abbrev pub Demand3 : Type 0
Demand3 = (whole : List Float) (dealt : List (List Float)) (plan : Plan) → Dealt whole dealt plan → Met whole dealt plan
