-- `search::find_histogram_index` meets its contract. The loop's invariant is what holds at a place of the scan, and its measure the places that are left.
-- Assumes nothing.
use mathlib.Core.Path.{◌≡◌, sym, ap, ◌∙◌}
use Prim.Native.Nat.{ℕ, ◌-◌, ◌≤◌, ◌<◌}
use native.Mathlib.Omega.{arith}
use mathlib.Core.List.{List}
use lib.ListN.{get_or}
use lib.Ieee.{Float, nan, lt}
use Rattle.base_floats.proofs.Nan.{only_nan}
use Rattle.bins_tables.specs.Tables.{boundaries, boundary_at}
use Rattle.bins_tables.proofs.Taken.{boundary_entry}
use Rattle.bins.specs.Bin.{bin_of}
use Rattle.bins.proofs.Bins.{bin_of_nan}
use Rattle.bins.proofs.Scanning.{start, go_on, stop_above, stop_at_end}
use Rattle.bins.proofs.search.find_histogram_index.Goals as goal
use Rattle.bins.proofs.search.find_histogram_index.Goals.{Else-place-eq-BINS, Joined-place-eq-BINS, then-place-eq-BINS, else-place-eq-BINS+then-energy-boundaries}

pub returns-then-is_nan : goal.returns-then-is_nan
returns-then-is_nan c =
    let energy = c.args.energy in
    sym (ap bin_of (only_nan energy (sym c.is_nan.ensures ∙ c.if-is_nan.true)) ∙ bin_of_nan)

pub loop-place-init : goal.loop-place-init
loop-place-init c = start c.args.energy

pub offset_bounds-boundaries-place : goal.offset_bounds-boundaries-place
offset_bounds-boundaries-place c = omega (arith, c.loop-place.invariant.within)

pub bounds-boundaries-place : goal.bounds-boundaries-place
bounds-boundaries-place c = omega (arith, c.loop-place.invariant.within)

more : (c : Else-place-eq-BINS) → c.loop-place.place < 1000
more c = omega (arith, c.loop-place.invariant.within, c.if-place-eq-BINS.false)

pub overflow_add-place : goal.overflow_add-place
overflow_add-place c = omega (arith, more (goal.at.overflow_add-place c).Else-place-eq-BINS)

pub loop-place-smaller : goal.loop-place-smaller
loop-place-smaller c = omega (arith, more (goal.at.loop-place-smaller c).Else-place-eq-BINS)

-- what the scan compares with is the boundary of its place
compared : (x : Float) (bs : List Float) (place : ℕ) → bs ≡ boundaries → lt x (boundary_at place) ≡ lt x (get_or bs place nan)
compared x bs place e = sym (ap (lt x) (boundary_entry bs place e))

pub loop-place-preserved : goal.loop-place-preserved
loop-place-preserved c =
    go_on c.loop-place.invariant (sym c.is_nan.ensures ∙ c.if-is_nan.false) (more (goal.at.loop-place-preserved c).Else-place-eq-BINS)
    (compared c.args.energy c.all_boundaries-boundaries.result c.loop-place.place c.all_boundaries-boundaries.ensures ∙ c.if-energy-boundaries.false)

found : (c : Joined-place-eq-BINS) → (1 ≤ c.if-place-eq-BINS.stopped) × (c.if-place-eq-BINS.stopped - 1 ≡ bin_of c.args.energy)
found c =
    let here = c.loop-place.invariant in
    elim c.if-place-eq-BINS.branch [
      | then-place-eq-BINS w ↦ stop_at_end here c.if-place-eq-BINS.stopped w.stopped-is w.if-place-eq-BINS.true
      | else-place-eq-BINS+then-energy-boundaries w ↦ stop_above here c.if-place-eq-BINS.stopped w.stopped-is
          (compared c.args.energy c.all_boundaries-boundaries.result c.loop-place.place c.all_boundaries-boundaries.ensures ∙ w.if-energy-boundaries.true)
    ]

pub overflow_sub-result : goal.overflow_sub-result
overflow_sub-result c = omega (arith, (found (goal.at.overflow_sub-result c).Joined-place-eq-BINS).0)

pub returns : goal.returns
returns c = (found (goal.at.returns c).Joined-place-eq-BINS).1
