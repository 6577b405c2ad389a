-- A plan leaves the counters of the energies that it adds: each add and each merge takes a table of counts to a table of counts, and where no bin of the whole passes the
-- largest count nothing is refused on the way. Assumes nothing.
use mathlib.Core.Path.{◌≡◌, refl, sym, ap, ◌∙◌, subst}
use mathlib.Core.Bool.{Bool, true, false, ◌&&◌}
use mathlib.Core.List.{List, [], ◌∷◌}
use Prim.Native.Nat.{ℕ, suc, ◌+◌, ◌≤◌, ◌<◌}
use native.Mathlib.Nat.{add-zero, add_assoc, suc_inj}
use native.Mathlib.Decide.{ℕ_discrete}
use native.Mathlib.Omega.{arith}
use borrow.Author.Tests.{le-leb}
use lib.ListN.{length, get_or, length-set}
use lib.Seq.{get_or-set_same, get_or-set_other}
use lib.Ieee.{Float}
use Rattle.base_refusals.specs.Outcome.{Outcome, went, NoValues, done}
use Rattle.bins.specs.Bin.{bins, bin_of}
use Rattle.bins.proofs.Bins.{bin_below}
use Rattle.bins.specs.Energy.{dropped}
use Rattle.history_histogram.specs.Histogram.{largest_count, one_more, add_to}
use Rattle.history_histogram.specs.Merge.{room, merge_into}
use Rattle.history_histogram.proofs.Counters.{add_dropped, add_went}
use Rattle.history_histogram.proofs.Cases.{merge_went}
use Rattle.acceptance_dealing.specs.Dealing.{count_in, tally, next, add_each, Plan, fresh, filled, merged, run, energies_of}
use Rattle.acceptance_dealing.proofs.Tallies.{tally_length, tally_at, tally_empty, tally_sums, tally_is, tally_same}
use Rattle.acceptance_dealing.proofs.Counts.{one, one_dropped, one_there, one_elsewhere, count_append}

-- counters that went
abbrev left : (ℕ → ℕ) → Outcome (List ℕ) NoValues
left f = went (tally f) done

-- ---- one block more
more_tally : (f : ℕ → ℕ) (energy : Float) → dropped energy ≡ false → one_more (tally f) energy ≡ tally (λ i. f i + one i energy)
more_tally f energy h =
    let bin = bin_of energy in
    let inside : bin < length (tally f) = subst (λ (m : ℕ). bin < m) (sym (tally_length f)) (bin_below energy) in
    tally_is (one_more (tally f) energy) (λ i. f i + one i energy) (length-set (tally f) bin (get_or (tally f) bin 0 + 1) ∙ tally_length f)
    (λ i k. at i k inside (ℕ_discrete i bin))
  where
    at : (i : ℕ) → i < bins → bin_of energy < length (tally f) → Dec (i ≡ bin_of energy) → get_or (one_more (tally f) energy) i 0 ≡ f i + one i energy
    at i k l (yes e) =
        let bin = bin_of energy in
        ap (λ (m : ℕ). get_or (one_more (tally f) energy) m 0) e
        ∙ get_or-set_same (tally f) bin (get_or (tally f) bin 0 + 1) 0 l
        ∙ ap (λ (m : ℕ). get_or (tally f) m 0 + 1) (sym e)
        ∙ ap (λ (m : ℕ). m + 1) (tally_at f i k)
        ∙ ap (λ (m : ℕ). f i + m) (sym (one_there i energy h (sym e)))
    at i k l (no e) =
        let bin = bin_of energy in
        get_or-set_other (tally f) bin i (get_or (tally f) bin 0 + 1) 0 e
        ∙ tally_at f i k
        ∙ sym (add-zero (f i))
        ∙ ap (λ (m : ℕ). f i + m) (sym (one_elsewhere i energy h (λ p. e (sym p))))

add_tally : (f : ℕ → ℕ) (energy : Float) → ((i : ℕ) → i < bins → f i + one i energy ≤ largest_count)
    → add_to (tally f) energy ≡ left (λ i. f i + one i energy)
add_tally f energy h = go (dropped energy) refl
  where
    go : (b : Bool) → dropped energy ≡ b → add_to (tally f) energy ≡ left (λ i. f i + one i energy)
    go true e =
        add_dropped (tally f) energy (tally_length f) e
        ∙ ap (λ (l : List ℕ). went l done)
        (tally_same f (λ i. f i + one i energy) (λ i k. sym (add-zero (f i)) ∙ ap (λ (m : ℕ). f i + m) (sym (one_dropped i energy e))))
    go false e =
        let bin = bin_of energy in
        add_went (tally f) energy (tally_length f) e
        (omega (arith, tally_at f bin (bin_below energy), one_there bin energy e refl, h bin (bin_below energy)))
        ∙ ap (λ (l : List ℕ). went l done) (more_tally f energy e)

add_each_tally : (part : List Float) (f : ℕ → ℕ) → ((i : ℕ) → i < bins → f i + count_in i part ≤ largest_count)
    → add_each part (tally f) ≡ left (λ i. f i + count_in i part)
add_each_tally [] f h = ap (λ (l : List ℕ). went l done) (tally_same f (λ i. f i + 0) (λ i k. sym (add-zero (f i))))
add_each_tally (energy ∷ rest) f h =
    ap (λ (o : Outcome (List ℕ) NoValues). next o (add_each rest)) (add_tally f energy (λ i k. omega (arith, h i k)))
    ∙ add_each_tally rest (λ i. f i + one i energy) (λ i k. omega (arith, h i k))
    ∙ ap (λ (l : List ℕ). went l done)
    (tally_same (λ i. f i + one i energy + count_in i rest) (λ i. f i + count_in i (energy ∷ rest)) (λ i k. add_assoc (f i) (one i energy) (count_in i rest)))

-- ---- one store merged into another
room_all : (l k : List ℕ) → length l ≡ length k → ((i : ℕ) → i < length l → get_or l i 0 + get_or k i 0 ≤ largest_count) → room l k ≡ true
room_all [] k e h = refl
room_all (x ∷ l) [] e h = refl
room_all (x ∷ l) (y ∷ k) e h =
    ap (λ (b : Bool). b && room l k) (le-leb (x + y) largest_count (h 0 (omega arith)))
    ∙ room_all l k (suc_inj e) (λ i g. h (suc i) (omega arith))

merge_tally : (f g : ℕ → ℕ) → ((i : ℕ) → i < bins → f i + g i ≤ largest_count) → merge_into (tally f) (tally g) ≡ left (λ i. f i + g i)
merge_tally f g h =
    merge_went (tally f) (tally g) (tally_length f) (tally_length g)
    (room_all (tally f) (tally g) (tally_length f ∙ sym (tally_length g))
    (λ i k. let l : i < bins = subst (λ (m : ℕ). i < m) (tally_length f) k in omega (arith, tally_at f i l, tally_at g i l, h i l)))
    ∙ ap (λ (l : List ℕ). went l done) (tally_sums f g)

-- ---- a plan
abbrev pub planned : Plan → ℕ → ℕ
planned plan bin = count_in bin (energies_of plan)

pub run_plan : (plan : Plan) → ((i : ℕ) → i < bins → planned plan i ≤ largest_count) → run plan ≡ went (tally (planned plan)) done
run_plan fresh h = ap (λ (l : List ℕ). went l done) tally_empty
run_plan (filled into energies) h =
    let f = planned into in
    ap (λ (o : Outcome (List ℕ) NoValues). next o (add_each energies))
    (run_plan into (λ i k. omega (arith, h i k, count_append i (energies_of into) energies)))
    ∙ add_each_tally energies f (λ i k. omega (arith, h i k, count_append i (energies_of into) energies))
    ∙ ap (λ (l : List ℕ). went l done)
    (tally_same (λ i. f i + count_in i energies) (planned (filled into energies)) (λ i k. sym (count_append i (energies_of into) energies)))
run_plan (merged into from) h =
    let f = planned into in
    let g = planned from in
    ap (λ (o : Outcome (List ℕ) NoValues). next o (λ store. next (run from) (merge_into store)))
    (run_plan into (λ i k. omega (arith, h i k, count_append i (energies_of into) (energies_of from))))
    ∙ ap (λ (o : Outcome (List ℕ) NoValues). next o (merge_into (tally f)))
    (run_plan from (λ i k. omega (arith, h i k, count_append i (energies_of into) (energies_of from))))
    ∙ merge_tally f g (λ i k. omega (arith, h i k, count_append i (energies_of into) (energies_of from)))
    ∙ ap (λ (l : List ℕ). went l done)
    (tally_same (λ i. f i + g i) (planned (merged into from)) (λ i k. sym (count_append i (energies_of into) (energies_of from))))
