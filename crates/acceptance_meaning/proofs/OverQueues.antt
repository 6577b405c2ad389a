-- What the range answers over queues is what Tech 3342 gives over their energies: to gate and then order is to order and then skip the leading ones,
-- and the two ranks are the nearest to a tenth and to nineteen twentieths of the last. Assumes nothing.
use mathlib.Core.Path.{◌≡◌, refl, sym, ap, ◌∙◌}
use mathlib.Core.Bool.{Bool, true, false, not, ◌||◌, cond}
use mathlib.Core.List.{List, [], ◌∷◌, ◌++◌}
use Prim.Native.Nat.{ℕ, ◌+◌, ◌-◌, ◌≤◌}
use native.Mathlib.Omega.{arith}
use lib.Dec.{eqb}
use lib.ListN.{length, get_or, drop}
use lib.Ieee.{Float, nan, lt, is_nan}
use Rattle.base_refusals.specs.Outcome.{went}
use Rattle.base_refusals.specs.Rows.{number_of}
use Rattle.history_set.specs.Set.{Histories, histories_of, chosen, none_below, set_rows}
use Rattle.history_set.proofs.Entries.{either_not}
use Rattle.history_set.proofs.Rows.{kept}
use Rattle.gate.specs.Totals.{none, energies_from}
use Rattle.range_ranks.specs.Ranks.{low_rank, high_rank}
use Rattle.order_rules.specs.Order.{in_order}
use Rattle.order_rules.proofs.Perms.{perm_length, all_perm}
use Rattle.order_rules.proofs.InOrder.{in_order_perm, in_order_rises}
use Rattle.order_rules.proofs.AllAbove.{above_all}
use Rattle.range_ranks.specs.Span.{found, nothing, hundredth, gate_energy}
use Rattle.range_queues.specs.Rising.{at_ranks, listed_span}
use Rattle.range_queues.specs.Listed.{all_held, any_nan}
use Rattle.range.specs.Range.{queues_in, range_of}
use Rattle.acceptance_meaning.specs.Levels.{absolute_gate, no_energy, added, mean, twenty_lu_below}
use Rattle.acceptance_meaning.specs.Bs1770.{equals_kept, through, in_one_run, Feed, material_of, shown_by}
use Rattle.acceptance_meaning.specs.Tech3342.{gated, relative_gate, percentile_rank, percentiles, loudness_range}
use Rattle.acceptance_meaning.specs.Range.{FedQueues}
use Rattle.range_queues.proofs.Looking.{above_held, none_below_held, held_any}
use Rattle.range_queues.proofs.Answers.{listed_went, queues_asked}
use Rattle.range.proofs.Answers.{range_queues}
use Rattle.acceptance_meaning.proofs.Gating.{absolute_all, leading, gated_order}
use Rattle.acceptance_meaning.proofs.Meaning.{held_in, shown_held, all_energies}

-- the ranks of the two percentiles
pub low_is : (n : ℕ) → low_rank (n - 1) ≡ percentile_rank 10 n
low_is n = omega arith

pub high_is : (n : ℕ) → high_rank (n - 1) ≡ percentile_rank 95 n
high_is n = omega arith

-- the energies at the two ranks of blocks in order are their percentiles
pub ranks_are_percentiles : (left : List Float) → at_ranks (in_order left) ≡ percentiles left
unfolding at_ranks percentiles
ranks_are_percentiles left =
    let n = length left in
    ap (λ (k : ℕ). cond (eqb k 0) nothing (found (get_or (in_order left) (low_rank (k - 1)) nan) (get_or (in_order left) (high_rank (k - 1)) nan))) (sym (perm_length (in_order_perm left)))
    ∙ ap (λ (k : ℕ). cond (eqb n 0) nothing (found (get_or (in_order left) k nan) (get_or (in_order left) (high_rank (n - 1)) nan))) (low_is n)
    ∙ ap (λ (k : ℕ). cond (eqb n 0) nothing (found (get_or (in_order left) (percentile_rank 10 n) nan) (get_or (in_order left) k nan))) (high_is n)

-- the gate of 01, from running totals, is the document's
gate_is : (held : List Float) → gate_energy (energies_from none (in_order held)) ≡ relative_gate held
unfolding hundredth
gate_is held =
    ap gate_energy (all_energies none (in_order held))
    ∙ ap (λ (n : ℕ). twenty_lu_below (mean n (added no_energy (in_order held)))) {x = 0 + length (in_order held)} {y = length held} (omega (arith, perm_length (in_order_perm held)))

module _ (held : List Float) (b : none_below held ≡ true) (n : any_nan held ≡ false) where
  pub listed_is_tech3342 : listed_span (in_order held) ≡ loudness_range held
  unfolding loudness_range
  listed_is_tech3342 =
      let a = above_all held (above_held held b n) in
      let gate = gate_energy (energies_from none (in_order held)) in
      ap at_ranks (leading gate (in_order held) (all_perm _ (in_order_perm held) a) (in_order_rises held a) ∙ gated_order gate held a)
      ∙ ranks_are_percentiles (gated gate held)
      ∙ ap (λ (g : Float). percentiles (gated g held)) (gate_is held)
      ∙ ap (λ (l : List Float). percentiles (gated (relative_gate l) l)) (sym (absolute_all held b))

-- over a set of queues that nothing refuses, with room and without NaN
pub range_of_queues_lem : (h : Histories) (work : List Float) → number_of (set_rows h) ≡ 0 → (queues_in (histories_of h) ≡ 0 → ⊥) → queues_in (histories_of h) ≡ length (histories_of h)
    → length (all_held (histories_of h)) ≤ length work → any_nan (all_held (histories_of h)) ≡ false
    → range_of h work ≡ went (in_order (all_held (histories_of h)) ++ drop (length (all_held (histories_of h))) work) (loudness_range (all_held (histories_of h)))
range_of_queues_lem h work s some all room n =
    let held = all_held (histories_of h) in
    let k = kept h s in
    let b : none_below held ≡ true = ap none_below (sym (held_any h.counters h.energies (chosen h))) ∙ none_below_held h.energies (chosen h) k.stores in
    range_queues h work some all
    ∙ queues_asked h work s
    ∙ listed_went held work room n
    ∙ ap (went (in_order held ++ drop (length held) work)) (listed_is_tech3342 held b n)

-- ---- over material that was fed to queues
-- the blocks that the absolute gate leaves are those that the queues hold
gated_append : (gate : Float) (l k : List Float) → gated gate (l ++ k) ≡ gated gate l ++ gated gate k
unfolding gated
gated_append gate [] k = refl
gated_append gate (x ∷ l) k = go (lt x gate) (gated_append gate l k)
  where
    go : (b : Bool) → gated gate (l ++ k) ≡ gated gate l ++ gated gate k
        → cond b (gated gate (l ++ k)) (x ∷ gated gate (l ++ k)) ≡ cond b (gated gate l) (x ∷ gated gate l) ++ gated gate k
    go true e = e
    go false e = ap {B = List Float} (λ (r : List Float). x ∷ r) e

through_gated : (gate : Float) (l : List Float) → through equals_kept gate l ≡ gated gate l
unfolding through gated
through_gated gate [] = refl
through_gated gate (x ∷ l) = go (lt x gate) (through_gated gate l)
  where
    go : (b : Bool) → through equals_kept gate l ≡ gated gate l
        → cond (not b) (x ∷ through equals_kept gate l) (through equals_kept gate l) ≡ cond b (gated gate l) (x ∷ gated gate l)
    go true e = e
    go false e = ap {B = List Float} (λ (r : List Float). x ∷ r) e

gated_again : (gate : Float) (l : List Float) → gated gate (gated gate l) ≡ gated gate l
unfolding gated
gated_again gate [] = refl
gated_again gate (x ∷ l) = go (lt x gate) refl (gated_again gate l)
  where
    go : (b : Bool) → lt x gate ≡ b → gated gate (gated gate l) ≡ gated gate l
        → gated gate (cond b (gated gate l) (x ∷ gated gate l)) ≡ cond b (gated gate l) (x ∷ gated gate l)
    go true e rest = rest
    go false e rest =
        ap (λ (b : Bool). cond b (gated gate (gated gate l)) (x ∷ gated gate (gated gate l))) e ∙ ap {B = List Float} (λ (r : List Float). x ∷ r) rest

no_nan_left : (gate : Float) (l : List Float) → any_nan l ≡ false → any_nan (gated gate l) ≡ false
unfolding any_nan gated
no_nan_left gate [] h = refl
no_nan_left gate (x ∷ l) h =
    let w = either_not (is_nan x) (any_nan l) h in
    go (lt x gate) w.0 (no_nan_left gate l w.1)
  where
    go : (b : Bool) → is_nan x ≡ false → any_nan (gated gate l) ≡ false → any_nan (cond b (gated gate l) (x ∷ gated gate l)) ≡ false
    go true e rest = rest
    go false e rest = ap (λ (c : Bool). c || any_nan (gated gate l)) e ∙ rest

held_gated : (material : List (List Float)) → all_held (held_in material) ≡ gated absolute_gate (in_one_run material)
unfolding all_held held_in in_one_run gated
held_gated [] = refl
held_gated (blocks ∷ rest) =
    ap (λ (l : List Float). l ++ all_held (held_in rest)) (through_gated absolute_gate blocks)
    ∙ ap (λ (l : List Float). gated absolute_gate blocks ++ l) (held_gated rest)
    ∙ sym (gated_append absolute_gate blocks (in_one_run rest))

all_queues : (feeds : List Feed) → (queues_in (shown_by feeds) ≡ length feeds) × (length (shown_by feeds) ≡ length feeds)
unfolding queues_in shown_by
all_queues [] = (refl, refl)
all_queues (feed ∷ rest) = let w = all_queues rest in (omega (arith, w.0), omega (arith, w.1))

pub range_of_fed : (feeds : List Feed) (question : Histories) (work : List Float) → FedQueues feeds question work →
    let material = in_one_run (material_of feeds) in
    let taken = gated absolute_gate material in
    range_of question work ≡ went (in_order taken ++ drop (length taken) work) (loudness_range material)
unfolding loudness_range
range_of_fed feeds question work q =
    let material = in_one_run (material_of feeds) in
    let taken = gated absolute_gate material in
    let shown = q.fed.shown in
    let held : all_held (histories_of question) ≡ taken = ap all_held (shown ∙ shown_held feeds) ∙ held_gated (material_of feeds) in
    let queues = all_queues feeds in
    range_of_queues_lem question work q.fed.whole (λ none. q.some (sym (ap queues_in shown ∙ queues.0) ∙ none))
    (ap queues_in shown ∙ queues.0 ∙ sym (ap length shown ∙ queues.1))
    (omega (arith, ap length held, q.room)) (ap any_nan held ∙ no_nan_left absolute_gate material q.numbers)
    ∙ ap (λ (l : List Float). went (in_order l ++ drop (length l) work) (loudness_range l)) held
    ∙ ap (λ (l : List Float). went (in_order taken ++ drop (length taken) work) (percentiles (gated (relative_gate l) l))) (gated_again absolute_gate material)
