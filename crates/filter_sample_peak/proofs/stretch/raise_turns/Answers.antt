-- `stretch::raise_turns` meets its contract: each lane's top, raised by the turns that are left, stays the largest of all of them. Assumes nothing.
use Rattle.std.proofs.Common.{◌≡◌, ℕ, ◌/◌, ◌<◌, refl, sym, ap, subst, ◌∙◌, List, length, get_or, replicate, arith}
use native.Mathlib.Nat.{div-eq_of_lt}
use lib.ListN.{get_or-replicate}
use lib.Ieee.{Float, nan, lt, of_bits}
use Rattle.std.specs.Slice.Iter.{chunks_exact_rest, chunks_exact_size}
use Rattle.samples.specs.Frames.{column}
use Rattle.base_floats.specs.Entry.{plus_zero}
use Rattle.base_floats.specs.Largest.{largest}
use Rattle.base_floats.proofs.Magnitude.{zero_high, raised_high}
use Rattle.filter_sample_peak.proofs.Loudest.{channels_length, channels_first, none_largest}
use Rattle.filter_sample_peak.proofs.Lanes.{turn, next_turn}
use Rattle.filter_sample_peak.proofs.stretch.raise_turns.Goals as goal

zero : (n j : ℕ) → j < n → get_or (replicate n plus_zero) j nan ≡ plus_zero
zero n j h = get_or-replicate n j plus_zero nan h

pub loop-turn-init : goal.loop-turn-init
unfolding of_bits
loop-turn-init c =
    let lanes = c.args.lanes in
    let made = c.into_iter-turn-iterator.ensures.into_iter_gives in
    let rest = ap chunks_exact_rest made ∙ c.chunks_exact-turn-items.ensures.rest in
    record {
      size = ap chunks_exact_size made ∙ c.chunks_exact-turn-items.ensures.size;
      places = refl;
      high = λ j h. ap (λ (x : Float). lt x plus_zero) (zero 24 j (omega (arith, h, c.requires.lanes_le_most_lanes))) ∙ zero_high;
      gives = λ j h. ap (λ (x : Float). largest x (column (chunks_exact_rest c.into_iter-turn-iterator.result) j lanes (length (chunks_exact_rest c.into_iter-turn-iterator.result) / lanes))) (zero 24 j (omega (arith, h, c.requires.lanes_le_most_lanes)))
          ∙ ap (λ (l : List Float). largest plus_zero (column l j lanes (length l / lanes))) rest;
    }

pub raise_turn-w-requires-clause-by_index : goal.raise_turn-w-requires-clause-by_index
raise_turn-w-requires-clause-by_index c = λ j h. c.loop-turn.invariant.high j (subst (λ (n : ℕ). j < n) (c.in-Some.ensures.steps.1.1 ∙ c.loop-turn.invariant.size) h)

pub loop-turn-preserved : goal.loop-turn-preserved
loop-turn-preserved c =
    let lanes = c.args.lanes in
    let l = c.loop-turn in
    let i = l.invariant in
    let x = c.in-Some.turn.now in
    let after = chunks_exact_rest c.next.new.self in
    let steps = c.in-Some.ensures.steps in
    let long : length x ≡ lanes = steps.1.1 ∙ i.size in
    let raised : (j : ℕ) → j < lanes → get_or c.raise_turn-w.result.values j nan ≡ turn x j (get_or l.w.values j nan) =
    λ j h. ap (λ (v : List Float). get_or v j nan) c.raise_turn-w.ensures
    ∙ channels_first (turn x) (length x) j l.w.values (omega arith) (omega (arith, i.places, c.requires.lanes_le_most_lanes)) in
    record {
      size = steps.0 ∙ i.size;
      places = ap length c.raise_turn-w.ensures ∙ channels_length (turn x) (length x) 0 l.w.values ∙ i.places;
      high = λ j h. ap (λ (x : Float). lt x plus_zero) (raised j h) ∙ raised_high (get_or l.w.values j nan) (get_or x j nan) (i.high j h);
      gives = λ j h. ap (λ (t : Float). largest t (column after j lanes (length after / lanes))) (raised j h)
          ∙ next_turn x after lanes j (get_or l.w.values j nan) long h
          ∙ ap (λ (r : List Float). largest (get_or l.w.values j nan) (column r j lanes (length r / lanes))) (sym steps.1.0)
          ∙ i.gives j h;
    }

pub returns-clause-by_index : goal.returns-clause-by_index
returns-clause-by_index c = λ j h.
    let l = c.loop-turn in
    let rest = chunks_exact_rest l.turn-iterator in
    let few : length rest < c.args.lanes = subst (λ (n : ℕ). length rest < n) l.invariant.size c.in-None.ensures.steps.1.0 in
    sym (none_largest (get_or l.w.values j nan) rest j c.args.lanes (length rest / c.args.lanes) (div-eq_of_lt few)) ∙ l.invariant.gives j h
