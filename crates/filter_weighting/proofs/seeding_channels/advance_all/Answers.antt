-- `seeding_channels::advance_all` meets its contract: the frames left, from the state as it is, give what all of them give, and the flush comes last. Assumes nothing.
use Rattle.std.proofs.Common.{◌≡◌, ℕ, ◌+◌, ◌*◌, ◌/◌, min, List, ◌++◌, map, length, take, refl, sym, ap, ◌∙◌, arith, length-append, div-add-mod', rules}
use native.Mathlib.Nat.{zero-div}
use lib.Seq.{sets}
use lib.ListN.{length-map}
use lib.Ieee.{Float}
use Rattle.std.proofs.lemmas.List.{map-append}
use Rattle.std.specs.Slice.Iter.{chunks_rest}
use Rattle.samples.specs.Stretches.{run_places}
use Rattle.samples.specs.Stretches.{Framed}
use Rattle.samples.proofs.Parts.{whole_front, whole_back, filled_part}
use Rattle.filter_recurrence.specs.Recurrence.{flushed}
use Rattle.filter_recurrence.specs.Channels.{state_places, over_used}
use Rattle.filter_recurrence.proofs.Memories.{over_twice}
use Rattle.filter_recurrence.proofs.Runs.{hears, run_none, run_more}
use Rattle.filter_weighting.proofs.seeding_channels.advance_all.Goals as goal

-- a part of whole frames, filled into the run, and what follows it
module _ {A : Type 0} (f : A → Float) (rest part after : List A) (channels : ℕ) (old run : List Float) (w : Framed channels (length rest))
    (cut : rest ≡ part ++ after) (size : length part ≡ min (run_places / channels * channels) (length rest)) (filled : run ≡ sets old 0 (map f part)) (places : length old ≡ run_places) where
  both : length rest ≡ length part + length after
  both = ap length cut ∙ length-append part after

  front : length part / channels * channels ≡ length part
  front = whole_front (run_places / channels) channels (length rest) (length part) w.some w.whole size

  left : Framed channels (length after)
  left = record { some = w.some; few = w.few; whole = whole_back (run_places / channels) channels (length rest) (length part) w.some w.whole size (length after) both }

  shown : take (length part) run ≡ map f part
  shown =
      ap (λ (n : ℕ). take n run) (sym (length-map part f))
      ∙ filled_part old run (map f part) filled (omega (arith, length-map part f, size, places, div-add-mod' run_places channels))

  -- the state after it
  gives : (a : List Float) (bytes : List ℕ) (state state' : List Float) → state' ≡ over_used (hears a channels (take (length part) run)) bytes 0 state → length bytes ≡ channels → length state ≡ state_places
      → over_used (hears a channels (map f after)) bytes 0 state' ≡ over_used (hears a channels (map f rest)) bytes 0 state
  gives a bytes state state' e mapped l =
      ap (over_used (hears a channels (map f after)) bytes 0) (e ∙ ap (λ (s : List Float). over_used (hears a channels s) bytes 0 state) shown)
      ∙ run_more a (map f part) (map f after) channels (length part / channels) (length-map part f ∙ sym front) bytes state mapped w.few l
      ∙ ap (λ (s : List Float). over_used (hears a channels s) bytes 0 state) (sym (map-append f part after) ∙ ap (map f) (sym cut))

pub advance_run-requires : goal.advance_run-requires
advance_run-requires g c = record { some = c.requires.some; few = c.requires.few }

pub loop-part-preserved : goal.loop-part-preserved
loop-part-preserved g c =
    let f = g.S.Sample.in_f64 in
    let a = c.args in
    let channels = length a.bytes.now in
    let l = c.loop-part in
    let i = l.invariant in
    let steps = c.in-Some.ensures.steps in
    let rest = chunks_rest l.part-iterator in
    let part = c.in-Some.part.now in
    let after = chunks_rest c.next.new.self in
    let run = c.fill.new.stretch in
    let size = steps.1.1 ∙ ap (λ (n : ℕ). min n (length rest)) i.size in
    record {
      size = steps.0 ∙ i.size;
      places = c.fill.auto.stretch ∙ i.places;
      state = search rules;
      whole = left f rest part after channels l.run run i.whole steps.1.0 size c.fill.ensures i.places;
      gives = gives f rest part after channels l.run run i.whole steps.1.0 size c.fill.ensures i.places a.a a.bytes.now l.state c.advance_run.new.state c.advance_run.ensures refl i.state ∙ i.gives;
    }

pub returns : goal.returns
returns g c =
    let a = c.args in
    let l = c.loop-part in
    let channels = length a.bytes.now in
    let src = map g.S.Sample.in_f64 a.samples.now in
    let rest = map g.S.Sample.in_f64 (chunks_rest l.part-iterator) in
    let none : length rest / channels ≡ 0 = ap (λ (n : ℕ). n / channels) (length-map (chunks_rest l.part-iterator) g.S.Sample.in_f64 ∙ c.in-None.ensures.steps.1.0) ∙ zero-div channels in
    c.flush_used.ensures
    ∙ ap (over_used (λ _ m. flushed m) a.bytes.now 0) (sym (run_none a.a rest channels a.bytes.now l.state none) ∙ l.invariant.gives)
    ∙ over_twice (hears a.a channels src) (λ _ m. flushed m) a.bytes.now a.state.now c.requires.few (search rules)
