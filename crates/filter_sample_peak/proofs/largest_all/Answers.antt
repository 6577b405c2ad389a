-- `filter_sample_peak::largest_all` meets its contract: each channel's top, raised by the frames that are left, stays the largest of all of them. Assumes nothing.
use Rattle.std.proofs.Common.{◌≡◌, ℕ, ◌+◌, ◌*◌, ◌/◌, ◌<◌, min, List, ◌++◌, map, length, get_or, take, sym, ap, subst, ◌∙◌, arith, length-append, div-add-mod'}
use native.Mathlib.Nat.{zero-div}
use lib.Seq.{sets}
use lib.ListN.{length-map}
use lib.Ieee.{Float, nan}
use Rattle.std.proofs.lemmas.List.{map-append}
use Rattle.std.specs.Slice.Iter.{chunks_rest}
use Rattle.samples.specs.Frames.{column}
use Rattle.samples.specs.Stretches.{Framed}
use Rattle.samples.specs.Stretches.{stretch_places}
use Rattle.base_floats.specs.Largest.{largest}
use Rattle.base_floats.proofs.Magnitude.{High, largest_high}
use Rattle.filter_sample_peak.specs.Peak.{over_channels}
use Rattle.filter_sample_peak.proofs.Cutting.{largest_cut}
use Rattle.samples.proofs.Parts.{whole_front, whole_back, filled_part}
use Rattle.filter_sample_peak.proofs.Loudest.{peaks, channels_length, channels_first, none_largest}
use Rattle.filter_sample_peak.proofs.largest_all.Goals as goal

-- a part of whole frames, filled into the stretch, and what follows it
module _ {A : Type 0} (f : A → Float) (rest part after : List A) (channels : ℕ) (old stretch : List Float) (w : Framed channels (length rest))
    (cut : rest ≡ part ++ after) (size : length part ≡ min (stretch_places / channels * channels) (length rest)) (filled : stretch ≡ sets old 0 (map f part)) (places : length old ≡ stretch_places) where
  both : length rest ≡ length part + length after
  both = ap length cut ∙ length-append part after

  framed : Framed channels (length part)
  framed = record { some = w.some; few = w.few; whole = whole_front (stretch_places / channels) channels (length rest) (length part) w.some w.whole size }

  left : Framed channels (length after)
  left = record { some = w.some; few = w.few; whole = whole_back (stretch_places / channels) channels (length rest) (length part) w.some w.whole size (length after) both }

  -- its samples as floats
  heard : List Float
  heard = take (length part) stretch

  shown : heard ≡ map f part
  unfolding heard
  shown =
      ap (λ (n : ℕ). take n stretch) (sym (length-map part f))
      ∙ filled_part old stretch (map f part) filled (omega (arith, length-map part f, size, places, div-add-mod' stretch_places channels))

  many : length heard ≡ length part
  many = ap length shown ∙ length-map part f

  heard_framed : Framed channels (length heard)
  heard_framed = subst (λ (n : ℕ). Framed channels n) (sym many) framed

  -- the tops after it
  module _ (tops tops' : List Float) (e : tops' ≡ over_channels (peaks heard channels (length heard / channels)) channels 0 tops) (eight : length tops ≡ 8) (k : ℕ) (h : k < channels) where
    top : Float
    top = get_or tops k nan

    raised : get_or tops' k nan ≡ largest top (column heard k channels (length heard / channels))
    unfolding top
    raised = ap (λ (v : List Float). get_or v k nan) e ∙ channels_first (peaks heard channels (length heard / channels)) channels k tops h (omega (arith, w.few, eight))

    stays_high : High top → High (get_or tops' k nan)
    stays_high high = subst High (sym raised) (largest_high top (column heard k channels (length heard / channels)) high)

    gives : largest (get_or tops' k nan) (column (map f after) k channels (length after / channels)) ≡ largest top (column (map f rest) k channels (length rest / channels))
    gives =
        ap (λ (t : Float). largest t (column (map f after) k channels (length after / channels))) raised
        ∙ ap (λ (s : List Float). largest (largest top (column s k channels (length s / channels))) (column (map f after) k channels (length after / channels))) shown
        ∙ (λ i. largest (largest top (column (map f part) k channels (length-map part f i / channels))) (column (map f after) k channels (sym (length-map after f) i / channels)))
        ∙ largest_cut (map f part) (map f after) channels (length part / channels) (length-map part f ∙ sym framed.whole) top k h
        ∙ ap (λ (s : List Float). largest top (column s k channels (length s / channels))) (sym (map-append f part after) ∙ ap (map f) (sym cut))
        ∙ ap (λ (n : ℕ). largest top (column (map f rest) k channels (n / channels))) (length-map rest f)

pub peak_stretch-tops-requires-clause-whole : goal.peak_stretch-tops-requires-clause-whole
unfolding heard
peak_stretch-tops-requires-clause-whole g c =
    let l = c.loop-part in
    let i = l.invariant in
    let steps = c.in-Some.ensures.steps in
    let rest = chunks_rest l.part-iterator in
    heard_framed g.S.Sample.in_f64 rest c.in-Some.part.now (chunks_rest c.next.new.self) c.args.channels l.stretch c.fill.new.stretch
    i.whole steps.1.0 (steps.1.1 ∙ ap (λ (n : ℕ). min n (length rest)) i.size) c.fill.ensures i.places

pub loop-part-preserved : goal.loop-part-preserved
unfolding heard top
loop-part-preserved g c =
    let f = g.S.Sample.in_f64 in
    let channels = c.args.channels in
    let l = c.loop-part in
    let i = l.invariant in
    let steps = c.in-Some.ensures.steps in
    let rest = chunks_rest l.part-iterator in
    let part = c.in-Some.part.now in
    let after = chunks_rest c.next.new.self in
    let stretch = c.fill.new.stretch in
    let size = steps.1.1 ∙ ap (λ (n : ℕ). min n (length rest)) i.size in
    let heard = take (length part) stretch in
    record {
      size = steps.0 ∙ i.size;
      places = c.fill.auto.stretch ∙ i.places;
      peaks = ap length c.peak_stretch-tops.ensures ∙ channels_length (peaks heard channels (length heard / channels)) channels 0 l.tops.values ∙ i.peaks;
      whole = left f rest part after channels l.stretch stretch i.whole steps.1.0 size c.fill.ensures i.places;
      high = λ k h. stays_high f rest part after channels l.stretch stretch i.whole steps.1.0 size c.fill.ensures i.places l.tops.values c.peak_stretch-tops.result.values c.peak_stretch-tops.ensures i.peaks k h (i.high k h);
      gives = λ k h. gives f rest part after channels l.stretch stretch i.whole steps.1.0 size c.fill.ensures i.places l.tops.values c.peak_stretch-tops.result.values c.peak_stretch-tops.ensures i.peaks k h ∙ i.gives k h;
    }

pub returns : goal.returns
returns g c = λ k h.
    let l = c.loop-part in
    let rest = chunks_rest l.part-iterator in
    let none : length rest / c.args.channels ≡ 0 = ap (λ (n : ℕ). n / c.args.channels) c.in-None.ensures.steps.1.0 ∙ zero-div c.args.channels in
    sym (none_largest (get_or l.tops.values k nan) (map g.S.Sample.in_f64 rest) k c.args.channels (length rest / c.args.channels) none) ∙ l.invariant.gives k h
