-- `calls::measure` meets its contract: the samples left, from the state as it is, give what all of them give. Assumes nothing.
use Rattle.std.proofs.Common.{◌≡◌, ℕ, ◌-◌, ◌*◌, ◌/◌, ◌%◌, ◌<◌, List, ◌++◌, map, length, sym, ap, subst, ◌∙◌, arith, mul-pos, length-append}
use Rattle.std.proofs.Math.Nat.{dvd-sub, dvd-mul_left}
use Rattle.std.proofs.lemmas.Nat.Gcd.{mod-eq-zero_of_dvd}
use Rattle.std.specs.Int.{◌∣◌}
use lib.ListN.{length-map}
use Rattle.std.proofs.lemmas.List.{map-append}
use lib.Ieee.{Float}
use Rattle.samples.specs.Frames.{most_channels}
use Rattle.samples.proofs.Cutting.{Framed}
use Rattle.filter_checks.proofs.Checking.{frames_fine}
use Rattle.true_peak_interp.specs.Interp.{kind_of}
use Rattle.true_peak_state.specs.Channel.{past}
use Rattle.true_peak_state.specs.declared.TruePeak.{TruePeak}
use Rattle.true_peak_state.specs.TruePeak.{measured}
use Rattle.true_peak_state.proofs.Independence.{Sized}
use Rattle.true_peak.proofs.Turns.{dvd_min, turn, turn_sized, last}
use Rattle.true_peak.proofs.calls.measure.Goals as goal

pub most-requires : goal.most-requires
most-requires g c = let k = frames_fine c.args.channels (length c.args.samples.now) c.requires in (k.some, k.few)

held : (t : TruePeak) (memory peaks : List Float) → t ≡ record { memory = memory; peaks = peaks } → length memory ≡ most_channels * past → length peaks ≡ most_channels → Sized t
held t memory peaks e m p = record {
  memory_size = ap (λ (s : TruePeak). length s.memory) e ∙ m;
  peaks_size = ap (λ (s : TruePeak). length s.peaks) e ∙ p;
}

-- the samples are whole frames
framed : (channels samples : ℕ) → Framed channels samples → channels ∣ samples
framed channels samples k = subst (λ (n : ℕ). channels ∣ n) k.whole (dvd-mul_left channels (samples / channels))

pub chunks-part-items-requires : goal.chunks-part-items-requires
chunks-part-items-requires g c = mul-pos c.most.ensures.0 (frames_fine c.args.channels (length c.args.samples.now) c.requires).some

pub loop-part-init : goal.loop-part-init
loop-part-init g c =
    let f = g.S.Sample.in_f32 in
    let a = c.args in
    let s = c.state_of-w.ensures in
    let k = c.chunks-part-items.ensures in
    let rest : c.into_iter-part-iterator.result.rest.now ≡ a.samples.now = ap (λ (i : _). i.rest.now) c.into_iter-part-iterator.ensures.into_iter_gives ∙ k.rest in
    let size : c.into_iter-part-iterator.result.size ≡ c.most.result * a.channels = ap (λ (i : _). i.size) c.into_iter-part-iterator.ensures.into_iter_gives ∙ k.size in
    record {
      batch = subst (λ (n : ℕ). a.channels ∣ n) (sym size) (dvd-mul_left a.channels c.most.result);
      frames = subst (λ (l : List _). a.channels ∣ length l) (sym rest) (framed a.channels (length a.samples.now) (frames_fine a.channels (length a.samples.now) c.requires));
      sized = held c.state_of-w.result a.t.memory a.t.peaks s.value s.memory_len.0 s.memory_len.1;
      same = ap (λ (l : List _). measured (kind_of a.rate) (record { channels = a.channels; samples = map f l }) c.state_of-w.result) rest;
    }

pub loop-part-init-derived : goal.loop-part-init-derived
loop-part-init-derived g c =
    let size : c.into_iter-part-iterator.result.size ≡ c.most.result * c.args.channels = ap (λ (i : _). i.size) c.into_iter-part-iterator.ensures.into_iter_gives ∙ c.chunks-part-items.ensures.size in
    (subst (λ (n : ℕ). 0 < n) (sym size) (mul-pos c.most.ensures.0 (frames_fine c.args.channels (length c.args.samples.now) c.requires).some), tt)

pub measure-w-requires : goal.measure-w-requires
measure-w-requires g c = let k = frames_fine c.args.channels (length c.args.samples.now) c.requires in (k.some, k.few)

pub loop-part-preserved : goal.loop-part-preserved
loop-part-preserved g c =
    let f = g.S.Sample.in_f32 in
    let a = c.args in
    let l = c.loop-part in
    let i = l.invariant in
    let now = c.in-Some.part.now in
    let later = c.next.new.self.rest.now in
    let h = c.in-Some.ensures.steps in
    let k = kind_of a.rate in
    let ok = frames_fine a.channels (length a.samples.now) c.requires in
    let whole : a.channels ∣ length now = subst (λ (n : ℕ). a.channels ∣ n) (sym h.1.1) (dvd_min a.channels l.part-iterator.size (length l.part-iterator.rest.now) i.batch i.frames) in
    let left : length later ≡ length l.part-iterator.rest.now - length now = omega (arith, ap length h.1.0, length-append now later) in
    let floats : length (map f now) % a.channels ≡ 0 = ap (λ (n : ℕ). n % a.channels) (length-map now f) ∙ mod-eq-zero_of_dvd a.channels whole in
    let joined : map f l.part-iterator.rest.now ≡ map f now ++ map f later = ap (map f) h.1.0 ∙ map-append f now later in
    record {
      batch = subst (λ (n : ℕ). a.channels ∣ n) (sym h.0) i.batch;
      frames = subst (λ (n : ℕ). a.channels ∣ n) (sym left) (dvd-sub a.channels i.frames whole);
      sized = turn_sized k a.channels ok.some ok.few (map f now) (map f later) floats l.w c.measure-w.result i.sized c.measure-w.ensures;
      same = turn k a.channels ok.some ok.few (map f now) (map f later) floats l.w c.measure-w.result _ i.sized c.measure-w.ensures
          (ap (λ (x : List Float). measured k (record { channels = a.channels; samples = x }) l.w) (sym joined) ∙ i.same);
    }

pub returns : goal.returns
returns g c =
    let f = g.S.Sample.in_f32 in
    let a = c.args in
    let l = c.loop-part in
    let ok = frames_fine a.channels (length a.samples.now) c.requires in
    let none : length (map f l.part-iterator.rest.now) ≡ 0 = length-map l.part-iterator.rest.now f ∙ c.in-None.ensures.steps.1.0 in
    last (kind_of a.rate) a.channels ok.few (map f l.part-iterator.rest.now) none l.w _ l.invariant.sized l.invariant.same
    ∙ ap (measured (kind_of a.rate) (record { channels = a.channels; samples = map f a.samples.now })) c.state_of-w.ensures.value
