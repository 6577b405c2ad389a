-- `Work::weigh_all` meets its contract: the channels left, from the state and the destination as they are, give what all of them give, and the flush comes last. Assumes nothing.
use Rattle.std.proofs.Common.{◌≡◌, ℕ, ◌≤◌, map, length, sym, ap, ◌∙◌, arith, rules}
use Rattle.filter_recurrence.specs.Recurrence.{flushed}
use Rattle.filter_recurrence.specs.Channels.{over_used}
use Rattle.filter_recurrence.proofs.Each.{each_end}
use Rattle.filter_recurrence.proofs.Memories.{over_twice}
use Rattle.filter_weighting.specs.declared.channels.Work.{Work}
use Rattle.filter_weighting.specs.Weighting.{Kept}
use Rattle.filter_weighting.specs.Inner.{Parts, memory_in, kept_of, weigh_one}
use Rattle.filter_weighting.proofs.Separate.{by_themselves}
use Rattle.filter_weighting.proofs.channels.Work.weigh_all.Given.{Over}
use Rattle.filter_weighting.proofs.channels.Work.weigh_all.Goals as goal
use Rattle.filter_weighting.proofs.channels.Work.weigh_all.Goals.{After-weigh_next-k}

-- the same parts in a destination as long
still : (work : Work) (mapped n n' : ℕ) → Parts work mapped n → n' ≡ n → Parts work mapped n'
still work mapped n n' p e = record { few = p.few; bytes = p.bytes; parts = p.parts ∙ sym e; fits = p.fits }

pub weigh_next-k-requires : goal.weigh_next-k-requires
weigh_next-k-requires g c =
    record {
      k_lt_channels = c.loop-k-test.true;
      channels_in_bounds = c.requires.channels_in_bounds;
      parts = still c.args.self _ _ _ c.requires.parts c.loop-k.invariant.1.0;
    }

-- the destination is as long after the first step of a turn
long : (g : Over) (c : After-weigh_next-k g) → length c.weigh_next-k.new.dest ≡ length c.args.dest.now
long g c = c.weigh_next-k.auto.dest ∙ c.loop-k.invariant.1.0

pub weigh_next-k-requires-then-k-self : goal.weigh_next-k-requires-then-k-self
weigh_next-k-requires-then-k-self g c =
    record {
      k_lt_channels = c.if-k-self.true;
      channels_in_bounds = c.requires.channels_in_bounds;
      parts = still c.args.self _ _ _ c.requires.parts (long g (goal.at.weigh_next-k-requires-then-k-self g c).After-weigh_next-k);
    }

pub returns : goal.returns
returns g c =
    let a = c.args in
    let l = c.loop-k in
    let src = map g.S.Sample.in_f64 a.samples.now in
    let h : length a.bytes.now ≤ l.k = omega (arith, c.loop-k-test.false, c.requires.parts.bytes) in
    let whole = sym (each_end (weigh_one a.self src) a.bytes.now l.k (kept_of l.state l.dest) h) ∙ l.invariant.1.1 ∙ by_themselves a.self src a.bytes.now a.state.now a.dest.now in record {
      state_after = c.flush_used.ensures
          ∙ ap (over_used (λ _ m. flushed m) a.bytes.now 0) (ap (λ (k : Kept). k.state.values) whole)
          ∙ over_twice (memory_in a.self src) (λ _ m. flushed m) a.bytes.now a.state.now (omega (arith, c.requires.parts.bytes, c.requires.parts.few)) (search rules);
      dest_after = ap (λ (k : Kept). k.dest) whole;
    }
