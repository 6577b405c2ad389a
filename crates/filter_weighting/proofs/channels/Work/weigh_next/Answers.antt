-- `Work::weigh_next` meets its contract: two used channels more, or one channel more. Assumes nothing.
use Rattle.std.proofs.Common.{◌≡◌, ℕ, ◌+◌, ◌≤◌, ◌<◌, true, map, length, get_or, suc-mul, arith}
use Rattle.filter_checks.specs.Calls.{used}
use Rattle.filter_recurrence.proofs.Each.{each_again, each_two}
use Rattle.samples.proofs.Reaching.{reach_start}
use Rattle.filter_weighting.specs.Inner.{place_of, kept_of, weigh_one}
use Rattle.filter_weighting.proofs.Destinations.{part_ends}
use Rattle.filter_weighting.proofs.channels.Work.weigh_next.Given.{Over}
use Rattle.filter_weighting.proofs.channels.Work.weigh_next.Goals as goal
use Rattle.filter_weighting.proofs.channels.Work.weigh_next.Goals.{Start, Then-both_used}

-- the places of channel k, and of the one after it
inside : (g : Over) (c : Start g) (j : ℕ) → j < c.args.self.channels → place_of c.args.self j + c.args.self.frames ≤ length c.args.dest.now
inside g c j h =
    let w = c.args.self in
    part_ends j w.channels w.part w.place w.frames (length c.args.dest.now) h c.requires.parts.parts c.requires.parts.fits

pairs : (g : Over) (c : Then-both_used g) → let a = c.args in
    (a.k + 1 < length a.bytes.now) × ((used (get_or a.bytes.now a.k 0) ≡ true) × (used (get_or a.bytes.now (a.k + 1) 0) ≡ true))
pairs g c = c.both_used.ensures c.if-both_used.true

pub weigh_pair-requires : goal.weigh_pair-requires
weigh_pair-requires g c =
    let w = c.args.self in
    let p = c.requires.parts in
    let h : c.args.k + 1 < w.channels = omega (arith, (pairs g (goal.at.weigh_pair-requires g c).Then-both_used).0, p.bytes) in record {
      k_bound = omega (arith, h, p.few);
      reach = reach_start _ _ _ _ h p.few c.requires.channels_in_bounds;
      frames_le_part = (omega (arith, p.fits), omega (arith, inside g (goal.at.weigh_pair-requires g c).Start (c.args.k + 1) h, suc-mul c.args.k w.part));
    }

pub returns-then-both_used : goal.returns-then-both_used
returns-then-both_used g c =
    let a = c.args in
    let u = pairs g (goal.at.returns-then-both_used g c).Then-both_used in record {
      lower_bound = (omega arith, omega (arith, u.0, c.requires.parts.bytes));
      dest_after = each_two (weigh_one a.self (map g.S.Sample.in_f64 a.samples.now)) a.bytes.now a.k (kept_of a.state.now a.dest.now) _ u.0 u.1.0 u.1.1 c.weigh_pair.ensures;
    }

pub weigh_channel-requires : goal.weigh_channel-requires
weigh_channel-requires g c =
    let p = c.requires in
    record {
      reach = reach_start _ _ _ _ p.k_lt_channels p.parts.few p.channels_in_bounds;
      frames_in_bounds = inside g (goal.at.weigh_channel-requires g c).Start c.args.k p.k_lt_channels;
    }

pub returns : goal.returns
returns g c =
    let a = c.args in record {
      lower_bound = (omega arith, omega (arith, c.requires.k_lt_channels));
      dest_after = each_again (weigh_one a.self (map g.S.Sample.in_f64 a.samples.now)) a.bytes.now a.k (kept_of a.state.now a.dest.now) _ (omega (arith, c.requires.k_lt_channels, c.requires.parts.bytes)) c.weigh_channel.ensures;
    }
