-- `range_queues::in_order` meets its contract: all held energies are copied and put in order, since each is above zero. Assumes nothing.
use mathlib.Core.Path.{◌≡◌, refl, sym, ap, ◌∙◌, subst}
use mathlib.Core.Bool.{true, false}
use mathlib.Core.List.{List, ◌++◌}
use Prim.Native.Nat.{ℕ, ◌≤◌}
use native.Mathlib.Omega.{arith}
use lib.Ieee.{Float}
use lib.ListN.{length, take, drop}
use lib.Seq.{sets, take_at, drop_at}
use Rattle.base_refusals.specs.Outcome.{says}
use Rattle.order_rules.specs.Order.{in_order, all_above, ordered}
use Rattle.order_rules.specs.Arrangement.{Above, Rising}
use Rattle.order_rules.proofs.AllAbove.{above_all}
use Rattle.order_rules.proofs.InOrder.{in_order_length, in_order_rises}
use Rattle.range_queues.specs.Rising.{listed_span}
use Rattle.range_queues.specs.declared.Seen.{Seen}
use Rattle.range_queues.specs.Listed.{any_nan}
use Rattle.range_queues.specs.Inner.{held_in}
use Rattle.range_queues.proofs.Looking.{above_held, none_below_held}
use Rattle.range_queues.proofs.Copying.{sets_front}
use Rattle.range_queues.proofs.Answers.{listed_room, listed_nan, listed_went}
use Rattle.range_queues.proofs.in_order.Goals as goal
use Rattle.range_queues.proofs.in_order.Goals.{After-order}

ordered_above : (l : List Float) → all_above l ≡ true → ordered l ≡ in_order l
ordered_above l e = rw e

-- ---- copied
module _ (work held copied : List Float) (blocks : ℕ) (count : blocks ≡ length held) (fits : blocks ≤ length work) (is : copied ≡ sets work 0 held) where
  copied_is : copied ≡ held ++ drop (length held) work
  copied_is = is ∙ sets_front work held (omega (arith, count))

  copied_first : take blocks copied ≡ held
  copied_first = ap (take blocks) copied_is ∙ take_at held (drop (length held) work) blocks (sym count)

  other_places : drop blocks copied ≡ drop (length held) work
  other_places = ap (drop blocks) copied_is ∙ drop_at held (drop (length held) work) blocks (sym count)

  -- ---- in order
  module _ (new : List Float) (high : all_above held ≡ true) (o : new ≡ ordered (take blocks copied)) where
    in_order_lem : new ≡ in_order held
    in_order_lem = o ∙ ap ordered copied_first ∙ ordered_above held high

    ordered_length : length new ≡ blocks
    ordered_length = ap length in_order_lem ∙ in_order_length held ∙ sym count

    first_places : take blocks (new ++ drop blocks copied) ≡ new
    first_places = take_at new (drop blocks copied) blocks ordered_length

pub returns-then-work-blocks : goal.returns-then-work-blocks
returns-then-work-blocks c =
    let a = c.args in
    let held = held_in a.energies.now a.entries.now in
    rw (listed_room held a.work.now (omega (arith, ap (λ (s : Seen). s.blocks) c.requires.2, c.if-work-blocks.true))) (refl, refl)

pub returns-then-seen : goal.returns-then-seen
returns-then-seen c =
    let a = c.args in
    let held = held_in a.energies.now a.entries.now in
    rw (listed_nan held a.work.now (omega (arith, ap (λ (s : Seen). s.blocks) c.requires.2, c.if-work-blocks.false))
    (sym (ap (λ (s : Seen). s.nan) c.requires.2) ∙ c.if-seen.true))
    (refl, refl)

pub copy_all-requires : goal.copy_all-requires
copy_all-requires c =
    (c.requires.0, c.requires.1, omega (arith, ap (λ (s : Seen). s.blocks) c.requires.2, c.if-work-blocks.false))

-- what the work slice holds once its first places are ordered
record Placed (k : After-order) : Type 0 where
  high : Above (held_in k.args.energies.now k.args.entries.now)
  no_nan : any_nan (held_in k.args.energies.now k.args.entries.now) ≡ false
  rising : k.order.new.energies ≡ in_order (held_in k.args.energies.now k.args.entries.now)
  first : take k.args.seen.blocks (k.order.new.energies ++ drop k.args.seen.blocks k.copy_all.new.work) ≡ in_order (held_in k.args.energies.now k.args.entries.now)
  others : drop k.args.seen.blocks k.copy_all.new.work ≡ drop (length (held_in k.args.energies.now k.args.entries.now)) k.args.work.now

placed : (k : After-order) → Placed k
placed k =
    let a = k.args in
    let work = a.work.now in
    let blocks = a.seen.blocks in
    let held = held_in a.energies.now a.entries.now in
    let count : blocks ≡ length held = omega (arith, ap (λ (s : Seen). s.blocks) k.requires.2) in
    let fits : blocks ≤ length work = k.if-work-blocks.false in
    let no_nan : any_nan held ≡ false = sym (ap (λ (s : Seen). s.nan) k.requires.2) ∙ k.if-seen.false in
    let high : all_above held ≡ true = above_held held (none_below_held a.energies.now a.entries.now k.requires.1) no_nan in
    let copied = k.copy_all.new.work in
    let new = k.order.new.energies in
    let rising = in_order_lem work held copied blocks count fits k.copy_all.ensures new high k.order.ensures.energies_after in
    record {
      high = above_all held high;
      no_nan = no_nan;
      rising = rising;
      first = first_places work held copied blocks count fits k.copy_all.ensures new high k.order.ensures.energies_after ∙ rising;
      others = other_places work held copied blocks count fits k.copy_all.ensures;
    }

pub span_in_order-requires : goal.span_in_order-requires
span_in_order-requires c =
    let k = (goal.at.span_in_order-requires c).After-order in
    let held = held_in k.args.energies.now k.args.entries.now in
    subst Rising (sym (placed k).first) (in_order_rises held (placed k).high)

pub returns : goal.returns
returns c =
    let k = (goal.at.returns c).After-order in
    let is = placed k in
    let held = held_in k.args.energies.now k.args.entries.now in
    rw (listed_went held k.args.work.now (omega (arith, ap (λ (s : Seen). s.blocks) k.requires.2, k.if-work-blocks.false)) is.no_nan) (
      c.span_in_order.ensures ∙ ap (λ (l : List Float). says (listed_span l)) is.first,
      ap (λ (l : List Float). l ++ drop k.args.seen.blocks k.copy_all.new.work) is.rising ∙ ap (λ (l : List Float). in_order held ++ l) is.others,
    )
