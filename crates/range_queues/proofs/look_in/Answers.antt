-- `range_queues::look_in` meets its contract: what an entry holds stands in two parts, and it is sound where none of either is below boundary 0.
-- Assumes nothing.
use Rattle.std.proofs.Common.{◌≡◌, Bool, cond, Some, None, ◌&&◌, ◌++◌, sym, ap, ◌∙◌, rules}
use Rattle.history_set.specs.Set.{none_below, is_sound}
use Rattle.range_queues.specs.declared.Seen.{Seen}
use Rattle.range_queues.specs.Inner.{held_at, with_seen}
use Rattle.range_queues.proofs.Standing.{stand_in}
use Rattle.range_queues.proofs.Looking.{parts_below, parts_seen, sound_suits, looked_fine, looked_not, look_failed}
use Rattle.range_queues.proofs.look_in.Goals as goal
use Rattle.range_queues.proofs.look_in.Goals.{After-held_parts}

held : (k : After-held_parts) → k.held_parts.result.0.now ++ k.held_parts.result.1.now ≡ held_at k.args.energies.now k.args.entry
held k = k.held_parts.ensures.0 ∙ stand_in k.args.energies.now k.args.entry.shape k.requires.0 (sym k.suits.ensures ∙ k.if-suits.true)

sound : (k : After-held_parts) → is_sound k.args.energies.now k.args.entry ≡ none_below k.held_parts.result.0.now && none_below k.held_parts.result.1.now
sound k =
    sym (sound_suits k.args.energies.now k.args.entry.shape (sym k.suits.ensures ∙ k.if-suits.true))
    ∙ sym (parts_below k.args.energies.now k.args.entry k.held_parts.result.0.now k.held_parts.result.1.now (held k))

pub returns-in_err-look_at-clause-seen : goal.returns-in_err-look_at-clause-seen
returns-in_err-look_at-clause-seen c =
    let k = (goal.at.returns-in_err-look_at-clause-seen c).After-held_parts in
    let older = k.held_parts.result.0.now in
    let newer = k.held_parts.result.1.now in
    let gone : c.from_residual.result ≡ None = search rules in
    let below = looked_not (none_below older) (with_seen c.args.before older) c.in_err-look_at.ensures in
    gone ∙ look_failed (is_sound c.args.energies.now c.args.entry) _ (sound k ∙ ap (λ (b : Bool). b && none_below newer) below)

pub returns-in_ok-look_at-clause-seen : goal.returns-in_ok-look_at-clause-seen
returns-in_ok-look_at-clause-seen c =
    let k = (goal.at.returns-in_ok-look_at-clause-seen c).After-held_parts in
    let older = k.held_parts.result.0.now in
    let newer = k.held_parts.result.1.now in
    let fine = is_sound c.args.energies.now c.args.entry in
    let first = c.in_ok-look_at.field-0 in
    let passed = looked_fine (none_below older) first (with_seen c.args.before older) c.in_ok-look_at.ensures in
    let so : none_below newer ≡ fine = sym (sound k ∙ ap (λ (b : Bool). b && none_below newer) passed.0) in
    c.look_at-then-suits.ensures
    ∙ ap (λ (b : Bool). cond b (Some (with_seen first newer)) None) so
    ∙ ap (λ (s : Seen). cond fine (Some s) None) (parts_seen c.args.energies.now c.args.entry older newer (held k) c.args.before first passed.1)
