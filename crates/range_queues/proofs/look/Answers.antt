-- `range_queues::look` meets its contract. The invariant: what was seen so far, and then of what the entries from here on hold, is what is seen of all.
-- Assumes nothing.
use Rattle.std.proofs.Common.{◌≡◌, ◌+◌, ◌<◌, Bool, None, ◌&&◌, length, get_or, drop, sym, ap, ◌∙◌, arith, rules}
use Rattle.history_set.specs.Set.{is_sound, all_sound}
use Rattle.history_set.proofs.Entries.{past_the_last}
use Rattle.range_queues.specs.Inner.{held_at, with_seen}
use Rattle.range_queues.proofs.Looking.{store_at, held_end, sound_next, sound_end, seen_next, seen_none, looked_fine, looked_not, look_passed, look_failed}
use Rattle.range_queues.proofs.look.Goals as goal

pub look_in-requires : goal.look_in-requires
look_in-requires c = (store_at (length c.args.energies.now) c.args.entries.now c.loop-entry.entry-index (omega arith) c.requires.1, omega arith)

pub returns-in_err-seen : goal.returns-in_err-seen
returns-in_err-seen c =
    let energies = c.args.energies.now in
    let entries = c.args.entries.now in
    let l = c.loop-entry in
    let i = l.entry-index in
    let entry = get_or entries i past_the_last in
    let gone : c.from_residual.result ≡ None = search rules in
    let not_sound = looked_not (is_sound energies entry) (with_seen l.seen (held_at energies entry)) c.in_err-seen.ensures.seen in
    gone
    ∙ look_failed (all_sound energies entries) _
    (sym l.invariant.1 ∙ sym (sound_next energies entries i (omega arith)) ∙ ap (λ (b : Bool). b && all_sound energies (drop (i + 1) entries)) not_sound)

pub loop-entry-preserved : goal.loop-entry-preserved
loop-entry-preserved c =
    let energies = c.args.energies.now in
    let entries = c.args.entries.now in
    let l = c.loop-entry in
    let i = l.entry-index in
    let i_in : i < length entries = omega arith in
    let entry = get_or entries i past_the_last in
    let seen = c.in_ok-seen.seen in
    let passed = looked_fine (is_sound energies entry) seen (with_seen l.seen (held_at energies entry)) c.in_ok-seen.ensures.seen in (
      omega (arith, c.in_ok-seen.ensures.few),
      sym (ap (λ (b : Bool). b && all_sound energies (drop (i + 1) entries)) passed.0) ∙ sound_next energies entries i i_in ∙ l.invariant.1,
      seen_next energies entries i i_in l.seen seen passed.1 ∙ l.invariant.2,
    )

pub returns : goal.returns
returns c =
    let energies = c.args.energies.now in
    let entries = c.args.entries.now in
    let l = c.loop-entry in
    look_passed (all_sound energies entries) _ _ (sym l.invariant.1 ∙ sound_end energies entries l.entry-index (omega arith))
    (sym (seen_none l.seen) ∙ sym (ap (with_seen l.seen) (held_end energies entries l.entry-index (omega arith))) ∙ l.invariant.2)
