-- `range_queues::held_parts` meets its contract: the parts of a queue are within the energies. Assumes nothing.
use Rattle.std.proofs.Common.{length, ap, arith}
use Rattle.history_queue.specs.declared.Parts.{Parts}
use Rattle.history_queue.specs.Queue.{in_parts}
use Rattle.history_queue.proofs.Standing.{Within, parts_within, slice_length}
use Rattle.range_queues.proofs.held_parts.Goals as goal
use Rattle.range_queues.proofs.held_parts.Goals.{After-parts-parts}

within : (c : After-parts-parts) → Within c.parts-parts.result (length c.args.energies.now)
within c = parts_within c.in-Queue.queue c.in-Queue.start (length c.args.energies.now) c.parts-parts.result c.parts-parts.ensures

pub offset_bounds-energies-parts : goal.offset_bounds-energies-parts
offset_bounds-energies-parts c = let w = within (goal.at.offset_bounds-energies-parts c).After-parts-parts in omega arith

pub slice_bounds-result-count : goal.slice_bounds-result-count
slice_bounds-result-count c = let w = within (goal.at.slice_bounds-result-count c).After-parts-parts in omega arith

pub slice_bounds-result-start : goal.slice_bounds-result-start
slice_bounds-result-start c = let w = within (goal.at.slice_bounds-result-start c).After-parts-parts in omega arith

pub slice_bounds-result-end-in-Queue : goal.slice_bounds-result-end-in-Queue
slice_bounds-result-end-in-Queue c = let w = within (goal.at.slice_bounds-result-end-in-Queue c).After-parts-parts in omega arith

pub offset_bounds-energies-parts-in-Queue : goal.offset_bounds-energies-parts-in-Queue
offset_bounds-energies-parts-in-Queue c = let w = within (goal.at.offset_bounds-energies-parts-in-Queue c).After-parts-parts in omega arith

pub slice_bounds-result-count-in-Queue : goal.slice_bounds-result-count-in-Queue
slice_bounds-result-count-in-Queue c = let w = within (goal.at.slice_bounds-result-count-in-Queue c).After-parts-parts in omega arith

pub slice_bounds-result-start-in-Queue : goal.slice_bounds-result-start-in-Queue
slice_bounds-result-start-in-Queue c = let w = within (goal.at.slice_bounds-result-start-in-Queue c).After-parts-parts in omega arith

pub slice_bounds-result-end-in-Queue-2 : goal.slice_bounds-result-end-in-Queue-2
slice_bounds-result-end-in-Queue-2 c = let w = within (goal.at.slice_bounds-result-end-in-Queue-2 c).After-parts-parts in omega arith

pub returns-in-Queue : goal.returns-in-Queue
returns-in-Queue c =
    let w = within (goal.at.returns-in-Queue c).After-parts-parts in
    let parts = c.parts-parts.result in
    let energies = c.args.energies.now in (
      rw c.in-Queue.is (ap (λ (at : Parts). in_parts at energies) c.parts-parts.ensures),
      omega (arith, slice_length parts.from parts.until energies w.inside, slice_length parts.start parts.end energies w.within, w.few),
    )
