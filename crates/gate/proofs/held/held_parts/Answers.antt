-- `held::held_parts` meets its contract: the parts are within the energies. Assumes nothing.
use Rattle.std.proofs.Common.{length, ap, arith}
use Rattle.history_queue.specs.declared.Parts.{Parts}
use Rattle.history_queue.specs.Queue.{in_parts}
use Rattle.history_queue.proofs.Standing.{Within, parts_within, slice_length}
use Rattle.gate.proofs.held.held_parts.Goals as goal
use Rattle.gate.proofs.held.held_parts.Goals.{After-parts-parts}

within : (c : After-parts-parts) → Within c.parts-parts.result (length c.args.energies.now)
within c = parts_within c.args.queue c.args.start (length c.args.energies.now) c.parts-parts.result c.parts-parts.ensures

pub offset_bounds-energies-parts : goal.offset_bounds-energies-parts
offset_bounds-energies-parts c = let w = within (goal.at.offset_bounds-energies-parts c).After-parts-parts in omega arith

pub slice_bounds-result-count : goal.slice_bounds-result-count
slice_bounds-result-count c = let w = within (goal.at.slice_bounds-result-count c).After-parts-parts in omega arith

pub slice_bounds-result-start : goal.slice_bounds-result-start
slice_bounds-result-start c = let w = within (goal.at.slice_bounds-result-start c).After-parts-parts in omega arith

pub slice_bounds-result-end : goal.slice_bounds-result-end
slice_bounds-result-end c = let w = within (goal.at.slice_bounds-result-end c).After-parts-parts in omega arith

pub offset_bounds-energies-parts-2 : goal.offset_bounds-energies-parts-2
offset_bounds-energies-parts-2 c = let w = within (goal.at.offset_bounds-energies-parts-2 c).After-parts-parts in omega arith

pub slice_bounds-result-count-2 : goal.slice_bounds-result-count-2
slice_bounds-result-count-2 c = let w = within (goal.at.slice_bounds-result-count-2 c).After-parts-parts in omega arith

pub slice_bounds-result-start-2 : goal.slice_bounds-result-start-2
slice_bounds-result-start-2 c = let w = within (goal.at.slice_bounds-result-start-2 c).After-parts-parts in omega arith

pub slice_bounds-result-end-2 : goal.slice_bounds-result-end-2
slice_bounds-result-end-2 c = let w = within (goal.at.slice_bounds-result-end-2 c).After-parts-parts in omega arith

pub returns : goal.returns
returns c =
    let w = within (goal.at.returns c).After-parts-parts in
    let parts = c.parts-parts.result in
    let energies = c.args.energies.now in (
      ap (λ (at : Parts). in_parts at energies) c.parts-parts.ensures,
      omega (arith, slice_length parts.from parts.until energies w.inside, slice_length parts.start parts.end energies w.within, w.few),
    )
