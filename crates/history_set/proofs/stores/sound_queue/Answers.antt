-- `stores::sound_queue` meets its contract: the energies held are two slices, and none is below boundary 0 where none in either is.
-- Assumes nothing.
use Rattle.std.proofs.Common.{length, arith}
use Rattle.history_queue.proofs.Standing.{Within, parts_within}
use Rattle.history_set.proofs.stores.sound_queue.Goals as goal
use Rattle.history_set.proofs.stores.sound_queue.Goals.{After-parts-parts}

-- the parts are within the store
within : (c : After-parts-parts) → Within c.parts-parts.result (length c.args.store.now)
within c = parts_within c.args.queue 0 (length c.args.store.now) c.parts-parts.result c.parts-parts.ensures

pub offset_bounds-store-parts : goal.offset_bounds-store-parts
offset_bounds-store-parts c = let w = within (goal.at.offset_bounds-store-parts c).After-parts-parts in omega arith

pub slice_bounds-none_below-count : goal.slice_bounds-none_below-count
slice_bounds-none_below-count c = let w = within (goal.at.slice_bounds-none_below-count c).After-parts-parts in omega arith

pub slice_bounds-none_below-start : goal.slice_bounds-none_below-start
slice_bounds-none_below-start c = let w = within (goal.at.slice_bounds-none_below-start c).After-parts-parts in omega arith

pub slice_bounds-none_below-end : goal.slice_bounds-none_below-end
slice_bounds-none_below-end c = let w = within (goal.at.slice_bounds-none_below-end c).After-parts-parts in omega arith
