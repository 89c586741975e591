use Rattle.kernel_give.proofs.Given.{cut, all_there}
use Rattle.kernel_give.proofs.give_gathered.Goals as goal

pub slice_bounds-give-end : goal.slice_bounds-give-end
slice_bounds-give-end c = cut _ _ _ c.min-m.ensures

pub slice_bounds-give-end-2 : goal.slice_bounds-give-end-2
slice_bounds-give-end-2 c = cut _ _ _ c.min-o.ensures

pub slice_bounds-give-end-3 : goal.slice_bounds-give-end-3
slice_bounds-give-end-3 c = cut _ _ _ c.min-s.ensures

pub slice_bounds-give-end-4 : goal.slice_bounds-give-end-4
slice_bounds-give-end-4 c = cut _ _ _ c.min-e.ensures

pub slice_bounds-give-end-5 : goal.slice_bounds-give-end-5
slice_bounds-give-end-5 c = cut _ _ _ c.min-c.ensures

pub slice_bounds-give-end-6 : goal.slice_bounds-give-end-6
slice_bounds-give-end-6 c = cut _ _ _ c.min-t.ensures

pub slice_bounds-give-end-7 : goal.slice_bounds-give-end-7
slice_bounds-give-end-7 c = cut _ _ _ c.min-r.ensures

pub returns : goal.returns
returns c = all_there _ _ _ _ _ _ _ _ _ _ _ _ _ _ _ _ _ _ c.min-m.ensures c.min-o.ensures c.min-s.ensures c.min-e.ensures c.min-c.ensures c.min-t.ensures c.min-r.ensures c.min-partitions.ensures c.min.ensures c.min-segments.ensures _ c.give.result _ c.give.ensures
