-- `context::listed`: the data of a property that is met lies in the context.
use Rattle.cursors.proofs.StepsInside.{property-order, property-end}
use Rattle.objref.proofs.context.listed.Goals as goal

pub slice_bounds-content-count : goal.slice_bounds-content-count
slice_bounds-content-count c = property-order _ _ _ _ c.in-Ok.ensures

pub slice_bounds-content-start : goal.slice_bounds-content-start
slice_bounds-content-start c = property-order _ _ _ _ c.in-Ok.ensures

pub slice_bounds-content-end : goal.slice_bounds-content-end
slice_bounds-content-end c = property-end _ _ _ _ c.in-Ok.ensures
