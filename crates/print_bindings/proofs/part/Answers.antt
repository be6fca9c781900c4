-- `part`: a binding that is met lies in the list.
use Rattle.cursors.proofs.StepsInside.{binding-order, binding-end}
use Rattle.print_bindings.proofs.part.Goals as goal

pub slice_bounds-binding-count : goal.slice_bounds-binding-count
slice_bounds-binding-count c = binding-order _ _ _ _ _ c.in-Ok.ensures

pub slice_bounds-binding-start : goal.slice_bounds-binding-start
slice_bounds-binding-start c = binding-order _ _ _ _ _ c.in-Ok.ensures

pub slice_bounds-binding-end : goal.slice_bounds-binding-end
slice_bounds-binding-end c = binding-end _ _ _ _ _ c.in-Ok.ensures
