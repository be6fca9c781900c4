-- `replay_buffers::listed::count_into`: the step into the buffer, and the recorded answer compared.
use mathlib.Core.Path.{sym}
use native.Mathlib.Omega.{arith}
use lib.Seq.{length-take-le}
use Rattle.replay_buffers.proofs.Showing.{items_left, items-done}
use Rattle.replay_buffers.proofs.listed.count_into.Goals as goal

pub slice_bounds-shown_step-end : goal.slice_bounds-shown_step-end
slice_bounds-shown_step-end c = items_left (rw (← c.number-number.ensures) at c.noted_list_step.ensures) c.written-n.ensures

pub returns : goal.returns
returns c =
    items-done (rw (← c.number-number.ensures) at c.noted_list_step.ensures) c.written-n.ensures c.requires.0 c.requires.1 (omega arith) c.requires.0.store c.shown_step.ensures

pub slice_bounds-shown_step-end-2 : goal.slice_bounds-shown_step-end-2
slice_bounds-shown_step-end-2 c = sym (length-take-le _ _ (items_left (rw (← c.number-number.ensures) at c.noted_list_step.ensures) c.written-n.ensures))
