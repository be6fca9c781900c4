-- `replay_buffers::looks::next_stop`: the place, and its bytes compared.
use Rattle.replay_buffers.proofs.Showing.{stop-done}
use Rattle.replay_buffers.proofs.looks.next_stop.Goals as goal

pub slice_bounds-shown_step-end : goal.slice_bounds-shown_step-end
slice_bounds-shown_step-end c = let e = rw (← c.from-x.ensures) at c.next_stop_step.ensures in rw c.if-x.true at e.within.1

pub returns-then-x : goal.returns-then-x
returns-then-x c =
    let e = rw (← c.from-x.ensures) at c.next_stop_step.ensures in
    rw c.shown_step.ensures
    (rw c.if-x.true at (stop-done c.args.answer.now c.args.shown.now c.requires.0 e c.requires.1))

pub slice_bounds-shown_step-end-2 : goal.slice_bounds-shown_step-end-2
slice_bounds-shown_step-end-2 c = let e = rw (← c.from-x.ensures) at c.next_stop_step.ensures in rw c.if-x.false at e.within.1

pub returns : goal.returns
returns c =
    let e = rw (← c.from-x.ensures) at c.next_stop_step.ensures in
    rw c.shown_step-2.ensures
    (rw c.if-x.false at (stop-done c.args.answer.now c.args.shown.now c.requires.0 e c.requires.1))
