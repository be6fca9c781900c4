-- `replay_buffers::listed::count_within`: the buffer stands in for the recorded one.
use mathlib.Core.Path.{sym}
use native.Mathlib.Omega.{arith}
use lib.Seq.{length-take-le}
use Rattle.replay_buffers.proofs.Rooms.{list_done}
use Rattle.replay_buffers.proofs.listed.count_within.Goals as goal

pub returns : goal.returns
returns c =
    list_done c.requires.0 c.args.buffer.now c.requires.2 c.shorter-n.ensures c.read_u64.ensures c.read_u32-client.ensures
    c.count_into.ensures

pub slice_bounds-count_into-end-2 : goal.slice_bounds-count_into-end-2
slice_bounds-count_into-end-2 c = sym (length-take-le _ _ (omega arith))
