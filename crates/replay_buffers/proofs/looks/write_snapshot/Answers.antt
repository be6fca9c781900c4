-- `replay_buffers::looks::write_snapshot`: a local buffer stands in for the recorded one.
use native.Mathlib.Omega.{arith}
use Rattle.call_load.proofs.Loading.{lent}
use Rattle.replay_buffers.proofs.Rooms.{front_length_lem, snapshot-done}
use Rattle.replay_buffers.proofs.looks.write_snapshot.Goals as goal

pub returns : goal.returns
returns c =
    let t = c.requires.0 in
    snapshot-done t (lent _ _ t (λ i. let z = c.shared_slice_known-1.given i in omega arith) (λ i. let z = c.shared_slice_known-2-1.given i in omega arith))
    c.shorter-n.ensures c.read_u64.ensures c.write_into.ensures

pub slice_bounds-write_into-end : goal.slice_bounds-write_into-end
slice_bounds-write_into-end c = front_length_lem 64698 (omega arith)
