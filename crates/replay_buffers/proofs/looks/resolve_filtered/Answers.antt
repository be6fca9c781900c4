-- `replay_buffers::looks::resolve_filtered`: a local buffer stands in for the recorded one.
use native.Mathlib.Omega.{arith}
use Rattle.call_load.proofs.Loading.{lent}
use Rattle.replay_buffers.proofs.Rooms.{front_length_lem, filtered-done}
use Rattle.replay_buffers.proofs.looks.resolve_filtered.Goals as goal

pub returns : goal.returns
returns c =
    let t = c.requires.0 in
    filtered-done t (lent _ _ t (λ i. let z = c.shared_slice_known-1.given i in omega arith) (λ i. let z = c.shared_slice_known-2-1.given i in omega arith))
    c.shorter-n.ensures c.read_u64-2.ensures c.read_u64.ensures c.resolve_filtered_into.ensures

pub slice_bounds-resolve_filtered_into-end : goal.slice_bounds-resolve_filtered_into-end
slice_bounds-resolve_filtered_into-end c = front_length_lem 2048 (omega arith)
