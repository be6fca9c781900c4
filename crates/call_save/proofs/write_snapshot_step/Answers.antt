-- `write_snapshot_step`: a buffer that is shorter than the snapshot is refused; else the snapshot is written.
use Prim.Native.Nat.{ℕ, ◌<◌, ◌≤◌}
use mathlib.Core.Path.{◌≡◌, refl, ◌∙◌}
use mathlib.Core.List.{List, []}
use native.Mathlib.Omega.{arith}
use native.Mathlib.Nat.{zero-add}
use borrow.Author.Tests.{lt-ltb, le-ltb}
use lib.ListN.{length}
use Rattle.fields.proofs.Fields.{written-front}
use Rattle.rules.specs.Calls.{Call, Look}
use Rattle.rules.specs.Rules.{refusals, number, next, results, refused_reply, accepted_reply}
use Rattle.rules.specs.Snapshot.{snapshot_bytes}
use Rattle.table_view.specs.View.{memory, view, Stepped}
use Rattle.snapshot_rows.specs.Writing.{Room, Wrote}
use Rattle.call_save.specs.Replies.{written_reply}
use Rattle.table_view.proofs.Steps.{refused-step, accepted-step, row_gives, row-passes, rows_end}
use Rattle.call_save.proofs.write_snapshot_step.Goals as goal

-- n is the snapshot's length
module _ (ws store buffer : List ℕ) (n : ℕ) (counted : n ≡ length (snapshot_bytes (view (memory ws store)))) where
  -- the buffer is shorter
  short : length buffer < n → Stepped (Call.looking (Look.write_snapshot buffer)) (memory ws store) (written_reply (record { answer = 15; length = 0 }) buffer) (memory ws store)
  unfolding number refusals refused_reply results
  short h = refused-step 15 (row_gives _ 15 [] refl (lt-ltb (length buffer) (length (snapshot_bytes (view (memory ws store)))) (omega arith))) (λ z. omega arith)

  -- it has room, and the snapshot was written
  module _ (fits : n ≤ length buffer) where
    room : Room buffer 0 (snapshot_bytes (view (memory ws store)))
    room = omega arith

    done : (after : List ℕ) (end : ℕ) → Wrote buffer 0 (snapshot_bytes (view (memory ws store))) after end
        → Stepped (Call.looking (Look.write_snapshot buffer)) (memory ws store) (written_reply (record { answer = 0; length = end }) after) (memory ws store)
    unfolding number refusals accepted_reply results next
    done after end w =
        let bytes = snapshot_bytes (view (memory ws store)) in
        let enough : length bytes ≤ length buffer = omega arith in
        rw (w.held ∙ written-front buffer bytes enough, w.ends ∙ zero-add (length bytes))
        (accepted-step 0 (rows_end (row-passes _ 15 [] refl (le-ltb (length buffer) (length bytes) enough))) refl (memory ws store) refl)

pub returns-then-buffer-n : goal.returns-then-buffer-n
returns-then-buffer-n c = search short

pub put_snapshot-requires : goal.put_snapshot-requires
put_snapshot-requires c = search room

pub returns : goal.returns
returns c = search done
