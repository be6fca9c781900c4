-- Swapping a box (document 02, request 10): a snapshot that is written from one table and loaded into another. Statements only.
use Rattle.std.specs.Prelude.{ℕ, ◌≡◌, true, List, ◌⊎◌, get_or, take}
use Rattle.rules.specs.Calls.{starting, looking, Reply, write_snapshot, load_snapshot}
use Rattle.rules.specs.Snapshot.{sorted, snapshot_bytes}
use Rattle.rules.specs.Contract.{Memory, Whole}
use Rattle.table_view.specs.View.{view, sound_memory, Performed}
use Rattle.table_view.specs.Fitting.{Lent}

-- a load of s into a memory of right lengths, with the reply r, which leaves m
pub record Loaded (s : List ℕ) (r : Reply) (m : Memory) : Type 0 where
  pub answer : (r.number ≡ 0) ⊎ (r.number ≡ 23)
  -- 0: the bytes are the snapshot of a sound table, the one that it leaves
  pub accepted : r.number ≡ 0 → (sound_memory m ≡ true) × (snapshot_bytes (view m) ≡ s)
  -- 23: they are not the snapshot of any sound table
  pub refused : r.number ≡ 23 → (t : Memory) → Lent t → sound_memory t ≡ true → snapshot_bytes (view t) ≡ s → ⊥

abbrev pub LoadsExactly : Type 0
LoadsExactly =
    (s : List ℕ) (m m' : Memory) (r : Reply)
    → Whole m.words
    → Whole m.store
    → Performed (starting (load_snapshot s)) m r m'
    → Loaded s r m'

-- the bytes that an accepted write answers the length of, at the front of its buffer
abbrev pub written_in : Reply → List ℕ
written_in w = take (get_or w.values 0 0) w.buffer

-- m was written into the buffer b, with the reply w; what was written was loaded, with the reply r, which leaves n
pub record BoxSwapped (b : List ℕ) (m : Memory) (w r : Reply) (n : Memory) : Type 0 where
  pub loaded : r.number ≡ 0
  -- the same entries, in the order of the snapshot
  pub entries : view n ≡ sorted (view m)
  -- writing them again answers the same and gives the same bytes
  pub again : (w' : Reply) (n' : Memory) → Performed (looking (write_snapshot b)) n w' n' → w' ≡ w

abbrev pub BoxesSwap : Type 0
BoxesSwap =
    (b : List ℕ) (m m' n n' : Memory) (w r : Reply)
    → Lent m
    → Performed (looking (write_snapshot b)) m w m'
    → w.number ≡ 0
    → Whole n.words
    → Whole n.store
    → Performed (starting (load_snapshot (written_in w))) n r n'
    → BoxSwapped b m w r n'
