-- A count of an interface is stored.
use Prim.Native.Nat.{ℕ, ◌+◌, ◌*◌, ◌%◌, ◌^◌, ◌<◌}
use mathlib.Core.Path.{◌≡◌, ap, ◌∙◌}
use mathlib.Core.List.{List, map}
use native.Mathlib.Omega.{arith}
use lib.ListN.{length, get_or, set, drop}
use lib.Seq.{get_or-set_other, drop-set-add}
use Rattle.table_columns.specs.Rows.{row_at}
use Rattle.lists.proofs.Lists.{map-set}
use Rattle.rules.specs.Entries.{with_count}
use Rattle.table_words.specs.Kinds.{interface_kind}
use Rattle.table_view.specs.View.{interface_count, as_interface}
use Rattle.table_edit.specs.Edits.{Became, change_interface}
use Rattle.table_view.proofs.Counts.{low32}
use Rattle.table_edit.proofs.KindRows.{only-stored, live-stored}
use Rattle.table_edit.proofs.Changes.{interface-changed}

-- a row with another word for count k
count-row : (r : List ℕ) (k n : ℕ) → n < 2 ^ 32 → as_interface (set r (5 + k) n) ≡ with_count k n (as_interface r)
count-row r k n h u =
    record {
      ipid = record { low = other 0 (omega arith) u; high = other 1 (omega arith) u };
      iid = record { low = other 2 (omega arith) u; high = other 3 (omega arith) u };
      object = other 4 (omega arith) u;
      counts = (ap (map low32) (drop-set-add 5 r k n) ∙ map-set low32 (drop 5 r) k n ∙ ap (set (map low32 (drop 5 r)) k) (let q : n % 2 ^ 32 ≡ n = omega arith in q)) u;
    }
  where
    other : (j : ℕ) → j < 5 → get_or (set r (5 + k) n) j 0 ≡ get_or r j 0
    other j b = get_or-set_other r (5 + k) j n 0 (omega arith)

-- count k of an interface is stored
pub count-stored : (ws : List ℕ) (i k n : ℕ) → length ws ≡ 8192 → i < interface_count ws → k < 9 → n < 2 ^ 32
    → Became (change_interface i (with_count k n)) ws (set ws (2048 + 256 * k + i) n)
count-stored ws i k n size h b d =
    let q : 2048 + 256 * k + i ≡ 768 + (5 + k) * 256 + i = omega arith in
    rw q
    (interface-changed ws (set ws (768 + (5 + k) * 256 + i) n) (with_count k n) i (set (row_at interface_kind ws i) (5 + k) n)
    (only-stored interface_kind 4 ws i (5 + k) n (omega arith) (omega arith)) h
    (live-stored interface_kind 4 ws i (5 + k) n (omega arith) h (omega arith) (omega arith))
    (count-row (row_at interface_kind ws i) k n d))
