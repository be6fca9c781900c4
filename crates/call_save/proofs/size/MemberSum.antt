-- The members of all sets together, counted set by set.
use Prim.Native.Nat.{ℕ, ◌+◌, ◌*◌, ◌<◌, ◌≤◌}
use mathlib.Core.Path.{◌≡◌, sym, ap, ◌∙◌}
use mathlib.Core.List.{List, ◌∷◌, map}
use native.Mathlib.Omega.{arith}
use lib.ListN.{length, get_or, drop, length-append}
use Rattle.bindings.specs.Bindings.{joined}
use Rattle.table_columns.specs.Members.{member_rows}
use Rattle.table_columns.specs.declared.members.Members.{Members}
use Rattle.table_columns.proofs.Loops.{column-step, column-end}
use Rattle.rules.specs.Entries.{PingSet}
use Rattle.rules.specs.Rules.{no_set}
use Rattle.rules.specs.Snapshot.{snapshot_bytes}
use Rattle.rules.proofs.SoundLaws.{sound-fields}
use Rattle.rules.proofs.SnapshotSizes.{snapshot-length}
use Rattle.table_view.specs.View.{exporter_count, object_count, interface_count, set_count, sets_of, list_start, memory, view, SoundTable, members_at}
use Rattle.table_view.proofs.LiveRows.{exporters-length, objects-length, interfaces-length, sets-length}
use Rattle.table_view.proofs.Counts.{nine-each}
use Rattle.table_view.proofs.KeptLists.{list-starts, bytes-live}
use Rattle.table_view.proofs.MemberLaws.{row-size, table-ordered}

-- the members of the sets from i on
abbrev pub members_from : List ℕ → ℕ → List ℕ
members_from ws i = joined (map (λ (s : PingSet). s.members) (drop i (sets_of ws)))

-- those of set i, and the others
pub members-next : (ws : List ℕ) (i : ℕ) {m : Members} (k : ℕ) → i < set_count ws → m ≡ members_at ws i → k ≡ length (member_rows m)
    → length (members_from ws i) ≡ k + length (members_from ws (i + 1))
unfolding joined
members-next ws i k h e q =
    let n = sets-length ws in
    let p = get_or (sets_of ws) i no_set in
    let first : drop i (sets_of ws) ≡ p ∷ drop (i + 1) (sets_of ws) = column-step (sets_of ws) no_set i (omega arith) in
    let size = row-size ws i h in
    let here = q ∙ ap (λ (r : Members). length (member_rows r)) e in
    ap (λ (ss : List PingSet). length (joined (map (λ (s : PingSet). s.members) ss))) first
    ∙ length-append p.members (members_from ws (i + 1))
    ∙ ap (λ (x : ℕ). x + length (members_from ws (i + 1))) (size ∙ sym here)

-- none is left
pub members-end : (ws : List ℕ) (i : ℕ) → set_count ws ≤ i → length (members_from ws i) ≡ 0
unfolding joined
members-end ws i h =
    let n = sets-length ws in
    ap (λ (ss : List PingSet). length (joined (map (λ (s : PingSet). s.members) ss))) (column-end (sets_of ws) i (omega arith))

-- ---- the snapshot

module _ (ws store : List ℕ) (t : SoundTable (memory ws store)) where
  -- the lists lie in the store
  pub lists-inside : (n : ℕ) → n ≡ exporter_count ws → list_start store n ≤ length store
  lists-inside n e = list-starts ws store (sound-fields _ t.entries).lists_kept n (omega arith)

  pub lists-few : (n k : ℕ) → n ≡ exporter_count ws → k ≡ list_start store n → k ≤ 8192
  lists-few n k e q =
      let h = lists-inside n e in
      let l = t.store in
      omega arith

  -- its length
  pub by-counts : (x l o i s m : ℕ) → x ≡ exporter_count ws → l ≡ list_start store x → o ≡ object_count ws → i ≡ interface_count ws → s ≡ set_count ws → m ≡ length (members_from ws 0)
      → 26 + 26 * x + l + 25 * o + 76 * i + (20 * s + 8 * m) ≡ length (snapshot_bytes (view (memory ws store)))
  by-counts x l o i s m p q r u v w =
      let whole = snapshot-length (view (memory ws store)) (nine-each ws) in
      let lists = bytes-live ws store (sound-fields _ t.entries).lists_kept in
      let start = q ∙ ap (list_start store) p in
      let exporters = exporters-length ws store in
      let objects = objects-length ws in
      let interfaces = interfaces-length ws in
      let sets = sets-length ws in
      let members = ap (λ (ms : List (List ℕ)). length (joined ms)) (table-ordered ws store t) in
      omega arith
