-- The bytes of an entry are written field by field.
use Prim.Native.Nat.{ℕ, ◌+◌, ◌<◌, ◌≤◌}
use mathlib.Core.Path.{◌≡◌, refl, sym, ap, ◌∙◌}
use mathlib.Core.Bool.{Bool, true, false, cond, ◌&&◌}
use mathlib.Core.List.{List, [], ◌∷◌, ◌++◌, append_assoc}
use native.Mathlib.Omega.{arith}
use native.Mathlib.Numerals.{add-one}
use borrow.Author.Tests.{leb-true}
use lib.Dec.{eqb, leb}
use lib.ListN.{length, get_or, drop, set}
use lib.Seq.{set_split}
use Rattle.std.specs.Int.{from_bool}
use Rattle.kinds.specs.declared.Guid.{Guid}
use Rattle.fields.specs.Fields.{encode, guid_bytes, written}
use Rattle.fields.proofs.Fields.{length-encode, length-guid, written_in_lem, written_none}
use Rattle.bindings.specs.Bindings.{joined, list_answer}
use Rattle.lists.specs.Lists.{tabulate}
use Rattle.lists.proofs.Tests.{and_right}
use Rattle.lists.proofs.Lists.{every-at, tabulate-get_or, map-tabulate}
use Rattle.table_columns.specs.Members.{member_rows}
use Rattle.table_columns.specs.declared.members.Members.{Members}
use Rattle.table_columns.proofs.Loops.{table_step, table-end}
use Rattle.rules.specs.Entries.{Exporter, Object, Interface, PingSet}
use Rattle.rules.specs.Rules.{no_exporter, no_set}
use Rattle.rules.specs.Sound.{longest_list, lists_kept}
use Rattle.rules.specs.Snapshot.{in_row, members_in_order, exporter_bytes, object_bytes, interface_bytes, set_bytes}
use Rattle.rules.proofs.SnapshotReading.{length-numbers}
use Rattle.rules.proofs.SnapshotSizes.{interface-size, set-size}
use Rattle.table_view.specs.View.{exporter_count, set_count, exporters_of, sets_of, members_at, memory, view}
use Rattle.table_view.proofs.LiveRows.{exporters-length}
use Rattle.snapshot_rows.specs.Writing.{Room, Wrote}
use Rattle.snapshot_rows.specs.Rows.{rising_oids, member_bytes_at, ObjectsSorted}
use Rattle.snapshot_rows.proofs.Writing.{left-all, left-same, left_step, left-none, row-map, row-none}
use Rattle.snapshot_rows.proofs.rows.MembersInOrder.{members-row, members-number}

-- ---- fields

module _ {b b' : List ℕ} {at at' : ℕ} where
  pub wrote-number : (w : ℕ) {n m : ℕ} → n ≡ m → b' ≡ written b at (encode w n) → at' ≡ at + w → Wrote b at (encode w m) b' at'
  wrote-number w {n} {m} p e q =
      let l = length-encode w m in
      record { held = e ∙ ap (λ (k : ℕ). written b at (encode w k)) p; ends = omega arith }

  pub wrote-guid : {g h : Guid} → g ≡ h → b' ≡ written b at (guid_bytes g) → at' ≡ at + 16 → Wrote b at (guid_bytes h) b' at'
  wrote-guid {g} {h} p e q =
      let l = length-guid h in
      record { held = e ∙ ap (λ (k : Guid). written b at (guid_bytes k)) p; ends = omega arith }

  pub wrote-bytes : {x y : List ℕ} → x ≡ y → b' ≡ written b at x → at' ≡ at + length x → Wrote b at y b' at'
  wrote-bytes {x} {y} p e q = record { held = e ∙ ap (written b at) p; ends = q ∙ ap (λ (l : List ℕ). at + length l) p }

-- a byte that is 1 or 0
pub flag-put : (b : List ℕ) (at : ℕ) (f : Bool) {r : ℕ} → r ≡ from_bool f → at < length b → set b at r ≡ written b at (encode 1 (cond f 1 0))
unfolding encode
flag-put b at true e h = rw e (set_split b at 1 h ∙ sym (written_in_lem b at (1 ∷ []) (omega arith) ∙ rw (add-one at)))
flag-put b at false e h = rw e (set_split b at 0 h ∙ sym (written_in_lem b at (0 ∷ []) (omega arith) ∙ rw (add-one at)))

-- ---- entries

pub exporter-put : (x : Exporter) {b b₁ b₂ b₃ b₄ list : List ℕ} {at o : ℕ} {u : Guid} → Room b at (exporter_bytes x)
    → o ≡ x.oxid → u ≡ x.unknown → list ≡ x.bindings
    → b₁ ≡ written b at (encode 8 o) → b₂ ≡ written b₁ (at + 8) (guid_bytes u) → b₃ ≡ written b₂ (at + 24) (encode 2 (length list)) → b₄ ≡ written b₃ (at + 26) list
    → Wrote b at (exporter_bytes x) b₄ (at + 26 + length list)
unfolding exporter_bytes joined
exporter-put x {b} {at = at} room p q r e₁ e₂ e₃ e₄ =
    let a₂ : at + 24 ≡ at + 8 + 16 = omega arith in
    let a₃ : at + 26 ≡ at + 24 + 2 = omega arith in
    let l₁ = left_step (encode 8 x.oxid) _ room (left-all b at (exporter_bytes x)) (wrote-number 8 p e₁ refl) in
    let l₂ = left_step (guid_bytes x.unknown) _ room l₁ (wrote-guid q e₂ a₂) in
    let l₃ = left_step (encode 2 (length x.bindings)) _ room l₂ (wrote-number 2 (ap length r) e₃ a₃) in
    left-none refl (left_step x.bindings _ room l₃ (wrote-bytes r e₄ refl))

pub object-put : (x : Object) (b b₁ b₂ b₃ b₄ : List ℕ) (at o e h : ℕ) (f : Bool) → Room b at (object_bytes x)
    → o ≡ x.oid → e ≡ x.exporter → f ≡ x.noping → h ≡ x.heard
    → b₁ ≡ written b at (encode 8 o) → b₂ ≡ written b₁ (at + 8) (encode 8 e) → b₃ ≡ written b₂ (at + 16) (encode 1 (cond f 1 0)) → b₄ ≡ written b₃ (at + 17) (encode 8 h)
    → Wrote b at (object_bytes x) b₄ (at + 25)
unfolding object_bytes joined
object-put x b b₁ b₂ b₃ b₄ at o e h f room p q r s e₁ e₂ e₃ e₄ =
    let a₂ : at + 16 ≡ at + 8 + 8 = omega arith in
    let a₃ : at + 17 ≡ at + 16 + 1 = omega arith in
    let l₁ = left_step (encode 8 x.oid) _ room (left-all b at (object_bytes x)) (wrote-number 8 p e₁ refl) in
    let l₂ = left_step (encode 8 x.exporter) _ room l₁ (wrote-number 8 q e₂ a₂) in
    let l₃ = left_step (encode 1 (cond x.noping 1 0)) _ room l₂ (wrote-number 1 (ap (λ (t : Bool). cond t 1 0) r) e₃ a₃) in
    left-none refl (left_step (encode 8 x.heard) _ room l₃ (wrote-number 8 s e₄ (omega arith)))

-- the counts of an interface by their numbers
pub counts-row : (x : Interface) → length x.counts ≡ 9 → in_row (λ k. encode 4 (get_or x.counts k 0)) (tabulate 9 (λ k. k)) ≡ in_row (encode 4) x.counts
counts-row x n =
    sym (row-map (encode 4) (λ k. get_or x.counts k 0) (tabulate 9 (λ k. k)))
    ∙ ap (in_row (encode 4)) (map-tabulate (λ k. get_or x.counts k 0) 9 (λ k. k) ∙ (rw n at (tabulate-get_or x.counts 0)))

-- room for the counts, behind the other fields
pub counts-room : (x : Interface) → length x.counts ≡ 9 → (b c : List ℕ) (at : ℕ) → Room b at (interface_bytes x) → length c ≡ length b
    → Room c (at + 40) (in_row (λ k. encode 4 (get_or x.counts k 0)) (tabulate 9 (λ k. k)))
counts-room x nine b c at room s =
    let n = interface-size x nine in
    let m = length-numbers 4 x.counts in
    let e = ap length (counts-row x nine) in
    omega arith

pub interface-put : (x : Interface) → length x.counts ≡ 9 → {b b₁ b₂ b₃ b₄ : List ℕ} {at o end : ℕ} {g h : Guid} → Room b at (interface_bytes x)
    → g ≡ x.ipid → h ≡ x.iid → o ≡ x.object
    → b₁ ≡ written b at (guid_bytes g) → b₂ ≡ written b₁ (at + 16) (guid_bytes h) → b₃ ≡ written b₂ (at + 32) (encode 8 o)
    → Wrote b₃ (at + 40) (in_row (λ k. encode 4 (get_or x.counts k 0)) (tabulate 9 (λ k. k))) b₄ end
    → Wrote b at (interface_bytes x) b₄ end
unfolding interface_bytes joined
interface-put x nine {b} {at = at} room p q r e₁ e₂ e₃ w =
    let a₂ : at + 32 ≡ at + 16 + 16 = omega arith in
    let a₃ : at + 40 ≡ at + 32 + 8 = omega arith in
    let l₁ = left_step (guid_bytes x.ipid) _ room (left-all b at (interface_bytes x)) (wrote-guid p e₁ refl) in
    let l₂ = left_step (guid_bytes x.iid) _ room l₁ (wrote-guid q e₂ a₂) in
    let l₃ = left_step (encode 8 x.object) _ room l₂ (wrote-number 8 r e₃ a₃) in
    left-none refl (left_step (in_row (encode 4) x.counts) _ room l₃ (rw (counts-row x nine) at w))

-- room for the members, behind the other fields
pub members-room : (x : PingSet) (b c : List ℕ) (at : ℕ) → Room b at (set_bytes x) → length c ≡ length b → Room c (at + 20) (in_row (encode 8) x.members)
members-room x b c at room s =
    let n = set-size x in
    let m = length-numbers 8 x.members in
    omega arith

pub set-put : {b b₁ b₂ b₃ b₄ b₅ : List ℕ} {at n q p k end : ℕ} {m : Members} (ws rows : List ℕ) (i : ℕ) → ObjectsSorted ws rows → i < set_count ws
    → let x = members_in_order (rising_oids ws) (get_or (sets_of ws) i no_set) in Room b at (set_bytes x)
    → n ≡ x.number → q ≡ x.sequence → p ≡ x.pinged → m ≡ members_at ws i → k ≡ length (member_rows m)
    → b₁ ≡ written b at (encode 8 n) → b₂ ≡ written b₁ (at + 8) (encode 2 q) → b₃ ≡ written b₂ (at + 10) (encode 8 p) → b₄ ≡ written b₃ (at + 18) (encode 2 k)
    → Wrote b₄ (at + 20) (in_row (member_bytes_at ws m) rows) b₅ end
    → Wrote b at (set_bytes x) b₅ end
unfolding set_bytes joined
set-put {b} {at = at} {k = k} ws rows i t live room e f g r h e₁ e₂ e₃ e₄ w =
    let x = members_in_order (rising_oids ws) (get_or (sets_of ws) i no_set) in
    let count : k ≡ length x.members = h ∙ ap (λ (m : Members). length (member_rows m)) r ∙ members-number ws rows t i live in
    let a₂ : at + 10 ≡ at + 8 + 2 = omega arith in
    let a₃ : at + 18 ≡ at + 10 + 8 = omega arith in
    let a₄ : at + 20 ≡ at + 18 + 2 = omega arith in
    let l₁ = left_step (encode 8 x.number) _ room (left-all b at (set_bytes x)) (wrote-number 8 e e₁ refl) in
    let l₂ = left_step (encode 2 x.sequence) _ room l₁ (wrote-number 2 f e₂ a₂) in
    let l₃ = left_step (encode 8 x.pinged) _ room l₂ (wrote-number 8 g e₃ a₃) in
    let l = left-same (append_assoc (encode 2 (length x.members)) (in_row (encode 8) x.members) []) l₃ in
    let l₄ = left_step (encode 2 (length x.members)) _ room l (wrote-number 2 count e₄ a₄) in
    left-none refl (left_step (in_row (encode 8) x.members) _ room l₄ (rw (r, members-row ws rows t i live) at w))

-- ---- loops over numbered elements

module _ (bytes : ℕ → List ℕ) (n k : ℕ) where
  pub numbered_next : k < n → in_row bytes (drop k (tabulate n (λ i. i))) ≡ bytes k ++ in_row bytes (drop (k + 1) (tabulate n (λ i. i)))
  unfolding in_row
  numbered_next h = rw (table_step n (λ i. i) k h)

  pub numbered-end : n ≤ k → in_row bytes (drop k (tabulate n (λ i. i))) ≡ []
  numbered-end h = ap (in_row bytes) (table-end n (λ i. i) k h) ∙ row-none bytes

-- ---- members

-- no member: nothing is written
pub member-none : {m : Bool} → m ≡ false → (x b : List ℕ) (at : ℕ) → Wrote b at (cond m x []) b at
member-none e x b at = rw e (record { held = sym (written_none b at); ends = omega arith })

-- a member
pub member-put : {m : Bool} {x b b' : List ℕ} {at end : ℕ} → m ≡ true → Wrote b at x b' end → Wrote b at (cond m x []) b' end
member-put e w = rw e w

-- ---- lists

-- a list that is kept is short
pub list-short : (ws s : List ℕ) (i : ℕ) → i < exporter_count ws → lists_kept (view (memory ws s)) ≡ true → length (get_or (exporters_of ws s) i no_exporter).bindings ≤ longest_list
list-short ws s i h kept =
    let n = exporters-length ws s in
    let x = get_or (exporters_of ws s) i no_exporter in
    let short = every-at (λ (x : Exporter). eqb (list_answer x.bindings) 0 && leb (length x.bindings) longest_list) (exporters_of ws s) no_exporter i (omega arith) kept in
    leb-true (length x.bindings) longest_list (and_right (eqb (list_answer x.bindings) 0) (leb (length x.bindings) longest_list) short)
