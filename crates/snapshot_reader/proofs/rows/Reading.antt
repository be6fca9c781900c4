-- What the readers of rows add, by what they read; and what they ask of the table first.
use Prim.Native.Nat.{ℕ, ◌+◌, ◌-◌, ◌*◌, ◌<◌, ◌≤◌, min}
use mathlib.Core.Path.{◌≡◌, sym, ap, ◌∙◌}
use mathlib.Core.Bool.{true, false}
use mathlib.Core.List.{List, []}
use native.Mathlib.Omega.{arith}
use borrow.Author.Tests.{eqb-true, lt-ltb, le-ltb}
use lib.ListN.{length, take, drop}
use lib.Seq.{drop-drop}
use Rattle.fields.specs.Fields.{field}
use Rattle.bindings.specs.Bindings.{list_answer}
use Rattle.lists.proofs.Tests.{holding-fails, holding-passes, holding-last}
use Rattle.rules.specs.Entries.{Exporter, PingSet, Entries, set_places}
use Rattle.rules.specs.Sound.{store_bytes, lists_kept}
use Rattle.rules.specs.Snapshot.{Front, read_exporter, read_set}
use Rattle.rules.proofs.SoundLaws.{clause-at}
use Rattle.table_view.specs.View.{exporter_count, set_count, list_start, oids_of, sets_of, memory, view, members_below}
use Rattle.table_edit.specs.Edits.{add_exporter, add_set}
use Rattle.table_view.proofs.LiveRows.{exporters-length, sets-length}
use Rattle.table_view.proofs.KeptLists.{bytes-live}
use Rattle.call_enter.proofs.Places.{list-fits}
use Rattle.table_view.proofs.MemberRows.{below-from}
use Rattle.snapshot_rows.specs.declared.Section.TheVariants.{Exporters, Objects, Sets}
use Rattle.snapshot_reader.specs.ReadRows.{with_row, after_row, in_order, fits, members_in}
use Rattle.snapshot_reader.proofs.rows.RowFields.{drop-within, part-within, set-row}
use Rattle.snapshot_reader.proofs.rows.SectionFits.{exporter-fits, set-fits}

-- ---- exporters

module _ (ws store : List ℕ) (h : fits Exporters (view (memory ws store)) ≡ true) where
  pub lists-kept : lists_kept (view (memory ws store)) ≡ true
  unfolding fits
  lists-kept = clause-at _ 1 h

  -- what an exporter that fits is entered by
  pub room-made : (x : Exporter) → fits Exporters (add_exporter x (view (memory ws store))) ≡ true
      → (exporter_count ws < 16) × (list_answer x.bindings ≡ 0) × (list_start store (exporter_count ws) + length x.bindings ≤ store_bytes)
  room-made x t =
      let f = list-fits (view (memory ws store)) x.bindings (eqb-true _ 0 (sym (exporter-fits x (view (memory ws store)) h) ∙ t)) in
      let l = exporters-length ws store in
      let b = bytes-live ws store lists-kept in
      let p = f.2 in
      let q = f.3 in
      (omega arith, f.0, omega arith)

module _ (s : List ℕ) (size from to : ℕ) (n : size ≡ field s 24 2) (a : from ≡ min 26 (length s)) (b : to ≡ min (26 + size) (length s)) where
  -- the list of an exporter's row
  pub list_read : take (to - from) (drop from s) ≡ take (field s 24 2) (drop 26 s)
  list_read = rw (b, a, n) (part-within s 26 (field s 24 2))

  -- what stands behind it
  pub exporter-after : drop to s ≡ after_row Exporters s
  unfolding read_exporter
  exporter-after = rw (b, n) (drop-within s (26 + field s 24 2) ∙ sym (drop-drop (field s 24 2) 26 s))

-- ---- objects

-- before the sets no bit stands at an object's row
pub before-sets : (ws : List ℕ) → fits Objects (view (memory ws [])) ≡ true → members_below ws ≡ true
unfolding fits
before-sets ws h =
    let n = eqb-true (length (sets_of ws)) 0 (clause-at _ 1 h) in
    let l = sets-length ws in
    below-from ws (λ r b. absurd (omega arith))

-- ---- sets

module _ (ws s t : List ℕ) (h : fits Sets (view (memory ws t)) ≡ true) (n : ℕ) (e : n ≡ set_count ws) where
  counted-sets : length (sets_of ws) ≡ n
  counted-sets = sets-length ws ∙ sym e

  -- no place for a set
  pub set_full : set_places ≤ n → fits Sets (with_row Sets s (view (memory ws t))) ≡ false
  set_full b = sym (holding-fails _ _ (set-fits (read_set s).value (view (memory ws t)) h) (rw counted-sets (le-ltb n set_places b)))

  -- a place: the members decide
  pub set-judged : n < set_places → (k : ℕ) → k ≡ field s 18 2 → fits Sets (with_row Sets s (view (memory ws t))) ≡ in_order (oids_of ws) (members_in s k)
  set-judged b k f =
      sym (holding-last _ (holding-passes _ _ (set-fits (read_set s).value (view (memory ws t)) h) (rw counted-sets (lt-ltb n set_places b))))
      ∙ ap (λ (x : Front PingSet). in_order (oids_of ws) x.value.members) (set-row s)
      ∙ ap (λ (i : ℕ). in_order (oids_of ws) (members_in s i)) (sym f)

module _ (s : List ℕ) (k : ℕ) (f : k ≡ field s 18 2) where
  pub set_entered : (number q p : ℕ) (ms : List ℕ) → number ≡ field s 0 8 → q ≡ field s 8 2 → p ≡ field s 10 8 → ms ≡ members_in s k
      → (e : Entries) → add_set (record { number = number; sequence = q; pinged = p; members = ms }) e ≡ with_row Sets s e
  set_entered number q p ms a b c d e = rw (a, b, c, d, f) (ap (λ (x : Front PingSet). add_set x.value e) (sym (set-row s)))

  pub set_after : (to : ℕ) → to ≡ min (20 + 8 * k) (length s) → drop to s ≡ after_row Sets s
  set_after to b = rw (b, f) (drop-within s (20 + 8 * field s 18 2) ∙ ap (λ (x : Front PingSet). x.rest) (sym (set-row s)))
