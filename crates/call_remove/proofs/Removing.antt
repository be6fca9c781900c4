-- An exporter is removed: it is refused where its row is not live, else its objects go and then its row.
use Prim.Native.Nat.{ℕ, ◌<◌, ◌≤◌}
use mathlib.Core.Path.{◌≡◌, refl, sym, ap, ◌∙◌}
use mathlib.Core.Bool.{true, not}
use mathlib.Core.List.{List}
use native.Mathlib.Omega.{arith}
use borrow.Author.Tests.{lt-ltb, le-ltb}
use lib.ListN.{length}
use lib.Dec.{eqb}
use Rattle.kinds.specs.Refusals.{order}
use Rattle.lists.specs.Lists.{delete_at, distinct}
use Rattle.lists.proofs.Distinct.{eqb-decides, entry-remove}
use Rattle.rules.specs.Entries.{Exporter, Object, Entries, with_exporters, exporter_row}
use Rattle.rules.specs.Sound.{sound, interface_objects_live}
use Rattle.rules.specs.Contract.{Whole}
use Rattle.rules.proofs.SoundLaws.{sound-fields}
use Rattle.rules.specs.Calls.{editing, Call, Edit, numbered, remove_exporter}
use Rattle.rules.specs.Rules.{no_exporter, without_objects, refusals, number, next, results, refused_reply, accepted_reply}
use Rattle.rules.proofs.ByRow.{oxids-distinct}
use Rattle.table_view.specs.View.{exporter_count, list_start, oids_of, members_below, memory, view, Holds, SoundTable, Stepped}
use Rattle.table_view.proofs.KeptLists.{list-starts}
use Rattle.table_edit.specs.Edits.{Became, drop_exporter}
use Rattle.table_view.proofs.LiveRows.{exporters-length}
use Rattle.table_settle.specs.Leaving.{without_leaving}
use Rattle.table_settle.proofs.Settling.{asked-sound}
use Rattle.table_settle.specs.declared.Leaving.TheVariants.{ExporterRemoved}
use Rattle.table_view.proofs.Steps.{exporter-tested, refused-step, accepted-step}

-- the exporter goes from its row, and its objects with it
remove-exporter-row : (e : Entries) → sound e ≡ true → (x : ℕ) → exporter_row e x < length e.exporters
    → next (editing (remove_exporter x)) e ≡ with_exporters (delete_at (exporter_row e x) e.exporters) (without_objects (λ (o : Object). not (eqb x o.exporter)) e)
unfolding next
remove-exporter-row e s x h =
    ap (λ (l : List Exporter). with_exporters l (without_objects (λ (o : Object). not (eqb x o.exporter)) e))
    (entry-remove eqb eqb-decides (λ (p : Exporter). p.oxid) no_exporter x e.exporters h (oxids-distinct e s))

-- what the settling of a sound table asks
pub settling : (ws s : List ℕ) → SoundTable (memory ws s)
    → Whole ws × (members_below ws ≡ true) × (distinct eqb (oids_of ws) ≡ true) × Holds (λ e. interface_objects_live e ≡ true) ws
settling ws s h = let q = asked-sound ws s h.entries in (h.words, q.0, q.1, q.2)

module _ (ws s : List ℕ) (x : ℕ) (h : SoundTable (memory ws s)) (r n : ℕ) (count : n ≡ exporter_count ws) where
  pub no-exporter : n ≤ r → Holds (λ e. r ≡ exporter_row e x) ws → Stepped (Call.editing (Edit.remove_exporter x)) (memory ws s) (numbered 4) (memory ws s)
  unfolding refused_reply results number refusals order
  no-exporter l row =
      let gone = exporter-tested ws s x (row s) count ∙ le-ltb r n l in
      let e : number (Call.editing (Edit.remove_exporter x)) (view (memory ws s)) ≡ 4 = rw gone in
      refused-step 4 (sym e) (λ z. omega arith)

  -- its objects go
  module _ (l : r < n) (ws₁ : List ℕ) (settles : Became (without_leaving (ExporterRemoved (record { 0 = x }))) ws ws₁) where
    same_count : exporter_count ws₁ ≡ exporter_count ws
    same_count = sym (exporters-length ws₁ s) ∙ ap (λ (e : Entries). length e.exporters) (settles s) ∙ exporters-length ws s

    -- what the removal of its row asks
    pub row-asked : (r < exporter_count ws₁) × (list_start s (exporter_count ws₁) ≤ 8192)
    row-asked =
        let b = h.store in
        let e = list-starts ws s (sound-fields (view (memory ws s)) h.entries).lists_kept (exporter_count ws) (omega arith) in
        (rw same_count (omega arith), rw same_count (omega arith))

    -- and then its row
    pub exporter-gone : Holds (λ e. r ≡ exporter_row e x) ws → (ws₂ s₂ : List ℕ) → view (memory ws₂ s₂) ≡ drop_exporter r (view (memory ws₁ s))
        → Stepped (Call.editing (Edit.remove_exporter x)) (memory ws s) (numbered 0) (memory ws₂ s₂)
    unfolding accepted_reply results number refusals order
    exporter-gone found ws₂ s₂ drops =
        let e = view (memory ws s) in
        let row = found s in
        let live = exporter-tested ws s x row count ∙ lt-ltb r n l in
        let z : number (Call.editing (Edit.remove_exporter x)) e ≡ 0 = rw live in
        let k = exporters-length ws s in
        let below : exporter_row e x < length e.exporters = rw (← row) (omega arith) in
        accepted-step 0 (sym z) refl (memory ws₂ s₂)
        (drops
        ∙ ap (drop_exporter r) (settles s)
        ∙ ap (λ (i : ℕ). with_exporters (delete_at i e.exporters) (without_leaving (ExporterRemoved (record { 0 = x })) e)) row
        ∙ sym (remove-exporter-row e h.entries x below))
