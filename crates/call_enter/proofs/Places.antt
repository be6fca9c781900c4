-- An accepted entry has a free place, and its list fits.
use Prim.Native.Nat.{ℕ, ◌+◌, ◌<◌, ◌≤◌}
use mathlib.Core.Path.{◌≡◌, sym, ◌∙◌}
use mathlib.Core.Bool.{Bool, true}
use mathlib.Core.List.{List}
use native.Mathlib.Omega.{arith}
use borrow.Author.Tests.{ltb-false, leb-false, le-ltb, lt-leb}
use lib.ListN.{length}
use lib.Dec.{ltb, leb}
use Rattle.kinds.specs.declared.Guid.{Guid}
use Rattle.kinds.specs.Refusals.{order}
use Rattle.kinds.proofs.Refusing.{eq-differ, or-false, passed, passed_on}
use Rattle.bindings.specs.Bindings.{list_answer}
use Rattle.rules.specs.Entries.{Entries, lists_length, exporter_places, object_places, interface_places}
use Rattle.rules.specs.Calls.{Call, Edit}
use Rattle.rules.specs.Rules.{refusals, number, list_refusals}
use Rattle.rules.specs.Sound.{longest_list, store_bytes}
use Rattle.rules.specs.Contract.{Whole}
use Rattle.rules.proofs.SoundLaws.{sound-fields}
use Rattle.table_view.specs.View.{exporter_count, object_count, interface_count, list_start, memory, view, SoundTable}
use Rattle.table_view.proofs.LiveRows.{exporters-length, objects-length, interfaces-length}
use Rattle.table_view.proofs.KeptLists.{bytes-live}

module _ (e : Entries) where
  module _ (b : List ℕ) where
    -- an exporter's list keeps the list rules, is not too long, and there are a place for the exporter and room behind the live lists
    abbrev pub ListFits : Type 0
    ListFits = (list_answer b ≡ 0) × (length b ≤ longest_list) × (length e.exporters < exporter_places) × (lists_length e.exporters + length b ≤ store_bytes)

    pub list-fits : order (list_refusals b e) ≡ 0 → ListFits
    list-fits h =
        let s = passed_on (list_answer b) _ h in
        let l = passed _ 19 _ (omega arith) s.1 in
        let f = or-false (leb exporter_places (length e.exporters)) (ltb store_bytes (lists_length e.exporters + length b)) (passed _ 9 _ (omega arith) l.1).0 in
        (s.0, ltb-false longest_list (length b) l.0, leb-false exporter_places (length e.exporters) f.0, ltb-false store_bytes (lists_length e.exporters + length b) f.1)

    pub fits-list : ListFits → order (list_refusals b e) ≡ 0
    unfolding order
    fits-list (a, l, p, r) =
        rw (eq-differ (list_answer b) 0 a, le-ltb longest_list (length b) l, lt-leb exporter_places (length e.exporters) p, le-ltb store_bytes (lists_length e.exporters + length b) r)

-- the numbers of an entry that the rules give with any store, IID and mark
abbrev pub ObjectAnswer : List ℕ → ℕ → ℕ → Guid → ℕ → ℕ → Type 0
ObjectAnswer ws o x i p n = (s : List ℕ) (iid : Guid) (np : Bool) → n ≡ number (Call.editing (Edit.enter_object o x i iid p np)) (view (memory ws s))

abbrev pub InterfaceAnswer : List ℕ → ℕ → Guid → ℕ → ℕ → Type 0
InterfaceAnswer ws o i p n = (s : List ℕ) (iid : Guid) → n ≡ number (Call.editing (Edit.enter_interface o i iid p)) (view (memory ws s))

module _ (ws : List ℕ) where
  -- an object needs a place for its interface too
  pub object-fits : (o x : ℕ) (i : Guid) (p n : ℕ) → n ≡ 0 → ObjectAnswer ws o x i p n → (object_count ws < object_places) × (interface_count ws < interface_places)
  unfolding number refusals
  object-fits o x i p n z a =
      let r = passed _ 3 _ (omega arith) (sym (a ws i true) ∙ z) in
      let s = passed _ 4 _ (omega arith) r.1 in
      let c = passed _ 7 _ (omega arith) s.1 in
      let f = or-false _ _ (passed _ 9 _ (omega arith) c.1).0 in
      (rw (← objects-length ws) (leb-false object_places _ f.0), rw (← interfaces-length ws) (leb-false interface_places _ f.1))

  -- an interface
  pub interface-fits : (o : ℕ) (i : Guid) (p n : ℕ) → n ≡ 0 → InterfaceAnswer ws o i p n → interface_count ws < interface_places
  unfolding number refusals
  interface-fits o i p n z a =
      let r = passed _ 3 _ (omega arith) (sym (a ws i) ∙ z) in
      let s = passed _ 5 _ (omega arith) r.1 in
      let c = passed _ 7 _ (omega arith) s.1 in
      rw (← interfaces-length ws) (leb-false interface_places _ (passed _ 9 _ (omega arith) c.1).0)

-- what entering an exporter asks
pub exporter-fits : (ws s : List ℕ) → SoundTable (memory ws s) → (n x : ℕ) (u : Guid) (b : List ℕ) → n ≡ number (Call.editing (Edit.enter_exporter x u b)) (view (memory ws s)) → n ≡ 0
    → Whole ws × Whole s × (exporter_count ws < exporter_places) × (list_answer b ≡ 0) × (list_start s (exporter_count ws) + length b ≤ store_bytes)
unfolding number refusals
exporter-fits ws s t n x u b a z =
    let f = list-fits (view (memory ws s)) b (passed _ 3 _ (omega arith) (sym a ∙ z)).1 in
    (t.words, t.store, rw (← exporters-length ws s) f.2, f.0, rw (← bytes-live ws s (sound-fields _ t.entries).lists_kept) f.3)
