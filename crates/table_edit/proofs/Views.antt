-- What an edit of one kind does to the live entries: those of that kind change, and the others are the same.
use Prim.Native.Nat.{ℕ}
use mathlib.Core.Path.{◌≡◌, refl, sym, ap, ◌∙◌}
use mathlib.Core.Bool.{Bool, true, ◌&&◌}
use mathlib.Core.List.{List, [], map}
use mathlib.Core.Logic.{◌⊎◌, inl, inr, ⊎_elim}
use lib.ListN.{length, get_or}
use Rattle.lists.specs.Lists.{tabulate}
use Rattle.table_columns.specs.declared.rows.Kind.{Kind}
use Rattle.lists.proofs.Tests.{and_left, and_right}
use Rattle.lists.proofs.Lists.{tabulate-ext}
use Rattle.table_columns.proofs.rows.Laws.{length-rows, rows-get_or}
use Rattle.rules.specs.Entries.{Exporter, Object, Interface, PingSet, Entries, with_clock, with_next, with_exporters, with_objects, with_interfaces, with_sets}
use Rattle.table_words.specs.Kinds.{exporter_kind, object_kind, interface_kind, set_kind}
use Rattle.table_view.specs.View.{exporter_count, list_at, as_exporter, as_set, exporters_of, objects_of, interfaces_of, sets_of, memory, view, oids_of}
use Rattle.table_edit.specs.Edits.{Only, Became}
use Rattle.table_edit.proofs.KindRows.{live, no_rows, word_apart, word_kept, apart_kinds, live-kept}

-- the exporters that rows and the lists of a store make
abbrev pub exporters_from : List (List ℕ) → List ℕ → List Exporter
exporters_from rs s = tabulate (length rs) (λ i. as_exporter (get_or rs i []) (list_at s i))

-- the live exporters are those of the live rows
pub exporters-from : (ws s : List ℕ) → exporters_of ws s ≡ exporters_from (live exporter_kind 2 ws) s
unfolding exporters_of
exporters-from ws s =
    rw (length-rows exporter_kind ws (exporter_count ws))
    (tabulate-ext (exporter_count ws) _ _
    (λ i h. ap (λ (r : List ℕ). as_exporter r (list_at s i)) (sym (rows-get_or exporter_kind ws (exporter_count ws) i h))))

-- ---- the entries of other kinds

module _ (k : Kind) (at : ℕ) (ws ws' : List ℕ) (o : Only k at ws ws') where
  -- of exporters
  pub exporters-kept : apart_kinds k at exporter_kind 2 ≡ true → (s : List ℕ) → exporters_of ws' s ≡ exporters_of ws s
  exporters-kept t s =
      exporters-from ws' s
      ∙ ap (λ (rs : List (List ℕ)). exporters_from rs s) (live-kept k at ws ws' o exporter_kind 2 t)
      ∙ sym (exporters-from ws s)

  -- of objects
  pub objects-kept : apart_kinds k at object_kind 3 ≡ true → objects_of ws' ≡ objects_of ws
  unfolding objects_of
  objects-kept t = ap (map _) (live-kept k at ws ws' o object_kind 3 t)

  -- of interfaces
  pub interfaces-kept : apart_kinds k at interface_kind 4 ≡ true → interfaces_of ws' ≡ interfaces_of ws
  unfolding interfaces_of
  interfaces-kept t = ap (map _) (live-kept k at ws ws' o interface_kind 4 t)

  -- of sets, where the OIDs are the same
  pub sets-kept : apart_kinds k at set_kind 5 ≡ true → oids_of ws' ≡ oids_of ws → sets_of ws' ≡ sets_of ws
  unfolding sets_of
  sets-kept t e = λ u. map (as_set (e u)) (live-kept k at ws ws' o set_kind 5 t u)

-- ---- the view after an edit of one kind

-- a part of the view is as it was where the test says that the edit leaves it, or is as given
abbrev Part : {A : Type 0} → Bool → A → A → A → Type 0
Part t old new x = ((t ≡ true) × (x ≡ old)) ⊎ (new ≡ x)

-- such a part is as the entries have it
part : {A : Type 0} (t : Bool) (old new x : A) → (t ≡ true → new ≡ old) → Part t old new x → new ≡ x
part t old new x f p = ⊎_elim (λ q. f q.0 ∙ sym q.1) (λ e. e) p

module _ (k : Kind) (at : ℕ) (ws ws' : List ℕ) (o : Only k at ws ws') where
  -- the entries e, part by part
  view-edited : (s : List ℕ) (e : Entries)
      → Part (word_apart k at 0) (get_or ws 0 0) (get_or ws' 0 0) e.clock
      → Part (word_apart k at 1) (get_or ws 1 0) (get_or ws' 1 0) e.next
      → Part (apart_kinds k at exporter_kind 2) (exporters_of ws s) (exporters_of ws' s) e.exporters
      → Part (apart_kinds k at object_kind 3) (objects_of ws) (objects_of ws') e.objects
      → Part (apart_kinds k at interface_kind 4) (interfaces_of ws) (interfaces_of ws') e.interfaces
      → Part (apart_kinds k at set_kind 5 && apart_kinds k at object_kind 3) (sets_of ws) (sets_of ws') e.sets
      → view (memory ws' s) ≡ e
  view-edited s e c n xs os is ps =
      let c' = part _ _ _ _ (word_kept k at ws ws' o 0) c in
      let n' = part _ _ _ _ (word_kept k at ws ws' o 1) n in
      let xs' = part _ _ _ _ (λ t. exporters-kept k at ws ws' o t s) xs in
      let os' = part _ _ _ _ (objects-kept k at ws ws' o) os in
      let is' = part _ _ _ _ (interfaces-kept k at ws ws' o) is in
      let ps' =
      part _ _ _ _
      (λ t.
      sets-kept k at ws ws' o (and_left (apart_kinds k at set_kind 5) (apart_kinds k at object_kind 3) t)
      (ap (map _) (objects-kept k at ws ws' o (and_right (apart_kinds k at set_kind 5) (apart_kinds k at object_kind 3) t)))) ps in
      λ u. record { clock = c' u; next = n' u; exporters = xs' u; objects = os' u; interfaces = is' u; sets = ps' u }

module _ (ws ws' : List ℕ) where
  -- the clock
  pub became-clock : (t : ℕ) → Only no_rows 0 ws ws' → get_or ws' 0 0 ≡ t → Became (with_clock t) ws ws'
  became-clock t o e s =
      view-edited no_rows 0 ws ws' o s (with_clock t (view (memory ws s)))
      (inr e) (inl (refl, refl)) (inl (refl, refl)) (inl (refl, refl)) (inl (refl, refl)) (inl (refl, refl))

  -- the next set number
  pub became-next : (n : ℕ) → Only no_rows 1 ws ws' → get_or ws' 1 0 ≡ n → Became (with_next n) ws ws'
  became-next n o e s =
      view-edited no_rows 1 ws ws' o s (with_next n (view (memory ws s)))
      (inl (refl, refl)) (inr e) (inl (refl, refl)) (inl (refl, refl)) (inl (refl, refl)) (inl (refl, refl))

  -- the exporters, with their store
  pub became-exporters : (xs : List Exporter) (s s' : List ℕ) → Only exporter_kind 2 ws ws' → exporters_of ws' s' ≡ xs → view (memory ws' s') ≡ with_exporters xs (view (memory ws s))
  became-exporters xs s s' o e =
      view-edited exporter_kind 2 ws ws' o s' (with_exporters xs (view (memory ws s)))
      (inl (refl, refl)) (inl (refl, refl)) (inr e) (inl (refl, refl)) (inl (refl, refl)) (inl (refl, refl))

  -- the objects, where the sets are the same
  pub became-objects : (os : List Object) → Only object_kind 3 ws ws' → objects_of ws' ≡ os → sets_of ws' ≡ sets_of ws → Became (with_objects os) ws ws'
  became-objects os o e f s =
      view-edited object_kind 3 ws ws' o s (with_objects os (view (memory ws s)))
      (inl (refl, refl)) (inl (refl, refl)) (inl (refl, refl)) (inr e) (inl (refl, refl)) (inr f)

  -- the interfaces
  pub became-interfaces : (is : List Interface) → Only interface_kind 4 ws ws' → interfaces_of ws' ≡ is → Became (with_interfaces is) ws ws'
  became-interfaces is o e s =
      view-edited interface_kind 4 ws ws' o s (with_interfaces is (view (memory ws s)))
      (inl (refl, refl)) (inl (refl, refl)) (inl (refl, refl)) (inl (refl, refl)) (inr e) (inl (refl, refl))

  -- the sets, of the OIDs as they were
  pub became-sets : (ps : List PingSet) → Only set_kind 5 ws ws' → map (as_set (oids_of ws)) (live set_kind 5 ws') ≡ ps → Became (with_sets ps) ws ws'
  unfolding sets_of
  became-sets ps o e s =
      let ids : oids_of ws' ≡ oids_of ws = ap (map _) (objects-kept set_kind 5 ws ws' o refl) in
      view-edited set_kind 5 ws ws' o s (with_sets ps (view (memory ws s)))
      (inl (refl, refl)) (inl (refl, refl)) (inl (refl, refl)) (inl (refl, refl)) (inl (refl, refl))
      (inr (ap (λ (ns : List ℕ). map (as_set ns) (live set_kind 5 ws')) ids ∙ e))
