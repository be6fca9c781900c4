-- The lists that the clauses of `sound` speak of are columns of the array, as code reads them.
use Prim.Native.Nat.{ℕ, ◌+◌, ◌*◌, ◌≤◌, ◌<◌}
use mathlib.Core.Path.{◌≡◌, refl, sym, ap, ◌∙◌}
use mathlib.Core.List.{List, map}
use native.Mathlib.Omega.{arith}
use lib.ListN.{length, get_or, take, drop}
use Rattle.kinds.specs.declared.Guid.{Guid}
use Rattle.table_columns.specs.Guids.{guids}
use Rattle.table_columns.specs.Rows.{cell, row_at, rows, after}
use Rattle.table_columns.specs.declared.rows.Kind.{Kind}
use Rattle.lists.proofs.Lists.{map-map, map-ext, map-tabulate, tabulate-ext, tabulate-part}
use Rattle.table_columns.proofs.GuidColumns.{guids-tabulate}
use Rattle.table_columns.proofs.rows.Laws.{column-below, column-of-rows, row_at-get_or}
use Rattle.rules.specs.Entries.{Exporter, Object, Interface, PingSet}
use Rattle.table_words.specs.Kinds.{exporter_kind, object_kind, interface_kind, set_kind}
use Rattle.table_view.specs.View.{exporter_count, object_count, interface_count, set_count, as_exporter, as_object, as_interface, exporters_of, objects_of, interfaces_of, sets_of}

-- a kind's columns lie within the array
abbrev pub Inside : Kind → List ℕ → Type 0
Inside k ws = after k ≤ length ws

-- a field of every entry that is made of a row is a column
field-column : {A : Type 0} (k : Kind) (ws : List ℕ) (n j : ℕ) (entry : List ℕ → A) (f : A → ℕ) → ((r : List ℕ) → f (entry r) ≡ get_or r j 0)
    → j < k.width → n ≤ k.places → Inside k ws → map f (map entry (rows k ws n)) ≡ take n (drop (k.base + j * k.places) ws)
field-column k ws n j entry f same w p h =
    map-map f entry (rows k ws n) ∙ map-ext (λ r. f (entry r)) (λ r. get_or r j 0) same (rows k ws n) ∙ column-of-rows k ws n j w p h

-- words j and j + 1 of a row, as an identifier
abbrev guid_in : ℕ → List ℕ → Guid
guid_in j r = record { low = get_or r j 0; high = get_or r (j + 1) 0 }

-- the identifiers of the rows are two columns
guid-rows : (k : Kind) (ws : List ℕ) (n j : ℕ) → j + 1 < k.width → n ≤ k.places → Inside k ws
    → map (guid_in j) (rows k ws n) ≡ guids (take n (drop (k.base + j * k.places) ws)) (take n (drop (k.base + (j + 1) * k.places) ws))
unfolding rows
guid-rows k ws n j w p h =
    let low : k.base + j * k.places + n ≤ length ws = omega (arith, column-below k.places j k.width (omega arith)) in
    let high : k.base + (j + 1) * k.places + n ≤ length ws = omega (arith, column-below k.places (j + 1) k.width w) in
    map-tabulate (guid_in j) n (row_at k ws)
    ∙ tabulate-ext n _ _ (λ i l. rw (row_at-get_or k ws i j (omega arith), row_at-get_or k ws i (j + 1) w))
    ∙ sym (guids-tabulate n (λ i. get_or ws (cell k j i) 0) (λ i. get_or ws (cell k (j + 1) i) 0))
    ∙ (rw (tabulate-part ws 0 (k.base + j * k.places) n low, tabulate-part ws 0 (k.base + (j + 1) * k.places) n high))

-- what is made of an exporter's row alone is made of its kind's rows
exporter-rows : {A : Type 0} (f : Exporter → A) (g : List ℕ → A) → ((r l : List ℕ) → f (as_exporter r l) ≡ g r)
    → (ws store : List ℕ) → map f (exporters_of ws store) ≡ map g (rows exporter_kind ws (exporter_count ws))
unfolding exporters_of rows
exporter-rows f g same ws store =
    map-tabulate f (exporter_count ws) _
    ∙ tabulate-ext (exporter_count ws) _ _ (λ i l. same _ _)
    ∙ sym (map-tabulate g (exporter_count ws) (row_at exporter_kind ws))

module _ (ws : List ℕ) (size : length ws ≡ 8192) where
  pub oxids-column : (store : List ℕ) → map (λ (x : Exporter). x.oxid) (exporters_of ws store) ≡ take (exporter_count ws) (drop 16 ws)
  oxids-column store =
      exporter-rows (λ x. x.oxid) (λ r. get_or r 0 0) (λ r l. refl) ws store
      ∙ column-of-rows exporter_kind ws (exporter_count ws) 0 (omega arith) (omega arith) (omega arith)

  pub unknowns-columns : (store : List ℕ) → map (λ (x : Exporter). x.unknown) (exporters_of ws store) ≡ guids (take (exporter_count ws) (drop 32 ws)) (take (exporter_count ws) (drop 48 ws))
  unknowns-columns store =
      exporter-rows (λ x. x.unknown) (guid_in 1) (λ r l. refl) ws store
      ∙ guid-rows exporter_kind ws (exporter_count ws) 1 (omega arith) (omega arith) (omega arith)

  pub oids-column : map (λ (o : Object). o.oid) (objects_of ws) ≡ take (object_count ws) (drop 256 ws)
  unfolding objects_of
  oids-column = field-column object_kind ws (object_count ws) 0 as_object (λ o. o.oid) (λ r. refl) (omega arith) (omega arith) (omega arith)

  pub object-exporters-column : map (λ (o : Object). o.exporter) (objects_of ws) ≡ take (object_count ws) (drop 384 ws)
  unfolding objects_of
  object-exporters-column = field-column object_kind ws (object_count ws) 1 as_object (λ o. o.exporter) (λ r. refl) (omega arith) (omega arith) (omega arith)

  pub heard-column : map (λ (o : Object). o.heard) (objects_of ws) ≡ take (object_count ws) (drop 640 ws)
  unfolding objects_of
  heard-column = field-column object_kind ws (object_count ws) 3 as_object (λ o. o.heard) (λ r. refl) (omega arith) (omega arith) (omega arith)

  pub ipids-columns : map (λ (i : Interface). i.ipid) (interfaces_of ws) ≡ guids (take (interface_count ws) (drop 768 ws)) (take (interface_count ws) (drop 1024 ws))
  unfolding interfaces_of
  ipids-columns =
      map-map (λ (i : Interface). i.ipid) as_interface (rows interface_kind ws (interface_count ws))
      ∙ guid-rows interface_kind ws (interface_count ws) 0 (omega arith) (omega arith) (omega arith)

  -- the halves of the IPIDs
  pub ipid-lows-column : map (λ (i : Interface). i.ipid.low) (interfaces_of ws) ≡ take (interface_count ws) (drop 768 ws)
  unfolding interfaces_of
  ipid-lows-column = field-column interface_kind ws (interface_count ws) 0 as_interface (λ i. i.ipid.low) (λ r. refl) (omega arith) (omega arith) (omega arith)

  pub ipid-highs-column : map (λ (i : Interface). i.ipid.high) (interfaces_of ws) ≡ take (interface_count ws) (drop 1024 ws)
  unfolding interfaces_of
  ipid-highs-column = field-column interface_kind ws (interface_count ws) 1 as_interface (λ i. i.ipid.high) (λ r. refl) (omega arith) (omega arith) (omega arith)

  pub interface-objects-column : map (λ (i : Interface). i.object) (interfaces_of ws) ≡ take (interface_count ws) (drop 1792 ws)
  unfolding interfaces_of
  interface-objects-column = field-column interface_kind ws (interface_count ws) 4 as_interface (λ i. i.object) (λ r. refl) (omega arith) (omega arith) (omega arith)

  pub set-numbers-column : map (λ (s : PingSet). s.number) (sets_of ws) ≡ take (set_count ws) (drop 64 ws)
  unfolding sets_of
  set-numbers-column = field-column set_kind ws (set_count ws) 0 _ (λ s. s.number) (λ r. refl) (omega arith) (omega arith) (omega arith)

  pub pinged-column : map (λ (s : PingSet). s.pinged) (sets_of ws) ≡ take (set_count ws) (drop 128 ws)
  unfolding sets_of
  pinged-column = field-column set_kind ws (set_count ws) 2 _ (λ s. s.pinged) (λ r. refl) (omega arith) (omega arith) (omega arith)

-- ---- columns that code lends

-- a column of n words is a field of the live entries, of which there are n
pub column-read : (ws : List ℕ) (first : ℕ) {n m : ℕ} {xs ids : List ℕ} → xs ≡ take n (drop first ws) → n ≡ m → ids ≡ take m (drop first ws) → xs ≡ ids
column-read ws first p q h = p ∙ ap (λ (k : ℕ). take k (drop first ws)) q ∙ sym h

-- two columns are the identifiers of the live entries
pub guids-read : (ws : List ℕ) (a b : ℕ) {n m : ℕ} {xs ys : List ℕ} {ids : List Guid} → xs ≡ take n (drop a ws) → ys ≡ take n (drop b ws) → n ≡ m
    → ids ≡ guids (take m (drop a ws)) (take m (drop b ws)) → guids xs ys ≡ ids
guids-read ws a b p r q h = rw (p, r, q) (sym h)

-- the halves of the IPIDs that code lends are the IPIDs
pub ipids-read : (ws : List ℕ) → length ws ≡ 8192 → {lows highs : List ℕ} → lows ≡ map (λ (i : Interface). i.ipid.low) (interfaces_of ws)
    → highs ≡ map (λ (i : Interface). i.ipid.high) (interfaces_of ws) → guids lows highs ≡ map (λ (i : Interface). i.ipid) (interfaces_of ws)
ipids-read ws size l h = rw (l, h, ipid-lows-column ws size, ipid-highs-column ws size) (sym (ipids-columns ws size))
