-- Free places decide nothing.
use Prim.Native.Nat.{ℕ, ◌<◌}
use mathlib.Core.Path.{◌≡◌, refl, ap}
use mathlib.Core.List.{List, map}
use native.Mathlib.Omega.{arith}
use lib.ListN.{length, get_or, take, length-take}
use lib.Seq.{ext_get_or, get_or-take}
use Rattle.table_columns.specs.Rows.{rows}
use Rattle.table_columns.specs.declared.rows.Kind.{Kind}
use Rattle.lists.proofs.Lists.{tabulate-ext}
use Rattle.table_columns.proofs.rows.Laws.{row_same, rows-free}
use Rattle.rules.specs.Entries.{Object}
use Rattle.rules.specs.Contract as contract
use Rattle.table_view.specs.FreePlaces.{SameRows, SameLive, FreePlaces, FreePlacesSound}
use Rattle.table_words.specs.Kinds.{exporter_kind, object_kind, interface_kind, set_kind}
use Rattle.table_view.specs.View.{exporter_count, list_start, as_object, as_interface, as_set, exporters_of, objects_of, interfaces_of, sets_of, memory, view}
use Rattle.table_view.proofs.StoredLists.{lists-same}

-- the same bytes from the start
same_start : (n : ℕ) (s s' : List ℕ) → length s' ≡ length s → ((x : ℕ) → x < n → get_or s' x 0 ≡ get_or s x 0) → take n s' ≡ take n s
same_start n s s' l h =
    let sizes : length (take n s') ≡ length (take n s) = simp (length-take, l) in
    ext_get_or 0 (take n s') (take n s) sizes
    (λ x b. let c : x < n = omega (arith, length-take n s') in rw (get_or-take n s' x 0, get_or-take n s x 0) (h x c))

-- entries that are made of the first rows of a kind
same_entries : {A : Type 0} (k : Kind) (entry entry' : List ℕ → A) (ws ws' : List ℕ) (n n' : ℕ) → n' ≡ n → entry' ≡ entry → SameRows k n ws ws'
    → map entry' (rows k ws' n') ≡ map entry (rows k ws n)
same_entries k entry entry' ws ws' n n' e f h = rw (e, f, rows-free k ws ws' n h)

module _ (ws store ws' store' : List ℕ) (same : SameLive ws store ws' store') where
  -- the exporters, with their lists
  same-exporters : exporters_of ws' store' ≡ exporters_of ws store
  unfolding exporters_of
  same-exporters =
      rw same.exporter_counts
      (tabulate-ext (exporter_count ws) _ _
      (λ i l.
      rw (
        row_same exporter_kind ws ws' i i (λ j b. same.exporters j i b l),
        lists-same store store' (exporter_count ws) (list_start store (exporter_count ws)) (same_start _ store store' same.store_lengths same.lists) (omega arith) i l,
      )))

  -- the objects
  same-objects : objects_of ws' ≡ objects_of ws
  unfolding objects_of
  same-objects = same_entries object_kind as_object as_object ws ws' _ _ same.object_counts refl same.objects

  -- the interfaces
  same-interfaces : interfaces_of ws' ≡ interfaces_of ws
  unfolding interfaces_of
  same-interfaces = same_entries interface_kind as_interface as_interface ws ws' _ _ same.interface_counts refl same.interfaces

  -- the sets, whose members are named by the objects
  same-sets : sets_of ws' ≡ sets_of ws
  unfolding sets_of
  same-sets =
      same_entries set_kind (as_set (map (λ (o : Object). o.oid) (objects_of ws))) (as_set (map (λ (o : Object). o.oid) (objects_of ws'))) ws ws' _ _
      same.set_counts
      (ap (λ (os : List Object). as_set (map (λ (o : Object). o.oid) os)) same-objects)
      same.sets

  -- the live entries
  same_view : view (memory ws' store') ≡ view (memory ws store)
  same_view =
      λ u.
      record {
        clock = same.clock u;
        next = same.next u;
        exporters = same-exporters u;
        objects = same-objects u;
        interfaces = same-interfaces u;
        sets = same-sets u;
      }

pub free-places : FreePlaces
free-places ws store ws' store' same = same_view ws store ws' store' same

pub free-places-sound : FreePlacesSound
unfolding contract.sound_memory
free-places-sound ws store ws' store' same l = rw (l, same.store_lengths, free-places ws store ws' store' same)
