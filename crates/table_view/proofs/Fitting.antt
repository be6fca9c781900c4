-- The live entries of every lent table fit a snapshot: words are below 2 ^ 64, narrower numbers are read modulo their widths, and counts
-- as no more than the places.
use Prim.Native.Nat.{ℕ, ◌%◌, ◌^◌, ◌<◌, ◌≤◌}
use mathlib.Core.Path.{◌≡◌, sym, ap, subst, ◌∙◌}
use mathlib.Core.Bool.{true}
use mathlib.Core.List.{List, map}
use mathlib.Core.Logic.{⊎_elim}
use native.Mathlib.Omega.{arith}
use borrow.Author.Tests.{le-leb}
use lib.ListN.{length, get_or, drop, length-map, length-take, length-drop, get_or-eq_default}
use lib.Dec.{leb}
use Rattle.fields.proofs.Fields.{drop-bytes, take-bytes}
use Rattle.bindings.specs.Bindings.{list_length}
use Rattle.lists.specs.Lists.{tabulate}
use Rattle.lists.proofs.Tests.{below_or_not}
use Rattle.lists.proofs.Lists.{length-keep, length-tabulate}
use Rattle.lists.proofs.Elements.{map-in, tabulate-in}
use Rattle.table_columns.specs.Rows.{cell, row_at, rows}
use Rattle.table_columns.specs.Members.{has_member, member_rows}
use Rattle.table_columns.specs.declared.members.Members.{Members}
use Rattle.table_columns.specs.declared.rows.Kind.{Kind}
use Rattle.table_columns.proofs.rows.Laws.{row_at-get_or}
use Rattle.rules.specs.Entries.{Object, count_limit, exporter_places, object_places, interface_places, set_places}
use Rattle.rules.specs.Contract.{Memory}
use Rattle.rules.specs.Snapshot.{placed}
use Rattle.rules.specs.Swapping.{Each, ExporterFits, ObjectFits, InterfaceFits, SetFits}
use Rattle.rules.proofs.SoundLaws.{none, ◌and◌}
use Rattle.rules.proofs.Swapping.{small_at}
use Rattle.table_words.specs.Kinds.{exporter_kind, object_kind, interface_kind, set_kind}
use Rattle.table_view.specs.View.{exporter_count, object_count, interface_count, set_count, list_start, list_from, list_at, as_exporter}
use Rattle.table_view.specs.View.{as_object, as_interface, as_set, exporters_of, objects_of, interfaces_of, oids_of, sets_of}
use Rattle.table_view.specs.Fitting.{Lent, ViewFits}
use Rattle.table_view.proofs.LiveRows.{exporters-length, objects-length, interfaces-length, sets-length}
use Rattle.table_view.proofs.Sizes.{word_fits}

-- of each entry that is made of one of the first n rows
rows-each : {A : Type 0} (P : A → Type 0) (entry : List ℕ → A) (k : Kind) (ws : List ℕ) (n : ℕ) → ((i : ℕ) → P (entry (row_at k ws i))) → Each P (map entry (rows k ws n))
unfolding rows
rows-each P entry k ws n h x m =
    let a = map-in entry (tabulate n (row_at k ws)) m in
    let b = tabulate-in n (row_at k ws) a.1 in
    subst P (sym (a.2 ∙ ap entry b.2)) (h b.0)

-- no more than the places
few : (n m k : ℕ) → n ≡ m → m ≤ k → leb n k ≡ true
few n m k e h = le-leb n k (omega arith)

members-few : (m : Members) → length (member_rows m) ≤ 128
unfolding member_rows
members-few m = let a = length-keep (has_member m) (tabulate 128 (λ j. j)) in let b = length-tabulate 128 (λ j. j) in omega arith

module _ (m : Memory) (l : Lent m) where
  -- a word of a row
  row_fits : (k : Kind) (i j : ℕ) → get_or (row_at k m.words i) j 0 < 2 ^ 64
  unfolding row_at
  row_fits k i j =
      ⊎_elim
      (λ h. rw (row_at-get_or k m.words i j h) (word_fits m l.words_fit (cell k j i)))
      (λ h.
      let n = length-tabulate k.width (λ j. get_or m.words (cell k j i) 0) in
      let z : get_or (row_at k m.words i) j 0 ≡ 0 = get_or-eq_default (row_at k m.words i) 0 {n = j} (omega arith) in
      omega arith)
      (below_or_not j k.width)

  list-size : (i : ℕ) → length (list_at m.store i) < 2 ^ 16
  list-size i =
      let a = length-take (list_length (list_from m.store i)) (list_from m.store i) in
      let b = length-drop (list_start m.store i) m.store in
      let c = l.store in
      omega arith

  exporters-fit : Each ExporterFits (exporters_of m.words m.store)
  unfolding exporters_of
  exporters-fit x h =
      let r = tabulate-in (exporter_count m.words) (λ i. as_exporter (row_at exporter_kind m.words i) (list_at m.store i)) h in
      subst ExporterFits (sym r.2)
      (record {
        oxid = row_fits exporter_kind r.0 0;
        unknown = record { low = row_fits exporter_kind r.0 1; high = row_fits exporter_kind r.0 2 };
        size = list-size r.0;
        bytes = take-bytes (list_length (list_from m.store r.0)) (list_from m.store r.0) (drop-bytes m.store (list_start m.store r.0) l.bytes);
      })

  objects-fit : Each ObjectFits (objects_of m.words)
  unfolding objects_of
  objects-fit =
      rows-each ObjectFits as_object object_kind m.words (object_count m.words)
      (λ i. record { oid = row_fits object_kind i 0; exporter = row_fits object_kind i 1; heard = row_fits object_kind i 3 })

  counts-fit : (r : List ℕ) → Each (λ n. n < count_limit) (map (λ (w : ℕ). w % count_limit) (drop 5 r))
  counts-fit r n h = let a = map-in (λ (w : ℕ). w % count_limit) (drop 5 r) h in rw a.2 (omega arith)

  nine : (i : ℕ) → length (map (λ (w : ℕ). w % count_limit) (drop 5 (row_at interface_kind m.words i))) ≡ 9
  unfolding row_at
  nine i =
      let a = length-map (drop 5 (row_at interface_kind m.words i)) (λ (w : ℕ). w % count_limit) in
      let b = length-drop 5 (row_at interface_kind m.words i) in
      let c = length-tabulate 14 (λ j. get_or m.words (cell interface_kind j i) 0) in
      omega arith

  interfaces-fit : Each InterfaceFits (interfaces_of m.words)
  unfolding interfaces_of
  interfaces-fit =
      rows-each InterfaceFits as_interface interface_kind m.words (interface_count m.words)
      (λ i. record {
        ipid = record { low = row_fits interface_kind i 0; high = row_fits interface_kind i 1 };
        iid = record { low = row_fits interface_kind i 2; high = row_fits interface_kind i 3 };
        object = row_fits interface_kind i 4;
        nine = nine i;
        counts = counts-fit (row_at interface_kind m.words i);
      })

  oid-fits : (j : ℕ) → get_or (oids_of m.words) j 0 < 2 ^ 64
  oid-fits j = small_at (oids_of m.words) j (λ k h. let a = map-in (λ (o : Object). o.oid) (objects_of m.words) h in rw a.2 (objects-fit a.0 a.1).oid)

  sets-fit : Each SetFits (sets_of m.words)
  unfolding sets_of
  sets-fit =
      rows-each SetFits (as_set (oids_of m.words)) set_kind m.words (set_count m.words)
      (λ i.
      let r : List ℕ = row_at set_kind m.words i in
      let ms : Members = record { low = get_or r 3 0; high = get_or r 4 0 } in
      record {
        number = row_fits set_kind i 0;
        sequence = omega arith;
        pinged = row_fits set_kind i 2;
        size = let a = length-map (member_rows ms) (λ j. get_or (oids_of m.words) j 0) in let b = members-few ms in omega arith;
        members = λ k h. let a = map-in (λ j. get_or (oids_of m.words) j 0) (member_rows ms) h in rw a.2 (oid-fits a.0);
      })

pub view-fits : ViewFits
unfolding placed
view-fits m l =
    let ws : List ℕ = m.words in
    record {
      clock = word_fits m l.words_fit 0;
      next = word_fits m l.words_fit 1;
      exporters = exporters-fit m l;
      objects = objects-fit m l;
      interfaces = interfaces-fit m l;
      sets = sets-fit m l;
      places =
          (few _ (exporter_count ws) exporter_places (exporters-length ws m.store) (omega arith)
          and few _ (object_count ws) object_places (objects-length ws) (omega arith)
          and few _ (interface_count ws) interface_places (interfaces-length ws) (omega arith)
          and few _ (set_count ws) set_places (sets-length ws) (omega arith)
          and none).together;
    }
