-- The live entries by their rows: as many as the count says, each made of its row.
use Prim.Native.Nat.{ℕ, ◌<◌}
use mathlib.Core.Path.{◌≡◌, ap, ◌∙◌}
use mathlib.Core.List.{List, [], map}
use lib.ListN.{length, get_or, length-map}
use Rattle.table_columns.specs.Rows.{row_at, rows}
use Rattle.table_columns.specs.declared.rows.Kind.{Kind}
use Rattle.lists.proofs.Lists.{length-tabulate, get_d_tabulate, get_d_map}
use Rattle.table_columns.proofs.rows.Laws.{length-rows, rows-get_or}
use Rattle.rules.specs.Entries.{Exporter, Object, Interface, PingSet}
use Rattle.table_words.specs.Kinds.{exporter_kind, object_kind, interface_kind, set_kind}
use Rattle.table_view.specs.View.{exporter_count, object_count, interface_count, set_count, list_at, as_exporter, as_object, as_interface, as_set, exporters_of, objects_of, interfaces_of, sets_of}

-- as many entries as rows
made-length : {A : Type 0} (entry : List ℕ → A) (k : Kind) (ws : List ℕ) (n : ℕ) → length (map entry (rows k ws n)) ≡ n
made-length entry k ws n = length-map (rows k ws n) entry ∙ length-rows k ws n

pub exporters-length : (ws store : List ℕ) → length (exporters_of ws store) ≡ exporter_count ws
unfolding exporters_of
exporters-length ws store = length-tabulate (exporter_count ws) _

pub objects-length : (ws : List ℕ) → length (objects_of ws) ≡ object_count ws
unfolding objects_of
objects-length ws = made-length _ _ ws (object_count ws)

pub interfaces-length : (ws : List ℕ) → length (interfaces_of ws) ≡ interface_count ws
unfolding interfaces_of
interfaces-length ws = made-length _ _ ws (interface_count ws)

pub sets-length : (ws : List ℕ) → length (sets_of ws) ≡ set_count ws
unfolding sets_of
sets-length ws = made-length _ _ ws (set_count ws)

-- ---- the entry that stands at a row

pub made_at : {A : Type 0} (entry : List ℕ → A) (k : Kind) (ws : List ℕ) (n i : ℕ) (d : A) → i < n → get_or (map entry (rows k ws n)) i d ≡ entry (row_at k ws i)
made_at entry k ws n i d h = get_d_map entry (rows k ws n) [] d i (rw (length-rows k ws n) h) ∙ ap entry (rows-get_or k ws n i h)

pub exporter-at : (ws store : List ℕ) (i : ℕ) (d : Exporter) → i < exporter_count ws → get_or (exporters_of ws store) i d ≡ as_exporter (row_at exporter_kind ws i) (list_at store i)
unfolding exporters_of
exporter-at ws store i d h = get_d_tabulate (exporter_count ws) _ d i h

pub object-at : (ws : List ℕ) (i : ℕ) (d : Object) → i < object_count ws → get_or (objects_of ws) i d ≡ as_object (row_at object_kind ws i)
unfolding objects_of
object-at ws i d h = made_at as_object object_kind ws (object_count ws) i d h

pub interface-at : (ws : List ℕ) (i : ℕ) (d : Interface) → i < interface_count ws → get_or (interfaces_of ws) i d ≡ as_interface (row_at interface_kind ws i)
unfolding interfaces_of
interface-at ws i d h = made_at as_interface interface_kind ws (interface_count ws) i d h

pub set_at : (ws : List ℕ) (i : ℕ) (d : PingSet) → i < set_count ws → get_or (sets_of ws) i d ≡ as_set (map (λ (o : Object). o.oid) (objects_of ws)) (row_at set_kind ws i)
unfolding sets_of
set_at ws i d h = made_at _ set_kind ws (set_count ws) i d h
