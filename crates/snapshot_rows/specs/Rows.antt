-- The bytes in a snapshot of the entry at a row.
use Rattle.std.specs.Prelude.{ℕ, ◌≡◌, true, cond, List, [], map, get_or}
use Rattle.fields.specs.Fields.{encode}
use Rattle.lists.specs.Order.{rising}
use Rattle.table_columns.specs.Members.{has_member}
use Rattle.table_columns.specs.declared.members.Members.{Members}
use Rattle.rules.specs.Entries.{Object, count_of}
use Rattle.rules.specs.Rules.{no_exporter, no_object, no_interface, no_set}
use Rattle.rules.specs.Snapshot.{object_before, members_in_order, exporter_bytes, object_bytes, interface_bytes, set_bytes}
use Rattle.rules.specs.Sound.{proper}
use Rattle.rules.specs.Contract.{Whole}
use Rattle.table_view.specs.View.{exporter_count, object_count, interface_count, set_count, exporters_of, objects_of, interfaces_of, sets_of, oids_of, members_below}
use Rattle.snapshot_rows.specs.declared.Section.{Section}
use Rattle.snapshot_rows.specs.declared.Section.TheVariants.{Exporters, Objects, Interfaces, Sets}
use Rattle.snapshot_rows.specs.Keys.{InOrder}

abbrev pub exporter_bytes_at : List ℕ → List ℕ → ℕ → List ℕ
exporter_bytes_at ws store i = exporter_bytes (get_or (exporters_of ws store) i no_exporter)

abbrev pub object_bytes_at : List ℕ → ℕ → List ℕ
object_bytes_at ws i = object_bytes (get_or (objects_of ws) i no_object)

abbrev pub interface_bytes_at : List ℕ → ℕ → List ℕ
interface_bytes_at ws i = interface_bytes (get_or (interfaces_of ws) i no_interface)

-- count k of interface i
abbrev pub count_bytes_at : List ℕ → ℕ → ℕ → List ℕ
count_bytes_at ws i k = encode 4 (count_of k (get_or (interfaces_of ws) i no_interface))

-- the OIDs of the objects in rising order
abbrev pub rising_oids : List ℕ → List ℕ
rising_oids ws = map (λ (o : Object). o.oid) (rising object_before (objects_of ws))

abbrev pub set_bytes_at : List ℕ → ℕ → List ℕ
set_bytes_at ws i = set_bytes (members_in_order (rising_oids ws) (get_or (sets_of ws) i no_set))

-- the OID of the object at row j, where it is a member
abbrev pub member_bytes_at : List ℕ → Members → ℕ → List ℕ
member_bytes_at ws m j = cond (has_member m j) (encode 8 (get_or (objects_of ws) j no_object).oid) []

-- the rows of the objects in rising order, in a table whose OIDs are nonzero and distinct, and where every member bit stands at a live
-- object's row
pub record ObjectsSorted (ws rows : List ℕ) : Type 0 where
  pub whole : Whole ws
  pub order : InOrder object_before no_object (objects_of ws) rows
  pub ids : proper (oids_of ws) ≡ true
  pub below : members_below ws ≡ true

-- ---- by section

-- the number of live rows
abbrev pub row_count : Section → List ℕ → ℕ
row_count Exporters ws = exporter_count ws
row_count Objects ws = object_count ws
row_count Interfaces ws = interface_count ws
row_count Sets ws = set_count ws

-- the bytes of row i
abbrev pub row_bytes : Section → List ℕ → List ℕ → ℕ → List ℕ
row_bytes Exporters ws store i = exporter_bytes_at ws store i
row_bytes Objects ws store i = object_bytes_at ws i
row_bytes Interfaces ws store i = interface_bytes_at ws i
row_bytes Sets ws store i = set_bytes_at ws i
