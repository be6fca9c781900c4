-- The rows of each kind in the array: its first word, its places, and the words of a row, each in a column of its own.
use Rattle.table_columns.specs.declared.rows.Kind.{Kind}
use Rattle.rules.specs.Entries.{exporter_places, object_places, interface_places, set_places}

-- OXID, remote-unknown IPID (low, high)
abbrev pub exporter_kind : Kind
exporter_kind = record { base = 16; places = exporter_places; width = 3 }

-- number, sequence number, ping time, members (low, high)
abbrev pub set_kind : Kind
set_kind = record { base = 64; places = set_places; width = 5 }

-- OID, OXID, no-ping mark, time last heard
abbrev pub object_kind : Kind
object_kind = record { base = 256; places = object_places; width = 4 }

-- IPID (low, high), IID (low, high), OID, public count, the private counts of clients 0 to 7
abbrev pub interface_kind : Kind
interface_kind = record { base = 768; places = interface_places; width = 14 }
