-- The sections of a snapshot.
use Rattle.std.specs.Prelude.{ℕ, List}
use Rattle.rules.specs.Entries.{Entries}
use Rattle.rules.specs.Snapshot.{section, exporter_bytes, object_bytes, interface_bytes, set_bytes}
use Rattle.snapshot_rows.specs.declared.Section.{Section}
use Rattle.snapshot_rows.specs.declared.Section.TheVariants.{Exporters, Objects, Interfaces, Sets}

-- the bytes of a section of entries
abbrev pub section_of : Section → Entries → List ℕ
section_of Exporters e = section exporter_bytes e.exporters
section_of Objects e = section object_bytes e.objects
section_of Interfaces e = section interface_bytes e.interfaces
section_of Sets e = section set_bytes e.sets
