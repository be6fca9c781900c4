-- Swapping a box (document 02, request 10): what is promised of snapshots, on entries. Statements only.
use Rattle.std.specs.Prelude.{ℕ, ◌+◌, ◌*◌, ◌^◌, ◌<◌, ◌≤◌, ◌≡◌, true, length, ltb}
use mathlib.Core.List.{List, map, Memᴰ}
use Rattle.kinds.specs.declared.Guid.{Guid}
use Rattle.fields.specs.Fields.{guid_bytes, Bytes, GuidFits}
use Rattle.bindings.specs.Bindings.{joined}
use Rattle.lists.specs.Lists.{keep, every, among}
use Rattle.lists.specs.Order.{ascending, bytes_before}
use Rattle.rules.specs.Entries.{Exporter, Object, Interface, PingSet, Entries, count_limit, sequence_limit, oxids, oids, set_numbers, interface_ipids, lists_length, Ordered}
use Rattle.rules.specs.Sound.{sound}
use Rattle.rules.specs.Snapshot.{sorted, sections, snapshot_bytes, entries_of, placed, is_snapshot}

-- ---- entries that fit a snapshot, as those of every table do: numbers are no wider than their fields, lists are bytes, counts are
-- nine, and no kind has more entries than places

-- of each element
abbrev pub Each : {A : Type 0} → (A → Type 0) → List A → Type 0
Each {A} P xs = (x : A) → Memᴰ x xs → P x

pub record ExporterFits (x : Exporter) : Type 0 where
  pub oxid : x.oxid < 2 ^ 64
  pub unknown : GuidFits x.unknown
  pub size : length x.bindings < 2 ^ 16
  pub bytes : Bytes x.bindings

pub record ObjectFits (o : Object) : Type 0 where
  pub oid : o.oid < 2 ^ 64
  pub exporter : o.exporter < 2 ^ 64
  pub heard : o.heard < 2 ^ 64

pub record InterfaceFits (i : Interface) : Type 0 where
  pub ipid : GuidFits i.ipid
  pub iid : GuidFits i.iid
  pub object : i.object < 2 ^ 64
  pub nine : length i.counts ≡ 9
  pub counts : Each (λ n. n < count_limit) i.counts

pub record SetFits (s : PingSet) : Type 0 where
  pub number : s.number < 2 ^ 64
  pub sequence : s.sequence < sequence_limit
  pub pinged : s.pinged < 2 ^ 64
  pub size : length s.members < 2 ^ 16
  pub members : Each (λ k. k < 2 ^ 64) s.members

pub record Fits (e : Entries) : Type 0 where
  pub clock : e.clock < 2 ^ 64
  pub next : e.next < 2 ^ 64
  pub exporters : Each ExporterFits e.exporters
  pub objects : Each ObjectFits e.objects
  pub interfaces : Each InterfaceFits e.interfaces
  pub sets : Each SetFits e.sets
  pub places : placed e ≡ true

-- ---- the statements

-- each section and member list rises by identifier, IPIDs by their bytes in order
pub record Rises (e : Entries) : Type 0 where
  pub exporters : ascending ltb (oxids e) ≡ true
  pub objects : ascending ltb (oids e) ≡ true
  pub interfaces : ascending (λ (g h : Guid). bytes_before (guid_bytes g) (guid_bytes h)) (interface_ipids e) ≡ true
  pub sets : ascending ltb (set_numbers e) ≡ true
  pub members : every (λ (s : PingSet). ascending ltb s.members) e.sets ≡ true

abbrev pub SectionsRise : Type 0
SectionsRise = (e : Entries) → sound e ≡ true → Fits e → Rises (sorted e)

-- what was written is read back
abbrev pub ReadsBack : Type 0
ReadsBack = (e : Entries) → Fits e → entries_of (sections e) ≡ e

-- a snapshot tells its entries: those with the same one differ in order alone
abbrev pub OneForm : Type 0
OneForm = (e f : Entries) → Fits e → Fits f → snapshot_bytes e ≡ snapshot_bytes f → sorted e ≡ sorted f

-- the bytes are the snapshot of sound entries that fit
pub record SoundSnapshot (s : List ℕ) : Type 0 where
  pub entries : Entries
  pub sound : sound entries ≡ true
  pub fits : Fits entries
  pub bytes : snapshot_bytes entries ≡ s

-- a load accepts exactly these
abbrev pub Loads : Type 0
Loads = (s : List ℕ) → (is_snapshot s ≡ true → SoundSnapshot s) × (SoundSnapshot s → is_snapshot s ≡ true)

-- what one box writes, another loads: the same entries, in the order of the snapshot
pub record Swapped (e : Entries) : Type 0 where
  pub accepted : is_snapshot (snapshot_bytes e) ≡ true
  pub entries : entries_of (snapshot_bytes e) ≡ sorted e
  -- and writes again
  pub again : snapshot_bytes (sorted e) ≡ snapshot_bytes e

abbrev pub Swaps : Type 0
Swaps = (e : Entries) → sound e ≡ true → Fits e → Swapped e

-- the members that a snapshot holds stand in the order of its objects: what a history that begins there asks
abbrev pub LoadsOrdered : Type 0
LoadsOrdered = (s : List ℕ) → is_snapshot s ≡ true → Ordered (entries_of s)

-- ---- how long a snapshot is

-- the members that are written of all sets
abbrev pub members_written : Entries → ℕ
members_written e = length (joined (map (λ (s : PingSet). keep (among s.members) (oids e)) e.sets))

-- by the entries in any order: five counts and two numbers, then 26 bytes and its list for an exporter, 25 for an object, 76 for an
-- interface, 20 and its members for a set
abbrev pub snapshot_size : Entries → ℕ
snapshot_size e =
    26
    + (26 * length e.exporters + lists_length e.exporters)
    + 25 * length e.objects
    + 76 * length e.interfaces
    + (20 * length e.sets + 8 * members_written e)

abbrev pub SnapshotLength : Type 0
SnapshotLength = (e : Entries) → Each (λ i. length i.counts ≡ 9) e.interfaces → length (snapshot_bytes e) ≡ snapshot_size e

-- the longest snapshot: 16 exporters with 8,192 bytes of lists, 128 objects, 256 interfaces, 32 sets of 128 members
abbrev pub longest_snapshot : ℕ
longest_snapshot = 64698

abbrev pub SnapshotInside : Type 0
SnapshotInside = (e : Entries) → sound e ≡ true → Fits e → length (snapshot_bytes e) ≤ longest_snapshot
