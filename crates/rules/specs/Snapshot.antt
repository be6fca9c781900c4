-- The snapshot of a table (document 02, request 10; there it is called a sheet): its live entries as bytes, how entries are read of
-- bytes, and which bytes are the snapshot of a sound table.
use Rattle.std.specs.Prelude.{ℕ, zero, suc, ◌+◌, ◌*◌, Bool, cond, not, List, [], ◌∷◌, ◌++◌, map, length, get_or, take, drop, eqb, ltb, leb}
use Rattle.fields.specs.Fields.{encode, field, guid_at, guid_bytes}
use Rattle.bindings.specs.Bindings.{joined, same_words}
use Rattle.lists.specs.Lists.{keep, every, tabulate, among, holding}
use Rattle.lists.specs.Order.{rising, bytes_before}
use Rattle.rules.specs.Entries.{Exporter, Object, Interface, PingSet, Entries, exporter_places, object_places, interface_places, set_places, with_members}
use Rattle.rules.specs.Sound.{sound}

-- ---- order

-- each kind by its identifier, IPIDs by their bytes
abbrev pub exporter_before : Exporter → Exporter → Bool
exporter_before x y = ltb x.oxid y.oxid

abbrev pub object_before : Object → Object → Bool
object_before x y = ltb x.oid y.oid

abbrev pub interface_before : Interface → Interface → Bool
interface_before x y = bytes_before (guid_bytes x.ipid) (guid_bytes y.ipid)

abbrev pub set_before : PingSet → PingSet → Bool
set_before x y = ltb x.number y.number

-- a set whose members stand in the order of these OIDs, each once
abbrev pub members_in_order : List ℕ → PingSet → PingSet
members_in_order ids s = with_members (keep (among s.members) ids) s

-- the same entries: each kind rises by identifier, and the members of each set in the order of the objects rise too
unfoldable pub sorted : Entries → Entries
sorted e =
    let os : List Object = rising object_before e.objects in
    record {
      clock = e.clock;
      next = e.next;
      exporters = rising exporter_before e.exporters;
      objects = os;
      interfaces = rising interface_before e.interfaces;
      sets = rising set_before (map (members_in_order (map (λ (o : Object). o.oid) os)) e.sets);
    }

-- ---- the bytes of entries, numbers little-endian

-- elements in a row
unfoldable pub in_row : {A : Type 0} → (A → List ℕ) → List A → List ℕ
in_row bytes [] = []
in_row bytes (x ∷ xs) = bytes x ++ in_row bytes xs

-- a section: elements after their count, of two bytes
abbrev pub section : {A : Type 0} → (A → List ℕ) → List A → List ℕ
section bytes xs = encode 2 (length xs) ++ in_row bytes xs

-- OXID, remote-unknown IPID, list length, list
unfoldable pub exporter_bytes : Exporter → List ℕ
exporter_bytes x = joined (encode 8 x.oxid ∷ guid_bytes x.unknown ∷ encode 2 (length x.bindings) ∷ x.bindings ∷ [])

-- OID, OXID, no-ping (0 or 1), heard
unfoldable pub object_bytes : Object → List ℕ
object_bytes o = joined (encode 8 o.oid ∷ encode 8 o.exporter ∷ encode 1 (cond o.noping 1 0) ∷ encode 8 o.heard ∷ [])

-- IPID, IID, OID, the public and the eight private counts
unfoldable pub interface_bytes : Interface → List ℕ
interface_bytes i = joined (guid_bytes i.ipid ∷ guid_bytes i.iid ∷ encode 8 i.object ∷ in_row (encode 4) i.counts ∷ [])

-- number, sequence, ping time, member count and OIDs
unfoldable pub set_bytes : PingSet → List ℕ
set_bytes s = joined (encode 8 s.number ∷ encode 2 s.sequence ∷ encode 8 s.pinged ∷ section (encode 8) s.members ∷ [])

-- two numbers, clock and next set; exporters; objects; interfaces; sets
unfoldable pub sections : Entries → List ℕ
sections e =
    joined
    (section (encode 8) (e.clock ∷ e.next ∷ [])
    ∷ section exporter_bytes e.exporters
    ∷ section object_bytes e.objects
    ∷ section interface_bytes e.interfaces
    ∷ section set_bytes e.sets
    ∷ [])

-- the snapshot of live entries
abbrev pub snapshot_bytes : Entries → List ℕ
snapshot_bytes e = sections (sorted e)

-- ---- the entries in bytes. What is not there is read as 0 and as no bytes: `is_snapshot` refuses it

-- what stands at the front of bytes, and the bytes behind it
pub record Front (A : Type 0) : Type 0 where
  pub value : A
  pub rest : List ℕ

-- n elements in a row
unfoldable pub read_row : {A : Type 0} → (List ℕ → Front A) → ℕ → List ℕ → Front (List A)
read_row one zero s = record { value = []; rest = s }
read_row {A} one (suc n) s =
    let x : Front A = one s in
    let xs : Front (List A) = read_row one n x.rest in
    record { value = x.value ∷ xs.value; rest = xs.rest }

-- as many elements as their count says
abbrev pub read_section : {A : Type 0} → (List ℕ → Front A) → List ℕ → Front (List A)
read_section one s = read_row one (field s 0 2) (drop 2 s)

unfoldable pub read_number : List ℕ → Front ℕ
read_number s = record { value = field s 0 8; rest = drop 8 s }

unfoldable pub read_exporter : List ℕ → Front Exporter
read_exporter s =
    let n : ℕ = field s 24 2 in
    record { value = record { oxid = field s 0 8; unknown = guid_at s 8; bindings = take n (drop 26 s) }; rest = drop n (drop 26 s) }

unfoldable pub read_object : List ℕ → Front Object
read_object s =
    record { value = record { oid = field s 0 8; exporter = field s 8 8; noping = not (eqb (field s 16 1) 0); heard = field s 17 8 }; rest = drop 25 s }

unfoldable pub read_interface : List ℕ → Front Interface
read_interface s =
    record {
      value = record { ipid = guid_at s 0; iid = guid_at s 16; object = field s 32 8; counts = tabulate 9 (λ k. field s (40 + 4 * k) 4) };
      rest = drop 76 s;
    }

unfoldable pub read_set : List ℕ → Front PingSet
read_set s =
    let ms : Front (List ℕ) = read_section read_number (drop 18 s) in
    record { value = record { number = field s 0 8; sequence = field s 8 2; pinged = field s 10 8; members = ms.value }; rest = ms.rest }

-- the entries whose sections stand at the front of bytes
unfoldable pub entries_of : List ℕ → Entries
entries_of s =
    let n : Front (List ℕ) = read_section read_number s in
    let x : Front (List Exporter) = read_section read_exporter n.rest in
    let o : Front (List Object) = read_section read_object x.rest in
    let i : Front (List Interface) = read_section read_interface o.rest in
    let p : Front (List PingSet) = read_section read_set i.rest in
    record { clock = get_or n.value 0 0; next = get_or n.value 1 0; exporters = x.value; objects = o.value; interfaces = i.value; sets = p.value }

-- ---- which bytes are a snapshot

-- no kind has more entries than places
unfoldable pub placed : Entries → Bool
placed e =
    holding
    (leb (length e.exporters) exporter_places
    ∷ leb (length e.objects) object_places
    ∷ leb (length e.interfaces) interface_places
    ∷ leb (length e.sets) set_places
    ∷ [])

abbrev pub all_bytes : List ℕ → Bool
all_bytes s = every (λ (b : ℕ). ltb b 256) s

-- the snapshot of some sound table: the entries in these bytes have places, are sound, and have these bytes for their snapshot
unfoldable pub is_snapshot : List ℕ → Bool
is_snapshot s =
    holding
    (all_bytes s
    ∷ placed (entries_of s)
    ∷ sound (entries_of s)
    ∷ same_words (snapshot_bytes (entries_of s)) s
    ∷ [])
