-- Which word and byte holds what, and the live entries that table and store hold. Every array of words and bytes decodes to some
-- entries, so that nothing but document 01's own rules makes a table unsound.
use Rattle.std.specs.Prelude.{ℕ, zero, suc, ◌+◌, ◌%◌, min, Bool, not, List, map, get_or, take, drop, eqb, ltb}
use Rattle.kinds.specs.declared.Guid.{Guid}
use Rattle.bindings.specs.Bindings.{list_length}
use Rattle.lists.specs.Lists.{tabulate, every, among}
use Rattle.table_columns.specs.Rows.{cell, row_at, rows}
use Rattle.table_columns.specs.Members.{member_rows}
use Rattle.table_columns.specs.declared.members.Members.{Members}
use Rattle.table_columns.specs.declared.rows.Kind.{Kind}
use Rattle.rules.specs.Entries.{Exporter, Object, Interface, PingSet, Entries, count_limit, sequence_limit}
use Rattle.table_words.specs.Kinds.{exporter_kind, object_kind, interface_kind, set_kind}
use Rattle.rules.specs.Calls.{Call, Reply}
use Rattle.rules.specs.Contract as contract
use Rattle.rules.specs.Contract.{Memory}

-- ---- the array: word 0 is the clock, word 1 the next set number, words 2 to 5 the numbers of live exporters, objects, interfaces
-- and sets, read as no more than their places; then the rows of each kind (`Kinds.antt` of `table_words`), the live ones first

abbrev pub clock_of : List ℕ → ℕ
clock_of ws = get_or ws 0 0

abbrev pub next_of : List ℕ → ℕ
next_of ws = get_or ws 1 0

-- the number of live rows of a kind, whose count is the word at
abbrev pub live_rows : ℕ → Kind → List ℕ → ℕ
live_rows at k ws = min (get_or ws at 0) k.places

abbrev pub exporter_count : List ℕ → ℕ
exporter_count ws = live_rows 2 exporter_kind ws

abbrev pub object_count : List ℕ → ℕ
object_count ws = live_rows 3 object_kind ws

abbrev pub interface_count : List ℕ → ℕ
interface_count ws = live_rows 4 interface_kind ws

abbrev pub set_count : List ℕ → ℕ
set_count ws = live_rows 5 set_kind ws

-- ---- the store: the lists of the live exporters end to end, in the order of their rows; the bytes behind the last one are free

-- the first byte of list i: a list begins where the one before it ends, and is as long as its own N says
unfoldable pub list_start : List ℕ → ℕ → ℕ
list_start store zero = 0
list_start store (suc i) = list_start store i + list_length (drop (list_start store i) store)

-- the bytes from there on
abbrev pub list_from : List ℕ → ℕ → List ℕ
list_from store i = drop (list_start store i) store

-- the list at their front; cut short where the store ends before it
abbrev pub list_at : List ℕ → ℕ → List ℕ
list_at store i = take (list_length (list_from store i)) (list_from store i)

-- ---- what a row stands for; a number narrower than a word is read modulo its width, a mark is a word other than 0

abbrev pub as_exporter : List ℕ → List ℕ → Exporter
as_exporter r list = record { oxid = get_or r 0 0; unknown = record { low = get_or r 1 0; high = get_or r 2 0 }; bindings = list }

abbrev pub as_object : List ℕ → Object
as_object r = record { oid = get_or r 0 0; exporter = get_or r 1 0; noping = not (eqb (get_or r 2 0) 0); heard = get_or r 3 0 }

abbrev pub as_interface : List ℕ → Interface
as_interface r =
    record {
      ipid = record { low = get_or r 0 0; high = get_or r 1 0 };
      iid = record { low = get_or r 2 0; high = get_or r 3 0 };
      object = get_or r 4 0;
      counts = map (λ (w : ℕ). w % count_limit) (drop 5 r);
    }

-- the values that stand at the members' rows
abbrev pub member_values : List ℕ → Members → List ℕ
member_values ids m = map (λ j. get_or ids j 0) (member_rows m)

-- a member is a bit at an object's row; the bit of a row that is not live stands for OID 0, which no live object has
abbrev pub as_set : List ℕ → List ℕ → PingSet
as_set ids r =
    record {
      number = get_or r 0 0;
      sequence = get_or r 1 0 % sequence_limit;
      pinged = get_or r 2 0;
      members = member_values ids (record { low = get_or r 3 0; high = get_or r 4 0 });
    }

-- ---- the live entries

unfoldable pub exporters_of : List ℕ → List ℕ → List Exporter
exporters_of ws store = tabulate (exporter_count ws) (λ i. as_exporter (row_at exporter_kind ws i) (list_at store i))

unfoldable pub objects_of : List ℕ → List Object
objects_of ws = map as_object (rows object_kind ws (object_count ws))

unfoldable pub interfaces_of : List ℕ → List Interface
interfaces_of ws = map as_interface (rows interface_kind ws (interface_count ws))

-- the IPIDs of the interfaces
abbrev pub ipids_of : List ℕ → List Guid
ipids_of ws = map (λ (i : Interface). i.ipid) (interfaces_of ws)

-- the OIDs of the objects
abbrev pub oids_of : List ℕ → List ℕ
oids_of ws = map (λ (o : Object). o.oid) (objects_of ws)

unfoldable pub sets_of : List ℕ → List PingSet
sets_of ws = map (as_set (oids_of ws)) (rows set_kind ws (set_count ws))

-- the members of the set at row r
abbrev pub members_at : List ℕ → ℕ → Members
members_at ws r = record { low = get_or ws (cell set_kind 3 r) 0; high = get_or ws (cell set_kind 4 r) 0 }

-- every member bit stands at a live object's row
unfoldable pub members_below : List ℕ → Bool
members_below ws =
    every (λ r. every (λ j. ltb j (object_count ws)) (member_rows (record { low = get_or r 3 0; high = get_or r 4 0 }))) (rows set_kind ws (set_count ws))

-- the members of every set are live
abbrev pub members_live_in : List ℕ → Bool
members_live_in ws = every (λ (s : PingSet). every (among (oids_of ws)) s.members) (sets_of ws)

abbrev pub view : Memory → Entries
view m =
    record {
      clock = clock_of m.words;
      next = next_of m.words;
      exporters = exporters_of m.words m.store;
      objects = objects_of m.words;
      interfaces = interfaces_of m.words;
      sets = sets_of m.words;
    }

abbrev pub memory : List ℕ → List ℕ → Memory
memory ws store = record { words = ws; store = store }

-- of the live entries of an array, whatever the store holds
abbrev pub Holds : (Entries → Type 0) → List ℕ → Type 0
Holds P ws = (s : List ℕ) → P (view (memory ws s))

-- ---- the contract of every call, over this view

-- document 01's sound, of what is lent
abbrev pub sound_memory : Memory → Bool
sound_memory m = contract.sound_memory view m

abbrev pub SoundTable : Memory → Type 0
SoundTable m = contract.SoundTable view m

abbrev pub Stepped : Call → Memory → Reply → Memory → Type 0
Stepped c m r m' = contract.Stepped view c m r m'

abbrev pub Performed : Call → Memory → Reply → Memory → Type 0
Performed c m r m' = contract.Performed view c m r m'
