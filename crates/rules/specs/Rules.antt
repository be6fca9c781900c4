-- Document 01, "The calls" and "Where to go next", on the live entries of a sound table: for each call its refusals in their order,
-- the entries after it where it is accepted, and what it answers then. Answer 1 comes before all of this (Contract.antt).
use Rattle.std.specs.Prelude.{ℕ, suc, ◌+◌, ◌-◌, ◌^◌, ◌%◌, min, Bool, true, false, cond, not, ◌&&◌, ◌||◌, List, [], ◌∷◌, ◌++◌, map, length, drop, replicate, eqb, ltb, leb}
use Rattle.kinds.specs.Refusals.{Row, order, ◌gives◌, passes}
use Rattle.kinds.specs.declared.Guid.{Guid}
use Rattle.fields.specs.Fields.{field}
use Rattle.bindings.specs.Bindings.{list_answer}
use Rattle.bindings.specs.Filter.{filtered}
use Rattle.references.specs.References.{reference_answer, reference_at, is_custom, tail_of}
use Rattle.lists.specs.Lists.{keep, some, every, first_or, among}
use Rattle.lists.specs.Guids.{nil, same_guid}
use Rattle.rules.specs.Entries.{Exporter, Object, Interface, PingSet, Entries, exporter_places, object_places, interface_places, set_places, count_limit, sequence_limit}
use Rattle.rules.specs.Entries.{fresh, oxids, oids, set_numbers, interface_ipids, ipids, lists_length, with_clock, with_next, with_exporters, with_objects, with_interfaces}
use Rattle.rules.specs.Entries.{with_sets, heard_at, public_of, private_of, at_count, at_counts, pinged_at, with_sequence, with_members, with_members_of}
use Rattle.rules.specs.Calls.{Call, starting, looking, editing, Counting, adding, releasing, reset, enter_exporter, remove_exporter, enter_object, enter_interface, add, release, drop_client}
use Rattle.rules.specs.Calls.{count_list, simple_ping, complex_ping, clock, resolve, resolve_filtered, census, members, next_stop, write_snapshot, load_snapshot, Reply, Results, only}
use Rattle.rules.specs.Items.{Item, item_size, item_count, items_of, item_call}
use Rattle.rules.specs.Sound.{longest_list, store_bytes, held, has_interface, heard_within, pinged_within}
use Rattle.rules.specs.Snapshot.{snapshot_bytes, entries_of, is_snapshot}

-- ---- tests on the entries

abbrev pub is_live_exporter : Entries → ℕ → Bool
is_live_exporter e x = among (oxids e) x

abbrev pub is_live_object : Entries → ℕ → Bool
is_live_object e o = among (oids e) o

abbrev pub is_live_interface : Entries → Guid → Bool
is_live_interface e i = some (same_guid i) (interface_ipids e)

abbrev pub is_live_set : Entries → ℕ → Bool
is_live_set e s = among (set_numbers e) s

-- an identifier to be entered is zero or already live
abbrev bad_oxid : Entries → ℕ → Bool
bad_oxid e x = eqb x 0 || is_live_exporter e x

abbrev bad_oid : Entries → ℕ → Bool
bad_oid e o = eqb o 0 || is_live_object e o

abbrev bad_ipid : Entries → Guid → Bool
bad_ipid e i = same_guid i nil || some (same_guid i) (ipids e)

-- ---- the entry of a live identifier; zeros where it is not live

abbrev pub no_exporter : Exporter
no_exporter = record { oxid = 0; unknown = nil; bindings = [] }

abbrev pub no_object : Object
no_object = record { oid = 0; exporter = 0; noping = false; heard = 0 }

abbrev pub no_interface : Interface
no_interface = record { ipid = nil; iid = nil; object = 0; counts = [] }

abbrev pub no_set : PingSet
no_set = record { number = 0; sequence = 0; pinged = 0; members = [] }

abbrev pub exporter_of : Entries → ℕ → Exporter
exporter_of e x = first_or no_exporter (λ (p : Exporter). eqb x p.oxid) e.exporters

abbrev pub interface_of : Entries → Guid → Interface
interface_of e i = first_or no_interface (λ (p : Interface). same_guid i p.ipid) e.interfaces

abbrev pub set_of : Entries → ℕ → PingSet
set_of e s = first_or no_set (λ (p : PingSet). eqb s p.number) e.sets

-- the OXID that an accepted reference names
abbrev pub oxid_of : List ℕ → ℕ
oxid_of r = (reference_at r).block.oxid.0

-- ---- numbers

abbrev pub flag : Bool → ℕ
flag b = cond b 1 0

-- as many live entries as places, or more
abbrev full : {A : Type 0} → ℕ → List A → Bool
full places xs = leb places (length xs)

-- 4,294,967,295 is the largest count
abbrev pub passes_count : ℕ → Bool
passes_count n = leb count_limit n

-- so many bytes of lists do not fit into the store
abbrev pub passes_store : ℕ → Bool
passes_store n = ltb store_bytes n

-- clients are 0 to 7
abbrev pub no_client : ℕ → Bool
no_client c = ltb 7 c

-- the most identifiers, protocols or items of a list
abbrev pub most_listed : ℕ
most_listed = 65535

abbrev pub too_many : List ℕ → Bool
too_many ids = ltb most_listed (length ids)

-- (new - last) modulo 65,536 is 0 or above 32,767
abbrev pub stale_sequence : ℕ → ℕ → Bool
stale_sequence last new =
    let d : ℕ = (new + sequence_limit - last) % sequence_limit in
    eqb d 0 || ltb 32767 d

-- ---- the refusals of each call, in their order

-- of a new exporter's list
abbrev pub list_refusals : List ℕ → Entries → List Row
list_refusals b e =
    passes (list_answer b)
    ∷ ltb longest_list (length b) gives 19
    ∷ (full exporter_places e.exporters || passes_store (lists_length e.exporters + length b)) gives 9
    ∷ []

unfoldable pub refusals : Call → Entries → List Row
refusals (starting (reset t)) e = []
refusals (editing (enter_exporter x u b)) e = (bad_oxid e x || bad_ipid e u) gives 3 ∷ list_refusals b e
refusals (editing (remove_exporter x)) e = not (is_live_exporter e x) gives 4 ∷ []
refusals (editing (enter_object o x i iid n np)) e =
    (bad_oid e o || bad_ipid e i) gives 3
    ∷ not (is_live_exporter e x) gives 4
    ∷ eqb n 0 gives 7
    ∷ (full object_places e.objects || full interface_places e.interfaces) gives 9
    ∷ []
refusals (editing (enter_interface o i iid n)) e =
    bad_ipid e i gives 3
    ∷ not (is_live_object e o) gives 5
    ∷ eqb n 0 gives 7
    ∷ full interface_places e.interfaces gives 9
    ∷ []
refusals (editing (add c i p q)) e =
    no_client c gives 20
    ∷ not (is_live_interface e i) gives 6
    ∷ (passes_count (public_of (interface_of e i) + p) || passes_count (private_of c (interface_of e i) + q)) gives 8
    ∷ []
refusals (editing (release c i p q)) e = no_client c gives 20 ∷ not (is_live_interface e i) gives 6 ∷ []
refusals (editing (drop_client c)) e = no_client c gives 20 ∷ []
refusals (count_list w c s b) e =
    no_client c gives 20
    ∷ not (eqb (length s % item_size) 0) gives 13
    ∷ ltb most_listed (item_count s) gives 10
    ∷ ltb (length b) (item_count s) gives 15
    ∷ []
refusals (editing (simple_ping s)) e = (eqb s 0 || not (is_live_set e s)) gives 11 ∷ []
refusals (editing (complex_ping s n adds dels)) e =
    (too_many adds || too_many dels) gives 10
    ∷ cond (eqb s 0)
    (not (every (is_live_object e) adds) gives 5
    ∷ full set_places e.sets gives 9
    ∷ eqb e.next (2 ^ 64 - 1) gives 18
    ∷ [])
    (not (is_live_set e s) gives 11
    ∷ stale_sequence (set_of e s).sequence n gives 12
    ∷ not (every (is_live_object e) adds) gives 5
    ∷ [])
refusals (editing (clock t)) e = ltb t e.clock gives 2 ∷ []
refusals (looking (resolve x buffer)) e =
    not (is_live_exporter e x) gives 4
    ∷ ltb (length buffer) (length (exporter_of e x).bindings) gives 15
    ∷ []
refusals (looking (resolve_filtered x protocols buffer)) e =
    too_many protocols gives 10
    ∷ not (is_live_exporter e x) gives 4
    ∷ ltb (length buffer) (length (filtered protocols (exporter_of e x).bindings)) gives 15
    ∷ []
refusals (looking census) e = []
refusals (looking (members s)) e = not (is_live_set e s) gives 11 ∷ []
refusals (looking (next_stop r)) e = passes (reference_answer r) ∷ is_custom (field r 4 4) gives 14 ∷ []
refusals (looking (write_snapshot buffer)) e = ltb (length buffer) (length (snapshot_bytes e)) gives 15 ∷ []
refusals (starting (load_snapshot s)) e = not (is_snapshot s) gives 23 ∷ []

unfoldable pub number : Call → Entries → ℕ
number c e = order (refusals c e)

-- ---- the entries after an accepted call

-- the objects that stay, and of interfaces and members those whose object stays
abbrev pub without_objects : (Object → Bool) → Entries → Entries
without_objects stays e =
    let f : Entries = with_objects (keep stays e.objects) e in
    with_interfaces (keep (λ (i : Interface). is_live_object f i.object) e.interfaces) (with_members_of (is_live_object f) f)

-- the interfaces changed whose IPID passes a test
abbrev pub at_interfaces : (Guid → Bool) → (Interface → Interface) → Entries → Entries
at_interfaces t f e = with_interfaces (map (λ (p : Interface). cond (t p.ipid) (f p) p) e.interfaces) e

-- the interface i alone changed
abbrev pub at_interface : Guid → (Interface → Interface) → Entries → Entries
at_interface i f e = at_interfaces (same_guid i) f e

-- every interface changed
abbrev pub any_ipid : Guid → Bool
any_ipid g = true

-- the set s alone changed
abbrev pub at_set : ℕ → (PingSet → PingSet) → Entries → Entries
at_set s f e = with_sets (map (λ (p : PingSet). cond (eqb s p.number) (f p) p) e.sets) e

-- an interface whose counts are all zero goes; an object without interfaces goes, from its sets too
abbrev pub drop_empty : Entries → Entries
drop_empty e =
    let f : Entries = with_interfaces (keep held e.interfaces) e in
    without_objects (has_interface f) f

-- the objects with these OIDs are heard now
abbrev pub heard_now : List ℕ → Entries → Entries
heard_now ms e = with_objects (map (λ (o : Object). cond (among ms o.oid) (heard_at e.clock o) o) e.objects) e

-- the set's ping time and every member's heard time become the clock
abbrev pub ping : ℕ → Entries → Entries
ping s e = at_set s (pinged_at e.clock) (heard_now (set_of e s).members e)

-- adds come before deletes; the members stand in the order of the objects
abbrev pub new_members : Entries → List ℕ → List ℕ → List ℕ → List ℕ
new_members e adds dels ms = keep (λ (o : ℕ). (among ms o || among adds o) && not (among dels o)) (oids e)

-- the number of the set that a complex ping is about: set 0 stands for the set that it makes
abbrev pub ping_set_number : ℕ → ℕ → ℕ
ping_set_number s next = cond (eqb s 0) next s

-- a new set with the next number, which grows by one
abbrev pub make_set : Entries → Entries
make_set e = with_next (e.next + 1) (with_sets (e.sets ++ (record { number = e.next; sequence = 0; pinged = e.clock; members = [] } ∷ [])) e)

-- an interface is entered with a public count; every client's private count is 0
abbrev pub entered_counts : ℕ → List ℕ
entered_counts n = n ∷ replicate 8 0

-- what add, release and the drop make of an interface; a count less a larger number is 0
abbrev pub increased : ℕ → ℕ → ℕ → Interface → Interface
increased c p q = at_counts c (λ (n : ℕ). n + p) (λ (n : ℕ). n + q)

abbrev pub decreased : ℕ → ℕ → ℕ → Interface → Interface
decreased c p q = at_counts c (λ (n : ℕ). n - p) (λ (n : ℕ). n - q)

abbrev pub emptied : ℕ → Interface → Interface
emptied c = at_count (suc c) (λ (n : ℕ). 0)

-- references counted, one way or the other
abbrev pub counted : Counting → ℕ → Guid → ℕ → ℕ → Entries → Entries
counted adding c i p q e = at_interface i (increased c p q) e
counted releasing c i p q e = drop_empty (at_interface i (decreased c p q) e)

-- an item done: the entries as they are where its call is refused
abbrev pub item_done : Counting → ℕ → Item → Entries → Entries
item_done w c t e = cond (eqb (number (item_call w c t) e) 0) (counted w c t.ipid t.public t.private e) e

-- items done one by one from the left, and their numbers
unfoldable pub items_done : Counting → ℕ → List Item → Entries → Entries
items_done w c [] e = e
items_done w c (t ∷ ts) e = items_done w c ts (item_done w c t e)

unfoldable pub item_numbers : Counting → ℕ → List Item → Entries → List ℕ
item_numbers w c [] e = []
item_numbers w c (t ∷ ts) e = number (item_call w c t) e ∷ item_numbers w c ts (item_done w c t e)

unfoldable pub next : Call → Entries → Entries
next (starting (reset t)) e = fresh t
next (editing (enter_exporter x u b)) e = with_exporters (e.exporters ++ (record { oxid = x; unknown = u; bindings = b } ∷ [])) e
next (editing (remove_exporter x)) e =
    with_exporters (keep (λ (p : Exporter). not (eqb x p.oxid)) e.exporters)
    (without_objects (λ (o : Object). not (eqb x o.exporter)) e)
next (editing (enter_object o x i iid n np)) e =
    with_objects (e.objects ++ (record { oid = o; exporter = x; noping = np; heard = e.clock } ∷ []))
    (with_interfaces (e.interfaces ++ (record { ipid = i; iid = iid; object = o; counts = entered_counts n } ∷ [])) e)
next (editing (enter_interface o i iid n)) e =
    with_interfaces (e.interfaces ++ (record { ipid = i; iid = iid; object = o; counts = entered_counts n } ∷ [])) e
next (editing (add c i p q)) e = counted adding c i p q e
next (editing (release c i p q)) e = counted releasing c i p q e
next (editing (drop_client c)) e = drop_empty (at_interfaces any_ipid (emptied c) e)
next (count_list w c s b) e = items_done w c (items_of s) e
next (editing (simple_ping s)) e = ping s e
next (editing (complex_ping s n adds dels)) e =
    let k : ℕ = ping_set_number s e.next in
    ping k
    (at_set k (λ (p : PingSet). with_sequence n (with_members (new_members e adds dels p.members) p))
    (cond (eqb s 0) (make_set e) e))
next (editing (clock t)) e =
    let f : Entries = without_objects (heard_within t) e in
    with_clock t (with_sets (keep (pinged_within t) f.sets) f)
next (looking l) e = e
-- what was there is forgotten; the entries stand in the snapshot's order
next (starting (load_snapshot s)) e = entries_of s

-- ---- what an accepted call answers

-- the live numbers of the four kinds
abbrev pub live_numbers : Entries → List ℕ
live_numbers e = length e.exporters ∷ length e.objects ∷ length e.interfaces ∷ length e.sets ∷ []

-- what was taken, public and private, and whether interface and object went
abbrev pub release_values : ℕ → Guid → ℕ → ℕ → Entries → Entries → List ℕ
release_values c i p q e after =
    min p (public_of (interface_of e i))
    ∷ min q (private_of c (interface_of e i))
    ∷ flag (not (is_live_interface after i))
    ∷ flag (not (is_live_object after (interface_of e i).object))
    ∷ []

-- how many of a kind went
abbrev went : {A : Type 0} → List A → List A → ℕ
went before after = length before - length after

-- the exporters (always 0), objects, interfaces and sets that went
abbrev pub clock_values : Entries → Entries → List ℕ
clock_values e after =
    went e.exporters after.exporters
    ∷ went e.objects after.objects
    ∷ went e.interfaces after.interfaces
    ∷ went e.sets after.sets
    ∷ []

-- bytes written at the front of a buffer; the rest is kept
abbrev pub fronted : List ℕ → List ℕ → List ℕ
fronted front buffer = front ++ drop (length front) buffer

unfoldable pub results : Call → Entries → Results
results (starting (reset t)) e = only []
results (editing (enter_exporter x u b)) e = only []
results (editing (remove_exporter x)) e = only []
results (editing (enter_object o x i iid n np)) e = only []
results (editing (enter_interface o i iid n)) e = only []
results (editing (add c i p q)) e = only []
results (editing (release c i p q)) e = only (release_values c i p q e (next (editing (release c i p q)) e))
results (editing (drop_client c)) e = only []
-- a byte for each item at the front of the buffer
results (count_list w c s b) e = record { values = []; part = []; front = item_numbers w c (items_of s) e; buffer = b }
results (editing (simple_ping s)) e = only []
-- the set's number, and the backoff factor
results (editing (complex_ping s n adds dels)) e = only (ping_set_number s e.next ∷ 0 ∷ [])
results (editing (clock t)) e = only (clock_values e (next (editing (clock t)) e))
-- the list's length and the remote-unknown IPID; the list at the front of the buffer
results (looking (resolve x buffer)) e =
    let p : Exporter = exporter_of e x in
    record { values = length p.bindings ∷ p.unknown.low ∷ p.unknown.high ∷ []; part = []; front = p.bindings; buffer = buffer }
-- the same of the list with only the requested string bindings
results (looking (resolve_filtered x protocols buffer)) e =
    let p : Exporter = exporter_of e x in
    let list : List ℕ = filtered protocols p.bindings in
    record { values = length list ∷ p.unknown.low ∷ p.unknown.high ∷ []; part = []; front = list; buffer = buffer }
results (looking census) e = only (live_numbers e)
results (looking (members s)) e = only (length (set_of e s).members ∷ [])
-- a part of the store where the OXID is live, else a part of the reference; and which of the two it is: 1 for the store
results (looking (next_stop r)) e =
    record {
      values = flag (is_live_exporter e (oxid_of r)) ∷ [];
      part = cond (is_live_exporter e (oxid_of r)) (exporter_of e (oxid_of r)).bindings (tail_of r);
      front = [];
      buffer = [];
    }
-- the snapshot's length; the snapshot at the front of the buffer
results (looking (write_snapshot buffer)) e = record { values = length (snapshot_bytes e) ∷ []; part = []; front = snapshot_bytes e; buffer = buffer }
results (starting (load_snapshot s)) e = only []

-- document 01, "Answer numbers": a refusal returns its number, zero in every other result, an empty part, and keeps the buffer
unfoldable pub refused_reply : ℕ → Call → Entries → Reply
refused_reply n c e = record { number = n; values = map (λ (v : ℕ). 0) (results c e).values; part = []; buffer = (results c e).buffer }

unfoldable pub accepted_reply : Call → Entries → Reply
accepted_reply c e =
    let r : Results = results c e in
    record { number = 0; values = r.values; part = r.part; buffer = fronted r.front r.buffer }

unfoldable pub reply : Call → Entries → Reply
reply c e = cond (eqb (number c e) 0) (accepted_reply c e) (refused_reply (number c e) c e)
