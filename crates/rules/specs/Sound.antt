-- Document 01's "sound", clause by clause in its order. A table is sound where its lengths are right and its live entries are sound.
use Rattle.std.specs.Prelude.{ℕ, ◌-◌, Bool, not, ◌&&◌, ◌||◌, List, [], ◌∷◌, length, eqb, ltb, leb}
use Rattle.kinds.specs.declared.Guid.{Guid}
use Rattle.bindings.specs.Bindings.{list_answer}
use Rattle.lists.specs.Lists.{every, some, nonzero, distinct, among, holding}
use Rattle.lists.specs.Guids.{nil, same_guid}
use Rattle.rules.specs.Entries.{Exporter, Object, Interface, PingSet, Entries, oxids, oids, set_numbers, ipids, lists_length}

-- the seconds after which what was not heard goes: three ping periods
abbrev pub timeout : ℕ
timeout = 360

-- the longest binding list of an exporter, in bytes
abbrev pub longest_list : ℕ
longest_list = 2048

-- the bytes of the store, which the lists share
abbrev pub store_bytes : ℕ
store_bytes = 8192

-- nonzero and distinct
abbrev pub proper : List ℕ → Bool
proper ns = nonzero ns && distinct eqb ns

abbrev pub proper_guids : List Guid → Bool
proper_guids gs = every (λ (g : Guid). not (same_guid g nil)) gs && distinct same_guid gs

-- some reference is held: the public count or one of the private ones is not zero
abbrev pub held : Interface → Bool
held i = some (λ (n : ℕ). not (eqb n 0)) i.counts

abbrev pub has_interface : Entries → Object → Bool
has_interface e o = some (λ (i : Interface). eqb o.oid i.object) e.interfaces

-- t is so far back from the time now that what was last heard at t goes
abbrev pub overdue : ℕ → ℕ → Bool
overdue now t = leb timeout (now - t)

-- an object that is not pinged, or not overdue at the time now; a set that is not overdue then
abbrev pub heard_within : ℕ → Object → Bool
heard_within now o = o.noping || not (overdue now o.heard)

abbrev pub pinged_within : ℕ → PingSet → Bool
pinged_within now s = not (overdue now s.pinged)

-- ---- the clauses, in the document's order

-- interfaces name live objects and objects live exporters
abbrev pub interface_objects_live : Entries → Bool
interface_objects_live e = every (λ (i : Interface). among (oids e) i.object) e.interfaces

abbrev pub object_exporters_live : Entries → Bool
object_exporters_live e = every (λ (o : Object). among (oxids e) o.exporter) e.objects

-- each object has an interface, each interface a nonzero count
abbrev pub objects_have_interfaces : Entries → Bool
objects_have_interfaces e = every (has_interface e) e.objects

abbrev pub interfaces_held : Entries → Bool
interfaces_held e = every held e.interfaces

-- members are live objects
abbrev pub set_members_live : Entries → Bool
set_members_live e = every (λ (s : PingSet). every (among (oids e)) s.members) e.sets

-- heard and ping times are not above the clock
abbrev pub heard_before : Entries → Bool
heard_before e = every (λ (o : Object). leb o.heard e.clock) e.objects

abbrev pub pinged_before : Entries → Bool
pinged_before e = every (λ (s : PingSet). leb s.pinged e.clock) e.sets

-- and for sets and pinged objects under 360 below it
abbrev pub heard_recently : Entries → Bool
heard_recently e = every (heard_within e.clock) e.objects

abbrev pub pinged_recently : Entries → Bool
pinged_recently e = every (pinged_within e.clock) e.sets

-- live set numbers are below the next set number
abbrev pub sets_below_next : Entries → Bool
sets_below_next e = every (λ (n : ℕ). ltb n e.next) (set_numbers e)

-- each exporter's list keeps the list rules and is at most 2,048 bytes
abbrev pub lists_kept : Entries → Bool
lists_kept e = every (λ (x : Exporter). eqb (list_answer x.bindings) 0 && leb (length x.bindings) longest_list) e.exporters

-- the lists lie inside the store: together they are no longer than it (document 02, request 12)
abbrev pub lists_inside : Entries → Bool
lists_inside e = leb (lists_length e.exporters) store_bytes

-- document 01's "sound", of the live entries
unfoldable pub sound : Entries → Bool
sound e =
    holding
    -- live identifiers are nonzero and distinct within their kind
    (proper (oxids e)
    ∷ proper (oids e)
    ∷ proper_guids (ipids e)
    ∷ proper (set_numbers e)
    ∷ interface_objects_live e
    ∷ object_exporters_live e
    ∷ objects_have_interfaces e
    ∷ interfaces_held e
    ∷ set_members_live e
    ∷ heard_before e
    ∷ pinged_before e
    ∷ heard_recently e
    ∷ pinged_recently e
    -- the next set number is not zero
    ∷ not (eqb e.next 0)
    ∷ sets_below_next e
    ∷ lists_kept e
    ∷ lists_inside e
    ∷ [])

-- ---- the same clauses in groups, as they are judged

-- the identifiers of exporters and objects, and what names them
abbrev pub naming_clauses : Entries → List Bool
naming_clauses e = proper (oxids e) ∷ object_exporters_live e ∷ proper (oids e) ∷ interface_objects_live e ∷ objects_have_interfaces e ∷ []

abbrev pub exporter_clauses : Entries → List Bool
exporter_clauses e = lists_kept e ∷ lists_inside e ∷ []

abbrev pub object_clauses : Entries → List Bool
object_clauses e = heard_before e ∷ heard_recently e ∷ []

abbrev pub interface_clauses : Entries → List Bool
interface_clauses e = proper_guids (ipids e) ∷ interfaces_held e ∷ []

abbrev pub set_clauses : Entries → List Bool
set_clauses e = proper (set_numbers e) ∷ pinged_before e ∷ pinged_recently e ∷ sets_below_next e ∷ not (eqb e.next 0) ∷ set_members_live e ∷ []

-- `sound` is these five together: `sound-groups`
abbrev pub groups : Entries → List Bool
groups e = holding (exporter_clauses e) ∷ holding (naming_clauses e) ∷ holding (object_clauses e) ∷ holding (interface_clauses e) ∷ holding (set_clauses e) ∷ []
