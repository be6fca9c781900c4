-- Demand 3: the state after a whole run of calls that begins with an accepted reset or load. Statements only.
use Rattle.std.specs.Prelude.{ℕ, ◌+◌, ◌≡◌, Bool, true, false, cond, not, ◌&&◌, ◌||◌, List, [], ◌∷◌, ◌++◌, map, length, get_or, eqb, ltb, leb}
use Rattle.kinds.specs.declared.Guid.{Guid}
use Rattle.kinds.specs.Refusals.{Row, order}
use Rattle.bindings.specs.Bindings.{joined}
use Rattle.lists.specs.Lists.{keep, every, distinct, some, tabulate}
use Rattle.lists.specs.Guids.{same_guid}
use Rattle.rules.specs.Entries.{Exporter, Object, Interface, PingSet, Entries, fresh, oxids, oids, set_numbers, ipids, Ordered, count_of, exporter_places, object_places, interface_places, set_places}
use Rattle.rules.specs.Calls.{Call, starting, looking, editing, enter_exporter, remove_exporter, enter_object, enter_interface}
use Rattle.rules.specs.Calls.{add, release, drop_client, count_list, simple_ping, complex_ping, clock, Reply}
use Rattle.rules.specs.Items.{item_at, item_count, item_call}
use Rattle.rules.specs.Sound.{sound}
use Rattle.rules.specs.Rules.{is_live_exporter, is_live_object, interface_of, refusals, number, release_values, clock_values}
use Rattle.rules.specs.Contract.{Memory}
use Rattle.table_view.specs.View.{view, sound_memory, Performed}
use Rattle.history.specs.History.{ObjectLife, InterfaceLife, History, begin, begins, interfaces_at_zero, exporter_removed}
use Rattle.history.specs.History.{unheard, live_interface, live, feed, feed_all, replies, numbers, stays_gone, account_of}

-- ---- the sentences of demand 3, as tests

-- two tests agree
abbrev pub agree : Bool → Bool → Bool
agree a b = cond a b (not b)

-- the rows above the first that gives n
unfoldable pub above : ℕ → List Row → List Row
above n [] = []
above n (r ∷ rs) = cond (eqb r.number n) [] (r ∷ above n rs)

-- live identifiers are distinct within their kind
unfoldable pub distinct_identifiers : Entries → Bool
distinct_identifiers e = distinct eqb (oxids e) && distinct eqb (oids e) && distinct same_guid (ipids e) && distinct eqb (set_numbers e)

-- each interface has one live object and at least one reference
unfoldable pub one_object : Entries → Bool
one_object e = every (λ (i : Interface). eqb (length (keep (λ (o : Object). eqb i.object o.oid) e.objects)) 1) e.interfaces

unfoldable pub some_reference : Entries → Bool
some_reference e = every (λ (i : Interface). some (ltb 0) i.counts) e.interfaces

-- each object has a live exporter
unfoldable pub objects_exported : Entries → Bool
objects_exported e = every (λ (o : Object). is_live_exporter e o.exporter) e.objects

-- each set member is live
unfoldable pub members_live : Entries → Bool
members_live e = every (λ (s : PingSet). every (is_live_object e) s.members) e.sets

-- each of the nine counts, with what releases and drops took of it, is what was granted of it since the interface was entered
unfoldable pub counts_granted : History → Entries → Bool
counts_granted h e =
    every
    (λ (l : InterfaceLife).
    not (live_interface h l)
    || every (λ (k : ℕ). eqb (count_of k (interface_of e l.ipid) + (account_of k l).taken) (account_of k l).granted) (tabulate 9 (λ k. k)))
    h.interfaces

-- no later life has the OID
abbrev pub is_latest : History → ObjectLife → Bool
is_latest h o = every (λ (p : ObjectLife). not (eqb o.oid p.oid) || leb p.serial o.serial) h.objects

-- an object entered since the last accepted reset or load is gone exactly when its interfaces reached zero, its exporter was removed, or, being
-- pinged, it stayed unheard; a life is there where its OID is live and was not entered again
unfoldable pub gone_exactly : History → Entries → Bool
gone_exactly h e =
    every
    (λ (o : ObjectLife). agree (is_live_object e o.oid && is_latest h o) (not (interfaces_at_zero h o || exporter_removed h o || unheard h o)))
    h.objects

-- the live lists and a new one, together
abbrev pub together : List Exporter → List ℕ → List ℕ
together xs new = joined (map (λ (x : Exporter). x.bindings) xs) ++ new

-- a kind that the call needs has as many live entries as places; or the live lists and an exporter's together pass the store's bytes
unfoldable pub needs_full_kind : Call → Entries → Bool
needs_full_kind (editing (enter_exporter x u b)) e = eqb (length e.exporters) exporter_places || ltb 8192 (length (together e.exporters b))
needs_full_kind (editing (remove_exporter x)) e = false
needs_full_kind (editing (enter_object o x i iid n np)) e = eqb (length e.objects) object_places || eqb (length e.interfaces) interface_places
needs_full_kind (editing (enter_interface o i iid n)) e = eqb (length e.interfaces) interface_places
needs_full_kind (editing (add c i p q)) e = false
needs_full_kind (editing (release c i p q)) e = false
needs_full_kind (editing (drop_client c)) e = false
needs_full_kind (count_list w c s b) e = false
needs_full_kind (editing (simple_ping s)) e = false
needs_full_kind (editing (complex_ping s n adds dels)) e = eqb s 0 && eqb (length e.sets) set_places
needs_full_kind (editing (clock t)) e = false
needs_full_kind (looking l) e = false
needs_full_kind (starting s) e = false

-- a call that is answered by n: room is refused, once nothing earlier in the call's order refuses, exactly when a kind it needs has as
-- many live entries as places, for an exporter also when the live lists and the new one together pass 8,192 bytes (document 02, request 12)
unfoldable pub room_exactly : ℕ → Call → Entries → Bool
room_exactly n c e = agree (eqb n 9) (eqb (order (above 9 (refusals c e))) 0 && needs_full_kind c e)

-- a run: the calls, their replies, the memory before and after; each call gets the memory that the last one left
pub data Run : List Call → List Reply → Memory → Memory → Type 0 where
  none : {m : Memory} → Run [] [] m m
  call :
      {c : Call} {r : Reply} {cs : List Call} {rs : List Reply} {m m' m'' : Memory}
      → Performed c m r m' → Run cs rs m' m'' → Run (c ∷ cs) (r ∷ rs) m m''

-- a call that counts in the history, with its answer number
pub record Answered : Type 0 where
  pub call : Call
  pub number : ℕ

abbrev pub once : Call → Reply → List Answered
once c r = record { call = c; number = r.number } ∷ []

-- each item of an accepted list counts as a call of its own, with its byte for answer; every other call counts once
unfoldable pub answered : Call → Reply → List Answered
answered (starting s) r = once (starting s) r
answered (looking l) r = once (looking l) r
answered (editing c) r = once (editing c) r
answered (count_list w c s b) r =
    cond (eqb r.number 0)
    (tabulate (item_count s) (λ k. record { call = item_call w c (item_at s k); number = get_or r.buffer k 0 }))
    (once (count_list w c s b) r)

-- of a run's calls with their replies
unfoldable pub answered_all : List Call → List Reply → List Answered
answered_all [] rs = []
answered_all (c ∷ cs) [] = []
answered_all (c ∷ cs) (r ∷ rs) = answered c r ++ answered_all cs rs

abbrev pub calls_in : List Answered → List Call
calls_in xs = map (λ (a : Answered). a.call) xs

abbrev pub numbers_in : List Answered → List ℕ
numbers_in xs = map (λ (a : Answered). a.number) xs

-- the history before the first call, of which a call that begins one leaves nothing
abbrev pub unbegun : History
unbegun = begin (fresh 0)

-- the history of these calls, of which the first begins it
abbrev pub history_of : List Call → History
history_of cs = feed_all unbegun cs

-- none of these calls, done in turn from a history, begins it anew
unfoldable pub none_begins : History → List Call → Bool
none_begins h [] = true
none_begins h (c ∷ cs) = not (begins c && eqb (number c (live h)) 0) && none_begins (feed h c) cs

-- after the calls cs and their replies rs, with the memory m: a field for each sentence of demand 3
pub record AfterRun (cs : List Call) (rs : List Reply) (m : Memory) : Type 0 where
  -- each is answered as demand 2 says, on the history's own live entries
  pub answers : rs ≡ replies unbegun cs
  -- each item of an accepted list counts as a call of its own, with its byte for answer
  pub item_answers : numbers_in (answered_all cs rs) ≡ numbers unbegun (calls_in (answered_all cs rs))
  pub item_history : history_of cs ≡ history_of (calls_in (answered_all cs rs))
  -- the live entries, with every field, list and member, the clock and the next set number are exactly the history's
  pub entries : view m ≡ live (history_of cs)
  pub sound : sound_memory m ≡ true
  pub identifiers : distinct_identifiers (view m) ≡ true
  pub interface_object : one_object (view m) ≡ true
  pub interface_reference : some_reference (view m) ≡ true
  pub object_exporter : objects_exported (view m) ≡ true
  pub member_live : members_live (view m) ≡ true
  pub counts : counts_granted (history_of cs) (view m) ≡ true
  pub gone : gone_exactly (history_of cs) (view m) ≡ true
  -- what had gone after the first calls has gone, where none of the later ones is an accepted reset or load
  pub stays : (firsts laters : List Call) → cs ≡ firsts ++ laters → none_begins (history_of firsts) laters ≡ true → stays_gone (history_of firsts) (history_of cs) ≡ true
  -- what an accepted release and clock tell is so of the history's own live entries before and after them
  pub released : (c : ℕ) (i : Guid) (p q : ℕ) (r : Reply) (m' : Memory) → Performed (editing (release c i p q)) m r m' → r.number ≡ 0
      → r.values ≡ release_values c i p q (live (history_of cs)) (live (feed (history_of cs) (editing (release c i p q))))
  pub expired : (t : ℕ) (r : Reply) (m' : Memory) → Performed (editing (clock t)) m r m' → r.number ≡ 0
      → r.values ≡ clock_values (live (history_of cs)) (live (feed (history_of cs) (editing (clock t))))
  -- of the answer of whatever call is performed next
  pub room : (c : Call) (r : Reply) (m' : Memory) → Performed c m r m' → room_exactly r.number c (view m) ≡ true

-- demand 3: over every run on any memory whose first call is a reset or a load that is accepted
abbrev pub WholeRun : Type 0
WholeRun =
    (c : Call) (r : Reply) (cs : List Call) (rs : List Reply) (m₀ m : Memory)
    → begins c ≡ true
    → r.number ≡ 0
    → Run (c ∷ cs) (r ∷ rs) m₀ m
    → AfterRun (c ∷ cs) (r ∷ rs) m

-- what has gone in a history stays gone until an accepted reset or load; so what was unheard at an accepted clock is gone at every later one
abbrev pub StaysGone : Type 0
StaysGone = (cs ds : List Call) → none_begins (history_of cs) ds ≡ true → stays_gone (history_of cs) (history_of (cs ++ ds)) ≡ true

-- a history that begins at sound entries has exactly these for its live entries
abbrev pub BeginsAt : Type 0
BeginsAt = (e : Entries) → sound e ≡ true → Ordered e → live (begin e) ≡ e
