-- Document 01's history ("Its history is fed with the calls' arguments alone"): lives that are started and never taken away, with what
-- was granted, taken and heard. What has gone follows from these facts and the clock; nothing is stored as gone.
use Rattle.std.specs.Prelude.{ℕ, suc, ◌+◌, ◌-◌, min, Bool, true, false, cond, not, ◌&&◌, ◌||◌, List, [], ◌∷◌, ◌++◌, map, length, get_or, set, replicate, eqb, leb}
use Rattle.kinds.specs.declared.Guid.{Guid}
use Rattle.lists.specs.Lists.{keep, some, every, first_or, first_index, tabulate, among, holding}
use Rattle.lists.specs.Guids.{nil, same_guid}
use Rattle.rules.specs.Entries.{Exporter, Object, Interface, PingSet, Entries, fresh, oxids, oids}
use Rattle.rules.specs.Calls.{Call, starting, looking, editing, Counting, adding, releasing, reset, enter_exporter, remove_exporter, enter_object}
use Rattle.rules.specs.Calls.{enter_interface, add, release, drop_client, count_list, simple_ping, complex_ping, clock, load_snapshot, Reply}
use Rattle.rules.specs.Items.{Item, items_of, item_call}
use Rattle.rules.specs.Contract.{lengths_only}
use Rattle.rules.specs.Snapshot.{entries_of}
use Rattle.rules.specs.Rules.{no_exporter, no_object, number, reply, any_ipid}

-- An identifier that went may be entered again, as a new life; so lives name each other by serial numbers, which are never given twice.
pub record ExporterLife : Type 0 where
  pub serial : ℕ
  pub oxid : ℕ
  pub unknown : Guid
  pub bindings : List ℕ
  pub removed : Bool

-- exporter is a serial
pub record ObjectLife : Type 0 where
  pub serial : ℕ
  pub oid : ℕ
  pub exporter : ℕ
  pub noping : Bool
  pub heard : ℕ

-- what was granted of one count of an interface, and what was taken
pub record Account : Type 0 where
  pub granted : ℕ
  pub taken : ℕ

-- object is a serial; account 0 is the public one, account 1 + c the private one of client c
pub record InterfaceLife : Type 0 where
  pub ipid : Guid
  pub iid : Guid
  pub object : ℕ
  pub accounts : List Account

-- members are serials; set numbers are given once in a history
pub record SetLife : Type 0 where
  pub number : ℕ
  pub sequence : ℕ
  pub pinged : ℕ
  pub members : List ℕ

-- since the last accepted call that began it
pub record History : Type 0 where
  pub clock : ℕ
  pub next : ℕ
  pub exporters : List ExporterLife
  pub objects : List ObjectLife
  pub interfaces : List InterfaceLife
  pub sets : List SetLife

-- ---- how a history begins

-- the place of an identifier in a list of them
abbrev pub place_of : List ℕ → ℕ → ℕ
place_of ids x = first_index (eqb x) ids

-- the lives of entries with which a history begins: each is entered then, its counts as granted; its serial is its place in its kind
abbrev pub exporter_at : Entries → ℕ → ExporterLife
exporter_at e k =
    let x : Exporter = get_or e.exporters k no_exporter in
    record { serial = k; oxid = x.oxid; unknown = x.unknown; bindings = x.bindings; removed = false }

abbrev pub object_at : Entries → ℕ → ObjectLife
object_at e k =
    let o : Object = get_or e.objects k no_object in
    record { serial = k; oid = o.oid; exporter = place_of (oxids e) o.exporter; noping = o.noping; heard = o.heard }

-- a count with which a history begins
abbrev pub begun_with : ℕ → Account
begun_with n = record { granted = n; taken = 0 }

abbrev pub interface_held : Entries → Interface → InterfaceLife
interface_held e i = record { ipid = i.ipid; iid = i.iid; object = place_of (oids e) i.object; accounts = map begun_with i.counts }

abbrev pub set_held : Entries → PingSet → SetLife
set_held e s = record { number = s.number; sequence = s.sequence; pinged = s.pinged; members = map (place_of (oids e)) s.members }

-- A history that begins at these entries. A reset begins one at no entries, a load at those of its snapshot.
unfoldable pub begin : Entries → History
begin e =
    record {
      clock = e.clock;
      next = e.next;
      exporters = tabulate (length e.exporters) (exporter_at e);
      objects = tabulate (length e.objects) (object_at e);
      interfaces = map (interface_held e) e.interfaces;
      sets = map (set_held e) e.sets;
    }

-- a call that begins the history anew where it is accepted: what it leaves does not depend on what was before
abbrev pub begins : Call → Bool
begins c = lengths_only c

-- ---- what has gone

-- a count is what was granted less what was taken
abbrev pub remaining : Account → ℕ
remaining a = a.granted - a.taken

-- zero: nothing left of any count
abbrev pub at_zero : InterfaceLife → Bool
at_zero l = every (λ (a : Account). leb a.granted a.taken) l.accounts

abbrev pub interfaces_at_zero : History → ObjectLife → Bool
interfaces_at_zero h o = every (λ (l : InterfaceLife). not (eqb l.object o.serial) || at_zero l) h.interfaces

abbrev pub exporter_removed : History → ObjectLife → Bool
exporter_removed h o = some (λ (x : ExporterLife). eqb x.serial o.exporter && x.removed) h.exporters

-- unheard: the clock stands 360 or more past the last hearing
abbrev pub unheard_since : History → ℕ → Bool
unheard_since h t = leb 360 (h.clock - t)

-- Of an object that is pinged. What goes leaves its sets and is heard no more, so it stays unheard at every later clock.
abbrev pub unheard : History → ObjectLife → Bool
unheard h o = not o.noping && unheard_since h o.heard

-- demand 3: its interfaces reached zero, its exporter was removed, or, being pinged, it stayed unheard
abbrev pub object_gone : History → ObjectLife → Bool
object_gone h o = interfaces_at_zero h o || exporter_removed h o || unheard h o

-- ---- live: what started and has not gone

abbrev pub live_exporters : History → List ExporterLife
live_exporters h = keep (λ (x : ExporterLife). not x.removed) h.exporters

abbrev pub live_objects : History → List ObjectLife
live_objects h = keep (λ (o : ObjectLife). not (object_gone h o)) h.objects

-- an interface goes at zero or with its object
abbrev pub live_interface : History → InterfaceLife → Bool
live_interface h l = not (at_zero l) && some (λ (o : ObjectLife). eqb o.serial l.object) (live_objects h)

-- a set goes 360 after its last ping
abbrev pub live_set : History → SetLife → Bool
live_set h s = not (unheard_since h s.pinged)

abbrev pub no_exporter_life : ExporterLife
no_exporter_life = record { serial = 0; oxid = 0; unknown = nil; bindings = []; removed = true }

abbrev pub no_object_life : ObjectLife
no_object_life = record { serial = 0; oid = 0; exporter = 0; noping = false; heard = 0 }

-- ---- the live entries

abbrev pub exporter_entry : ExporterLife → Exporter
exporter_entry x = record { oxid = x.oxid; unknown = x.unknown; bindings = x.bindings }

abbrev pub object_entry : History → ObjectLife → Object
object_entry h o =
    let x : ExporterLife = first_or no_exporter_life (λ (p : ExporterLife). eqb p.serial o.exporter) h.exporters in
    record { oid = o.oid; exporter = x.oxid; noping = o.noping; heard = o.heard }

abbrev pub interface_entry : History → InterfaceLife → Interface
interface_entry h l =
    let o : ObjectLife = first_or no_object_life (λ (p : ObjectLife). eqb p.serial l.object) h.objects in
    record { ipid = l.ipid; iid = l.iid; object = o.oid; counts = map remaining l.accounts }

-- what goes leaves its sets
abbrev pub set_entry : History → SetLife → PingSet
set_entry h s =
    record {
      number = s.number;
      sequence = s.sequence;
      pinged = s.pinged;
      members = map (λ (o : ObjectLife). o.oid) (keep (λ (o : ObjectLife). among s.members o.serial) (live_objects h));
    }

unfoldable pub live : History → Entries
live h =
    record {
      clock = h.clock;
      next = h.next;
      exporters = map exporter_entry (live_exporters h);
      objects = map (object_entry h) (live_objects h);
      interfaces = map (interface_entry h) (keep (live_interface h) h.interfaces);
      sets = map (set_entry h) (keep (live_set h) h.sets);
    }

-- ---- histories and lives with one part replaced

abbrev pub at_clock : ℕ → History → History
at_clock t h = record { clock = t; next = h.next; exporters = h.exporters; objects = h.objects; interfaces = h.interfaces; sets = h.sets }

abbrev pub with_exporter_lives : List ExporterLife → History → History
with_exporter_lives xs h = record { clock = h.clock; next = h.next; exporters = xs; objects = h.objects; interfaces = h.interfaces; sets = h.sets }

abbrev pub with_object_lives : List ObjectLife → History → History
with_object_lives os h = record { clock = h.clock; next = h.next; exporters = h.exporters; objects = os; interfaces = h.interfaces; sets = h.sets }

abbrev pub with_interface_lives : List InterfaceLife → History → History
with_interface_lives is h = record { clock = h.clock; next = h.next; exporters = h.exporters; objects = h.objects; interfaces = is; sets = h.sets }

abbrev pub with_set_lives : ℕ → List SetLife → History → History
with_set_lives n ss h = record { clock = h.clock; next = n; exporters = h.exporters; objects = h.objects; interfaces = h.interfaces; sets = ss }

abbrev pub removed_life : ExporterLife → ExporterLife
removed_life x = record { serial = x.serial; oxid = x.oxid; unknown = x.unknown; bindings = x.bindings; removed = true }

abbrev pub heard_life : ℕ → ObjectLife → ObjectLife
heard_life t o = record { serial = o.serial; oid = o.oid; exporter = o.exporter; noping = o.noping; heard = t }

abbrev pub no_account : Account
no_account = record { granted = 0; taken = 0 }

-- the public count is granted at entry, and nothing to any client
abbrev pub entered_interface : Guid → Guid → ℕ → ℕ → InterfaceLife
entered_interface i iid o n =
    record { ipid = i; iid = iid; object = o; accounts = record { granted = n; taken = 0 } ∷ replicate 8 no_account }

abbrev pub account_of : ℕ → InterfaceLife → Account
account_of k l = get_or l.accounts k no_account

-- account k alone changed
abbrev pub at_account : ℕ → (Account → Account) → InterfaceLife → InterfaceLife
at_account k f l = record { ipid = l.ipid; iid = l.iid; object = l.object; accounts = set l.accounts k (f (account_of k l)) }

-- the public account changed by f, and the private one of client c by g
abbrev pub at_accounts : ℕ → (Account → Account) → (Account → Account) → InterfaceLife → InterfaceLife
at_accounts c f g l = at_account (suc c) g (at_account 0 f l)

abbrev pub granting : ℕ → Account → Account
granting n a = record { granted = a.granted + n; taken = a.taken }

-- the smaller of what is asked and granted less taken
abbrev pub taking : ℕ → Account → Account
taking n a = record { granted = a.granted; taken = a.taken + min n (remaining a) }

-- all that is left
abbrev pub taking_all : Account → Account
taking_all a = taking (remaining a) a

abbrev pub pinged_life : ℕ → SetLife → SetLife
pinged_life t s = record { number = s.number; sequence = s.sequence; pinged = t; members = s.members }

-- puts in the adds, then takes out the deletes, and keeps the sequence number
abbrev pub changed : ℕ → List ℕ → List ℕ → SetLife → SetLife
changed n adds dels s =
    record { number = s.number; sequence = n; pinged = s.pinged; members = keep (λ (o : ℕ). not (among dels o)) (s.members ++ adds) }

-- ---- what an accepted call adds to the history

-- the live interfaces changed whose IPID passes a test
abbrev pub at_live_interfaces : (Guid → Bool) → (InterfaceLife → InterfaceLife) → History → History
at_live_interfaces t f h = with_interface_lives (map (λ (l : InterfaceLife). cond (t l.ipid && live_interface h l) (f l) l) h.interfaces) h

-- the live set s alone changed
abbrev pub at_live_set : ℕ → (SetLife → SetLife) → History → History
at_live_set s f h = with_set_lives h.next (map (λ (p : SetLife). cond (eqb s p.number && live_set h p) (f p) p) h.sets) h

-- the serials of the live exporter with this OXID, of the live object with this OID, and of the live objects with one of these OIDs
abbrev pub exporter_serial : History → ℕ → ℕ
exporter_serial h x = (first_or no_exporter_life (λ (p : ExporterLife). eqb x p.oxid) (live_exporters h)).serial

abbrev pub object_serial : History → ℕ → ℕ
object_serial h o = (first_or no_object_life (λ (p : ObjectLife). eqb o p.oid) (live_objects h)).serial

abbrev pub object_serials : History → List ℕ → List ℕ
object_serials h ids = map (λ (o : ObjectLife). o.serial) (keep (λ (o : ObjectLife). among ids o.oid) (live_objects h))

abbrev pub is_member : History → ℕ → ObjectLife → Bool
is_member h s o = some (λ (p : SetLife). eqb s p.number && live_set h p && among p.members o.serial) h.sets

-- an accepted ping of the set s: its members are heard at the clock
abbrev pub ping_lives : ℕ → History → History
ping_lives s h =
    at_live_set s (pinged_life h.clock)
    (with_object_lives (map (λ (o : ObjectLife). cond (is_member h s o && not (object_gone h o)) (heard_life h.clock o) o) h.objects) h)

-- a set with the next number, which grows by one
abbrev pub start_set : History → History
start_set h = with_set_lives (h.next + 1) (h.sets ++ (record { number = h.next; sequence = 0; pinged = h.clock; members = [] } ∷ [])) h

-- references counted, one way or the other
abbrev pub count_lived : Counting → ℕ → Guid → ℕ → ℕ → History → History
count_lived adding c i p q h = at_live_interfaces (same_guid i) (at_accounts c (granting p) (granting q)) h
count_lived releasing c i p q h = at_live_interfaces (same_guid i) (at_accounts c (taking p) (taking q)) h

-- each item of an accepted list counts as a call of its own
abbrev pub item_fed : Counting → ℕ → Item → History → History
item_fed w c t h = cond (eqb (number (item_call w c t) (live h)) 0) (count_lived w c t.ipid t.public t.private h) h

unfoldable pub items_fed : Counting → ℕ → List Item → History → History
items_fed w c [] h = h
items_fed w c (t ∷ ts) h = items_fed w c ts (item_fed w c t h)

unfoldable pub lived : Call → History → History
lived (starting (reset t)) h = begin (fresh t)
lived (editing (enter_exporter x u b)) h =
    with_exporter_lives (h.exporters ++ (record { serial = length h.exporters; oxid = x; unknown = u; bindings = b; removed = false } ∷ [])) h
lived (editing (remove_exporter x)) h =
    with_exporter_lives (map (λ (p : ExporterLife). cond (eqb x p.oxid) (removed_life p) p) h.exporters) h
lived (editing (enter_object o x i iid n np)) h =
    let k : ℕ = length h.objects in
    with_object_lives (h.objects ++ (record { serial = k; oid = o; exporter = exporter_serial h x; noping = np; heard = h.clock } ∷ []))
    (with_interface_lives (h.interfaces ++ (entered_interface i iid k n ∷ [])) h)
lived (editing (enter_interface o i iid n)) h = with_interface_lives (h.interfaces ++ (entered_interface i iid (object_serial h o) n ∷ [])) h
lived (editing (add c i p q)) h = count_lived adding c i p q h
lived (editing (release c i p q)) h = count_lived releasing c i p q h
-- a client's drop takes all that is left of its private counts
lived (editing (drop_client c)) h = at_live_interfaces any_ipid (at_account (suc c) taking_all) h
lived (count_list w c s b) h = items_fed w c (items_of s) h
lived (editing (simple_ping s)) h = ping_lives s h
lived (editing (complex_ping s n adds dels)) h =
    let k : ℕ = cond (eqb s 0) h.next s in
    ping_lives k (at_live_set k (changed n (object_serials h adds) (object_serials h dels)) (cond (eqb s 0) (start_set h) h))
lived (editing (clock t)) h = at_clock t h
lived (looking l) h = h
-- what the snapshot holds is entered with the load
lived (starting (load_snapshot s)) h = begin (entries_of s)

-- a call is accepted exactly where its rules, read on the history's own live entries, refuse nothing
unfoldable pub feed : History → Call → History
feed h c = cond (eqb (number c (live h)) 0) (lived c h) h

unfoldable pub feed_all : History → List Call → History
feed_all h [] = h
feed_all h (c ∷ cs) = feed_all (feed h c) cs

-- the replies by the rules on the history's own live entries
unfoldable pub replies : History → List Call → List Reply
replies h [] = []
replies h (c ∷ cs) = reply c (live h) ∷ replies (feed h c) cs

-- the numbers alone
unfoldable pub numbers : History → List Call → List ℕ
numbers h [] = []
numbers h (c ∷ cs) = number c (live h) ∷ numbers (feed h c) cs

-- ---- what has gone stays gone

-- at each place of the first list the second has an element, and the two pass the test
unfoldable pub along : {A : Type 0} → (A → A → Bool) → List A → List A → Bool
along p [] ys = true
along p (x ∷ xs) [] = false
along p (x ∷ xs) (y ∷ ys) = p x y && along p xs ys

-- where a holds, b does
abbrev pub implies : Bool → Bool → Bool
implies a b = not a || b

-- each life of h is at its place in h', and what has gone in h has gone in h'
unfoldable pub stays_gone : History → History → Bool
stays_gone h h' =
    holding
    (along (λ (x x' : ExporterLife). eqb x.serial x'.serial && implies x.removed x'.removed) h.exporters h'.exporters
    ∷ along (λ (o o' : ObjectLife). eqb o.serial o'.serial && implies (object_gone h o) (object_gone h' o')) h.objects h'.objects
    ∷ along (λ (l l' : InterfaceLife). same_guid l.ipid l'.ipid && implies (not (live_interface h l)) (not (live_interface h' l'))) h.interfaces h'.interfaces
    ∷ along (λ (s s' : SetLife). eqb s.number s'.number && implies (not (live_set h s)) (not (live_set h' s'))) h.sets h'.sets
    ∷ [])
