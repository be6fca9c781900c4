-- Document 01, "Both sides of each edge": the cases marked [P], in its order, and those of document 02's snapshots, as one table with one
-- statement.
use Rattle.std.specs.Prelude.{ℕ, ◌≡◌, Bool, true, false, cond, List, [], ◌∷◌, ◌++◌, map, replicate, eqb}
use Rattle.kinds.specs.declared.Guid.{Guid}
use Rattle.bindings.specs.Bindings.{bindings_of, part_words, list_length, list_answer}
use Rattle.bindings.specs.declared.Part.TheVariants.{Strings, Security}
use Rattle.references.specs.References.{reference_answer}
use Rattle.rules.specs.Entries.{Interface, PingSet, Entries, fresh, with_clock, with_objects, with_interfaces, with_sets}
use Rattle.rules.specs.Calls.{Call, starting, looking, editing, add, release, complex_ping, clock, write_snapshot, load_snapshot, Reply}
use Rattle.rules.specs.Sound.{sound}
use Rattle.rules.specs.Snapshot.{sections, snapshot_bytes}
use Rattle.rules.specs.Rules.{entered_counts, next, refused_reply, reply}

-- ---- a case: what is asked, and what the documents say that it gives

pub data Question : Type 0 where
  -- these bytes as a reference
  as_reference : List ℕ → Question
  -- these bytes as a binding list
  as_list : List ℕ → Question
  -- a call on live entries, and one with an output buffer
  called : Call → Entries → Question
  writes : Call → Entries → Question

pub data Outcome : Type 0 where
  -- a number alone
  answer : ℕ → Outcome
  -- of an accepted binding list: the words of its bindings, and its length in bytes
  parts : (strings security : List (List ℕ)) (bytes : ℕ) → Outcome
  -- of a call: its number, its values as in its `results`, and the live entries that it leaves
  replied : (number : ℕ) (values : List ℕ) (left : Entries) → Outcome
  -- of a call with a buffer: its number, its values, and the buffer that it leaves
  wrote : (number : ℕ) (values buffer : List ℕ) → Outcome

-- a call is refused by 1 where the entries are not sound
abbrev pub judged : Call → Entries → Reply
judged c e = cond (sound e) (reply c e) (refused_reply 1 c e)

-- a refused call leaves them
unfoldable pub outcome : Question → Outcome
outcome (as_reference s) = answer (reference_answer s)
outcome (as_list s) =
    cond (eqb (list_answer s) 0)
    (parts (bindings_of Strings (part_words s Strings)) (bindings_of Security (part_words s Security)) (list_length s))
    (answer (list_answer s))
outcome (called c e) =
    let r : Reply = judged c e in
    replied r.number r.values (cond (eqb r.number 0) (next c e) e)
outcome (writes c e) =
    let r : Reply = judged c e in
    wrote r.number r.values r.buffer

pub record Case : Type 0 where
  pub question : Question
  pub given : Outcome

infix 70 ◌is◌
abbrev pub ◌is◌ : Question → Outcome → Case
◌is◌ q a = record { question = q; given = a }

-- ---- what the cases are about

-- a list whose two parts are empty
unfoldable pub empty_list : List ℕ
empty_list = 0x02 ∷ 0x00 ∷ 0x01 ∷ 0x00 ∷ 0x00 ∷ 0x00 ∷ 0x00 ∷ 0x00 ∷ []

-- a standard reference that begins with these bytes: flags 1, then IID and object block, in which no identifier is zero, and a list
unfoldable pub signed : List ℕ → List ℕ
signed signature = signature ++ (0x01 ∷ 0x00 ∷ 0x00 ∷ 0x00 ∷ []) ++ replicate 56 0x01 ++ empty_list

abbrev pub ipid : Guid
ipid = record { low = 0x71; high = 0x72 }

-- set 1, pinged at 1000
unfoldable pub one_set : (sequence : ℕ) (members : List ℕ) → PingSet
one_set sequence members = record { number = 1; sequence = sequence; pinged = 1000; members = members }

-- at the clock 1000, one entry of each kind: an exporter; its object, heard at 1000; the object's interface, with this public count and
-- no private reference; a set with this sequence number, of which the object is a member
unfoldable pub one_of_each : (noping : Bool) (public sequence : ℕ) → Entries
one_of_each noping public sequence =
    record {
      clock = 1000;
      next = 2;
      exporters = record { oxid = 0x51; unknown = record { low = 0x61; high = 0x62 }; bindings = empty_list } ∷ [];
      objects = record { oid = 0x41; exporter = 0x51; noping = noping; heard = 1000 } ∷ [];
      interfaces = record { ipid = ipid; iid = record { low = 0x81; high = 0x82 }; object = 0x41; counts = entered_counts public } ∷ [];
      sets = one_set sequence (0x41 ∷ []) ∷ [];
    }

-- a complex ping of its set: the last sequence number, then the new one
abbrev pub pinged : (last new : ℕ) → Question
pinged last new = called (editing (complex_ping 1 new [] [])) (one_of_each false 3 last)

-- new: the set's number and backoff factor 0, and the new sequence number is kept; stale: 12, and the last is
abbrev pub is_new : ℕ → Outcome
is_new new = replied 0 (1 ∷ 0 ∷ []) (one_of_each false 3 new)

abbrev pub is_stale : ℕ → Outcome
is_stale last = replied 12 (0 ∷ 0 ∷ []) (one_of_each false 3 last)

-- without the object and its interface
abbrev pub without_object : Entries → Entries
without_object e = with_objects [] (with_interfaces [] e)

-- the snapshot of a table fresh at clock 100: 02 00, 64 and seven 00, 01 and seven 00, then eight 00
unfoldable pub fresh_snapshot : List ℕ
fresh_snapshot =
    (0x02 ∷ 0x00 ∷ [])
    ++ (0x64 ∷ replicate 7 0x00)
    ++ (0x01 ∷ replicate 7 0x00)
    ++ replicate 8 0x00

-- an object with two interfaces, of these IPIDs
unfoldable pub two_interfaces : (first second : ℕ) → Entries
two_interfaces first second = with_interfaces (held first ∷ held second ∷ []) (one_of_each false 3 5)
  where
    held : ℕ → Interface
    held low = record { ipid = record { low = low; high = 0 }; iid = ipid; object = 0x41; counts = entered_counts 3 }

-- ---- the table

unfoldable pub cases : List Case
cases =
    -- bytes 4D 45 4F 57 as signature: right; 57 4F 45 4D: 14
    as_reference (signed (0x4D ∷ 0x45 ∷ 0x4F ∷ 0x57 ∷ [])) is answer 0
    ∷ as_reference (signed (0x57 ∷ 0x4F ∷ 0x45 ∷ 0x4D ∷ [])) is answer 14
    -- list 02 00 01 00 00 00 00 00: two empty parts, 8 bytes; 01 00 01 00 00 00: 14
    ∷ as_list empty_list is parts [] [] 8
    ∷ as_list (0x01 ∷ 0x00 ∷ 0x01 ∷ 0x00 ∷ 0x00 ∷ 0x00 ∷ []) is answer 14
    -- list 04 00 03 00 07 00 00 00 00 00 00 00: one binding, tower 7, empty address, 12 bytes
    ∷ as_list (0x04 ∷ 0x00 ∷ 0x03 ∷ 0x00 ∷ 0x07 ∷ 0x00 ∷ 0x00 ∷ 0x00 ∷ 0x00 ∷ 0x00 ∷ 0x00 ∷ 0x00 ∷ []) is parts ((7 ∷ 0 ∷ []) ∷ []) [] 12
    -- sequence 65535 then 0: new; 5 then 32772: new; 5 then 32773: stale; 5 then 5: stale
    ∷ pinged 65535 0 is is_new 0
    ∷ pinged 5 32772 is is_new 32772
    ∷ pinged 5 32773 is is_stale 5
    ∷ pinged 5 5 is is_stale 5
    -- heard at 1000: at clock 1359 live, at 1360 gone, with its set; a no-ping object stays
    ∷ called (editing (clock 1359)) (one_of_each false 3 5) is replied 0 (0 ∷ 0 ∷ 0 ∷ 0 ∷ []) (with_clock 1359 (one_of_each false 3 5))
    ∷ called (editing (clock 1360)) (one_of_each false 3 5) is replied 0 (0 ∷ 1 ∷ 1 ∷ 1 ∷ []) (with_clock 1360 (with_sets [] (without_object (one_of_each false 3 5))))
    ∷ called (editing (clock 1360)) (one_of_each true 3 5) is replied 0 (0 ∷ 0 ∷ 0 ∷ 1 ∷ []) (with_clock 1360 (with_sets [] (one_of_each true 3 5)))
    -- counts 3 and 0, release 5 and 0: 3 taken, interface gone, and with it its object, which leaves its set
    ∷ called (editing (release 0 ipid 5 0)) (one_of_each false 3 5) is replied 0 (3 ∷ 0 ∷ 1 ∷ 1 ∷ []) (with_sets (one_set 5 [] ∷ []) (without_object (one_of_each false 3 5)))
    -- count 4,294,967,295, add 1: 8; add 0 and 0: done
    ∷ called (editing (add 0 ipid 1 0)) (one_of_each false 4294967295 5) is replied 8 [] (one_of_each false 4294967295 5)
    ∷ called (editing (add 0 ipid 0 0)) (one_of_each false 4294967295 5) is replied 0 [] (one_of_each false 4294967295 5)
    -- document 02: a table fresh at clock 100 gives exactly 26 bytes, the buffer's rest is kept; 25 are too few
    ∷ writes (looking (write_snapshot (replicate 27 0xFF))) (fresh 100) is wrote 0 (26 ∷ []) (fresh_snapshot ++ (0xFF ∷ []))
    ∷ writes (looking (write_snapshot (replicate 25 0xFF))) (fresh 100) is wrote 15 (0 ∷ []) (replicate 25 0xFF)
    -- these bytes are loaded; with one byte more they are the snapshot of no table
    ∷ called (starting (load_snapshot fresh_snapshot)) (one_of_each false 3 5) is replied 0 [] (fresh 100)
    ∷ called (starting (load_snapshot (fresh_snapshot ++ (0x00 ∷ [])))) (one_of_each false 3 5) is replied 23 [] (one_of_each false 3 5)
    -- IPIDs rise by their bytes in order: 00 01 comes before 01 00
    ∷ called (starting (load_snapshot (snapshot_bytes (two_interfaces 0x0001 0x0100)))) (fresh 0) is replied 0 [] (two_interfaces 0x0100 0x0001)
    ∷ called (starting (load_snapshot (sections (two_interfaces 0x0001 0x0100)))) (fresh 0) is replied 23 [] (fresh 0)
    -- a member stands once
    ∷ called (starting (load_snapshot (sections (with_sets (one_set 5 (0x41 ∷ 0x41 ∷ []) ∷ []) (one_of_each false 3 5))))) (fresh 0) is replied 23 [] (fresh 0)
    ∷ []

-- every case gives what the documents say
abbrev pub CasesHold : Type 0
CasesHold = map (λ (c : Case). outcome c.question) cases ≡ map (λ (c : Case). c.given) cases
