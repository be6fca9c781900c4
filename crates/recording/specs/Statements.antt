-- What is promised of recordings. Statements only.
use Rattle.std.specs.Prelude.{ℕ, ◌*◌, ◌^◌, ◌<◌, ◌≤◌, ◌≡◌, false, List, map, length}
use Rattle.fields.specs.Fields.{Bytes, GuidFits, zeros}
use Rattle.rules.specs.Calls.{Call, starting, looking, editing, reset, enter_exporter, remove_exporter, enter_object, enter_interface, add, release, drop_client}
use Rattle.rules.specs.Calls.{count_list, simple_ping, complex_ping, clock, resolve, resolve_filtered, census, members, next_stop, write_snapshot, load_snapshot}
use Rattle.rules.specs.Swapping.{Each}
use Rattle.recording.specs.Recording.{Recorded, recording_bytes, records_of, is_short, is_broken, recording_answer, most_records}

-- ---- the arguments of a call, as every call is given: numbers of their parameters' widths, bytes, and slices of no more than 2^64 - 1 bytes

abbrev pub Wide : ℕ → Type 0
Wide n = n < 2 ^ 64

abbrev pub Half : ℕ → Type 0
Half n = n < 2 ^ 32

abbrev pub Sliced : List ℕ → Type 0
Sliced s = Bytes s × Wide (length s)

-- a slice of numbers of w bytes each
abbrev pub Numbers : ℕ → List ℕ → Type 0
Numbers w ns = Each (λ n. n < 256 ^ w) ns × Wide (w * length ns)

abbrev pub Given : Call → Type 0
Given (starting (reset t)) = Wide t
Given (editing (enter_exporter x u b)) = Wide x × GuidFits u × Sliced b
Given (editing (remove_exporter x)) = Wide x
Given (editing (enter_object o x i iid n np)) = Wide o × Wide x × GuidFits i × GuidFits iid × Half n
Given (editing (enter_interface o i iid n)) = Wide o × GuidFits i × GuidFits iid × Half n
Given (editing (add c i p q)) = Half c × GuidFits i × Half p × Half q
Given (editing (release c i p q)) = Half c × GuidFits i × Half p × Half q
Given (editing (drop_client c)) = Half c
Given (count_list w c s b) = Half c × Sliced s × Wide (length b)
Given (editing (simple_ping s)) = Wide s
Given (editing (complex_ping s n adds dels)) = Wide s × (n < 2 ^ 16) × Numbers 8 adds × Numbers 8 dels
Given (editing (clock t)) = Wide t
Given (looking (resolve x b)) = Wide x × Wide (length b)
Given (looking (resolve_filtered x ps b)) = Wide x × Numbers 2 ps × Wide (length b)
Given (looking census) = Unit {0}
Given (looking (members s)) = Wide s
Given (looking (next_stop r)) = Sliced r
Given (looking (write_snapshot b)) = Wide (length b)
Given (starting (load_snapshot s)) = Sliced s

-- the call with its output buffer by its length
abbrev pub by_length : Call → Call
by_length (starting (reset t)) = starting (reset t)
by_length (editing (enter_exporter x u b)) = editing (enter_exporter x u b)
by_length (editing (remove_exporter x)) = editing (remove_exporter x)
by_length (editing (enter_object o x i iid n np)) = editing (enter_object o x i iid n np)
by_length (editing (enter_interface o i iid n)) = editing (enter_interface o i iid n)
by_length (editing (add c i p q)) = editing (add c i p q)
by_length (editing (release c i p q)) = editing (release c i p q)
by_length (editing (drop_client c)) = editing (drop_client c)
by_length (count_list w c s b) = count_list w c s (zeros (length b))
by_length (editing (simple_ping s)) = editing (simple_ping s)
by_length (editing (complex_ping s n adds dels)) = editing (complex_ping s n adds dels)
by_length (editing (clock t)) = editing (clock t)
by_length (looking (resolve x b)) = looking (resolve x (zeros (length b)))
by_length (looking (resolve_filtered x ps b)) = looking (resolve_filtered x ps (zeros (length b)))
by_length (looking census) = looking census
by_length (looking (members s)) = looking (members s)
by_length (looking (next_stop r)) = looking (next_stop r)
by_length (looking (write_snapshot b)) = looking (write_snapshot (zeros (length b)))
by_length (starting (load_snapshot s)) = starting (load_snapshot s)

-- how many numbers a call answers besides its own, of which a record tells
abbrev pub value_count : Call → ℕ
value_count (starting (reset t)) = 0
value_count (editing (enter_exporter x u b)) = 0
value_count (editing (remove_exporter x)) = 0
value_count (editing (enter_object o x i iid n np)) = 0
value_count (editing (enter_interface o i iid n)) = 0
value_count (editing (add c i p q)) = 0
-- what was taken, public and private; interfaces and objects that went
value_count (editing (release c i p q)) = 4
value_count (editing (drop_client c)) = 0
value_count (count_list w c s b) = 0
value_count (editing (simple_ping s)) = 0
-- the set's number, and the backoff factor
value_count (editing (complex_ping s n adds dels)) = 2
-- exporters, objects, interfaces and sets that went
value_count (editing (clock t)) = 4
-- the list's length, and both halves of the IPID
value_count (looking (resolve x b)) = 3
value_count (looking (resolve_filtered x ps b)) = 3
-- exporters, objects, interfaces, sets
value_count (looking census) = 4
value_count (looking (members s)) = 1
-- a next stop is told by its bytes, not by the slice that it is a part of
value_count (looking (next_stop r)) = 0
-- the snapshot's length
value_count (looking (write_snapshot b)) = 1
value_count (starting (load_snapshot s)) = 0

-- any answer: a number, as many other numbers as the call answers, and bytes
pub record Tells (r : Recorded) : Type 0 where
  pub call : Given r.call
  pub number : Wide r.answer.number
  pub count : length r.answer.values ≡ value_count r.call
  pub values : Each Wide r.answer.values
  pub shown : Sliced r.answer.shown

-- ---- the statements

-- a record as a recording tells it
abbrev pub told : Recorded → Recorded
told r = record { call = by_length r.call; answer = r.answer }

-- of the bytes of records
pub record ReadsBack (rs : List Recorded) : Type 0 where
  pub bytes : Bytes (recording_bytes rs)
  pub records : records_of (recording_bytes rs) ≡ map told rs
  -- accepted, but for more than 16,384
  pub few : length rs ≤ most_records → recording_answer (recording_bytes rs) ≡ 0
  pub many : most_records < length rs → recording_answer (recording_bytes rs) ≡ 10

-- any run of calls, with any arguments and any answers, can be recorded, and is read back
abbrev pub AnyCalls : Type 0
AnyCalls = (rs : List Recorded) → Wide (length rs) → Each Tells rs → ReadsBack rs

-- bytes that are neither short nor broken are the recording of what is read of them
abbrev pub OneForm : Type 0
OneForm = (s : List ℕ) → Bytes s → is_short s ≡ false → is_broken s ≡ false → recording_bytes (records_of s) ≡ s

-- every call that is read of bytes has arguments that it can be given
abbrev pub GivenRead : Type 0
GivenRead = (s : List ℕ) → Bytes s → Wide (length s) → Each (λ (r : Recorded). Given r.call) (records_of s)
