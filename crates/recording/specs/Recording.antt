-- A recording (document 02, request 11; docs/RECORDING.md): calls in order, each with its answer, as bytes; how its records are read of
-- bytes, and which bytes are refused.
use Rattle.std.specs.Prelude.{ℕ, zero, suc, ◌+◌, ◌*◌, ◌/◌, ◌%◌, Bool, false, cond, not, ◌||◌, List, [], ◌∷◌, ◌++◌, map, length, get_or, take, drop, eqb, ltb, leb}
use Rattle.kinds.specs.Refusals.{Row, ◌gives◌, order}
use Rattle.fields.specs.Fields.{encode, field, guid_at, guid_bytes, zeros}
use Rattle.bindings.specs.Bindings.{joined}
use Rattle.lists.specs.Lists.{every, tabulate, holding}
use Rattle.rules.specs.Calls.{Call, starting, looking, editing, adding, releasing, reset, enter_exporter, remove_exporter, enter_object, enter_interface, add, release}
use Rattle.rules.specs.Calls.{drop_client, count_list, simple_ping, complex_ping, clock, resolve, resolve_filtered, census, members, next_stop, write_snapshot, load_snapshot}
use Rattle.rules.specs.Snapshot.{in_row}
use Rattle.rules.specs.Rules.{flag}

-- number; the other numbers that are answered; the bytes that are shown as a part or written at the front of a buffer
pub record Answer : Type 0 where
  pub number : ℕ
  pub values : List ℕ
  pub shown : List ℕ

pub record Recorded : Type 0 where
  pub call : Call
  pub answer : Answer

-- ---- the bytes of a record: five sections, each after its count

-- the code and the numbers of the call; its lists; the numbers of its answer; the bytes that were shown or written
pub record Sections : Type 0 where
  pub call : List ℕ
  pub first : List ℕ
  pub second : List ℕ
  pub answer : List ℕ
  pub shown : List ℕ

-- bytes after their count, of eight bytes
unfoldable pub section : List ℕ → List ℕ
section b = encode 8 (length b) ++ b

unfoldable pub sections_bytes : Sections → List ℕ
sections_bytes x = in_row section (x.call ∷ x.first ∷ x.second ∷ x.answer ∷ x.shown ∷ [])

-- the code of a call, and its numbers, each as wide as the call's parameter; an output buffer is told by its length
unfoldable pub call_bytes : Call → List ℕ
call_bytes (starting (reset t)) = joined (encode 1 0 ∷ encode 8 t ∷ [])
call_bytes (editing (enter_exporter x u b)) = joined (encode 1 1 ∷ encode 8 x ∷ guid_bytes u ∷ [])
call_bytes (editing (remove_exporter x)) = joined (encode 1 2 ∷ encode 8 x ∷ [])
call_bytes (editing (enter_object o x i iid n np)) =
    joined (encode 1 3 ∷ encode 8 o ∷ encode 8 x ∷ guid_bytes i ∷ guid_bytes iid ∷ encode 4 n ∷ encode 1 (flag np) ∷ [])
call_bytes (editing (enter_interface o i iid n)) = joined (encode 1 4 ∷ encode 8 o ∷ guid_bytes i ∷ guid_bytes iid ∷ encode 4 n ∷ [])
call_bytes (editing (add c i p q)) = joined (encode 1 5 ∷ encode 4 c ∷ guid_bytes i ∷ encode 4 p ∷ encode 4 q ∷ [])
call_bytes (editing (release c i p q)) = joined (encode 1 6 ∷ encode 4 c ∷ guid_bytes i ∷ encode 4 p ∷ encode 4 q ∷ [])
call_bytes (editing (drop_client c)) = joined (encode 1 7 ∷ encode 4 c ∷ [])
call_bytes (count_list adding c s b) = joined (encode 1 8 ∷ encode 4 c ∷ encode 8 (length b) ∷ [])
call_bytes (count_list releasing c s b) = joined (encode 1 9 ∷ encode 4 c ∷ encode 8 (length b) ∷ [])
call_bytes (editing (simple_ping s)) = joined (encode 1 10 ∷ encode 8 s ∷ [])
call_bytes (editing (complex_ping s n adds dels)) = joined (encode 1 11 ∷ encode 8 s ∷ encode 2 n ∷ [])
call_bytes (editing (clock t)) = joined (encode 1 12 ∷ encode 8 t ∷ [])
call_bytes (looking (resolve x b)) = joined (encode 1 13 ∷ encode 8 x ∷ encode 8 (length b) ∷ [])
call_bytes (looking (resolve_filtered x ps b)) = joined (encode 1 14 ∷ encode 8 x ∷ encode 8 (length b) ∷ [])
call_bytes (looking census) = joined (encode 1 15 ∷ [])
call_bytes (looking (members s)) = joined (encode 1 16 ∷ encode 8 s ∷ [])
call_bytes (looking (next_stop r)) = joined (encode 1 17 ∷ [])
call_bytes (looking (write_snapshot b)) = joined (encode 1 18 ∷ encode 8 (length b) ∷ [])
call_bytes (starting (load_snapshot s)) = joined (encode 1 19 ∷ [])

-- the list or the bytes that a call is given; a complex ping's adds
unfoldable pub first_list : Call → List ℕ
first_list (starting (reset t)) = []
first_list (editing (enter_exporter x u b)) = b
first_list (editing (remove_exporter x)) = []
first_list (editing (enter_object o x i iid n np)) = []
first_list (editing (enter_interface o i iid n)) = []
first_list (editing (add c i p q)) = []
first_list (editing (release c i p q)) = []
first_list (editing (drop_client c)) = []
first_list (count_list w c s b) = s
first_list (editing (simple_ping s)) = []
first_list (editing (complex_ping s n adds dels)) = in_row (encode 8) adds
first_list (editing (clock t)) = []
first_list (looking (resolve x b)) = []
first_list (looking (resolve_filtered x ps b)) = in_row (encode 2) ps
first_list (looking census) = []
first_list (looking (members s)) = []
first_list (looking (next_stop r)) = r
first_list (looking (write_snapshot b)) = []
first_list (starting (load_snapshot s)) = s

-- a complex ping's deletes
unfoldable pub second_list : Call → List ℕ
second_list (starting (reset t)) = []
second_list (editing (enter_exporter x u b)) = []
second_list (editing (remove_exporter x)) = []
second_list (editing (enter_object o x i iid n np)) = []
second_list (editing (enter_interface o i iid n)) = []
second_list (editing (add c i p q)) = []
second_list (editing (release c i p q)) = []
second_list (editing (drop_client c)) = []
second_list (count_list w c s b) = []
second_list (editing (simple_ping s)) = []
second_list (editing (complex_ping s n adds dels)) = in_row (encode 8) dels
second_list (editing (clock t)) = []
second_list (looking (resolve x b)) = []
second_list (looking (resolve_filtered x ps b)) = []
second_list (looking census) = []
second_list (looking (members s)) = []
second_list (looking (next_stop r)) = []
second_list (looking (write_snapshot b)) = []
second_list (starting (load_snapshot s)) = []

-- the number, then the other numbers, of eight bytes each
abbrev pub answer_bytes : Answer → List ℕ
answer_bytes a = in_row (encode 8) (a.number ∷ a.values)

abbrev pub sections_in : Recorded → Sections
sections_in r =
    record {
      call = call_bytes r.call;
      first = first_list r.call;
      second = second_list r.call;
      answer = answer_bytes r.answer;
      shown = r.answer.shown;
    }

abbrev pub record_bytes : Recorded → List ℕ
record_bytes r = sections_bytes (sections_in r)

-- the recording: the records after their count
unfoldable pub recording_bytes : List Recorded → List ℕ
recording_bytes rs = encode 8 (length rs) ++ in_row record_bytes rs

-- ---- the form of the calls, by code

-- width: the bytes of the call's section, its code among them; first, second: the bytes of an element of its lists, 0 where it has none;
-- mark: where in the section a mark stands, 0 where there is none; values: how many numbers it answers besides its own; call: what the
-- section and the lists say
pub record Form : Type 0 where
  pub width : ℕ
  pub first : ℕ
  pub second : ℕ
  pub mark : ℕ
  pub values : ℕ
  pub call : (s first second : List ℕ) → Call

-- no lists, no mark
abbrev plain : ℕ → ℕ → (List ℕ → Call) → Form
plain width values call = record { width = width; first = 0; second = 0; mark = 0; values = values; call = λ s a b. call s }

-- a list of elements of so many bytes
abbrev listed : ℕ → ℕ → ℕ → (List ℕ → List ℕ → Call) → Form
listed width first values call = record { width = width; first = first; second = 0; mark = 0; values = values; call = λ s a b. call s a }

-- the numbers of w bytes each in a list
abbrev pub numbers_of : ℕ → List ℕ → List ℕ
numbers_of w s = tabulate (length s / w) (λ k. field s (w * k) w)

unfoldable pub forms : List Form
forms =
    -- 0 reset, 1 enter exporter, 2 remove exporter
    plain 9 0 (λ s. starting (reset (field s 1 8)))
    ∷ listed 25 1 0 (λ s a. editing (enter_exporter (field s 1 8) (guid_at s 9) a))
    ∷ plain 9 0 (λ s. editing (remove_exporter (field s 1 8)))
    -- 3 enter object, 4 enter interface
    ∷ record {
      width = 54;
      first = 0;
      second = 0;
      mark = 53;
      values = 0;
      call = λ s a b. editing (enter_object (field s 1 8) (field s 9 8) (guid_at s 17) (guid_at s 33) (field s 49 4) (not (eqb (field s 53 1) 0)));
    }
    ∷ plain 45 0 (λ s. editing (enter_interface (field s 1 8) (guid_at s 9) (guid_at s 25) (field s 41 4)))
    -- 5 add, 6 release, 7 drop client
    ∷ plain 29 0 (λ s. editing (add (field s 1 4) (guid_at s 5) (field s 21 4) (field s 25 4)))
    ∷ plain 29 4 (λ s. editing (release (field s 1 4) (guid_at s 5) (field s 21 4) (field s 25 4)))
    ∷ plain 5 0 (λ s. editing (drop_client (field s 1 4)))
    -- 8 add list, 9 release list
    ∷ listed 13 1 0 (λ s a. count_list adding (field s 1 4) a (zeros (field s 5 8)))
    ∷ listed 13 1 0 (λ s a. count_list releasing (field s 1 4) a (zeros (field s 5 8)))
    -- 10 simple ping, 11 complex ping, 12 clock
    ∷ plain 9 0 (λ s. editing (simple_ping (field s 1 8)))
    ∷ record {
      width = 11;
      first = 8;
      second = 8;
      mark = 0;
      values = 2;
      call = λ s a b. editing (complex_ping (field s 1 8) (field s 9 2) (numbers_of 8 a) (numbers_of 8 b));
    }
    ∷ plain 9 4 (λ s. editing (clock (field s 1 8)))
    -- 13 resolve, 14 resolve by protocols, 15 census, 16 members, 17 next stop
    ∷ plain 17 3 (λ s. looking (resolve (field s 1 8) (zeros (field s 9 8))))
    ∷ listed 17 2 3 (λ s a. looking (resolve_filtered (field s 1 8) (numbers_of 2 a) (zeros (field s 9 8))))
    ∷ plain 1 4 (λ s. looking census)
    ∷ plain 9 1 (λ s. looking (members (field s 1 8)))
    ∷ listed 1 1 0 (λ s a. looking (next_stop a))
    -- 18 write snapshot, 19 load snapshot
    ∷ plain 9 1 (λ s. looking (write_snapshot (zeros (field s 1 8))))
    ∷ listed 1 1 0 (λ s a. starting (load_snapshot a))
    ∷ []

-- the form of another code
abbrev no_form : Form
no_form = plain 0 0 (λ s. looking census)

unfoldable pub form_of : ℕ → Form
form_of k = get_or forms k no_form

abbrev pub code_of : Sections → ℕ
code_of x = field x.call 0 1

-- ---- the records in bytes. What is not there is read as 0 and as no bytes: `recording_answer` refuses it

-- the section at the front of bytes, and the bytes behind it
abbrev pub section_in : List ℕ → List ℕ
section_in s = take (field s 0 8) (drop 8 s)

abbrev pub behind_section : List ℕ → List ℕ
behind_section s = drop (field s 0 8) (drop 8 s)

-- the bytes behind n sections
unfoldable pub behind_sections : ℕ → List ℕ → List ℕ
behind_sections zero s = s
behind_sections (suc n) s = behind_sections n (behind_section s)

-- the record at the front of bytes
unfoldable pub sections_at : List ℕ → Sections
sections_at s =
    record {
      call = section_in s;
      first = section_in (behind_sections 1 s);
      second = section_in (behind_sections 2 s);
      answer = section_in (behind_sections 3 s);
      shown = section_in (behind_sections 4 s);
    }

-- n records in a row, and the bytes behind them
unfoldable pub records_in : ℕ → List ℕ → List Sections
records_in zero s = []
records_in (suc n) s = sections_at s ∷ records_in n (behind_sections 5 s)

unfoldable pub behind_records : ℕ → List ℕ → List ℕ
behind_records zero s = s
behind_records (suc n) s = behind_records n (behind_sections 5 s)

-- as many as the count says
abbrev pub count_of : List ℕ → ℕ
count_of s = field s 0 8

abbrev pub sections_of : List ℕ → List Sections
sections_of s = records_in (count_of s) (drop 8 s)

abbrev pub left_over : List ℕ → List ℕ
left_over s = behind_records (count_of s) (drop 8 s)

-- the call and the answer that sections say
unfoldable pub call_of : Sections → Call
call_of x = (form_of (code_of x)).call x.call x.first x.second

unfoldable pub answer_of : Sections → Answer
answer_of x =
    record {
      number = field x.answer 0 8;
      values = tabulate (form_of (code_of x)).values (λ k. field x.answer (8 + 8 * k) 8);
      shown = x.shown;
    }

abbrev pub recorded_of : Sections → Recorded
recorded_of x = record { call = call_of x; answer = answer_of x }

abbrev pub records_of : List ℕ → List Recorded
records_of s = map recorded_of (sections_of s)

-- ---- which bytes are refused

-- the bytes end before a count or a section does
abbrev pub short_section : List ℕ → Bool
short_section s = ltb (length s) 8 || ltb (length (drop 8 s)) (field s 0 8)

unfoldable pub short_sections : ℕ → List ℕ → Bool
short_sections zero s = false
short_sections (suc n) s = short_section s || short_sections n (behind_section s)

unfoldable pub short_records : ℕ → List ℕ → Bool
short_records zero s = false
short_records (suc n) s = short_sections 5 s || short_records n (behind_sections 5 s)

unfoldable pub is_short : List ℕ → Bool
is_short s = ltb (length s) 8 || short_records (count_of s) (drop 8 s)

-- n bytes are whole elements of w bytes; none where w is 0
abbrev pub whole : ℕ → ℕ → Bool
whole w n = cond (eqb w 0) (eqb n 0) (eqb (n % w) 0)

-- a mark is 0 or 1
abbrev pub mark_fits : ℕ → List ℕ → Bool
mark_fits at s = eqb at 0 || leb (field s at 1) 1

-- a known code; a section of the call's numbers, lists of whole elements and numbers of an answer as its form says, by their lengths
unfoldable pub form_fits : List ℕ → ℕ → ℕ → ℕ → Bool
form_fits s first second answer =
    let f : Form = form_of (field s 0 1) in
    holding
    (ltb (field s 0 1) (length forms)
    ∷ eqb (length s) f.width
    ∷ whole f.first first
    ∷ whole f.second second
    ∷ mark_fits f.mark s
    ∷ eqb answer (8 + 8 * f.values)
    ∷ [])

abbrev pub well_formed : Sections → Bool
well_formed x = form_fits x.call (length x.first) (length x.second) (length x.answer)

-- a record that is not well formed, or bytes behind the last one
unfoldable pub is_broken : List ℕ → Bool
is_broken s = not (every well_formed (sections_of s)) || not (eqb (length (left_over s)) 0)

abbrev pub most_records : ℕ
most_records = 16384

-- short bytes 13, a broken form 14, more than 16,384 records 10
abbrev pub recording_refusals : List ℕ → List Row
recording_refusals s = is_short s gives 13 ∷ is_broken s gives 14 ∷ ltb most_records (count_of s) gives 10 ∷ []

unfoldable pub recording_answer : List ℕ → ℕ
recording_answer s = order (recording_refusals s)
