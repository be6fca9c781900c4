-- Any calls with any answers can be recorded, and are read back.
use Prim.Native.Nat.{ℕ, zero, suc, ◌+◌, ◌*◌, ◌/◌, ◌%◌, ◌^◌, ◌<◌, ◌≤◌}
use mathlib.Core.Path.{◌≡◌, refl, sym, ap, ◌∙◌}
use mathlib.Core.Bool.{true, false, not, ◌||◌}
use mathlib.Core.List.Memᴰ
use mathlib.Core.List.{List, [], ◌∷◌, ◌++◌, map}
use native.Mathlib.Omega.{arith}
use borrow.Author.Tests.{eq-eqb, leb-true, ltb-true, lt-ltb, le-ltb}
use lib.ListN.{length}
use lib.Dec.{ltb, leb}
use Rattle.kinds.specs.Refusals.{order, ◌gives◌}
use Rattle.fields.specs.Fields.{encode, field, Bytes}
use Rattle.lists.specs.Lists.{every, tabulate}
use Rattle.lists.proofs.Tests.{and_intro, holding-nil, holding-cons}
use Rattle.lists.proofs.Lists.{every-at, every_append, every_map, map-map, tabulate-ext}
use Rattle.lists.proofs.Elements.{in-every, map-ext-in}
use Rattle.rules.specs.Calls.{Call, starting, looking, editing, reset, enter_exporter, remove_exporter, enter_object, enter_interface, add, release, drop_client}
use Rattle.rules.specs.Calls.{count_list, simple_ping, complex_ping, clock, resolve, resolve_filtered, census, members, next_stop, write_snapshot, load_snapshot}
use Rattle.rules.specs.Snapshot.{in_row, all_bytes}
use Rattle.rules.specs.Swapping.{Each}
use Rattle.rules.proofs.SnapshotReading.{encoded-front, length-numbers}
use Rattle.rules.proofs.Swapping.{bytes-every, every-bytes}
use Rattle.recording.specs.Recording.{Recorded, section, sections_bytes, call_bytes, first_list, second_list, answer_bytes, sections_in, record_bytes, recording_bytes, Form, forms, form_of}
use Rattle.recording.specs.Recording.{code_of, sections_of, left_over, call_of, answer_of, recorded_of, records_of, form_fits, well_formed, is_broken, most_records, recording_answer}
use Rattle.recording.specs.Statements.{Given, by_length, value_count, Tells, told, AnyCalls}
use Rattle.recording.proofs.Framing.{Countable, count-read, sections-read, none_left, not_short}
use Rattle.recording.proofs.Numbers.{Wide, wide, fields, field_past, numbers-back}
use Rattle.recording.proofs.Formed.{code_number, Formed, formed, numbers_in, numbered}

-- ---- one record

-- no form is longer than 54 bytes, and none answers more than four numbers
module _ (k : ℕ) (h : ltb k (length forms) ≡ true) where
  form-short : (form_of k).width ≤ 54
  unfolding form_of forms every
  form-short = leb-true (form_of k).width 54 (every-at (λ (f : Form). leb f.width 54) forms _ k (ltb-true k (length forms) h) refl)

  form-few : (form_of k).values ≤ 4
  unfolding form_of forms every
  form-few = leb-true (form_of k).values 4 (every-at (λ (f : Form). leb f.values 4) forms _ k (ltb-true k (length forms) h) refl)

first_short : (c : Call) → Given c → length (first_list c) < 2 ^ 64
unfolding first_list
first_short (starting (reset t)) g = omega arith
first_short (editing (enter_exporter x u b)) g = g.2.1
first_short (editing (remove_exporter x)) g = omega arith
first_short (editing (enter_object o x i iid n np)) g = omega arith
first_short (editing (enter_interface o i iid n)) g = omega arith
first_short (editing (add c i p q)) g = omega arith
first_short (editing (release c i p q)) g = omega arith
first_short (editing (drop_client c)) g = omega arith
first_short (count_list w c s b) g = g.1.1
first_short (editing (simple_ping s)) g = omega arith
first_short (editing (complex_ping s n adds dels)) g = let l = length-numbers 8 adds in let b = g.2.1 in omega arith
first_short (editing (clock t)) g = omega arith
first_short (looking (resolve x b)) g = omega arith
first_short (looking (resolve_filtered x ps b)) g = let l = length-numbers 2 ps in let a = g.1.1 in omega arith
first_short (looking census) g = omega arith
first_short (looking (members s)) g = omega arith
first_short (looking (next_stop r)) g = g.1
first_short (looking (write_snapshot b)) g = omega arith
first_short (starting (load_snapshot s)) g = g.1

second_short : (c : Call) → Given c → length (second_list c) < 2 ^ 64
unfolding second_list
second_short (starting (reset t)) g = omega arith
second_short (editing (enter_exporter x u b)) g = omega arith
second_short (editing (remove_exporter x)) g = omega arith
second_short (editing (enter_object o x i iid n np)) g = omega arith
second_short (editing (enter_interface o i iid n)) g = omega arith
second_short (editing (add c i p q)) g = omega arith
second_short (editing (release c i p q)) g = omega arith
second_short (editing (drop_client c)) g = omega arith
second_short (count_list w c s b) g = omega arith
second_short (editing (simple_ping s)) g = omega arith
second_short (editing (complex_ping s n adds dels)) g = let l = length-numbers 8 dels in let b = g.3.1 in omega arith
second_short (editing (clock t)) g = omega arith
second_short (looking (resolve x b)) g = omega arith
second_short (looking (resolve_filtered x ps b)) g = omega arith
second_short (looking census) g = omega arith
second_short (looking (members s)) g = omega arith
second_short (looking (next_stop r)) g = omega arith
second_short (looking (write_snapshot b)) g = omega arith
second_short (starting (load_snapshot s)) g = omega arith

module _ (r : Recorded) (t : Tells r) where
  abbrev f : Formed r.call (code_number r.call)
  f = formed r.call t.call

  answer-length : length (answer_bytes r.answer) ≡ 8 + 8 * value_count r.call
  answer-length = let l = length-numbers 8 (r.answer.number ∷ r.answer.values) in let c = t.count in omega arith

  pub countable : Countable (sections_in r)
  countable =
      record {
        call = (let w = f.width in let s = form-short (code_number r.call) f.known in omega arith);
        first = first_short r.call t.call;
        second = second_short r.call t.call;
        answer = (let l = answer-length in let v = f.values in let s = form-few (code_number r.call) f.known in omega arith);
        shown = t.shown.1;
      }

  pub well-formed : well_formed (sections_in r) ≡ true
  unfolding form_fits
  well-formed =
      rw f.code
      (holding-cons _ _ f.known
      (holding-cons _ _ (eq-eqb (length (call_bytes r.call)) _ f.width)
      (holding-cons _ _ f.first
      (holding-cons _ _ f.second
      (holding-cons _ _ f.mark
      (holding-cons _ _ (eq-eqb (length (answer_bytes r.answer)) _ (answer-length ∙ ap (λ (n : ℕ). 8 + 8 * n) (sym f.values))) holding-nil))))))

  call_back : call_of (sections_in r) ≡ by_length r.call
  unfolding call_of
  call_back = ap (λ (k : ℕ). (form_of k).call (call_bytes r.call) (first_list r.call) (second_list r.call)) f.code ∙ f.call

  values-back : tabulate (form_of (code_of (sections_in r))).values (λ k. field (answer_bytes r.answer) (8 + 8 * k) 8) ≡ r.answer.values
  unfolding in_row
  values-back =
      ap (λ (n : ℕ). tabulate n (λ k. field (answer_bytes r.answer) (8 + 8 * k) 8)) (ap (λ (k : ℕ). (form_of k).values) f.code ∙ f.values ∙ sym t.count)
      ∙ tabulate-ext (length r.answer.values) (λ k. field (answer_bytes r.answer) (8 + 8 * k) 8) (λ k. field (in_row (encode 8) r.answer.values) (8 * k) 8)
      (λ k l. field_past r.answer.number 8 (in_row (encode 8) r.answer.values) (8 * k) 8)
      ∙ numbers-back 8 r.answer.values t.values

  answer_back : answer_of (sections_in r) ≡ r.answer
  unfolding answer_of in_row
  answer_back u =
      record {
        number = encoded-front 8 r.answer.number (in_row (encode 8) r.answer.values) t.number u;
        values = values-back u;
        shown = r.answer.shown;
      }

  record-back : recorded_of (sections_in r) ≡ told r
  record-back u = record { call = call_back u; answer = answer_back u }

-- ---- bytes

append-bytes : (a b : List ℕ) → all_bytes a ≡ true → all_bytes b ≡ true → all_bytes (a ++ b) ≡ true
append-bytes a b p q = every_append (λ (n : ℕ). ltb n 256) a b ∙ and_intro _ _ p q

encode-bytes : (w n : ℕ) → all_bytes (encode w n) ≡ true
unfolding encode every
encode-bytes zero n = refl
encode-bytes (suc w) n = and_intro _ _ (lt-ltb (n % 256) 256 (omega arith)) (encode-bytes w (n / 256))

row-bytes : {A : Type 0} (bytes : A → List ℕ) (xs : List A) → Each (λ x. all_bytes (bytes x) ≡ true) xs → all_bytes (in_row bytes xs) ≡ true
unfolding in_row every
row-bytes bytes [] h = refl
row-bytes bytes (x ∷ xs) h = append-bytes (bytes x) (in_row bytes xs) (h x (Memᴰ.head refl)) (row-bytes bytes xs (λ y m. h y (Memᴰ.tail m)))

numbers-bytes : (w : ℕ) (ns : List ℕ) → all_bytes (in_row (encode w) ns) ≡ true
numbers-bytes w ns = row-bytes (encode w) ns (λ n m. encode-bytes w n)

fields-bytes : (ws : List Wide) → all_bytes (fields ws) ≡ true
unfolding fields every
fields-bytes [] = refl
fields-bytes (x ∷ xs) = append-bytes (encode x.width x.value) (fields xs) (encode-bytes x.width x.value) (fields-bytes xs)

call-bytes : (c : Call) → all_bytes (call_bytes c) ≡ true
call-bytes c = ap all_bytes (numbered c).bytes ∙ fields-bytes (wide 1 (code_number c) ∷ numbers_in c)

no_bytes : all_bytes [] ≡ true
unfolding every
no_bytes = refl

first-bytes : (c : Call) → Given c → all_bytes (first_list c) ≡ true
unfolding first_list
first-bytes (starting (reset t)) g = no_bytes
first-bytes (editing (enter_exporter x u b)) g = bytes-every b g.2.0
first-bytes (editing (remove_exporter x)) g = no_bytes
first-bytes (editing (enter_object o x i iid n np)) g = no_bytes
first-bytes (editing (enter_interface o i iid n)) g = no_bytes
first-bytes (editing (add c i p q)) g = no_bytes
first-bytes (editing (release c i p q)) g = no_bytes
first-bytes (editing (drop_client c)) g = no_bytes
first-bytes (count_list w c s b) g = bytes-every s g.1.0
first-bytes (editing (simple_ping s)) g = no_bytes
first-bytes (editing (complex_ping s n adds dels)) g = numbers-bytes 8 adds
first-bytes (editing (clock t)) g = no_bytes
first-bytes (looking (resolve x b)) g = no_bytes
first-bytes (looking (resolve_filtered x ps b)) g = numbers-bytes 2 ps
first-bytes (looking census) g = no_bytes
first-bytes (looking (members s)) g = no_bytes
first-bytes (looking (next_stop r)) g = bytes-every r g.0
first-bytes (looking (write_snapshot b)) g = no_bytes
first-bytes (starting (load_snapshot s)) g = bytes-every s g.0

second-bytes : (c : Call) → all_bytes (second_list c) ≡ true
unfolding second_list
second-bytes (starting (reset t)) = no_bytes
second-bytes (editing (enter_exporter x u b)) = no_bytes
second-bytes (editing (remove_exporter x)) = no_bytes
second-bytes (editing (enter_object o x i iid n np)) = no_bytes
second-bytes (editing (enter_interface o i iid n)) = no_bytes
second-bytes (editing (add c i p q)) = no_bytes
second-bytes (editing (release c i p q)) = no_bytes
second-bytes (editing (drop_client c)) = no_bytes
second-bytes (count_list w c s b) = no_bytes
second-bytes (editing (simple_ping s)) = no_bytes
second-bytes (editing (complex_ping s n adds dels)) = numbers-bytes 8 dels
second-bytes (editing (clock t)) = no_bytes
second-bytes (looking (resolve x b)) = no_bytes
second-bytes (looking (resolve_filtered x ps b)) = no_bytes
second-bytes (looking census) = no_bytes
second-bytes (looking (members s)) = no_bytes
second-bytes (looking (next_stop r)) = no_bytes
second-bytes (looking (write_snapshot b)) = no_bytes
second-bytes (starting (load_snapshot s)) = no_bytes

section-bytes : (b : List ℕ) → all_bytes b ≡ true → all_bytes (section b) ≡ true
unfolding section
section-bytes b h = append-bytes (encode 8 (length b)) b (encode-bytes 8 (length b)) h

record-bytes : (r : Recorded) → Tells r → all_bytes (record_bytes r) ≡ true
unfolding sections_bytes in_row
record-bytes r t =
    append-bytes _ _ (section-bytes _ (call-bytes r.call))
    (append-bytes _ _ (section-bytes _ (first-bytes r.call t.call))
    (append-bytes _ _ (section-bytes _ (second-bytes r.call))
    (append-bytes _ _ (section-bytes _ (numbers-bytes 8 (r.answer.number ∷ r.answer.values)))
    (append-bytes _ _ (section-bytes _ (bytes-every r.answer.shown t.shown.0)) no_bytes))))

-- ---- the recording

module _ (rs : List Recorded) (w : length rs < 2 ^ 64) (t : Each Tells rs) where
  abbrev counts : Each (λ r. Countable (sections_in r)) rs
  counts = λ r m. countable r (t r m)

  whole-bytes : Bytes (recording_bytes rs)
  unfolding recording_bytes
  whole-bytes =
      every-bytes (recording_bytes rs)
      (append-bytes (encode 8 (length rs)) (in_row record_bytes rs) (encode-bytes 8 (length rs)) (row-bytes record_bytes rs (λ r m. record-bytes r (t r m))))

  records-back : records_of (recording_bytes rs) ≡ map told rs
  records-back =
      ap (map recorded_of) (sections-read rs w counts)
      ∙ map-map recorded_of sections_in rs
      ∙ map-ext-in (λ (r : Recorded). recorded_of (sections_in r)) told rs (λ r m. record-back r (t r m))

  not-broken : is_broken (recording_bytes rs) ≡ false
  unfolding is_broken
  not-broken =
      let a : every well_formed (sections_of (recording_bytes rs)) ≡ true =
      ap (every well_formed) (sections-read rs w counts) ∙ every_map well_formed sections_in rs
      ∙ in-every (λ (r : Recorded). well_formed (sections_in r)) rs (λ r m. well-formed r (t r m)) in
      λ u. not (a u) || not (eq-eqb (length (left_over (recording_bytes rs))) 0 (ap length (none_left rs w counts)) u)

  answered : recording_answer (recording_bytes rs) ≡ order (false gives 13 ∷ false gives 14 ∷ ltb most_records (length rs) gives 10 ∷ [])
  unfolding recording_answer
  answered u = order (not_short rs w counts u gives 13 ∷ not-broken u gives 14 ∷ ltb most_records (count-read rs w counts u) gives 10 ∷ [])

pub any-calls : AnyCalls
unfolding order
any-calls rs w t =
    record {
      bytes = whole-bytes rs w t;
      records = records-back rs w t;
      few = λ h. answered rs w t ∙ rw (le-ltb most_records (length rs) h);
      many = λ h. answered rs w t ∙ rw (lt-ltb most_records (length rs) h);
    }
