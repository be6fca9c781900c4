-- What a recorded call says is the call, with its buffer by its length; and it is well formed. Call by call.
use Prim.Native.Nat.{ℕ, ◌+◌, ◌*◌, ◌/◌, ◌%◌, ◌^◌, ◌<◌, ◌≤◌}
use mathlib.Core.Path.{◌≡◌, refl, ap, ◌∙◌}
use mathlib.Core.Bool.{Bool, true, false, not}
use mathlib.Core.List.{List, [], ◌∷◌, ◌++◌, append_assoc}
use native.Mathlib.Omega.{arith}
use borrow.Author.Tests.{eq-eqb, le-leb}
use lib.ListN.{length}
use lib.Dec.{eqb, ltb}
use Rattle.fields.specs.Fields.{encode, field, zeros}
use Rattle.bindings.specs.Bindings.{joined}
use Rattle.lists.specs.Lists.{tabulate}
use Rattle.rules.specs.Calls.{Call, starting, looking, editing, adding, releasing, reset, enter_exporter, remove_exporter, enter_object, enter_interface, add, release}
use Rattle.rules.specs.Calls.{drop_client, count_list, simple_ping, complex_ping, clock, resolve, resolve_filtered, census, members, next_stop, write_snapshot, load_snapshot}
use Rattle.rules.specs.Rules.{flag}
use Rattle.rules.specs.Snapshot.{in_row}
use Rattle.rules.specs.Swapping.{Each}
use Rattle.rules.proofs.SnapshotReading.{length-numbers}
use Rattle.recording.specs.Recording.{call_bytes, first_list, second_list, forms, form_of, numbers_of, whole, mark_fits}
use Rattle.recording.specs.Statements.{Given, by_length, value_count}
use Rattle.recording.proofs.Numbers.{Wide, wide, fields, widths, length_fields, field_of, numbers-back}

-- the code of a call
abbrev pub code_number : Call → ℕ
code_number (starting (reset t)) = 0
code_number (editing (enter_exporter x u b)) = 1
code_number (editing (remove_exporter x)) = 2
code_number (editing (enter_object o x i iid n np)) = 3
code_number (editing (enter_interface o i iid n)) = 4
code_number (editing (add c i p q)) = 5
code_number (editing (release c i p q)) = 6
code_number (editing (drop_client c)) = 7
code_number (count_list adding c s b) = 8
code_number (count_list releasing c s b) = 9
code_number (editing (simple_ping s)) = 10
code_number (editing (complex_ping s n adds dels)) = 11
code_number (editing (clock t)) = 12
code_number (looking (resolve x b)) = 13
code_number (looking (resolve_filtered x ps b)) = 14
code_number (looking census) = 15
code_number (looking (members s)) = 16
code_number (looking (next_stop r)) = 17
code_number (looking (write_snapshot b)) = 18
code_number (starting (load_snapshot s)) = 19

-- the bytes of a call's section by its numbers
pub record Numbered (c : Call) (k : ℕ) (ws : List Wide) : Type 0 where
  pub bytes : call_bytes c ≡ fields (wide 1 k ∷ ws)

-- one of its numbers
number_at : {c : Call} {k : ℕ} (xs : List Wide) (x : Wide) (ys : List Wide) → Numbered c k (xs ++ (x ∷ ys)) → x.value < 256 ^ x.width
    → field (call_bytes c) (1 + widths xs) x.width ≡ x.value
unfolding widths
number_at {c} {k} xs x ys n b = ap (λ (s : List ℕ). field s (1 + widths xs) x.width) n.bytes ∙ field_of (wide 1 k ∷ xs) x ys b

-- what is asked of a call with code k
pub record Formed (c : Call) (k : ℕ) : Type 0 where
  pub code : field (call_bytes c) 0 1 ≡ k
  pub known : ltb k (length forms) ≡ true
  pub width : length (call_bytes c) ≡ (form_of k).width
  pub first : whole (form_of k).first (length (first_list c)) ≡ true
  pub second : whole (form_of k).second (length (second_list c)) ≡ true
  pub mark : mark_fits (form_of k).mark (call_bytes c) ≡ true
  pub values : (form_of k).values ≡ value_count c
  pub call : (form_of k).call (call_bytes c) (first_list c) (second_list c) ≡ by_length c

-- code and width
module _ {c : Call} {k : ℕ} {ws : List Wide} (n : Numbered c k ws) (b : k < 256) where
  code_at : field (call_bytes c) 0 1 ≡ k
  unfolding widths
  code_at = ap (λ (s : List ℕ). field s 0 1) n.bytes ∙ field_of [] (wide 1 k) ws b

  width_of : length (call_bytes c) ≡ 1 + widths ws
  unfolding widths
  width_of = ap length n.bytes ∙ length_fields (wide 1 k ∷ ws)

  -- the code's form fits
  made : ltb k (length forms) ≡ true → 1 + widths ws ≡ (form_of k).width → whole (form_of k).first (length (first_list c)) ≡ true
      → whole (form_of k).second (length (second_list c)) ≡ true → mark_fits (form_of k).mark (call_bytes c) ≡ true
      → (form_of k).values ≡ value_count c → (form_of k).call (call_bytes c) (first_list c) (second_list c) ≡ by_length c → Formed c k
  made known width first second mark values call =
      record { code = code_at; known = known; width = width_of ∙ width; first = first; second = second; mark = mark; values = values; call = call }

-- the numbers of a call behind its code
abbrev pub numbers_in : Call → List Wide
numbers_in (starting (reset t)) = wide 8 t ∷ []
numbers_in (editing (enter_exporter x u b)) = wide 8 x ∷ wide 8 u.low ∷ wide 8 u.high ∷ []
numbers_in (editing (remove_exporter x)) = wide 8 x ∷ []
numbers_in (editing (enter_object o x i iid n np)) =
    wide 8 o ∷ wide 8 x ∷ wide 8 i.low ∷ wide 8 i.high ∷ wide 8 iid.low ∷ wide 8 iid.high ∷ wide 4 n ∷ wide 1 (flag np) ∷ []
numbers_in (editing (enter_interface o i iid n)) = wide 8 o ∷ wide 8 i.low ∷ wide 8 i.high ∷ wide 8 iid.low ∷ wide 8 iid.high ∷ wide 4 n ∷ []
numbers_in (editing (add c i p q)) = wide 4 c ∷ wide 8 i.low ∷ wide 8 i.high ∷ wide 4 p ∷ wide 4 q ∷ []
numbers_in (editing (release c i p q)) = wide 4 c ∷ wide 8 i.low ∷ wide 8 i.high ∷ wide 4 p ∷ wide 4 q ∷ []
numbers_in (editing (drop_client c)) = wide 4 c ∷ []
numbers_in (count_list adding c s b) = wide 4 c ∷ wide 8 (length b) ∷ []
numbers_in (count_list releasing c s b) = wide 4 c ∷ wide 8 (length b) ∷ []
numbers_in (editing (simple_ping s)) = wide 8 s ∷ []
numbers_in (editing (complex_ping s n adds dels)) = wide 8 s ∷ wide 2 n ∷ []
numbers_in (editing (clock t)) = wide 8 t ∷ []
numbers_in (looking (resolve x b)) = wide 8 x ∷ wide 8 (length b) ∷ []
numbers_in (looking (resolve_filtered x ps b)) = wide 8 x ∷ wide 8 (length b) ∷ []
numbers_in (looking census) = []
numbers_in (looking (members s)) = wide 8 s ∷ []
numbers_in (looking (next_stop r)) = []
numbers_in (looking (write_snapshot b)) = wide 8 (length b) ∷ []
numbers_in (starting (load_snapshot s)) = []

pub numbered : (c : Call) → Numbered c (code_number c) (numbers_in c)
unfolding call_bytes joined fields
numbered (starting (reset t)) = record { bytes = refl }
numbered (editing (enter_exporter x u b)) = record { bytes = simp append_assoc }
numbered (editing (remove_exporter x)) = record { bytes = refl }
numbered (editing (enter_object o x i iid n np)) = record { bytes = simp append_assoc }
numbered (editing (enter_interface o i iid n)) = record { bytes = simp append_assoc }
numbered (editing (add c i p q)) = record { bytes = simp append_assoc }
numbered (editing (release c i p q)) = record { bytes = simp append_assoc }
numbered (editing (drop_client c)) = record { bytes = refl }
numbered (count_list adding c s b) = record { bytes = refl }
numbered (count_list releasing c s b) = record { bytes = refl }
numbered (editing (simple_ping s)) = record { bytes = refl }
numbered (editing (complex_ping s n adds dels)) = record { bytes = refl }
numbered (editing (clock t)) = record { bytes = refl }
numbered (looking (resolve x b)) = record { bytes = refl }
numbered (looking (resolve_filtered x ps b)) = record { bytes = refl }
numbered (looking census) = record { bytes = refl }
numbered (looking (members s)) = record { bytes = refl }
numbered (looking (next_stop r)) = record { bytes = refl }
numbered (looking (write_snapshot b)) = record { bytes = refl }
numbered (starting (load_snapshot s)) = record { bytes = refl }

-- ---- lists

-- bytes are whole elements of one
bytes_whole : (s : List ℕ) → whole 1 (length s) ≡ true
bytes_whole s = eq-eqb (length s % 1) 0 (omega arith)

-- numbers of eight bytes, and of two
words-whole : (ns : List ℕ) → whole 8 (length (in_row (encode 8) ns)) ≡ true
words-whole ns = let l = length-numbers 8 ns in eq-eqb (length (in_row (encode 8) ns) % 8) 0 (omega arith)

pairs-whole : (ns : List ℕ) → whole 2 (length (in_row (encode 2) ns)) ≡ true
pairs-whole ns = let l = length-numbers 2 ns in eq-eqb (length (in_row (encode 2) ns) % 2) 0 (omega arith)

words_back : (ns : List ℕ) → Each (λ n. n < 256 ^ 8) ns → numbers_of 8 (in_row (encode 8) ns) ≡ ns
words_back ns b =
    let l = length-numbers 8 ns in
    let q : length (in_row (encode 8) ns) / 8 ≡ length ns = omega arith in
    ap (λ (n : ℕ). tabulate n (λ k. field (in_row (encode 8) ns) (8 * k) 8)) q ∙ numbers-back 8 ns b

pairs-back : (ns : List ℕ) → Each (λ n. n < 256 ^ 2) ns → numbers_of 2 (in_row (encode 2) ns) ≡ ns
pairs-back ns b =
    let l = length-numbers 2 ns in
    let q : length (in_row (encode 2) ns) / 2 ≡ length ns = omega arith in
    ap (λ (n : ℕ). tabulate n (λ k. field (in_row (encode 2) ns) (2 * k) 2)) q ∙ numbers-back 2 ns b

-- ---- a mark

mark-small : (n : Bool) → flag n < 256
mark-small true = omega arith
mark-small false = omega arith

mark-one : (n : Bool) → flag n ≤ 1
mark-one true = omega arith
mark-one false = omega arith

mark-back : (n : Bool) → not (eqb (flag n) 0) ≡ n
mark-back true = refl
mark-back false = refl

-- ---- every call

pub formed : (c : Call) → Given c → Formed c (code_number c)
unfolding form_of forms first_list second_list widths
formed (starting (reset t)) g =
    let n = numbered (starting (reset t)) in made n (omega arith) refl refl refl refl refl refl (ap starting (ap reset (number_at [] (wide 8 t) [] n g)))
formed (editing (enter_exporter x u b)) g =
    let n = numbered (editing (enter_exporter x u b)) in
    let o : Wide = wide 8 x in
    let l : Wide = wide 8 u.low in
    let h : Wide = wide 8 u.high in
    made n (omega arith) refl refl (bytes_whole b) refl refl refl
    (λ t.
    editing (enter_exporter (number_at [] o (l ∷ h ∷ []) n g.0 t)
    (record { low = number_at (o ∷ []) l (h ∷ []) n g.1.low t; high = number_at (o ∷ l ∷ []) h [] n g.1.high t }) b))
formed (editing (remove_exporter x)) g =
    let n = numbered (editing (remove_exporter x)) in made n (omega arith) refl refl refl refl refl refl (ap editing (ap remove_exporter (number_at [] (wide 8 x) [] n g)))
formed (editing (enter_object o x i iid k np)) g =
    let n = numbered (editing (enter_object o x i iid k np)) in
    let a : Wide = wide 8 o in
    let b : Wide = wide 8 x in
    let l : Wide = wide 8 i.low in
    let h : Wide = wide 8 i.high in
    let l' : Wide = wide 8 iid.low in
    let h' : Wide = wide 8 iid.high in
    let c : Wide = wide 4 k in
    let d : Wide = wide 1 (flag np) in
    let m = number_at (a ∷ b ∷ l ∷ h ∷ l' ∷ h' ∷ c ∷ []) d [] n (mark-small np) in
    made n (omega arith) refl refl refl refl (le-leb (field (call_bytes (editing (enter_object o x i iid k np))) 53 1) 1 (let y = mark-one np in omega (arith, m))) refl
    (λ t.
    editing (enter_object (number_at [] a (b ∷ l ∷ h ∷ l' ∷ h' ∷ c ∷ d ∷ []) n g.0 t) (number_at (a ∷ []) b (l ∷ h ∷ l' ∷ h' ∷ c ∷ d ∷ []) n g.1 t)
    (record { low = number_at (a ∷ b ∷ []) l (h ∷ l' ∷ h' ∷ c ∷ d ∷ []) n g.2.low t; high = number_at (a ∷ b ∷ l ∷ []) h (l' ∷ h' ∷ c ∷ d ∷ []) n g.2.high t })
    (record { low = number_at (a ∷ b ∷ l ∷ h ∷ []) l' (h' ∷ c ∷ d ∷ []) n g.3.low t; high = number_at (a ∷ b ∷ l ∷ h ∷ l' ∷ []) h' (c ∷ d ∷ []) n g.3.high t })
    (number_at (a ∷ b ∷ l ∷ h ∷ l' ∷ h' ∷ []) c (d ∷ []) n g.4 t)
    ((ap (λ (v : ℕ). not (eqb v 0)) m ∙ mark-back np) t)))
formed (editing (enter_interface o i iid k)) g =
    let n = numbered (editing (enter_interface o i iid k)) in
    let a : Wide = wide 8 o in
    let l : Wide = wide 8 i.low in
    let h : Wide = wide 8 i.high in
    let l' : Wide = wide 8 iid.low in
    let h' : Wide = wide 8 iid.high in
    let c : Wide = wide 4 k in
    made n (omega arith) refl refl refl refl refl refl
    (λ t.
    editing (enter_interface (number_at [] a (l ∷ h ∷ l' ∷ h' ∷ c ∷ []) n g.0 t)
    (record { low = number_at (a ∷ []) l (h ∷ l' ∷ h' ∷ c ∷ []) n g.1.low t; high = number_at (a ∷ l ∷ []) h (l' ∷ h' ∷ c ∷ []) n g.1.high t })
    (record { low = number_at (a ∷ l ∷ h ∷ []) l' (h' ∷ c ∷ []) n g.2.low t; high = number_at (a ∷ l ∷ h ∷ l' ∷ []) h' (c ∷ []) n g.2.high t })
    (number_at (a ∷ l ∷ h ∷ l' ∷ h' ∷ []) c [] n g.3 t)))
formed (editing (add c i p q)) g =
    let n = numbered (editing (add c i p q)) in
    let a : Wide = wide 4 c in
    let l : Wide = wide 8 i.low in
    let h : Wide = wide 8 i.high in
    let x : Wide = wide 4 p in
    let y : Wide = wide 4 q in
    made n (omega arith) refl refl refl refl refl refl
    (λ t.
    editing (add (number_at [] a (l ∷ h ∷ x ∷ y ∷ []) n g.0 t)
    (record { low = number_at (a ∷ []) l (h ∷ x ∷ y ∷ []) n g.1.low t; high = number_at (a ∷ l ∷ []) h (x ∷ y ∷ []) n g.1.high t })
    (number_at (a ∷ l ∷ h ∷ []) x (y ∷ []) n g.2 t)
    (number_at (a ∷ l ∷ h ∷ x ∷ []) y [] n g.3 t)))
formed (editing (release c i p q)) g =
    let n = numbered (editing (release c i p q)) in
    let a : Wide = wide 4 c in
    let l : Wide = wide 8 i.low in
    let h : Wide = wide 8 i.high in
    let x : Wide = wide 4 p in
    let y : Wide = wide 4 q in
    made n (omega arith) refl refl refl refl refl refl
    (λ t.
    editing (release (number_at [] a (l ∷ h ∷ x ∷ y ∷ []) n g.0 t)
    (record { low = number_at (a ∷ []) l (h ∷ x ∷ y ∷ []) n g.1.low t; high = number_at (a ∷ l ∷ []) h (x ∷ y ∷ []) n g.1.high t })
    (number_at (a ∷ l ∷ h ∷ []) x (y ∷ []) n g.2 t)
    (number_at (a ∷ l ∷ h ∷ x ∷ []) y [] n g.3 t)))
formed (editing (drop_client c)) g =
    let n = numbered (editing (drop_client c)) in made n (omega arith) refl refl refl refl refl refl (ap editing (ap drop_client (number_at [] (wide 4 c) [] n g)))
formed (count_list adding c s b) g =
    let n = numbered (count_list adding c s b) in
    made n (omega arith) refl refl (bytes_whole s) refl refl refl
    (λ t. count_list adding (number_at [] (wide 4 c) (wide 8 (length b) ∷ []) n g.0 t) s (zeros (number_at (wide 4 c ∷ []) (wide 8 (length b)) [] n g.2 t)))
formed (count_list releasing c s b) g =
    let n = numbered (count_list releasing c s b) in
    made n (omega arith) refl refl (bytes_whole s) refl refl refl
    (λ t. count_list releasing (number_at [] (wide 4 c) (wide 8 (length b) ∷ []) n g.0 t) s (zeros (number_at (wide 4 c ∷ []) (wide 8 (length b)) [] n g.2 t)))
formed (editing (simple_ping s)) g =
    let n = numbered (editing (simple_ping s)) in made n (omega arith) refl refl refl refl refl refl (ap editing (ap simple_ping (number_at [] (wide 8 s) [] n g)))
formed (editing (complex_ping s k adds dels)) g =
    let n = numbered (editing (complex_ping s k adds dels)) in
    made n (omega arith) refl refl (words-whole adds) (words-whole dels) refl refl
    (λ t.
    editing (complex_ping (number_at [] (wide 8 s) (wide 2 k ∷ []) n g.0 t) (number_at (wide 8 s ∷ []) (wide 2 k) [] n g.1 t)
    (words_back adds g.2.0 t) (words_back dels g.3.0 t)))
formed (editing (clock t)) g =
    let n = numbered (editing (clock t)) in made n (omega arith) refl refl refl refl refl refl (ap editing (ap clock (number_at [] (wide 8 t) [] n g)))
formed (looking (resolve x b)) g =
    let n = numbered (looking (resolve x b)) in
    made n (omega arith) refl refl refl refl refl refl
    (λ t. looking (resolve (number_at [] (wide 8 x) (wide 8 (length b) ∷ []) n g.0 t) (zeros (number_at (wide 8 x ∷ []) (wide 8 (length b)) [] n g.1 t))))
formed (looking (resolve_filtered x ps b)) g =
    let n = numbered (looking (resolve_filtered x ps b)) in
    made n (omega arith) refl refl (pairs-whole ps) refl refl refl
    (λ t.
    looking (resolve_filtered (number_at [] (wide 8 x) (wide 8 (length b) ∷ []) n g.0 t) (pairs-back ps g.1.0 t)
    (zeros (number_at (wide 8 x ∷ []) (wide 8 (length b)) [] n g.2 t))))
formed (looking census) g = let n = numbered (looking census) in made n (omega arith) refl refl refl refl refl refl refl
formed (looking (members s)) g =
    let n = numbered (looking (members s)) in made n (omega arith) refl refl refl refl refl refl (ap looking (ap members (number_at [] (wide 8 s) [] n g)))
formed (looking (next_stop r)) g = let n = numbered (looking (next_stop r)) in made n (omega arith) refl refl (bytes_whole r) refl refl refl refl
formed (looking (write_snapshot b)) g =
    let n = numbered (looking (write_snapshot b)) in
    made n (omega arith) refl refl refl refl refl refl (λ t. looking (write_snapshot (zeros (number_at [] (wide 8 (length b)) [] n g t))))
formed (starting (load_snapshot s)) g = let n = numbered (starting (load_snapshot s)) in made n (omega arith) refl refl (bytes_whole s) refl refl refl refl
