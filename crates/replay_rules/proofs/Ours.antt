-- Our answer is what the performed call answers.
use Prim.Native.Nat.{ℕ, suc}
use mathlib.Core.Path.{◌≡◌, refl, sym, ap, ◌∙◌}
use mathlib.Core.Bool.{Bool, true, false, cond, true≢false}
use mathlib.Core.List.{List, [], ◌∷◌, ◌++◌, map}
use lib.ListN.{length, take, drop}
use lib.Seq.{take-append_seam}
use lib.Dec.{eqb}
use Rattle.lists.proofs.Lists.{length-tabulate}
use Rattle.rules.specs.Entries.{Entries}
use Rattle.rules.specs.Calls.{Call, starting, looking, editing, Counting, reset, enter_exporter, remove_exporter, enter_object, enter_interface, add, release}
use Rattle.rules.specs.Calls.{drop_client, count_list, simple_ping, complex_ping, clock, resolve, resolve_filtered, census, members, next_stop, write_snapshot, load_snapshot, Reply}
use Rattle.rules.specs.Items.{Item, item_at, item_count, items_of}
use Rattle.rules.specs.Rules.{number, item_done, item_numbers, results, reply, accepted_reply, refused_reply}
use Rattle.rules.proofs.Stepping.{reply-number}
use Rattle.table_view.specs.View.{view}
use Rattle.history.proofs.Runs.{replied}
use Rattle.replay_step.specs.Answers.{answer_to}
use Rattle.recording.specs.Statements.{value_count}
use Rattle.replay_rules.specs.Statements.{is_stop, AllTold, written_by, answer_in, OursPerformed}

zeroed : (vs : List ℕ) → length {A = ℕ} (map (λ (v : ℕ). 0) vs) ≡ length vs
zeroed [] = refl
zeroed (v ∷ vs) = ap suc (zeroed vs)

told_of : (c : Call) (e : Entries) → length (reply c e).values ≡ length (results c e).values
unfolding reply accepted_reply refused_reply
told_of c e = go (eqb (number c e) 0)
  where
    go : (b : Bool) → length (cond b (accepted_reply c e) (refused_reply (number c e) c e)).values ≡ length (results c e).values
    go true = refl
    go false = zeroed (results c e).values

counts-told : (c : Call) (e : Entries) → is_stop c ≡ false → value_count c ≡ length (results c e).values
unfolding results
counts-told (starting (reset t)) e h = refl
counts-told (editing (enter_exporter x u b)) e h = refl
counts-told (editing (remove_exporter x)) e h = refl
counts-told (editing (enter_object o x i iid n np)) e h = refl
counts-told (editing (enter_interface o i iid n)) e h = refl
counts-told (editing (add c i p q)) e h = refl
counts-told (editing (release c i p q)) e h = refl
counts-told (editing (drop_client c)) e h = refl
counts-told (count_list w c s b) e h = refl
counts-told (editing (simple_ping s)) e h = refl
counts-told (editing (complex_ping s n adds dels)) e h = refl
counts-told (editing (clock t)) e h = refl
counts-told (looking (resolve x b)) e h = refl
counts-told (looking (resolve_filtered x ps b)) e h = refl
counts-told (looking census) e h = refl
counts-told (looking (members s)) e h = refl
counts-told (looking (next_stop r)) e h = absurd (true≢false h)
counts-told (looking (write_snapshot b)) e h = refl
counts-told (starting (load_snapshot s)) e h = refl

pub all_told : AllTold
all_told c e h = counts-told c e h ∙ sym (told_of c e)

-- ---- what is shown

length-numbers : (w : Counting) (c : ℕ) (ts : List Item) (e : Entries) → length (item_numbers w c ts e) ≡ length ts
unfolding item_numbers
length-numbers w c [] e = refl
length-numbers w c (t ∷ ts) e = ap suc (length-numbers w c ts (item_done w c t e))

length-items : (s : List ℕ) → length (items_of s) ≡ item_count s
unfolding items_of
length-items s = length-tabulate (item_count s) (item_at s)

-- an accepted reply tells how many bytes were written
written : (c : Call) (e : Entries) → written_by c (accepted_reply c e) ≡ length (results c e).front
unfolding results accepted_reply
written (starting (reset t)) e = refl
written (editing (enter_exporter x u b)) e = refl
written (editing (remove_exporter x)) e = refl
written (editing (enter_object o x i iid n np)) e = refl
written (editing (enter_interface o i iid n)) e = refl
written (editing (add c i p q)) e = refl
written (editing (release c i p q)) e = refl
written (editing (drop_client c)) e = refl
written (count_list w c s b) e = sym (length-numbers w c (items_of s) e ∙ length-items s)
written (editing (simple_ping s)) e = refl
written (editing (complex_ping s n adds dels)) e = refl
written (editing (clock t)) e = refl
written (looking (resolve x b)) e = refl
written (looking (resolve_filtered x ps b)) e = refl
written (looking census) e = refl
written (looking (members s)) e = refl
written (looking (next_stop r)) e = refl
written (looking (write_snapshot b)) e = refl
written (starting (load_snapshot s)) e = refl

-- a refused one that none were
unwritten : (c : Call) (e : Entries) (n : ℕ) → eqb n 0 ≡ false → written_by c (refused_reply n c e) ≡ 0
unfolding results refused_reply
unwritten (starting (reset t)) e n h = refl
unwritten (editing (enter_exporter x u b)) e n h = refl
unwritten (editing (remove_exporter x)) e n h = refl
unwritten (editing (enter_object o x i iid k np)) e n h = refl
unwritten (editing (enter_interface o i iid k)) e n h = refl
unwritten (editing (add c i p q)) e n h = refl
unwritten (editing (release c i p q)) e n h = refl
unwritten (editing (drop_client c)) e n h = refl
unwritten (count_list w c s b) e n h = ap (λ (z : Bool). cond z (item_count s) 0) h
unwritten (editing (simple_ping s)) e n h = refl
unwritten (editing (complex_ping s k adds dels)) e n h = refl
unwritten (editing (clock t)) e n h = refl
unwritten (looking (resolve x b)) e n h = refl
unwritten (looking (resolve_filtered x ps b)) e n h = refl
unwritten (looking census) e n h = refl
unwritten (looking (members s)) e n h = refl
unwritten (looking (next_stop r)) e n h = refl
unwritten (looking (write_snapshot b)) e n h = refl
unwritten (starting (load_snapshot s)) e n h = refl

abbrev shown_in : Call → Reply → List ℕ
shown_in c r = r.part ++ take (written_by c r) r.buffer

front-taken : (c : Call) (e : Entries) → (accepted_reply c e).part ++ take (length (results c e).front) (accepted_reply c e).buffer ≡ (results c e).part ++ (results c e).front
unfolding accepted_reply
front-taken c e = ap (λ (xs : List ℕ). (results c e).part ++ xs) (take-append_seam (results c e).front (drop (length (results c e).front) (results c e).buffer))

shown-accepted : (c : Call) (e : Entries) → shown_in c (accepted_reply c e) ≡ (results c e).part ++ (results c e).front
shown-accepted c e = ap (λ (n : ℕ). (accepted_reply c e).part ++ take n (accepted_reply c e).buffer) (written c e) ∙ front-taken c e

none-taken : (c : Call) (e : Entries) (n : ℕ) → (refused_reply n c e).part ++ take 0 (refused_reply n c e).buffer ≡ []
unfolding refused_reply
none-taken c e n = refl

shown-refused : (c : Call) (e : Entries) (n : ℕ) → eqb n 0 ≡ false → shown_in c (refused_reply n c e) ≡ []
shown-refused c e n h = ap (λ (k : ℕ). (refused_reply n c e).part ++ take k (refused_reply n c e).buffer) (unwritten c e n h) ∙ none-taken c e n

shown-same : (c : Call) (e : Entries) → shown_in c (reply c e) ≡ (answer_to c e).shown
unfolding reply answer_to
shown-same c e = go (eqb (number c e) 0) refl
  where
    go : (b : Bool) → eqb (number c e) 0 ≡ b → shown_in c (cond b (accepted_reply c e) (refused_reply (number c e) c e)) ≡ cond b ((results c e).part ++ (results c e).front) []
    go true h = shown-accepted c e
    go false h = shown-refused c e (number c e) h

ours : (c : Call) (e : Entries) → answer_in c (reply c e) ≡ answer_to c e
unfolding answer_to
ours c e = let n = reply-number c e in let s = shown-same c e in λ u. record { number = n u; values = take (value_count c) (reply c e).values; shown = s u }

pub ours-performed : OursPerformed
ours-performed c m m' r p s = sym (ours c (view m)) ∙ ap (answer_in c) (sym (p.answered ∙ replied c m s))
