-- A call whose shown bytes are compared, and its recorded answer.
use Prim.Native.Nat.{ℕ, ◌+◌, ◌*◌, ◌≤◌}
use mathlib.Core.Path.{◌≡◌, refl, sym, ap, ◌∙◌}
use mathlib.Core.Bool.{Bool, true, false, cond}
use mathlib.Core.List.{List, [], ◌∷◌, ◌++◌, append-nil}
use native.Mathlib.Omega.{arith}
use lib.ListN.{length, take, drop, get_or, length-append}
use lib.Seq.{take_at, take-length}
use lib.Dec.{eqb, leb}
use Rattle.lists.proofs.Lists.{length-tabulate}
use Rattle.rules.specs.Entries.{Entries}
use Rattle.rules.specs.Calls.{Call, Reply, Counting, count_list, looking, next_stop}
use Rattle.rules.specs.Items.{item_count, item_at, items_of}
use Rattle.rules.specs.Rules.{number, results, reply, accepted_reply, refused_reply}
use Rattle.rules.specs.Contract.{Memory, Whole, lengths_only, reply_to}
use Rattle.rules.proofs.OneByOne.{length-numbers}
use Rattle.rules.proofs.Performing.{fit-sound}
use Rattle.rules.proofs.SoundLaws.{table-made}
use Rattle.rules.proofs.Stepping.{reply-number, performed-step}
use Rattle.table_view.specs.View.{view, SoundTable, Stepped}
use Rattle.recording.specs.Statements.{value_count}
use Rattle.call_lists.specs.Listing.{list_reply}
use Rattle.call_look.specs.NextStop.{StopFound, place_reply}
use Rattle.call_look.specs.declared.routing.StopPlace.{StopPlace}
use Rattle.replay_step.specs.Answers.{answer_to, same_answer}
use Rattle.replay_step.specs.Steps.{CallDone, answer_in}
use Rattle.replay_step.specs.declared.Step.{Step}
use Rattle.replay_step.proofs.Alike.{Alike, alike-answer}
use Rattle.replay_step.proofs.Doing.{shown-done}
use Rattle.replay_buffers.specs.Shown.{shown_step}

-- ---- what is shown

module _ (c : Call) (e : Entries) where
  -- the number of bytes at the front of the buffer
  abbrev front_length : ℕ
  front_length = cond (eqb (number c e) 0) (length (results c e).front) 0

  -- they are what is shown of a call that answers no part
  front-shown : (results c e).part ≡ [] → take front_length (reply c e).buffer ≡ (answer_to c e).shown
  unfolding reply accepted_reply refused_reply answer_to
  front-shown p = go (eqb (number c e) 0)
    where
      go : (b : Bool) → take (cond b (length (results c e).front) 0) (cond b (accepted_reply c e) (refused_reply (number c e) c e)).buffer
          ≡ cond b ((results c e).part ++ (results c e).front) []
      go true = rw p (take_at (results c e).front (drop (length (results c e).front) (results c e).buffer) (length (results c e).front) refl)
      go false = refl

  -- and the buffer has them
  front-inside : front_length ≤ length (reply c e).buffer
  unfolding reply accepted_reply refused_reply
  front-inside = go (eqb (number c e) 0)
    where
      go : (b : Bool) → cond b (length (results c e).front) 0 ≤ length (cond b (accepted_reply c e) (refused_reply (number c e) c e)).buffer
      go true = simp length-append (omega arith)
      go false = omega arith

  -- a part is what is shown of a call that writes nothing
  part-shown : (results c e).front ≡ [] → (reply c e).part ≡ (answer_to c e).shown
  unfolding reply accepted_reply refused_reply answer_to
  part-shown f = go (eqb (number c e) 0)
    where
      go : (b : Bool) → (cond b (accepted_reply c e) (refused_reply (number c e) c e)).part ≡ cond b ((results c e).part ++ (results c e).front) []
      go true = rw f (sym (append-nil (results c e).part))
      go false = refl

  -- the first value, where it is the front's length
  length-first : (vs : List ℕ) → (results c e).values ≡ length (results c e).front ∷ vs → get_or (reply c e).values 0 0 ≡ front_length
  unfolding reply accepted_reply refused_reply
  length-first vs h = go (eqb (number c e) 0)
    where
      go : (b : Bool) → get_or (cond b (accepted_reply c e) (refused_reply (number c e) c e)).values 0 0 ≡ cond b (length (results c e).front) 0
      go true = rw h
      go false = rw h

-- ---- a step into a buffer, whose front is compared

module _ {c : Call} {m m' : Memory} {q : Reply} (st : Stepped c m q m') where
  front-left : {n : ℕ} → n ≡ front_length c (view m) → n ≤ length q.buffer
  front-left e = rw (e, st.answered) (front-inside c (view m))

  into-done : {s shown : List ℕ} {n : ℕ} {d : Step} → n ≡ front_length c (view m) → SoundTable m → lengths_only c ≡ false → (results c (view m)).part ≡ []
      → value_count c ≡ length q.values → leb (length q.values) 4 ≡ true → length s ≡ 8 + 8 * length q.values → Whole m'.words → Whole m'.store
      → d ≡ shown_step s shown (take n q.buffer) q.number (get_or q.values 0 0) (get_or q.values 1 0) (get_or q.values 2 0) (get_or q.values 3 0)
      → CallDone c s shown m d m'
  into-done {s} {shown} {n} {d} e t o p v b l w k =
      shown-done c m m' q s shown q.values (take n q.buffer) d (performed-step view c m t st o w k) st.answered v (take-length q.values) b l
      ((λ u. take (e u) (st.answered u).buffer) ∙ front-shown c (view m) p) w k

  -- its first value is the front's length
  module _ (vs : List ℕ) (h : (results c (view m)).values ≡ length (results c (view m)).front ∷ vs) where
    first-is : get_or q.values 0 0 ≡ front_length c (view m)
    first-is = (λ u. get_or (st.answered u).values 0 0) ∙ length-first c (view m) vs h

    pub length-left : get_or q.values 0 0 ≤ length q.buffer
    length-left = front-left first-is

    pub length-done : {s shown : List ℕ} {d : Step} → SoundTable m → lengths_only c ≡ false → (results c (view m)).part ≡ []
        → value_count c ≡ length q.values → leb (length q.values) 4 ≡ true → length s ≡ 8 + 8 * length q.values → Whole m'.words → Whole m'.store
        → d ≡ shown_step s shown (take (get_or q.values 0 0) q.buffer) q.number (get_or q.values 0 0) (get_or q.values 1 0) (get_or q.values 2 0) (get_or q.values 3 0)
        → CallDone c s shown m d m'
    length-done = into-done first-is

-- a list has a byte for each item there
module _ {w : Counting} {x n k : ℕ} {items b b' : List ℕ} {m m' : Memory} (st : Stepped (count_list w x items b) m (list_reply n b') m') (h : k ≡ cond (eqb n 0) (item_count items) 0) where
  items-front : k ≡ front_length (count_list w x items b) (view m)
  unfolding results items_of
  items-front =
      let e = ap (λ (r : Reply). r.number) st.answered ∙ reply-number (count_list w x items b) (view m) in
      let l = length-numbers w x (items_of items) (view m) ∙ length-tabulate (item_count items) (item_at items) in
      h ∙ (λ u. cond (eqb (e u) 0) (sym l u) 0)

  pub items_left : k ≤ length b'
  items_left = front-left st items-front

  pub items-done : {s shown : List ℕ} {d : Step} → SoundTable m → length s ≡ 8 → Whole m'.words → Whole m'.store → d ≡ shown_step s shown (take k b') n 0 0 0 0
      → CallDone (count_list w x items b) s shown m d m'
  unfolding results
  items-done t l u v = into-done st items-front t refl refl refl refl l u v

-- ---- a part

-- on a sound table the rules answer
replied : (c : Call) (m : Memory) → SoundTable m → lengths_only c ≡ false → reply_to view c m ≡ reply c (view m)
unfolding reply_to
replied c m t l = rw (fit-sound view c m l ∙ table-made view m t)

-- a next stop shows the bytes of its place
pub stop-done : (s shown : List ℕ) {reference : List ℕ} {m : Memory} {p : StopPlace} → SoundTable m → StopFound m reference p → length s ≡ 8
    → CallDone (looking (next_stop reference)) s shown m (shown_step s shown (place_reply p m.store reference).part p.answer 0 0 0 0) m
unfolding results
stop-done s shown {reference} {m} {p} t f l =
    let c = looking (next_stop reference) in
    let an = f.performed.answered ∙ replied c m t refl in
    shown-done c m m (place_reply p m.store reference) s shown [] (place_reply p m.store reference).part _ f.performed an refl refl refl l
    ((λ u. (an u).part) ∙ part-shown c (view m) refl) t.words t.store refl

-- ---- a call that differs from another in nothing that is answered is done where that is

pub alike-done : (c d : Call) (m m' : Memory) (s shown : List ℕ) {r : Step} → SoundTable m → lengths_only c ≡ false → lengths_only d ≡ false → Alike c d (view m)
    → CallDone c s shown m r m' → CallDone d s shown m r m'
alike-done c d m m' s shown t l l' a x =
    let p = x.done.performed in
    let n : x.done.reply.number ≡ (reply_to view d m).number =
    (λ u. ((p.answered ∙ replied c m t l) u).number) ∙ reply-number c (view m) ∙ a.number ∙ sym ((λ u. (replied d m t l' u).number) ∙ reply-number d (view m)) in
    record {
      done = record {
        reply = reply_to view d m;
        performed = record {
          answered = refl;
          kept = λ z. p.kept (λ y. z (sym n ∙ y));
          sound_after = λ z. p.sound_after (n ∙ z);
          became = λ z. p.became (n ∙ z) ∙ a.next;
        };
        agrees = x.done.agrees ∙ (λ u. same_answer (answer_in (a.count u) s shown) (alike-answer c d (view m) a u));
        accepted = x.done.accepted ∙ ap (λ (n : ℕ). eqb n 0) a.number;
      };
      words = x.words;
      store = x.store;
    }
