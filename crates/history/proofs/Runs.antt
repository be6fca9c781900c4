-- Demand 3 over whole runs: a chain of performed calls leaves the live entries of the history of its calls. Of a function nothing is
-- used but that it performs its call.
use Prim.Native.Nat.{ℕ}
use mathlib.Core.Path.{◌≡◌, refl, sym, ap, subst, ◌∙◌}
use mathlib.Core.Bool.{Bool, true, cond, ◌&&◌, ◌||◌, or-true, true≢false}
use mathlib.Core.List.{List, ◌∷◌}
use mathlib.Core.Logic.{⊎_elim}
use native.Mathlib.Omega.{arith}
use borrow.Author.Tests.{eq-eqb, ne_eqb}
use Rattle.kinds.specs.declared.Guid.{Guid}
use Rattle.kinds.specs.Refusals.{order}
use Rattle.lists.proofs.Tests.{true-or-false, same_or_not, and_left, and_right}
use Rattle.rules.specs.Entries.{Entries}
use Rattle.rules.specs.Calls.{Call, starting, looking, editing, reset, release, count_list, clock, load_snapshot, Reply}
use Rattle.rules.specs.Sound.{sound}
use Rattle.rules.specs.Rules.{refusals, number, next, results, refused_reply, accepted_reply, reply, release_values, clock_values}
use Rattle.rules.specs.Contract as contract
use Rattle.rules.specs.Contract.{Memory, right_lengths, lengths_only, fit, reply_to}
use Rattle.rules.proofs.Stepping.{reply-number}
use Rattle.rules.proofs.SoundLaws.{table-fields}
use Rattle.table_view.specs.View.{view, sound_memory, Performed}
use Rattle.history.specs.History.{History, begins, live, feed, feed_all, replies, numbers, stays_gone}
use Rattle.history.specs.Runs.{Run, none, call, answered_all, calls_in, numbers_in, unbegun, history_of, WholeRun, counts_granted, gone_exactly, room_exactly}
use Rattle.history.proofs.Lives.{Kept}
use Rattle.history.proofs.Beginning.{kept_fresh}
use Rattle.history.proofs.Feeding.{fed}
use Rattle.history.proofs.Answers.{all-answers}
use Rattle.history.proofs.GoneStays.{stays-gone}
use Rattle.history.proofs.Room.{room-exactly, view-placed}
use Rattle.history.proofs.Demands.{identifiers-distinct, one-object, some-reference, objects-exported, members-live, counts-granted, gone-exactly}

-- ---- one call

-- a sound table is not refused by 1
fits : (c : Call) (m : Memory) → sound_memory m ≡ true → fit view c m ≡ true
unfolding contract.sound_memory fit
fits c m s =
    (λ u. and_left (right_lengths m) (sound (view m)) s u && (lengths_only c || and_right (right_lengths m) (sound (view m)) s u)) ∙ or-true (lengths_only c)

-- where answer 1 is not given, the rules answer
pub fit-reply : (c : Call) (m : Memory) → fit view c m ≡ true → reply_to view c m ≡ reply c (view m)
unfolding reply_to
fit-reply c m f = ap (λ (b : Bool). cond b (reply c (view m)) (refused_reply 1 c (view m))) f

-- a sound table is answered by them
pub replied : (c : Call) (m : Memory) → sound_memory m ≡ true → reply_to view c m ≡ reply c (view m)
replied c m s = fit-reply c m (fits c m s)

module _ (c : Call) (m m' : Memory) (r : Reply) (p : Performed c m r m') (z : r.number ≡ 0) where
  -- an accepted call is not refused by 1
  pub accepted-fits : fit view c m ≡ true
  unfolding reply_to refused_reply
  accepted-fits =
      ⊎_elim
      (λ t. t)
      (λ f. let n : 1 ≡ 0 = sym (ap (λ (a : Bool). (cond a (reply c (view m)) (refused_reply 1 c (view m))).number) f) ∙ sym (ap (λ (q : Reply). q.number) p.answered) ∙ z in absurd (omega arith))
      (true-or-false (fit view c m))

  pub accepted-reply : r ≡ reply c (view m)
  accepted-reply = p.answered ∙ fit-reply c m accepted-fits

-- the memory is sound and holds the live entries of the history
pub record Follows (m : Memory) (h : History) : Type 0 where
  pub sound : sound_memory m ≡ true
  pub entries : view m ≡ live h
  pub kept : Kept h

module _ (c : Call) (m m' : Memory) (r : Reply) (h : History) (p : Performed c m r m') (f : Follows m h) where
  -- the reply is the history's
  call-reply : r ≡ reply c (live h)
  call-reply = cc (p.answered, replied c m f.sound, f.entries)

  -- so is its number
  call-number : r.number ≡ number c (live h)
  call-number = cc (call-reply, reply-number c (live h))

  -- the memory that is left holds the entries of the history that is fed the call
  follows : Follows m' (feed h c)
  follows =
      let g = fed c h f.kept in
      ⊎_elim
      (λ z.
      let a = call-number ∙ z in
      record {
        sound = p.sound_after a;
        entries = p.became a ∙ ap (next c) f.entries ∙ sym (g.entries ∙ ap (λ (b : Bool). cond b (next c (live h)) (live h)) (eq-eqb (number c (live h)) 0 z));
        kept = g.kept;
      })
      (λ d.
      let same = p.kept (λ z. d (sym call-number ∙ z)) in
      record {
        sound = ap sound_memory same ∙ f.sound;
        entries = ap view same ∙ f.entries ∙ sym (g.entries ∙ ap (λ (b : Bool). cond b (next c (live h)) (live h)) (ne_eqb (number c (live h)) 0 d));
        kept = g.kept;
      })
      (same_or_not (number c (live h)) 0)

-- ---- what an accepted call tells of what went

module _ (c : Call) (m m' : Memory) (r : Reply) (h : History) (p : Performed c m r m') (f : Follows m h) (z : r.number ≡ 0) where
  -- the rules' entries after it are the history's
  after-live : next c (live h) ≡ live (feed h c)
  after-live =
      sym ((fed c h f.kept).entries ∙ ap (λ (b : Bool). cond b (next c (live h)) (live h)) (eq-eqb (number c (live h)) 0 (sym (call-number c m m' r h p f) ∙ z)))

  -- its values are those of its results on the history's entries
  told : r.values ≡ (results c (live h)).values
  unfolding reply accepted_reply
  told =
      ap (λ (q : Reply). q.values) (call-reply c m m' r h p f)
      ∙ ap (λ (b : Bool). (cond b (accepted_reply c (live h)) (refused_reply (number c (live h)) c (live h))).values) (eq-eqb (number c (live h)) 0 (sym (call-number c m m' r h p f) ∙ z))

-- ---- a run

-- after a run the memory holds the live entries of the history of its calls, and every reply is the history's
pub run-follows : {cs : List Call} {rs : List Reply} {m m' : Memory} → Run cs rs m m' → (h : History) → Follows m h → Follows m' (feed_all h cs) × (rs ≡ replies h cs)
unfolding feed_all replies
run-follows none h f = (f, refl)
run-follows (call {c} {r} {cs} {rs} {m} {m'} p t) h f =
    let n = run-follows t (feed h c) (follows c m m' r h p f) in
    (n.0, λ u. call-reply c m m' r h p f u ∷ n.1 u)

-- ---- the first call

-- what a call that begins a history leaves and answers does not depend on the entries before it
begins-alike : (c : Call) → begins c ≡ true → (e f : Entries) → (next c e ≡ next c f) × (reply c e ≡ reply c f)
unfolding next reply number refusals order accepted_reply results refused_reply
begins-alike (starting (reset t)) b e f = (refl, refl)
begins-alike (starting (load_snapshot s)) b e f = (refl, refl)
begins-alike (looking l) b e f = absurd (true≢false (sym b))
begins-alike (editing c) b e f = absurd (true≢false (sym b))
begins-alike (count_list w c s l) b e f = absurd (true≢false (sym b))

module _ (c : Call) (m m' : Memory) (r : Reply) (p : Performed c m r m') (b : begins c ≡ true) (z : r.number ≡ 0) where
  -- it is answered as on no history
  first-reply : r ≡ reply c (live unbegun)
  first-reply = accepted-reply c m m' r p z ∙ (begins-alike c b (view m) (live unbegun)).1

  -- the memory that it leaves holds the entries of the history that it begins
  first-follows : Follows m' (feed unbegun c)
  first-follows =
      let g = fed c unbegun (kept_fresh 0) in
      let n : number c (live unbegun) ≡ 0 = sym (reply-number c (live unbegun)) ∙ sym (ap (λ (q : Reply). q.number) first-reply) ∙ z in
      record {
        sound = p.sound_after z;
        entries =
            p.became z
            ∙ (begins-alike c b (view m) (live unbegun)).0
            ∙ sym (g.entries ∙ ap (λ (a : Bool). cond a (next c (live unbegun)) (live unbegun)) (eq-eqb (number c (live unbegun)) 0 n));
        kept = g.kept;
      }

-- ---- a run that begins with such a call

-- the memory follows the history, and the replies are the history's
pub begun-follows : {c : Call} {cs : List Call} {r : Reply} {rs : List Reply} {m m' : Memory} → begins c ≡ true → r.number ≡ 0 → Run (c ∷ cs) (r ∷ rs) m m'
    → Follows m' (history_of (c ∷ cs)) × (r ∷ rs ≡ replies unbegun (c ∷ cs))
unfolding feed_all replies
begun-follows {c} {cs} {r} {rs} {m} b z (call {m' = m₁} p t) =
    let n = run-follows t (feed unbegun c) (first-follows c m m₁ r p b z) in
    (n.0, λ u. first-reply c m m₁ r p b z u ∷ n.1 u)

release-told : (c : ℕ) (i : Guid) (p q : ℕ) (m m' : Memory) (r : Reply) (h : History) → Performed (editing (release c i p q)) m r m' → Follows m h → r.number ≡ 0
    → r.values ≡ release_values c i p q (live h) (live (feed h (editing (release c i p q))))
unfolding results
release-told c i p q m m' r h a f z =
    told (editing (release c i p q)) m m' r h a f z ∙ ap (release_values c i p q (live h)) (after-live (editing (release c i p q)) m m' r h a f z)

clock-told : (t : ℕ) (m m' : Memory) (r : Reply) (h : History) → Performed (editing (clock t)) m r m' → Follows m h → r.number ≡ 0
    → r.values ≡ clock_values (live h) (live (feed h (editing (clock t))))
unfolding results
clock-told t m m' r h a f z = told (editing (clock t)) m m' r h a f z ∙ ap (clock_values (live h)) (after-live (editing (clock t)) m m' r h a f z)

-- demand 3
pub whole_run : WholeRun
whole_run c r cs rs m₀ m b z run =
    let w = begun-follows b z run in
    let h : History = history_of (c ∷ cs) in
    let e = w.0.entries in
    let i = all-answers (c ∷ cs) unbegun (kept_fresh 0) in
    let s = (table-fields view m w.0.sound).entries in
    record {
      answers = w.1;
      item_answers = ap (λ (q : List Reply). numbers_in (answered_all (c ∷ cs) q)) w.1 ∙ i.0 ∙ ap (λ (q : List Reply). numbers unbegun (calls_in (answered_all (c ∷ cs) q))) (sym w.1);
      item_history = i.1 ∙ ap (λ (q : List Reply). feed_all unbegun (calls_in (answered_all (c ∷ cs) q))) (sym w.1);
      entries = e;
      sound = w.0.sound;
      identifiers = identifiers-distinct (view m) s;
      interface_object = one-object (view m) s;
      interface_reference = some-reference (view m) s;
      object_exporter = objects-exported (view m) s;
      member_live = members-live (view m) s;
      counts = ap (counts_granted h) e ∙ counts-granted h w.0.kept;
      gone = ap (gone_exactly h) e ∙ gone-exactly h w.0.kept;
      stays = λ a d q b. subst (λ (ds : List Call). stays_gone (history_of a) (history_of ds) ≡ true) (sym q) (stays-gone a d b);
      released = λ a i p q d m' f y. release-told a i p q m m' d h f w.0 y;
      expired = λ t d m' f y. clock-told t m m' d h f w.0 y;
      room = λ d q m' p.
          ap (λ (n : ℕ). room_exactly n d (view m))
          (ap (λ (a : Reply). a.number) (p.answered ∙ replied d m w.0.sound) ∙ reply-number d (view m))
          ∙ room-exactly d (view m) (view-placed m);
    }
