-- A replay in a run of calls, and its tally against the table.
use Prim.Native.Nat.{ℕ}
use mathlib.Core.Path.{◌≡◌, refl, sym, ap, ◌∙◌, subst}
use mathlib.Core.Bool.{Bool, true, cond, ◌&&◌, ◌||◌}
use mathlib.Core.List.{List, ◌∷◌, ◌++◌}
use mathlib.Core.Logic.{⊎_elim}
use native.Mathlib.Omega.{arith}
use borrow.Author.Tests.{eqb-true, eqb-false, eq-eqb, ne_eqb, not-false}
use lib.Dec.{eqb}
use Rattle.kinds.specs.Refusals.{order}
use Rattle.kinds.proofs.Refusing.{passed, by-test}
use Rattle.lists.proofs.Tests.{same_or_not}
use Rattle.rules.specs.Entries.{Entries, fresh}
use Rattle.rules.specs.Calls.{Call, starting, reset, Reply}
use Rattle.rules.specs.Sound.{sound}
use Rattle.rules.specs.Rules.{number, refusals, next}
use Rattle.rules.specs.Contract.{Memory, right_lengths, fit}
use Rattle.rules.specs.OneByOne.{calls_done}
use Rattle.rules.proofs.Stepping.{reply-number}
use Rattle.table_view.specs.View.{view, sound_memory, Performed}
use Rattle.history.specs.Runs.{Run, none, call}
use Rattle.history.proofs.Runs.{replied, fit-reply, whole_run}
use Rattle.tally.specs.declared.Tally.{Tally}
use Rattle.balance.specs.Balance.{no_tally, after, tally_over, Balanced}
use Rattle.balance.proofs.Balanced.{run-balanced}
use Rattle.recording.specs.Recording.{records_of, recording_refusals}
use Rattle.replay_rules.specs.declared.Outcome.{Outcome}
use Rattle.replay_rules.specs.Replay.{first_differing, replayed_calls, replay_answer, outcome_of, Replayed}
use Rattle.replay_rules.specs.Statements.{RunAppend, ReplayTold, ReplayInRun, RefusedInRun, ReplayBegins, EachRecord, ReplayBalanced}
use Rattle.replay_rules.proofs.Agreeing.{agrees, stops-at-first}

-- ---- runs one after the other

pub append : {cs ds : List Call} {rs ss : List Reply} {m m' m'' : Memory} → Run cs rs m m' → Run ds ss m' m'' → Run (cs ++ ds) (rs ++ ss) m m''
append none q = q
append (call p r) q = call p (append r q)

pub run-append : RunAppend
run-append cs ds rs ss m m' m'' p q = append p q

pub replay-in-run : ReplayInRun
replay-in-run cs rs m₀ m m' s r p q z = let n = q.ran z in (n.0, append p n.1)

-- ---- the entries after a run

-- the reply's number is that of the rules
sound-number : (c : Call) (m m' : Memory) (r : Reply) → Performed c m r m' → sound_memory m ≡ true → r.number ≡ number c (view m)
sound-number c m m' r p s = ap (λ (q : Reply). q.number) (p.answered ∙ replied c m s) ∙ reply-number c (view m)

-- the entries after one call
pub after_call : (c : Call) (m m' : Memory) (r : Reply) → Performed c m r m' → sound_memory m ≡ true → (view m' ≡ after c (view m)) × (sound_memory m' ≡ true)
after_call c m m' r p s =
    let n = sound-number c m m' r p s in
    ⊎_elim
    (λ z. (p.became (n ∙ z) ∙ sym (ap (λ (b : Bool). cond b (next c (view m)) (view m)) (eq-eqb (number c (view m)) 0 z)), p.sound_after (n ∙ z)))
    (λ d.
    let same = p.kept (λ z. d (sym n ∙ z)) in
    (ap view same ∙ sym (ap (λ (b : Bool). cond b (next c (view m)) (view m)) (ne_eqb (number c (view m)) 0 d)), ap sound_memory same ∙ s))
    (same_or_not (number c (view m)) 0)

run-entries : {cs : List Call} {rs : List Reply} {m m' : Memory} → Run cs rs m m' → sound_memory m ≡ true → view m' ≡ calls_done cs (view m)
unfolding calls_done
run-entries none s = refl
run-entries (call {c} {r} {cs} {rs} {m} {m'} p t) s = let a = after_call c m m' r p s in run-entries t a.1 ∙ ap (calls_done cs) a.0

-- after an accepted reset
reset-entries : {t : ℕ} {cs : List Call} {r : Reply} {rs : List Reply} {m m' : Memory} → r.number ≡ 0
    → Run (starting (reset t) ∷ cs) (r ∷ rs) m m' → view m' ≡ calls_done cs (fresh t)
unfolding next
reset-entries {t} {cs} z (call p q) = run-entries q (p.sound_after z) ∙ ap (calls_done cs) (p.became z)

pub each-record : EachRecord
each-record t cs r rs m m' z run = subst (λ (e : Entries). Balanced (tally_over cs (fresh t) no_tally) e) (sym (reset-entries z run)) (run-balanced cs t)

-- ---- the replay's own reset

module _ (m : Memory) (s : List ℕ) where
  -- answer 0 is the recording's and the lengths'
  answer-zero : (outcome_of m s).answer ≡ 0 → replay_answer m s ≡ 0
  unfolding outcome_of
  answer-zero z =
      by-test (λ (o : Outcome). o.answer ≡ 0 → replay_answer m s ≡ 0) (eqb (replay_answer m s) 0) _ _ (λ t a. eqb-true (replay_answer m s) 0 t) (λ f a. a) z

  lengths-right : replay_answer m s ≡ 0 → right_lengths m ≡ true
  unfolding replay_answer
  lengths-right z = not-false (right_lengths m) (passed _ 1 (recording_refusals s) (omega arith) z).0

  -- the outcome of an accepted recording
  accepted-tally : replay_answer m s ≡ 0 → (outcome_of m s).tally ≡ tally_over (replayed_calls s) (fresh 0) no_tally
  unfolding outcome_of
  accepted-tally z =
      by-test (λ (o : Outcome). o.tally ≡ tally_over (replayed_calls s) (fresh 0) no_tally) (eqb (replay_answer m s) 0) _ _
      (λ t. refl) (λ f. absurd (eqb-false (replay_answer m s) 0 f z))

  accepted-differs : replay_answer m s ≡ 0 → (outcome_of m s).differs ≡ first_differing (records_of s) (fresh 0) 1
  unfolding outcome_of
  accepted-differs z =
      by-test (λ (o : Outcome). o.differs ≡ first_differing (records_of s) (fresh 0) 1) (eqb (replay_answer m s) 0) _ _
      (λ t. refl) (λ f. absurd (eqb-false (replay_answer m s) 0 f z))

-- a reset of a table of right lengths is accepted
pub reset-done : (t : ℕ) (m m' : Memory) (r : Reply) → Performed (starting (reset t)) m r m' → right_lengths m ≡ true → r.number ≡ 0
unfolding fit number refusals order
reset-done t m m' r p h =
    ap (λ (q : Reply). q.number) (p.answered ∙ fit-reply (starting (reset t)) m (ap (λ (b : Bool). b && (true || sound (view m))) h)) ∙ reply-number (starting (reset t)) (view m)

module _ (m m' : Memory) (s : List ℕ) (r : Outcome) (p : Replayed m s r m') (z : r.answer ≡ 0) where
  accepted : replay_answer m s ≡ 0
  accepted = answer-zero m s (sym (ap (λ (o : Outcome). o.answer) p.answered) ∙ z)

  -- a run that begins with the reset
  record Begun : Type 0 where
    first : Reply
    replies : List Reply
    done : first.number ≡ 0
    run : Run (starting (reset 0) ∷ replayed_calls s) (first ∷ replies) m m'

  begun-by : {rs : List Reply} → Run (starting (reset 0) ∷ replayed_calls s) rs m m' → Begun
  begun-by (call {r = q} {rs = qs} {m' = m₁} a t) =
      record { first = q; replies = qs; done = reset-done 0 m m₁ q a (lengths-right m s accepted); run = call a t }

  begun : Begun
  begun = begun-by (p.ran z).1

pub replay-told : ReplayTold
replay-told m m' s r p z =
    let d : r.differs ≡ first_differing (records_of s) (fresh 0) 1 = ap (λ (o : Outcome). o.differs) p.answered ∙ accepted-differs m s (accepted m m' s r p z) in
    record {
      agrees = λ a. (agrees (records_of s)).0 (sym d ∙ a);
      ours = λ a. d ∙ (agrees (records_of s)).1 a;
      first = λ k a. stops-at-first (records_of s) k (sym d ∙ a);
    }

pub refused-in-run : RefusedInRun
refused-in-run cs rs m₀ m m' s r p q z = subst (λ (x : Memory). Run cs rs m₀ x) (sym (q.kept z)) p

pub replay-begins : ReplayBegins
replay-begins m m' s r p z =
    let b = begun m m' s r p z in
    (b.first ∷ b.replies, whole_run (starting (reset 0)) b.first (replayed_calls s) b.replies m m' refl b.done b.run)

-- and the entries are those of its calls
pub replay-entries : (m m' : Memory) (s : List ℕ) (r : Outcome) → Replayed m s r m' → r.answer ≡ 0 → view m' ≡ calls_done (replayed_calls s) (fresh 0)
replay-entries m m' s r p z = let b = begun m m' s r p z in reset-entries b.done b.run

pub replay-balanced : ReplayBalanced
replay-balanced m m' s r p z =
    let b = begun m m' s r p z in
    subst (λ (y : Tally). Balanced y (view m')) (sym (ap (λ (o : Outcome). o.tally) p.answered ∙ accepted-tally m s (accepted m m' s r p z)))
    (each-record 0 (replayed_calls s) b.first b.replies m m' b.done b.run)
