-- A journal whose last write was torn, replayed.
use Prim.Native.Nat.{ℕ}
use mathlib.Core.Path.{◌≡◌, refl, sym, ap, ◌∙◌, subst}
use mathlib.Core.List.{List, [], ◌∷◌, map}
use native.Mathlib.Omega.{arith}
use borrow.Author.Tests.{eqb-false}
use lib.Dec.{eqb}
use Rattle.kinds.proofs.Refusing.{by-test}
use Rattle.rules.specs.Entries.{Entries, fresh}
use Rattle.rules.specs.Calls.{Call}
use Rattle.rules.specs.Contract.{Memory}
use Rattle.rules.specs.OneByOne.{calls_done}
use Rattle.balance.specs.Balance.{after}
use Rattle.recording.specs.Recording.{Recorded, Answer, recording_bytes, records_of}
use Rattle.recording.specs.Statements.{told}
use Rattle.recording.proofs.ReadingBack.{any-calls}
use Rattle.recording.proofs.Torn.{keeps-written}
use Rattle.replay_rules.specs.declared.Outcome.{Outcome}
use Rattle.replay_rules.specs.Replay.{answers_over, first_differing, done, calls_in, answers_in, replayed_calls, replay_answer, outcome_of, Replayed}
use Rattle.replay_rules.specs.Recovering.{Recovers}
use Rattle.replay_rules.proofs.Agreeing.{agrees, done_all}
use Rattle.replay_rules.proofs.Buffers.{length-is-enough}
use Rattle.replay_rules.proofs.Lengths.{right-lengths}
use Rattle.replay_rules.proofs.Running.{replay-entries}

-- ---- records as a recording tells them: the same answers, and calls that are answered alike and leave the same entries

told-answers : (rs : List Recorded) → answers_in (map told rs) ≡ answers_in rs
told-answers [] = refl
told-answers (r ∷ rs) = ap (λ (xs : List Answer). r.answer ∷ xs) (told-answers rs)

told-ours : (rs : List Recorded) (e : Entries) → answers_over (calls_in (map told rs)) e ≡ answers_over (calls_in rs) e
unfolding answers_over
told-ours [] e = refl
told-ours (r ∷ rs) e =
    let a = length-is-enough r.call e in
    λ u. a.0 u ∷ (ap (answers_over (calls_in (map told rs))) a.1 ∙ told-ours rs (after r.call e)) u

told-done : (rs : List Recorded) (e : Entries) → calls_done (calls_in (map told rs)) e ≡ calls_done (calls_in rs) e
unfolding calls_done
told-done [] e = refl
told-done (r ∷ rs) e = ap (calls_done (calls_in (map told rs))) (length-is-enough r.call e).1 ∙ told-done rs (after r.call e)

-- ---- the outcome of an accepted recording

accepted-outcome : (m : Memory) (s : List ℕ) → replay_answer m s ≡ 0 → ((outcome_of m s).answer ≡ 0) × ((outcome_of m s).differs ≡ first_differing (records_of s) (fresh 0) 1)
unfolding outcome_of
accepted-outcome m s z =
    by-test (λ (o : Outcome). (o.answer ≡ 0) × (o.differs ≡ first_differing (records_of s) (fresh 0) 1)) (eqb (replay_answer m s) 0) _ _
    (λ t. (refl, refl)) (λ f. absurd (eqb-false (replay_answer m s) 0 f z))

pub recovers : Recovers
recovers rs front torn r m m' o t h l z ours p right replayed =
    let k = keeps-written rs front torn r t h l z p in
    let s : List ℕ = recording_bytes rs in
    let q : Replayed m s o m' = subst (λ (b : List ℕ). Replayed m b o m') k.bytes replayed in
    let back = any-calls rs (omega arith) t in
    let accepted : replay_answer m s ≡ 0 = sym (right-lengths m s right) ∙ back.few h in
    let out = accepted-outcome m s accepted in
    let same : answers_in (map told rs) ≡ answers_over (calls_in (map told rs)) (fresh 0) = told-answers rs ∙ ours ∙ sym (told-ours rs (fresh 0)) in
    let none : first_differing (map told rs) (fresh 0) 1 ≡ 0 = (agrees (map told rs)).1 same in
    let zero-answer : o.answer ≡ 0 = ap (λ (x : Outcome). x.answer) q.answered ∙ out.0 in
    let calls : replayed_calls s ≡ calls_in (map told rs) =
    ap (λ (x : List Recorded). calls_in (done x (fresh 0))) back.records ∙ ap calls_in (done_all (map told rs) none) in
    record {
      done = zero-answer;
      agrees = ap (λ (x : Outcome). x.differs) q.answered ∙ out.1 ∙ ap (λ (x : List Recorded). first_differing x (fresh 0) 1) back.records ∙ none;
      entries = replay-entries m m' s o q zero-answer ∙ ap (λ (cs : List Call). calls_done cs (fresh 0)) calls ∙ told-done rs (fresh 0);
    }
