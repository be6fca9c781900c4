-- Whether every answer equals ours, and the first that differs.
use Prim.Native.Nat.{ℕ, suc}
use mathlib.Core.Path.{◌≡◌, refl, sym, ap, ◌∙◌}
use mathlib.Core.Bool.{Bool, true, false, cond, ◌&&◌, true≢false}
use mathlib.Core.List.{List, [], ◌∷◌}
use mathlib.Core.Logic.{⊎_elim}
use native.Mathlib.Omega.{arith}
use borrow.Author.Tests.{eqb-true, eq-eqb}
use lib.Dec.{eqb}
use Rattle.bindings.specs.Bindings.{same_words}
use Rattle.bindings.proofs.Filtering.{same_lists}
use Rattle.lists.proofs.Tests.{true-or-false, and_left, and_right, and_intro}
use Rattle.rules.specs.Entries.{Entries, fresh}
use Rattle.rules.specs.OneByOne.{calls_done}
use Rattle.recording.specs.Recording.{Answer, Recorded}
use Rattle.balance.specs.Balance.{after}
use Rattle.replay_step.specs.Answers.{answer_to, same_answer}
use Rattle.replay_rules.specs.Replay.{answers_over, first_differing, done, calls_in, answers_in}
use Rattle.replay_rules.specs.Statements.{Agrees, FirstDiffers, StopsAtFirst, DoneAll}

-- ---- two answers

words_same : (a : List ℕ) → same_words a a ≡ true
unfolding same_words
words_same [] = refl
words_same (x ∷ a) = and_intro _ _ (eq-eqb x x refl) (words_same a)

same-equal : (a b : Answer) → same_answer a b ≡ true → a ≡ b
same-equal a b h =
    let n : Bool = eqb a.number b.number in
    let v : Bool = same_words a.values b.values in
    let l = and_left (n && v) (same_words a.shown b.shown) h in
    let p = eqb-true a.number b.number (and_left n v l) in
    let q = same_lists a.values b.values (and_right n v l) in
    let t = same_lists a.shown b.shown (and_right (n && v) (same_words a.shown b.shown) h) in
    λ u. record { number = p u; values = q u; shown = t u }

equal-same : (a b : Answer) → a ≡ b → same_answer a b ≡ true
equal-same a b e =
    ap (same_answer a) (sym e)
    ∙ and_intro _ _ (and_intro _ _ (eq-eqb a.number a.number refl) (words_same a.values)) (words_same a.shown)

-- ---- one record

abbrev agrees_here : Recorded → Entries → Bool
agrees_here r e = same_answer r.answer (answer_to r.call e)

module _ (r : Recorded) (rs : List Recorded) (e : Entries) (n : ℕ) where
  past : agrees_here r e ≡ true → first_differing (r ∷ rs) e n ≡ first_differing rs (after r.call e) (suc n)
  unfolding first_differing
  past t = ap (λ (b : Bool). cond b (first_differing rs (after r.call e) (suc n)) n) t

  here : agrees_here r e ≡ false → first_differing (r ∷ rs) e n ≡ n
  unfolding first_differing
  here f = ap (λ (b : Bool). cond b (first_differing rs (after r.call e) (suc n)) n) f

  done-past : agrees_here r e ≡ true → done (r ∷ rs) e ≡ r ∷ done rs (after r.call e)
  unfolding done
  done-past t = ap (λ (b : Bool). r ∷ cond b (done rs (after r.call e)) []) t

  done-here : agrees_here r e ≡ false → done (r ∷ rs) e ≡ r ∷ []
  unfolding done
  done-here f = ap (λ (b : Bool). r ∷ cond b (done rs (after r.call e)) []) f

-- ---- records

-- none differs: every answer is ours
all-ours : (rs : List Recorded) (e : Entries) (n : ℕ) → first_differing rs e (suc n) ≡ 0 → answers_in rs ≡ answers_over (calls_in rs) e
unfolding answers_over
all-ours [] e n z = refl
all-ours (r ∷ rs) e n z =
    ⊎_elim
    (λ t.
    let a = same-equal r.answer (answer_to r.call e) t in
    let b = all-ours rs (after r.call e) (suc n) (sym (past r rs e (suc n) t) ∙ z) in
    λ u. a u ∷ b u)
    (λ f. let q : suc n ≡ 0 = sym (here r rs e (suc n) f) ∙ z in absurd (omega arith))
    (true-or-false (agrees_here r e))

head_of : Answer → List Answer → Answer
head_of d [] = d
head_of d (a ∷ more) = a

tail_of_lem : List Answer → List Answer
tail_of_lem [] = []
tail_of_lem (a ∷ more) = more

none-differs : (rs : List Recorded) (e : Entries) (n : ℕ) → answers_in rs ≡ answers_over (calls_in rs) e → first_differing rs e (suc n) ≡ 0
unfolding answers_over first_differing head_of tail_of_lem
none-differs [] e n q = refl
none-differs (r ∷ rs) e n q =
    past r rs e (suc n) (equal-same r.answer (answer_to r.call e) (ap (head_of r.answer) q))
    ∙ none-differs rs (after r.call e) (suc n) (ap tail_of_lem q)

pub agrees : Agrees
agrees rs = (all-ours rs (fresh 0) 0, none-differs rs (fresh 0) 0)

-- the first that differs
first-differs : (rs : List Recorded) (e : Entries) (n k : ℕ) → first_differing rs e (suc n) ≡ suc k → FirstDiffers rs e (suc n) (suc k)
unfolding first_differing answers_over calls_done
first-differs [] e n k q = absurd (omega arith)
first-differs (r ∷ rs) e n k q =
    ⊎_elim
    (λ t.
    let f = first-differs rs (after r.call e) (suc n) k (sym (past r rs e (suc n) t) ∙ q) in
    let a = same-equal r.answer (answer_to r.call e) t in
    record {
      before = r ∷ f.before;
      this = f.this;
      behind = f.behind;
      all = ap (λ (l : List Recorded). r ∷ l) f.all;
      number = (let z = f.number in omega arith);
      same = (λ u. a u ∷ f.same u);
      differs = f.differs;
      stopped = done-past r rs e (suc n) t ∙ ap (λ (l : List Recorded). r ∷ l) f.stopped;
    })
    (λ g.
    let z : suc n ≡ suc k = sym (here r rs e (suc n) g) ∙ q in
    record {
      before = [];
      this = r;
      behind = rs;
      all = refl;
      number = omega arith;
      same = refl;
      differs = λ d. true≢false (sym (equal-same r.answer (answer_to r.call e) d) ∙ g);
      stopped = done-here r rs e (suc n) g;
    })
    (true-or-false (agrees_here r e))

pub stops-at-first : StopsAtFirst
stops-at-first rs k q = first-differs rs (fresh 0) 0 k q

-- where none differs all are done
done-whole : (rs : List Recorded) (e : Entries) (n : ℕ) → first_differing rs e (suc n) ≡ 0 → done rs e ≡ rs
unfolding done
done-whole [] e n z = refl
done-whole (r ∷ rs) e n z =
    ⊎_elim
    (λ t. done-past r rs e (suc n) t ∙ ap (λ (l : List Recorded). r ∷ l) (done-whole rs (after r.call e) (suc n) (sym (past r rs e (suc n) t) ∙ z)))
    (λ f. let q : suc n ≡ 0 = sym (here r rs e (suc n) f) ∙ z in absurd (omega arith))
    (true-or-false (agrees_here r e))

pub done_all : DoneAll
done_all rs z = done-whole rs (fresh 0) 0 z
