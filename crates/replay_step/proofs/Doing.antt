-- A call on a sound table that shows nothing, and its recorded answer.
use Prim.Native.Nat.{ℕ, suc, ◌+◌, ◌*◌, ◌≤◌}
use mathlib.Core.Path.{◌≡◌, refl, sym, ap, ◌∙◌}
use mathlib.Core.Bool.{Bool, true, false, cond, ◌&&◌, ◌||◌, and-true, true≢false}
use mathlib.Core.List.{List, [], ◌∷◌, ◌++◌}
use mathlib.Core.Logic.{⊎_elim}
use native.Mathlib.Omega.{arith}
use borrow.Author.Tests.{eq-eqb, ne_eqb, leb-true}
use lib.ListN.{length, get_or, take}
use lib.Seq.{take-length}
use lib.Dec.{eqb, leb}
use Rattle.fields.specs.Fields.{field}
use Rattle.fields.proofs.Fields.{field_out}
use Rattle.bindings.specs.Bindings.{same_words}
use Rattle.lists.specs.Lists.{tabulate, holding}
use Rattle.lists.proofs.Tests.{true-or-false}
use Rattle.rules.specs.Calls.{Call, Reply}
use Rattle.rules.specs.Rules.{number, results, reply}
use Rattle.rules.specs.Sound.{sound}
use Rattle.rules.specs.Contract.{Memory, Whole, right_lengths, lengths_only, fit, reply_to}
use Rattle.rules.proofs.Stepping.{reply-number, performed-step}
use Rattle.rules.proofs.SoundLaws.{clause-at}
use Rattle.table_view.specs.View.{view, SoundTable, Stepped, Performed}
use Rattle.recording.specs.Statements.{value_count}
use Rattle.replay_step.specs.Answers.{answer_to}
use Rattle.replay_step.specs.Steps.{numbers_are, CallDone, plain_step}
use Rattle.replay_step.specs.declared.Step.{Step}

-- nothing is shown
none-shown : (s : List ℕ) → eqb (length s) 0 ≡ same_words s []
unfolding same_words
none-shown [] = eq-eqb 0 0 refl
none-shown (x ∷ s) = ne_eqb (suc (length s)) 0 (λ z. absurd (omega arith))

abbrev nothing : List ℕ
nothing = []

empty-shown : (b : Bool) → cond b (nothing ++ nothing) nothing ≡ nothing
empty-shown true = refl
empty-shown false = refl

-- ---- the numbers of an answer

-- a field that is not there is 0
out-zero : (s : List ℕ) (at : ℕ) → length s ≤ at → eqb (field s at 8) 0 ≡ true
out-zero s at h = eq-eqb (field s at 8) 0 (field_out s at 8 (omega arith))

-- a section with as many results as there are, at most four; those behind them are 0
pub values-are : (s : List ℕ) (n : ℕ) (vs : List ℕ) → leb (length vs) 4 ≡ true → length s ≡ 8 + 8 * length vs
    → numbers_are s n (get_or vs 0 0) (get_or vs 1 0) (get_or vs 2 0) (get_or vs 3 0)
    ≡ (eqb (field s 0 8) n && same_words (tabulate (length vs) (λ k. field s (8 + 8 * k) 8)) vs)
unfolding numbers_are holding same_words tabulate
values-are s n [] b l =
    λ u.
    eqb (field s 0 8) n && (out-zero s 8 (omega arith) u && (out-zero s 16 (omega arith) u && (out-zero s 24 (omega arith) u && (out-zero s 32 (omega arith) u && true))))
values-are s n (v ∷ []) b l =
    λ u.
    eqb (field s 0 8) n && (eqb (field s 8 8) v && (out-zero s 16 (omega arith) u && (out-zero s 24 (omega arith) u && (out-zero s 32 (omega arith) u && true))))
values-are s n (v ∷ w ∷ []) b l =
    λ u.
    eqb (field s 0 8) n && (eqb (field s 8 8) v && (eqb (field s 16 8) w && (out-zero s 24 (omega arith) u && (out-zero s 32 (omega arith) u && true))))
values-are s n (v ∷ w ∷ x ∷ []) b l =
    λ u.
    eqb (field s 0 8) n && (eqb (field s 8 8) v && (eqb (field s 16 8) w && (eqb (field s 24 8) x && (out-zero s 32 (omega arith) u && true))))
values-are s n (v ∷ w ∷ x ∷ y ∷ []) b l = refl
values-are s n (v ∷ w ∷ x ∷ y ∷ z ∷ vs) b l = let five = leb-true (length (v ∷ w ∷ x ∷ y ∷ z ∷ vs)) 4 b in absurd (omega arith)

-- ---- the tests of `answers` in their order

module _ (s : List ℕ) (n a b c d : ℕ) where
  abbrev tests : List Bool
  tests = eqb (field s 0 8) n ∷ eqb (field s 8 8) a ∷ eqb (field s 16 8) b ∷ eqb (field s 24 8) c ∷ eqb (field s 32 8) d ∷ []

  pub not-these : (i : ℕ) → get_or tests i true ≡ false → false ≡ numbers_are s n a b c d
  unfolding numbers_are
  not-these i f = ⊎_elim (λ t. absurd (true≢false (sym (clause-at tests i t) ∙ f))) (λ h. sym h) (true-or-false (holding tests))

  pub these : field s 0 8 ≡ n → field s 8 8 ≡ a → field s 16 8 ≡ b → field s 24 8 ≡ c → eqb (field s 32 8) d ≡ numbers_are s n a b c d
  unfolding numbers_are holding
  these p q r t =
      sym
      ((λ u. eq-eqb (field s 0 8) n p u && (eq-eqb (field s 8 8) a q u && (eq-eqb (field s 16 8) b r u && (eq-eqb (field s 24 8) c t u && (eqb (field s 32 8) d && true)))))
      ∙ and-true (eqb (field s 32 8) d))

-- ---- calls by what they answer

-- A call on a memory that is answered by the rules. vs: the values of which a record tells; ours: the bytes that it shows.
pub shown-done : (c : Call) (m m' : Memory) (q : Reply) (s shown : List ℕ) (vs ours : List ℕ) (d : Step) → Performed c m q m' → q ≡ reply c (view m)
    → value_count c ≡ length vs → take (length vs) q.values ≡ vs → leb (length vs) 4 ≡ true → length s ≡ 8 + 8 * length vs
    → ours ≡ (answer_to c (view m)).shown → Whole m'.words → Whole m'.store
    → d ≡ record { agrees = numbers_are s q.number (get_or vs 0 0) (get_or vs 1 0) (get_or vs 2 0) (get_or vs 3 0) && same_words shown ours; accepted = eqb q.number 0 }
    → CallDone c s shown m d m'
unfolding answer_to
shown-done c m m' q s shown vs ours d pf an v all b l o w k e =
    let told : ℕ → List ℕ = λ (n : ℕ). tabulate n (λ k. field s (8 + 8 * k) 8) in
    let is : q.number ≡ number c (view m) = ap (λ (r : Reply). r.number) an ∙ reply-number c (view m) in
    record {
      done = record {
        reply = q;
        performed = pf;
        agrees =
            ap (λ (x : Step). x.agrees) e
            ∙ (λ u. values-are s q.number vs b l u && same_words shown (o u))
            ∙ (λ u. (eqb (field s 0 8) (is u) && same_words (told (length vs)) (sym all u)) && same_words shown (answer_to c (view m)).shown)
            ∙ (λ u. (eqb (field s 0 8) (number c (view m)) && same_words (told (sym v u)) (take (sym v u) (an u).values)) && same_words shown (answer_to c (view m)).shown);
        accepted = ap (λ (x : Step). x.accepted) e ∙ ap (λ (n : ℕ). eqb n 0) is;
      };
      words = w;
      store = k;
    }

-- it shows nothing
pub answered-done : (c : Call) (m m' : Memory) (q : Reply) (s shown : List ℕ) (d : Step) → Performed c m q m' → q ≡ reply c (view m)
    → value_count c ≡ length q.values → leb (length q.values) 4 ≡ true → length s ≡ 8 + 8 * length q.values
    → (results c (view m)).part ≡ [] → (results c (view m)).front ≡ [] → Whole m'.words → Whole m'.store
    → d ≡ plain_step s shown q.number (get_or q.values 0 0) (get_or q.values 1 0) (get_or q.values 2 0) (get_or q.values 3 0)
    → CallDone c s shown m d m'
unfolding answer_to
answered-done c m m' q s shown d pf an v b l part front w k e =
    let hidden : cond (eqb (number c (view m)) 0) ((results c (view m)).part ++ (results c (view m)).front) [] ≡ [] =
    (λ u. cond (eqb (number c (view m)) 0) (part u ++ front u) []) ∙ empty-shown (eqb (number c (view m)) 0) in
    shown-done c m m' q s shown q.values [] d pf an v (take-length q.values) b l (sym hidden) w k
    (e
    ∙ (λ u.
    record {
      agrees = numbers_are s q.number (get_or q.values 0 0) (get_or q.values 1 0) (get_or q.values 2 0) (get_or q.values 3 0) && none-shown shown u;
      accepted = eqb q.number 0;
    }))

-- a step
pub step-done : (c : Call) (m m' : Memory) (q : Reply) (s shown : List ℕ) (d : Step) → SoundTable m → Stepped c m q m' → lengths_only c ≡ false
    → value_count c ≡ length q.values → leb (length q.values) 4 ≡ true → length s ≡ 8 + 8 * length q.values
    → (results c (view m)).part ≡ [] → (results c (view m)).front ≡ [] → Whole m'.words → Whole m'.store
    → d ≡ plain_step s shown q.number (get_or q.values 0 0) (get_or q.values 1 0) (get_or q.values 2 0) (get_or q.values 3 0)
    → CallDone c s shown m d m'
step-done c m m' q s shown d t st o v b l part front w k e =
    answered-done c m m' q s shown d (performed-step view c m t st o w k) st.answered v b l part front w k e

-- a call that looks at lengths only
pub start-done : (c : Call) (m m' : Memory) (q : Reply) (s shown : List ℕ) (d : Step) → SoundTable m → Performed c m q m' → lengths_only c ≡ true
    → value_count c ≡ length q.values → leb (length q.values) 4 ≡ true → length s ≡ 8 + 8 * length q.values
    → (results c (view m)).part ≡ [] → (results c (view m)).front ≡ [] → Whole m'.words → Whole m'.store
    → d ≡ plain_step s shown q.number (get_or q.values 0 0) (get_or q.values 1 0) (get_or q.values 2 0) (get_or q.values 3 0)
    → CallDone c s shown m d m'
unfolding fit reply_to
start-done c m m' q s shown d t pf o v b l part front w k e =
    let right : right_lengths m ≡ true = (λ u. eq-eqb (length m.words) 8192 t.words u && eq-eqb (length m.store) 8192 t.store u) in
    let f : fit view c m ≡ true = λ u. right u && (o u || sound (view m)) in
    answered-done c m m' q s shown d pf (pf.answered ∙ rw f) v b l part front w k e
