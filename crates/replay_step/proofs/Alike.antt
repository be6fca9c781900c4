-- Calls that differ in nothing that is answered.
use Prim.Native.Nat.{ℕ}
use mathlib.Core.Path.{◌≡◌, refl, sym, ◌∙◌}
use mathlib.Core.Bool.{Bool, true, false, cond}
use mathlib.Core.List.{List, [], ◌++◌, map}
use lib.ListN.{take}
use lib.Dec.{eqb}
use Rattle.rules.specs.Entries.{Entries}
use Rattle.rules.specs.Calls.{Call}
use Rattle.rules.specs.Rules.{number, next, results, reply, accepted_reply, refused_reply}
use Rattle.recording.specs.Statements.{value_count}
use Rattle.replay_step.specs.Answers.{answer_to}

-- the numbers of a reply, by those of the results
abbrev values_by : ℕ → List ℕ → List ℕ
values_by n vs = cond (eqb n 0) vs (map (λ (v : ℕ). 0) vs)

reply-values : (c : Call) (e : Entries) → (reply c e).values ≡ values_by (number c e) (results c e).values
unfolding reply accepted_reply refused_reply
reply-values c e = go (eqb (number c e) 0)
  where
    go : (b : Bool) → (cond b (accepted_reply c e) (refused_reply (number c e) c e)).values ≡ cond b (results c e).values (map (λ (v : ℕ). 0) (results c e).values)
    go true = refl
    go false = refl

-- two calls that differ in nothing that is answered
pub record Alike (c d : Call) (e : Entries) : Type 0 where
  pub number : number c e ≡ number d e
  pub count : value_count c ≡ value_count d
  pub values : (results c e).values ≡ (results d e).values
  pub part : (results c e).part ≡ (results d e).part
  pub front : (results c e).front ≡ (results d e).front
  pub next : next c e ≡ next d e

pub alike-answer : (c d : Call) (e : Entries) → Alike c d e → answer_to c e ≡ answer_to d e
unfolding answer_to
alike-answer c d e a =
    let v = reply-values c e ∙ (λ u. values_by (a.number u) (a.values u)) ∙ sym (reply-values d e) in
    λ u.
    record {
      number = a.number u;
      values = take (a.count u) (v u);
      shown = cond (eqb (a.number u) 0) (a.part u ++ a.front u) [];
    }
