-- The table's sum after a record, where the sum before it tells it.
use Prim.Native.Nat.{ℕ, ◌+◌, ◌<◌, min}
use mathlib.Core.Path.{◌≡◌, refl, sym, ap, ◌∙◌, subst}
use mathlib.Core.Bool.{Bool, true, false, cond, ◌&&◌}
use native.Mathlib.Omega.{arith}
use borrow.Author.Tests.{ne_eqb}
use mathlib.Core.List.{List}
use lib.ListN.{get_or}
use lib.Dec.{eqb}
use Rattle.kinds.specs.declared.Guid.{Guid}
use Rattle.fields.specs.Fields.{field, guid_at}
use Rattle.bindings.specs.Bindings.{same_words}
use Rattle.bindings.proofs.Filtering.{same_lists}
use Rattle.lists.specs.Lists.{tabulate}
use Rattle.lists.proofs.Tests.{and_left, and_right}
use Rattle.rules.specs.Entries.{Entries, public_of, private_of}
use Rattle.rules.specs.Calls.{editing, release}
use Rattle.rules.specs.Sound.{sound}
use Rattle.rules.specs.Rules.{interface_of, number, results, accepted_reply, reply}
use Rattle.rules.specs.Contract.{Memory}
use Rattle.rules.proofs.SoundLaws.{table-made}
use Rattle.table_view.specs.View.{view, SoundTable}
use Rattle.table_view.proofs.Counts.{nine-each}
use Rattle.tally.specs.declared.Tally.{Tally}
use Rattle.balance.specs.Balance.{held_in, counting, after, Nine}
use Rattle.balance.specs.Sides.{Side, granting, taking, running, beginning}
use Rattle.balance.proofs.Sums.{table-small}
use Rattle.balance.proofs.Balanced.{each-balanced}
use Rattle.balance.proofs.Sides.{granted-sum}
use Rattle.recording.specs.Recording.{Answer, Sections, forms, form_of, code_of, well_formed, call_of, answer_of}
use Rattle.replay_step.specs.Answers.{answer_to, same_answer}
use Rattle.replay_step.specs.Steps.{answer_in}
use Rattle.replay_step.specs.declared.Step.{Step}
use Rattle.replay_tally.specs.Sums.{side_as, summed_as, SumTold}
use Rattle.replay_groups.specs.Records.{RecordDone}
use Rattle.replay_groups.proofs.Coded.{call_as, code-known, by_codes, side-as}
use Rattle.replay_rules.proofs.Running.{after_call}

is_granting : Side → Bool
is_granting granting = true
is_granting taking = false
is_granting running = false
is_granting beginning = false

-- the codes whose calls grant alone, but for a list
is_told : ℕ → Bool
is_told k = cond (eqb k 8) false (is_granting (side_as k))

-- what such a call grants
granted-as : (x : Sections) (e : Entries) (y : Tally) (k : ℕ) → k < 20 → is_told k ≡ true → (counting (call_as k x) e y).granted ≡ summed_as k x.call y.granted
unfolding tabulate counting form_of forms side_as summed_as is_told is_granting
granted-as x e y k h t =
    rw t at (by_codes (λ (j : ℕ). cond (is_told j) (counting (call_as j x) e y).granted 0) (λ (j : ℕ). cond (is_told j) (summed_as j x.call y.granted) 0) refl k h)

-- a release took what its answer says
release-told : (c : ℕ) (i : Guid) (p q : ℕ) (e : Entries) (s shown : List ℕ) → sound e ≡ true → Nine e → eqb (number (editing (release c i p q)) e) 0 ≡ true
    → same_answer (answer_in 4 s shown) (answer_to (editing (release c i p q)) e) ≡ true
    → held_in (after (editing (release c i p q)) e) + (field s 8 8 + field s 16 8) ≡ held_in e
unfolding tabulate answer_to reply accepted_reply results counting
release-told c i p q e s shown w nine ok a =
    let y : Tally = record { granted = held_in e; taken = 0; rundown = 0 } in
    let told : Answer = answer_in 4 s shown in
    let ours : Answer = answer_to (editing (release c i p q)) e in
    let front = and_left (eqb told.number ours.number && same_words told.values ours.values) (same_words told.shown ours.shown) a in
    let values : told.values ≡ ours.values = same_lists _ _ (and_right (eqb told.number ours.number) (same_words told.values ours.values) front) in
    let v = rw ok at values in
    let f : field s 8 8 ≡ min p (public_of (interface_of e i)) = ap (λ (l : List ℕ). get_or l 0 0) v in
    let g : field s 16 8 ≡ min q (private_of c (interface_of e i)) = ap (λ (l : List ℕ). get_or l 1 0) v in
    let d = rw ok at (each-balanced (editing (release c i p q)) e y w nine (omega arith)) in
    rw ok (omega arith)

module _ (x : Sections) (m m' : Memory) (d : Step) (old : ℕ) (s : SoundTable m) (w : well_formed x ≡ true) (r : RecordDone x m d m') (o : old ≡ held_in (view m)) where
  abbrev became : view m' ≡ after (call_of x) (view m)
  became = (after_call (call_of x) m m' r.done.reply r.done.performed (table-made view m s)).0

  refused : d.accepted ≡ false → held_in (view m') ≡ old
  refused f = ap held_in became ∙ rw (sym r.done.accepted ∙ f) (sym o)

  told : d.accepted ≡ true → side_as (code_of x) ≡ granting → (code_of x ≡ 8 → ⊥) → held_in (view m') ≡ summed_as (code_of x) x.call old
  unfolding call_of is_told is_granting
  told t g n =
      let q = granted-sum (call_of x) (view m) s.entries (nine-each m.words) (side-as x w ∙ g) in
      let is : is_told (code_of x) ≡ true = rw (ne_eqb (code_of x) 8 n, g) in
      ap held_in became ∙ q ∙ rw (sym r.done.accepted ∙ t) (granted-as x (view m) _ (code_of x) (code-known x.call _ _ _ w) is ∙ rw o)

  released : d.accepted ≡ true → d.agrees ≡ true → code_of x ≡ 6 → held_in (view m') + (field x.answer 8 8 + field x.answer 16 8) ≡ old
  unfolding call_of answer_of form_of forms
  released t a e =
      let ok = subst (λ (k : ℕ). eqb (number (call_as k x) (view m)) 0 ≡ true) e (sym r.done.accepted ∙ t) in
      let same = subst (λ (k : ℕ). same_answer (answer_in (form_of k).values x.answer x.shown) (answer_to (call_as k x) (view m)) ≡ true) e (sym r.done.agrees ∙ a) in
      let is = subst (λ (k : ℕ). view m' ≡ after (call_as k x) (view m)) e became in
      ap (λ (v : Entries). held_in v + (field x.answer 8 8 + field x.answer 16 8)) is
      ∙ release-told (field x.call 1 4) (guid_at x.call 5) (field x.call 21 4) (field x.call 25 4) (view m) x.answer x.shown
      s.entries (nine-each m.words) ok same
      ∙ sym o

  pub sum_told : SumTold (code_of x) x.call x.answer d.agrees d.accepted old (held_in (view m'))
  sum_told = record { refused = refused; told = told; released = released; small = (let h = table-small m'.words in omega arith) }
