-- Two adds or releases on different IPIDs, performed in either order.
use mathlib.Core.Path.{◌≡◌, sym, ap, ◌∙◌}
use mathlib.Core.Bool.{Bool, true, cond}
use mathlib.Core.Logic.{⊎_elim}
use borrow.Author.Tests.{eq-eqb, ne_eqb}
use Rattle.lists.proofs.Tests.{same_or_not}
use Rattle.rules.specs.Calls.{Call, Reply}
use Rattle.rules.specs.Rules.{number, next, reply}
use Rattle.rules.specs.Contract.{Memory}
use Rattle.rules.specs.EitherOrder.{call_done, CountCall, call_of, behind, EitherOrder}
use Rattle.rules.proofs.SoundLaws.{table-fields}
use Rattle.rules.proofs.Stepping.{reply-number}
use Rattle.rules.proofs.EitherOrder.{order-irrelevant}
use Rattle.table_view.specs.View.{view, sound_memory, Performed}
use Rattle.history.specs.Orders.{Served, EitherServed}
use Rattle.history.proofs.Runs.{replied}

-- what a call that is performed on a sound table answers and leaves
record Seen (c : Call) (m : Memory) (r : Reply) (m' : Memory) : Type 0 where
  answer : r ≡ reply c (view m)
  left : view m' ≡ call_done c (view m)
  sound : sound_memory m' ≡ true

seen : (c : Call) (m m' : Memory) (r : Reply) → sound_memory m ≡ true → Performed c m r m' → Seen c m r m'
seen c m m' r s p =
    let a = p.answered ∙ replied c m s in
    let n = ap (λ (q : Reply). q.number) a ∙ reply-number c (view m) in
    ⊎_elim
    (λ z.
    record {
      answer = a;
      left = p.became (n ∙ z) ∙ sym (ap (λ (b : Bool). cond b (next c (view m)) (view m)) (eq-eqb (number c (view m)) 0 z));
      sound = p.sound_after (n ∙ z);
    })
    (λ d.
    let same = p.kept (λ z. d (sym n ∙ z)) in
    record {
      answer = a;
      left = ap view same ∙ sym (ap (λ (b : Bool). cond b (next c (view m)) (view m)) (ne_eqb (number c (view m)) 0 d));
      sound = ap sound_memory same ∙ s;
    })
    (same_or_not (number c (view m)) 0)

pub either-served : EitherServed
either-served a b m m₁ m₂ n₁ n₂ ra rb sa sb s apart p q p' q' =
    let x = seen (call_of a) m m₁ ra s p in
    let y = seen (call_of b) m₁ m₂ rb x.sound q in
    let x' = seen (call_of b) m n₁ sb s p' in
    let y' = seen (call_of a) n₁ n₂ sa x'.sound q' in
    let o = order-irrelevant a b (view m) (table-fields view m s).entries apart in
    let second : rb ≡ behind b a (view m) = y.answer ∙ ap (reply (call_of b)) x.left in
    let first : sa ≡ behind a b (view m) = y'.answer ∙ ap (reply (call_of a)) x'.left in
    made a b m m₂ n₂ ra rb sa sb x.answer second x'.answer first
    (y.left ∙ ap (call_done (call_of b)) x.left)
    (y'.left ∙ ap (call_done (call_of a)) x'.left) o
  where
    made : (a b : CountCall) (m m₂ n₂ : Memory) (ra rb sa sb : Reply) → ra ≡ reply (call_of a) (view m) → rb ≡ behind b a (view m) → sb ≡ reply (call_of b) (view m) → sa ≡ behind a b (view m)
        → view m₂ ≡ call_done (call_of b) (call_done (call_of a) (view m)) → view n₂ ≡ call_done (call_of a) (call_done (call_of b) (view m)) → EitherOrder a b (view m) → Served a b m ra rb m₂ sb sa n₂
    made a b m m₂ n₂ ra rb sa sb ea eb fb fa v w o =
        rw (ea, eb, fb, fa)
        (record {
          first = record { number = o.first.number; taken = o.first.taken; interface = o.first.interface };
          second = record { number = sym o.second.number; taken = sym o.second.taken; interface = sym o.second.interface };
          entries = v ∙ o.entries ∙ sym w;
          moved = o.moved;
          stayed = λ k. let z = o.stayed k in (z.0, z.1);
        })
