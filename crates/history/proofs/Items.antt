-- A list of adds or releases in a history: each item counts as a call of its own.
use Prim.Native.Nat.{ℕ}
use mathlib.Core.Path.{◌≡◌, refl, sym, ap, ◌∙◌}
use mathlib.Core.Bool.{Bool, true, false, cond}
use mathlib.Core.List.{List, [], ◌∷◌, map}
use borrow.Author.Tests.{eqb-true}
use lib.Dec.{eqb}
use Rattle.rules.specs.Calls.{Counting, adding, releasing}
use Rattle.rules.specs.Items.{Item, item_call}
use Rattle.rules.specs.Rules.{counted, item_done, items_done, item_numbers, number}
use Rattle.rules.proofs.OneByOne.{item-next}
use Rattle.history.specs.History.{History, live, count_lived, item_fed, items_fed, lived, feed, feed_all, numbers}
use Rattle.history.proofs.Lives.{Kept}
use Rattle.history.proofs.Steps.{Step}
use Rattle.history.proofs.Counting.{add_step, release-step}

-- the step of an item's call
item-step : (h : History) → Kept h → (w : Counting) (c : ℕ) (t : Item) → number (item_call w c t) (live h) ≡ 0 → Step (item_call w c t) h
item-step h k adding c t a = add_step h k c t.ipid t.public t.private a
item-step h k releasing c t a = release-step h k c t.ipid t.public t.private a

item-lived : (w : Counting) (c : ℕ) (t : Item) (h : History) → count_lived w c t.ipid t.public t.private h ≡ lived (item_call w c t) h
unfolding lived
item-lived adding c t h = refl
item-lived releasing c t h = refl

-- an item counts as its call
pub item-fed : (w : Counting) (c : ℕ) (t : Item) (h : History) → item_fed w c t h ≡ feed h (item_call w c t)
unfolding feed
item-fed w c t h = ap (λ (g : History). cond (eqb (number (item_call w c t) (live h)) 0) g h) (item-lived w c t h)

pub items-fed : (w : Counting) (c : ℕ) (ts : List Item) (h : History) → items_fed w c ts h ≡ feed_all h (map (item_call w c) ts)
unfolding items_fed feed_all
items-fed w c [] h = refl
items-fed w c (t ∷ ts) h = cc (item-fed w c t h, items-fed w c ts (feed h (item_call w c t)))

-- what items do to a history
record Fed (w : Counting) (c : ℕ) (ts : List Item) (h : History) : Type 0 where
  entries : live (items_fed w c ts h) ≡ items_done w c ts (live h)
  kept : Kept (items_fed w c ts h)

record One (w : Counting) (c : ℕ) (t : Item) (h : History) : Type 0 where
  entries : live (item_fed w c t h) ≡ item_done w c t (live h)
  kept : Kept (item_fed w c t h)

one : (w : Counting) (c : ℕ) (t : Item) (h : History) → Kept h → One w c t h
one w c t h k = by (eqb (number (item_call w c t) (live h)) 0) refl
  where
    by : (b : Bool) → eqb (number (item_call w c t) (live h)) 0 ≡ b → One w c t h
    by true e =
        let s = item-step h k w c t (eqb-true _ 0 e) in
        record {
          entries =
              ap (λ (b : Bool). live (cond b (count_lived w c t.ipid t.public t.private h) h)) e
              ∙ ap live (item-lived w c t h) ∙ s.entries ∙ sym (item-next w c t (live h))
              ∙ sym (ap (λ (b : Bool). cond b (counted w c t.ipid t.public t.private (live h)) (live h)) e);
          kept = rw e (rw (item-lived w c t h) s.kept);
        }
    by false e =
        record {
          entries =
              ap (λ (b : Bool). live (cond b (count_lived w c t.ipid t.public t.private h) h)) e
              ∙ sym (ap (λ (b : Bool). cond b (counted w c t.ipid t.public t.private (live h)) (live h)) e);
          kept = rw e k;
        }

many : (w : Counting) (c : ℕ) (ts : List Item) (h : History) → Kept h → Fed w c ts h
unfolding items_fed items_done
many w c [] h k = record { entries = refl; kept = k }
many w c (t ∷ ts) h k =
    let o = one w c t h k in
    let r = many w c ts (item_fed w c t h) o.kept in
    record { entries = r.entries ∙ ap (items_done w c ts) o.entries; kept = r.kept }

-- the step of a list
pub items-step : (h : History) → Kept h → (w : Counting) (c : ℕ) (ts : List Item) → (live (items_fed w c ts h) ≡ items_done w c ts (live h)) × Kept (items_fed w c ts h)
items-step h k w c ts = let r = many w c ts h k in (r.entries, r.kept)

-- the numbers of the items are those of their calls
pub item-answers : (w : Counting) (c : ℕ) (ts : List Item) (h : History) → Kept h → item_numbers w c ts (live h) ≡ numbers h (map (item_call w c) ts)
unfolding item_numbers numbers
item-answers w c [] h k = refl
item-answers w c (t ∷ ts) h k =
    let o = one w c t h k in
    ap (λ (l : List ℕ). number (item_call w c t) (live h) ∷ l)
    (ap (item_numbers w c ts) (sym o.entries) ∙ item-answers w c ts (item_fed w c t h) o.kept ∙ ap (λ (g : History). numbers g (map (item_call w c) ts)) (item-fed w c t h))
