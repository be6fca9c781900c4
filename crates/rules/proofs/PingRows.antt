-- What the pings leave is what they leave by the row of the set.
use Prim.Native.Nat.{ℕ, ◌<◌}
use mathlib.Core.Path.{◌≡◌, refl, ap, ◌∙◌}
use mathlib.Core.Bool.{true, false}
use mathlib.Core.List.{List, [], ◌∷◌}
use native.Mathlib.Omega.{arith}
use native.Mathlib.Nat.{add-zero}
use borrow.Author.Tests.{eq-eqb}
use lib.ListN.{set, length, length-append, length-map, length-set}
use lib.Seq.{map-set_same}
use lib.Dec.{eqb}
use Rattle.kinds.proofs.Refusing.{or-false}
use Rattle.lists.specs.Lists.{distinct, first_index}
use Rattle.lists.proofs.Lists.{map-append}
use Rattle.lists.proofs.First.{first-here, first-right}
use Rattle.lists.proofs.Distinct.{eqb-decides, entry-change}
use Rattle.rules.specs.Entries.{PingSet, Entries, set_numbers, pinged_at, set_row, with_sets}
use Rattle.rules.specs.Calls.{editing, simple_ping, complex_ping}
use Rattle.rules.specs.Sound.{sound}
use Rattle.rules.specs.PingRows.{change_set, pinged_row, updated_row}
use Rattle.rules.specs.Rules.{no_set, at_set, ping, make_set, next, heard_now}
use Rattle.rules.proofs.Groups.{fine-distinct, grouped}
use Rattle.rules.proofs.PingingKeeps.{new_set, next-free, set-made}
use Rattle.rules.proofs.ByRow.{set_in, set-row, sets-distinct}

-- a set changed, in its row
at-set-row : (e : Entries) (s : ℕ) (f : PingSet → PingSet) → set_row e s < length e.sets → distinct eqb (set_numbers e) ≡ true
    → at_set s f e ≡ with_sets (set e.sets (set_row e s) (f (set_in e s))) e
at-set-row e s f h u = ap (λ (l : List PingSet). with_sets l e) (entry-change eqb eqb-decides (λ (p : PingSet). p.number) no_set s e.sets h u f)

-- a ping of the set in a row
ping-row : (e : Entries) (s : ℕ) → set_row e s < length e.sets → distinct eqb (set_numbers e) ≡ true → ping s e ≡ pinged_row (set_row e s) e
ping-row e s h u = cc (set-row e s, at-set-row (heard_now (set_in e s).members e) s (pinged_at e.clock) h u)

-- a change that keeps the number, and a ping
change-row : (e : Entries) (s : ℕ) (f : PingSet → PingSet) → ((p : PingSet) → (f p).number ≡ p.number) → set_row e s < length e.sets → distinct eqb (set_numbers e) ≡ true
    → ping s (at_set s f e) ≡ pinged_row (set_row e s) (change_set (set_row e s) f e)
change-row e s f n h u = cc (at-set-row e s f h u, ping-row after s (rw (row, length-set e.sets (set_row e s) (f (set_in e s))) h) (rw numbers u), row)
  where
    after : Entries
    after = change_set (set_row e s) f e

    numbers : set_numbers after ≡ set_numbers e
    numbers = map-set_same (λ (p : PingSet). p.number) e.sets (set_row e s) (f (set_in e s)) no_set (n (set_in e s))

    row : set_row after s ≡ set_row e s
    row = ap (first_index (eqb s)) numbers

module _ (e : Entries) (sd : sound e ≡ true) where
  -- a simple ping
  pub simple-ping-row : (s : ℕ) → set_row e s < length e.sets → next (editing (simple_ping s)) e ≡ pinged_row (set_row e s) e
  unfolding next
  simple-ping-row s h = ping-row e s h (sets-distinct e sd)

  -- the set that is made stands last
  new_row : set_row (make_set e) e.next ≡ length e.sets
  new_row =
      let free = (or-false (eqb e.next 0) _ (next-free e (grouped e sd))).1 in
      rw (map-append, first-right (eqb e.next) (set_numbers e) (e.next ∷ []) free, first-here (eqb e.next) e.next [] (eq-eqb e.next _ refl), add-zero, length-map)

  module _ (s n : ℕ) (adds dels : List ℕ) where
    -- a complex ping of a live set
    pub complex-ping-row : eqb s 0 ≡ false → set_row e s < length e.sets
        → next (editing (complex_ping s n adds dels)) e ≡ pinged_row (set_row e s) (updated_row (set_row e s) n adds dels e)
    unfolding next
    complex-ping-row z h = rw z (change-row e s _ (λ p. refl) h (sets-distinct e sd))

    -- a complex ping that makes a set
    pub complex-ping-new : eqb s 0 ≡ true
        → next (editing (complex_ping s n adds dels)) e ≡ pinged_row (length e.sets) (updated_row (length e.sets) n adds dels (make_set e))
    unfolding next
    complex-ping-new z =
        rw z
        (change-row (make_set e) e.next _ (λ p. refl)
        (let l = length-append e.sets (new_set e ∷ []) in let r = new_row in omega arith)
        (fine-distinct eqb 0 (set_numbers (make_set e)) (set-made e (grouped e sd)).sets.ids)
        ∙ ap (λ (k : ℕ). pinged_row k (updated_row k n adds dels (make_set e))) new_row)
