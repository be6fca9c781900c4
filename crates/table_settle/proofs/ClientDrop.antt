-- A client's drop in steps: each interface's count is cleared in its row, interfaces without references go, then objects without interfaces.
use Prim.Native.Nat.{ℕ, zero, suc}
use mathlib.Core.Path.{◌≡◌, refl, sym, ap, ◌∙◌}
use mathlib.Core.Bool.{true}
use mathlib.Core.List.{List, [], ◌∷◌}
use borrow.Author.Tests.{eqb-true}
use lib.ListN.{get_or, set}
use lib.Seq.{set-set, set-get_or, map-set_same}
use lib.Dec.{eqb}
use Rattle.lists.specs.Lists.{every}
use Rattle.lists.proofs.Lists.{map-id-on}
use Rattle.rules.specs.Entries.{Interface, Entries, count_of, with_counts, with_interfaces}
use Rattle.rules.specs.Calls.{editing, drop_client}
use Rattle.rules.specs.Rules.{no_interface, emptied, next}
use Rattle.table_settle.specs.Leaving.{cleared, held_left, without_leaving}
use Rattle.table_settle.specs.declared.Leaving.TheVariants.{NoInterface}

module _ (c : ℕ) where
  -- clearing twice is clearing once
  emptied-twice : (r : Interface) → emptied c (emptied c r) ≡ emptied c r
  emptied-twice r = ap (λ (l : List ℕ). with_counts l r) (set-set r.counts (suc c) 0 0)

  -- a count of zero is cleared
  emptied-none : (r : Interface) → eqb (count_of (suc c) r) 0 ≡ true → emptied c r ≡ r
  emptied-none r t = ap (λ (l : List ℕ). with_counts l r) (ap (set r.counts (suc c)) (sym (eqb-true (count_of (suc c) r) 0 t)) ∙ set-get_or r.counts (suc c) 0)

  -- a row cleared, then all: all cleared
  pub clear-row : (e : Entries) (i : ℕ) → cleared c (with_interfaces (set e.interfaces i (emptied c (get_or e.interfaces i no_interface))) e) ≡ cleared c e
  clear-row e i =
      ap (λ (l : List Interface). with_interfaces l e)
      (map-set_same (emptied c) e.interfaces i (emptied c (get_or e.interfaces i no_interface)) no_interface (emptied-twice (get_or e.interfaces i no_interface)))

  -- where every row is cleared nothing is left to clear
  pub clear-all : (e : Entries) → every (λ (r : Interface). eqb (count_of (suc c) r) 0) e.interfaces ≡ true → cleared c e ≡ e
  clear-all e h = ap (λ (l : List Interface). with_interfaces l e) (map-id-on (λ (r : Interface). eqb (count_of (suc c) r) 0) (emptied c) emptied-none e.interfaces h)

  -- a cleared row passes
  pub row-cleared : (r : Interface) → eqb (count_of (suc c) (emptied c r)) 0 ≡ true
  row-cleared r = ap (λ (n : ℕ). eqb n 0) (zero-set r.counts (suc c))
    where
      zero-set : (xs : List ℕ) (k : ℕ) → get_or (set xs k 0) k 0 ≡ 0
      zero-set [] k = refl
      zero-set (x ∷ xs) zero = refl
      zero-set (x ∷ xs) (suc k) = zero-set xs k

  -- the rule of the drop, in these steps
  pub drop-steps : (e : Entries) → next (editing (drop_client c)) e ≡ without_leaving NoInterface (held_left (cleared c e))
  unfolding next
  drop-steps e = refl
