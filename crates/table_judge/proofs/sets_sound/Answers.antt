-- `table_judge::sets_sound`: the clauses of the sets in turn.
use Prim.Native.Nat.{ℕ}
use mathlib.Core.Path.{◌≡◌, refl, ap, ◌∙◌}
use mathlib.Core.Bool.{Bool, true, false, not}
use mathlib.Core.List.{List, map}
use native.Mathlib.Omega.{arith}
use borrow.Author.Tests.{eq-eqb, ne_eqb}
use lib.Dec.{leb, ltb}
use lib.ListN.{take, drop}
use Rattle.lists.specs.Lists.{every, holding}
use Rattle.lists.proofs.Tests.{holding-fails, holding-passes}
use Rattle.rules.specs.Entries.{PingSet, set_numbers}
use Rattle.rules.specs.Sound.{proper, overdue, set_members_live, set_clauses}
use Rattle.rules.specs.Contract.{Whole}
use Rattle.table_view.specs.View.{set_count, clock_of, next_of, sets_of, memory, view, Holds}
use Rattle.table_view.proofs.Columns.{set-numbers-column, pinged-column, column-read}
use Rattle.table_judge.proofs.Clauses.{judged-fails, judged-passes, judged-last, column-test, column-short}
use Rattle.table_judge.proofs.sets_sound.Goals as goal

module _ (ws s : List ℕ) (whole : Whole ws) (n : ℕ) (counted : n ≡ set_count ws) (ns : List ℕ) (first : ns ≡ take n (drop 64 ws)) (a : Bool) (distinct : a ≡ proper ns) where
  -- the clauses that are left after the first k
  abbrev Left : ℕ → Type 0
  Left k = holding (set_clauses (view (memory ws s))) ≡ holding (drop k (set_clauses (view (memory ws s))))

  -- a column is a field of the entries, and each outcome a clause
  numbers : ns ≡ set_numbers (view (memory ws s))
  numbers = column-read ws 64 first counted (set-numbers-column ws whole)

  not-proper : not a ≡ true → false ≡ holding (set_clauses (view (memory ws s)))
  not-proper h = judged-fails _ refl (distinct ∙ ap proper numbers) h

  module _ (fine : not a ≡ false) (ts : List ℕ) (second : ts ≡ take n (drop 128 ws)) (b : Bool) (before : b ≡ every (λ t. leb t (clock_of ws)) ts) where
    times : ts ≡ map (λ (p : PingSet). p.pinged) (sets_of ws)
    times = column-read ws 128 second counted (pinged-column ws whole)

    left-1 : Left 1
    left-1 = judged-passes _ refl (distinct ∙ ap proper numbers) fine

    ahead : not b ≡ true → false ≡ holding (set_clauses (view (memory ws s)))
    ahead h = judged-fails _ left-1 (column-test (λ p. p.pinged) (sets_of ws) times _ before) h

    module _ (past : not b ≡ false) (d : Bool) (within : d ≡ every (λ t. not (overdue (clock_of ws) t)) ts) where
      left-2 : Left 2
      left-2 = judged-passes _ left-1 (column-test (λ p. p.pinged) (sets_of ws) times _ before) past

      late : not d ≡ true → false ≡ holding (set_clauses (view (memory ws s)))
      late h = judged-fails _ left-2 (column-test (λ p. p.pinged) (sets_of ws) times _ within) h

      module _ (recent : not d ≡ false) (f : Bool) (below : f ≡ every (λ k. ltb k (next_of ws)) ns) where
        left-3 : Left 3
        left-3 = judged-passes _ left-2 (column-test (λ p. p.pinged) (sets_of ws) times _ within) recent

        above : not f ≡ true → false ≡ holding (set_clauses (view (memory ws s)))
        above h = judged-fails _ left-3 (below ∙ ap (every (λ k. ltb k (next_of ws))) numbers) h

        module _ (under : not f ≡ false) where
          left-4 : Left 4
          left-4 = judged-passes _ left-3 (below ∙ ap (every (λ k. ltb k (next_of ws))) numbers) under

          next-zero : next_of ws ≡ 0 → false ≡ holding (set_clauses (view (memory ws s)))
          next-zero h = holding-fails _ _ left-4 (ap not (eq-eqb _ 0 h))

          members-last : (next_of ws ≡ 0 → ⊥) → (r : Bool) → Holds (λ e. r ≡ set_members_live e) ws → r ≡ holding (set_clauses (view (memory ws s)))
          members-last h r live = judged-last (holding-passes _ _ left-4 (ap not (ne_eqb _ 0 h))) (live s)

pub are_proper-requires : goal.are_proper-requires
are_proper-requires c =
    let ws = c.args.words.now in
    let e = column-short ws 64 c.column-numbers.ensures c.set_count-n.ensures.1 in omega arith

pub returns-then-not-are_proper : goal.returns-then-not-are_proper
returns-then-not-are_proper = (λ c s. search not-proper)

pub returns-then-not-all_at_most : goal.returns-then-not-all_at_most
returns-then-not-all_at_most = (λ c s. search ahead)

pub returns-then-not-all_within : goal.returns-then-not-all_within
returns-then-not-all_within = (λ c s. search late)

pub returns-then-not-all_below : goal.returns-then-not-all_below
returns-then-not-all_below = (λ c s. search above)

pub returns-then-next-eq0 : goal.returns-then-next-eq0
returns-then-next-eq0 = (λ c s. search next-zero)

pub returns : goal.returns
returns = (λ c s. search members-last)
