-- `table_judge::lists_kept`: the rows from k on pass where all rows do; list k begins at `at`.
use Prim.Native.Nat.{ℕ, ◌<◌, ◌≤◌, ◌+◌, ◌-◌}
use mathlib.Core.Path.{◌≡◌, refl, sym, ap, ◌∙◌}
use mathlib.Core.Bool.{true, false, and-false}
use mathlib.Core.List.{List}
use lib.Dec.{eqb}
use borrow.Author.Rules.{rules}
use borrow.Author.Tests.{eq-eqb, ne_eqb, le-leb, lt-leb}
use borrow.Author.Rules.{part_to_end}
use native.Mathlib.Omega.{arith}
use native.Mathlib.Numerals.{add-one}
use lib.ListN.{length, take, drop, length-drop}
use Rattle.kinds.proofs.Passing.{err-some, no-err-done}
use Rattle.bindings.specs.Bindings.{front_answer, list_length}
use Rattle.bindings.proofs.ListAnswers.{front}
use Rattle.rules.specs.Sound.{longest_list}
use Rattle.table_view.specs.View.{list_start, list_from}
use Rattle.table_view.proofs.StoredLists.{start_first, start-next}
use Rattle.table_view.proofs.Checks.{check-passes, check-fails, checks-done}
use Rattle.table_view.proofs.KeptLists.{kept_row, kept-rows}
use Rattle.table_judge.proofs.lists_kept.Goals as goal

-- the outcomes of a row's test
bad-answer : (s : List ℕ) (i : ℕ) → (front_answer (list_from s i) ≡ 0 → ⊥) → false ≡ kept_row s i
bad-answer s i h = rw (ne_eqb (front_answer (list_from s i)) 0 h)

long-list : (s : List ℕ) (i : ℕ) → longest_list < list_length (list_from s i) → false ≡ kept_row s i
long-list s i h = rw (lt-leb (list_length (list_from s i)) longest_list h) (sym (and-false (eqb (front_answer (list_from s i)) 0)))

good-list : (s : List ℕ) (i : ℕ) → front_answer (list_from s i) ≡ 0 → list_length (list_from s i) ≤ longest_list → true ≡ kept_row s i
good-list s i e h = rw (eq-eqb (front_answer (list_from s i)) 0 e) (sym (le-leb (list_length (list_from s i)) longest_list h))

-- what is tested of list k, which begins at `at`
module _ (s : List ℕ) (k at : ℕ) (begins : at ≡ list_start s k) where
  answer-here : {r : ℕ} → r ≡ front_answer (take (length s - at) (drop at s)) → r ≡ front_answer (list_from s k)
  answer-here e = rw (← begins) (e ∙ ap front_answer (part_to_end s at))

  size-here : {r : ℕ} → r ≡ list_length (take (length s - at) (drop at s)) → r ≡ list_length (list_from s k)
  size-here e = rw (← begins) (e ∙ ap list_length (part_to_end s at))

  -- it ends within the store
  ends-within : {r : ℕ} → front_answer (list_from s k) ≡ 0 → r ≡ list_length (list_from s k) → at ≤ length s → at + r ≤ length s
  ends-within good e h =
      let f = (front (list_from s k) good).enough in
      omega (arith, length-drop (list_start s k) s)

pub loop-k-init : goal.loop-k-init
loop-k-init c = (search rules, refl, sym (start_first _), search rules)

pub returns-then-is_err : goal.returns-then-is_err
returns-then-is_err c =
    let l = c.loop-k in
    let s = c.args.store.now in
    let e = answer-here s l._k l.at l.invariant.2 c.front_answer.ensures in
    check-fails _ _ l._k l.invariant.1 (search rules) (bad-answer s l._k (λ z. err-some _ (sym c.is_err.ensures.value ∙ c.if-is_err.true) (e ∙ z))) refl
    ∙ kept-rows c.args.words.now s _ c.exporter_count-n.ensures.0

pub returns-then-size-gt-LONGEST_LIST : goal.returns-then-size-gt-LONGEST_LIST
returns-then-size-gt-LONGEST_LIST c =
    let l = c.loop-k in
    let s = c.args.store.now in
    let e = size-here s l._k l.at l.invariant.2 c.stated_length-size.ensures in
    check-fails _ _ l._k l.invariant.1 (search rules) (long-list s l._k (omega arith)) refl
    ∙ kept-rows c.args.words.now s _ c.exporter_count-n.ensures.0

pub overflow_add-at : goal.overflow_add-at
overflow_add-at c =
    let l = c.loop-k in
    let s = c.args.store.now in
    let good = sym (answer-here s l._k l.at l.invariant.2 c.front_answer.ensures) ∙ no-err-done _ (sym c.is_err.ensures.value ∙ c.if-is_err.false) in
    let h = ends-within s l._k l.at l.invariant.2 good (size-here s l._k l.at l.invariant.2 c.stated_length-size.ensures) l.invariant.3 in
    omega arith

pub loop-k-preserved : goal.loop-k-preserved
loop-k-preserved c =
    let l = c.loop-k in
    let s = c.args.store.now in
    let e = size-here s l._k l.at l.invariant.2 c.stated_length-size.ensures in
    let good = sym (answer-here s l._k l.at l.invariant.2 c.front_answer.ensures) ∙ no-err-done _ (sym c.is_err.ensures.value ∙ c.if-is_err.false) in
    let sum : l.at + c.stated_length-size.result ≡ list_start s (l._k + 1) = rw (add-one l._k, start-next s l._k) (λ u. l.invariant.2 u + e u) in (
      search rules,
      check-passes _ _ l._k l.invariant.1 (search rules) (good-list s l._k good (omega arith)) refl,
      sum,
      ends-within s l._k l.at l.invariant.2 good e l.invariant.3,
    )

pub returns : goal.returns
returns c =
    let l = c.loop-k in
    checks-done _ _ l._k l.invariant.1 (search rules)
    ∙ kept-rows c.args.words.now c.args.store.now _ c.exporter_count-n.ensures.0
