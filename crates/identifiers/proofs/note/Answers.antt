-- `identifiers::note`: the words from i on are proper and noted.
use Prim.Native.Nat.{◌+◌, ◌-◌, ◌%◌}
use mathlib.Core.Path.{◌≡◌, refl, ◌∙◌}
use native.Mathlib.Omega.{arith}
use borrow.Author.Rules.{rules}
use borrow.Author.Tests.{eq-eqb, ne_eqb}
use lib.Dec.{eqb}
use lib.ListN.{length, get_or}
use Rattle.lists.specs.Lists.{some}
use Rattle.lists.proofs.Distinct.{eqb-decides, distinct_none}
use Rattle.lists.proofs.Lists.{every-nil}
use Rattle.table_columns.specs.Buckets.{word_bucket}
use Rattle.table_columns.proofs.Loops.{last_step, column-end, tail-part, told}
use Rattle.identifiers.proofs.Noting.{before-none, unnoted, before-one, not_named, not-different}
use Rattle.identifiers.proofs.Laws.{noted-not, noted-all}
use Rattle.identifiers.proofs.note.Goals as goal
use Rattle.identifiers.proofs.note.Goals.{else-is_noted-via-then-is_noted+else-has, else-is_noted-via-else-is_noted}

pub loop-i-init : goal.loop-i-init
loop-i-init c =
    let v = c.args.col.now in
    let e = column-end v (length v) (search rules) in
    (search rules, refl, before-none eqb 0 _ e e (distinct_none eqb) (every-nil _))

pub returns-then-x-eq0 : goal.returns-then-x-eq0
returns-then-x-eq0 c =
    let l = c.loop-i in
    let v = c.args.col.now in
    noted-not v l.rows (not_named eqb 0 (l.i - 1) v v (last_step v 0 l.i (search rules) (search rules)) (eq-eqb _ 0 c.if-x-eq0.true))

pub returns-then-has : goal.returns-then-has
returns-then-has c =
    let l = c.loop-i in
    let v = c.args.col.now in
    let next : l.i - 1 + 1 ≡ l.i = omega arith in
    let t = told (some (eqb (get_or v (l.i - 1) 0))) (tail-part l.i v) (rw next at c.has.ensures) c.if-has.true in
    noted-not v l.rows (not-different eqb 0 (l.i - 1) v v (last_step v 0 l.i (search rules) (search rules)) t)

pub loop-i-preserved : goal.loop-i-preserved
loop-i-preserved c =
    let l = c.loop-i in
    let v = c.args.col.now in
    let m = length c.args.rows.now in
    let x = get_or v (l.i - 1) 0 in
    let next : l.i - 1 + 1 ≡ l.i = omega arith in
    let put = rw next at c.enter.ensures in
    let named = ne_eqb x 0 c.if-x-eq0.false in
    let b = rw l.invariant.1 at c.bucket-b.ensures.0 in
    let k = rw l.invariant.1 at c.second_bucket-k.ensures.0 in
    let e = last_step v 0 l.i (search rules) (search rules) in (
      search rules,
      put.size ∙ l.invariant.1,
      before-one (λ y. word_bucket y % m) (λ y. y % m) (λ y i. eqb y (get_or v i 0)) eqb 0 x l.rows l.invariant.2 b k e e put (λ h. eq-eqb x x refl) named
          (elim c.else-is_noted.branch [
            | else-is_noted-via-then-is_noted+else-has w ↦ told (some (eqb x)) (tail-part l.i v) (rw next at w.has.ensures) w.if-has.false
            | else-is_noted-via-else-is_noted w ↦
                unnoted (λ y. word_bucket y % m) (λ y. y % m) (λ y i. eqb y (get_or v i 0)) eqb 0 x l.rows l.invariant.2 b k eqb-decides c.is_noted.ensures w.if-is_noted.false
          ]),
    )

pub returns : goal.returns
returns c =
    let l = c.loop-i in
    let e : l.i ≡ 0 = omega arith in
    noted-all l.invariant.1 c.requires.0 (rw e at l.invariant.2)
