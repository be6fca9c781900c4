-- `extensions::judge`: short, a null pointer, or the array.
use Prim.Native.Nat.{◌+◌, ◌≤◌}
use mathlib.Core.Path.{◌≡◌, sym, ◌∙◌}
use mathlib.Core.Bool.{true}
use native.Mathlib.Omega.{arith}
use borrow.Author.Tests.{leb-true}
use lib.Dec.{leb}
use lib.ListN.{length}
use Rattle.extensions.proofs.ArrayWalk.{walk-short, walk-null, walk-rest}
use Rattle.extensions.proofs.judge.Goals as goal
use Rattle.extensions.proofs.judge.Goals.{Else-not-inside}

-- the header's pointer is there
room : (c : Else-not-inside) → leb (c.args.at + 4) (length c.args.s.now) ≡ true
room c = sym c.inside.ensures ∙ c.if-not-inside.false

pub returns-then-not-inside : goal.returns-then-not-inside
returns-then-not-inside c = sym (walk-short _ _ (sym c.inside.ensures ∙ c.if-not-inside.true))

pub overflow_add-result : goal.overflow_add-result
overflow_add-result c =
    let h : c.args.at + 4 ≤ length c.args.s.now = leb-true _ _ (room (goal.at.overflow_add-result c).Else-not-inside) in omega arith

pub returns-then-read_u32-eq0 : goal.returns-then-read_u32-eq0
returns-then-read_u32-eq0 c =
    rw (walk-null _ _ (room (goal.at.returns-then-read_u32-eq0 c).Else-not-inside) (sym c.read_u32.ensures ∙ c.if-read_u32-eq0.true))

pub returns : goal.returns
returns c =
    c.array.ensures ∙ sym (walk-rest _ _ (room (goal.at.returns c).Else-not-inside) (λ z. c.if-read_u32-eq0.false (c.read_u32.ensures ∙ z)))
