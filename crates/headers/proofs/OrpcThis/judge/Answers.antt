-- `OrpcThis::judge`: the rows of `this_answer`, from the top; the extensions' answer is passed on.
use Prim.Native.Nat.{◌<◌, ◌≤◌}
use mathlib.Core.Path.{sym, ◌∙◌}
use native.Mathlib.Omega.{arith}
use borrow.Author.Tests.{lt-ltb, le-ltb, eq-eqb, ne_eqb}
use Rattle.kinds.specs.Refusals.{order}
use Rattle.kinds.proofs.Refusing.{last_row}
use Rattle.fields.specs.Fields.{field}
use Rattle.extensions.specs.Extensions.{extensions_answer, walk}
use Rattle.headers.specs.Headers.{this_answer, this_walk}
use Rattle.headers.proofs.OrpcThis.judge.Goals as goal

pub returns-then-s-lt-SIZE : goal.returns-then-s-lt-SIZE
unfolding this_walk this_answer order
returns-then-s-lt-SIZE c = rw (lt-ltb _ _ c.if-s-lt-SIZE.true)

pub returns-then-read_u16-ne-MAJOR : goal.returns-then-read_u16-ne-MAJOR
unfolding this_walk this_answer order
returns-then-read_u16-ne-MAJOR c =
    let e = c.read_u16.ensures in
    rw (le-ltb _ _ c.if-s-lt-SIZE.false, ne_eqb _ _ (λ z. c.if-read_u16-ne-MAJOR.true (e ∙ z)))

pub returns-then-read_u16-gt-MINOR : goal.returns-then-read_u16-gt-MINOR
unfolding this_walk this_answer order
returns-then-read_u16-gt-MINOR c =
    let s = c.args.s.now in
    let e = sym c.read_u16.ensures ∙ c.if-read_u16-ne-MAJOR.false in
    let n = c.read_u16-2.ensures in
    let above : 7 < field s 2 2 = omega arith in
    rw (le-ltb _ _ c.if-s-lt-SIZE.false, eq-eqb _ _ e, lt-ltb _ _ above)

pub returns : goal.returns
unfolding this_walk this_answer order walk
returns c =
    let s = c.args.s.now in
    let e = sym c.read_u16.ensures ∙ c.if-read_u16-ne-MAJOR.false in
    let n = c.read_u16-2.ensures in
    let known : field s 2 2 ≤ 7 = omega arith in
    rw (le-ltb _ _ c.if-s-lt-SIZE.false, eq-eqb _ _ e, le-ltb _ _ known, last_row (extensions_answer s 28)) c.judge.ensures
