-- `bindings::locate_from`: the words are there, or they are not.
use Prim.Native.Nat.{◌+◌, ◌*◌, ◌≤◌, ◌<◌}
use native.Mathlib.Omega.{arith}
use borrow.Author.Tests.{le-leb, lt-leb}
use lib.ListN.{length}
use Rattle.bindings.specs.Bindings.{binding_from}
use Rattle.bindings.proofs.locate_from.Goals as goal
use Rattle.bindings.proofs.locate_from.Goals.{then-s-at-via-then-s-at, then-s-at-via-else-s-at+then-s-at-2}

pub returns-then-s-at : goal.returns-then-s-at
unfolding binding_from
returns-then-s-at c =
    let a = c.args in
    let h : length a.s.now < a.at + 2 * a.n =
    elim c.then-s-at.branch [ then-s-at-via-then-s-at w ↦ omega arith | then-s-at-via-else-s-at+then-s-at-2 w ↦ omega arith ] in
    rw (lt-leb (a.at + 2 * a.n) (length a.s.now) h)

pub returns : goal.returns
unfolding binding_from
returns c =
    let a = c.args in
    let h : a.at + 2 * a.n ≤ length a.s.now = omega arith in
    rw (le-leb (a.at + 2 * a.n) (length a.s.now) h) c.find.ensures
