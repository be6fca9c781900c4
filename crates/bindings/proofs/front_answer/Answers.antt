-- `bindings::front_answer`: the rows of `front_answer`, in their order.
use Prim.Native.Nat.{◌<◌, ◌≤◌}
use mathlib.Core.Path.{◌≡◌, sym, ◌∙◌}
use mathlib.Core.Bool.{false}
use native.Mathlib.Omega.{arith}
use borrow.Author.Tests.{lt-ltb, le-ltb}
use lib.ListN.{length}
use Rattle.kinds.specs.Refusals.{order}
use Rattle.bindings.specs.Bindings.{two_parts, list_length, front_answer}
use Rattle.bindings.proofs.ListAnswers.{front-done}
use Rattle.bindings.proofs.front_answer.Goals as goal
use Rattle.bindings.proofs.front_answer.Goals.{then-s-lt4-via-then-s-lt4, then-s-lt4-via-else-s-lt4+then-s-stated_length}

pub returns-then-s-lt4 : goal.returns-then-s-lt4
unfolding front_answer order
returns-then-s-lt4 c =
    let s = c.args.s.now in
    elim c.then-s-lt4.branch [
      | then-s-lt4-via-then-s-lt4 w ↦ rw (lt-ltb _ _ w.if-s-lt4.true)
      | then-s-lt4-via-else-s-lt4+then-s-stated_length w ↦
          let h : 4 ≤ length s = omega arith in
          let l : length s < list_length s = omega arith in
          rw (le-ltb _ _ h, lt-ltb _ _ l)
    ]

pub returns-then-two_parts : goal.returns-then-two_parts
returns-then-two_parts c =
    let s = c.args.s.now in
    sym (front-done s (omega arith) (sym c.two_parts.ensures ∙ c.if-two_parts.true))

pub returns-else-two_parts : goal.returns-else-two_parts
unfolding front_answer order
returns-else-two_parts c =
    let s = c.args.s.now in
    let h : 4 ≤ length s = omega arith in
    let l : list_length s ≤ length s = omega arith in
    let g : two_parts s ≡ false = sym c.two_parts.ensures ∙ c.if-two_parts.false in
    rw (le-ltb _ _ h, le-ltb _ _ l, g)
