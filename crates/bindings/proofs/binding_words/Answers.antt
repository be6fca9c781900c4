-- `bindings::binding_words`: words that the head takes up, or a head and a text.
use native.Mathlib.Omega.{arith}
use Rattle.bindings.proofs.Parts.{head-positive, binding-short, binding-long}
use Rattle.bindings.proofs.binding_words.Goals as goal

pub returns-then-n-head : goal.returns-then-n-head
returns-then-n-head c =
    let a = c.args in
    let h = c.head_words-head.ensures in
    let e = binding-short a.p a.s.now a.at a.n (omega arith) in
    omega arith

pub returns : goal.returns
returns c =
    let a = c.args in
    let h = c.head_words-head.ensures in
    let e = rw (← h) at (binding-long a.p a.s.now a.at a.n (omega arith)) in
    omega (arith, head-positive a.p)
