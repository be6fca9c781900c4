-- `fields::fill`: the part of the buffer from `at` on; nothing where the zeros do not fit.
use Prim.Native.Nat.{ℕ, ◌+◌, ◌-◌, ◌≤◌}
use mathlib.Core.Path.{◌≡◌, sym, ◌∙◌}
use native.Mathlib.Omega.{arith}
use borrow.Author.Tests.{leb-true, leb-false}
use borrow.Author.Rules.{rules}
use borrow.Rule.Slice.PartMut.{mid_len}
use lib.ListN.{length, length-replicate}
use Rattle.fields.specs.Fields.{zeros}
use Rattle.fields.proofs.Fields.{written_out, written-part}
use Rattle.fields.proofs.fill.Goals as goal

pub returns-then-inside : goal.returns-then-inside
returns-then-inside c =
    let a = c.args in
    let room : a.at + a.n ≤ length a.buf.now = leb-true _ _ (sym c.inside.ensures ∙ c.if-inside.true) in
    let size = mid_len a.at (a.at + a.n) a.buf.now room in
    let all : c.fill.new.self ≡ zeros a.n = c.fill.ensures.after (λ y e. search rules) ∙ (let n : a.at + a.n - a.at ≡ a.n = omega arith in rw (size, n)) in
    written-part a.buf.now (zeros a.n) _ a.at a.n (length-replicate a.n 0) room all

pub returns-else-inside : goal.returns-else-inside
returns-else-inside c =
    let a = c.args in
    sym (written_out a.buf.now a.at (zeros a.n) (rw (length-replicate {A = ℕ} a.n 0) (leb-false _ _ (sym c.inside.ensures ∙ c.if-inside.false))))
