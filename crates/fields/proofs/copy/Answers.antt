-- `fields::copy`: what is left of the source, written from the next place on, gives the whole; nothing where the bytes do not fit.
use Rattle.std.proofs.Common.{◌≡◌, ◌+◌, refl, sym, ◌∙◌, arith, length, drop, []}
use borrow.Author.Tests.{leb-true, leb-false}
use native.Mathlib.Nat.{add-zero}
use lib.ListN.{length-set, drop_of_length-le}
use Rattle.fields.proofs.Fields.{written_none, written_out, written-copy}
use Rattle.fields.proofs.copy.Goals as goal

pub loop-k-init : goal.loop-k-init
loop-k-init c = (refl, leb-true _ _ (sym c.inside.ensures ∙ c.if-inside.true), rw add-zero)

pub loop-k-preserved : goal.loop-k-preserved
loop-k-preserved c =
    let a = c.args in
    let l = c.loop-k in
    (simp length-set (omega arith), l.invariant.1, written-copy l.buf a.at l.k a.src.now (omega arith) (omega arith) ∙ l.invariant.2)

pub returns-after-loop-k : goal.returns-after-loop-k
returns-after-loop-k c =
    let a = c.args in
    let l = c.loop-k in
    let e : drop l.k a.src.now ≡ [] = drop_of_length-le a.src.now (omega arith) in
    sym (written_none l.buf (a.at + l.k)) ∙ (rw e at l.invariant.2)

pub returns-else-inside : goal.returns-else-inside
returns-else-inside c =
    let a = c.args in
    sym (written_out a.buf.now a.at a.src.now (leb-false _ _ (sym c.inside.ensures ∙ c.if-inside.false)))
