-- `list_writer::in_a_row`: the words that are left are a part where all the words are.
use mathlib.Core.Path.{refl, sym, ◌∙◌}
use native.Mathlib.Omega.{arith}
use borrow.Author.Rules.{rules}
use Rattle.list_writer.proofs.Rows.{part-broken, part-on, part-over}
use Rattle.list_writer.proofs.in_a_row.Goals as goal

pub loop-i-init : goal.loop-i-init
loop-i-init c = (search rules, refl)

pub returns-then-words-i-eq0 : goal.returns-then-words-i-eq0
returns-then-words-i-eq0 c =
    let a = c.args in
    let l = c.loop-i in
    sym (part-broken a.words.now a.p l.i (search rules) c.if-words-i-eq0.true) ∙ l.invariant.1

pub loop-i-preserved : goal.loop-i-preserved
loop-i-preserved c =
    let a = c.args in
    let l = c.loop-i in
    let b = c.binding_end-i.ensures in
    (b.2, sym (part-on a.words.now a.p l.i c.binding_end-i.result (search rules) c.if-words-i-eq0.false b.0) ∙ l.invariant.1)

pub returns : goal.returns
returns c =
    let a = c.args in
    let l = c.loop-i in
    sym (part-over a.words.now a.p l.i (omega arith) l.invariant.0) ∙ l.invariant.1
