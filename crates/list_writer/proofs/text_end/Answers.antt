-- `list_writer::text_end`: the words passed and those of the text that is left make the whole text.
use mathlib.Core.Path.{refl}
use native.Mathlib.Omega.{arith}
use borrow.Author.Rules.{rules}
use Rattle.list_writer.proofs.Rows.{text-here, text-later, text-last}
use Rattle.list_writer.proofs.text_end.Goals as goal

pub loop-i-init : goal.loop-i-init
loop-i-init c = (search rules, refl)

pub returns-then-words-i-eq0 : goal.returns-then-words-i-eq0
returns-then-words-i-eq0 c =
    let a = c.args in
    let l = c.loop-i in
    let e = text-here a.words.now l.i (search rules) c.if-words-i-eq0.true in
    (omega arith, omega arith)

pub loop-i-preserved : goal.loop-i-preserved
loop-i-preserved c =
    let a = c.args in
    let l = c.loop-i in
    let e = text-later a.words.now l.i (search rules) c.if-words-i-eq0.false in
    (omega arith, omega arith)

pub returns : goal.returns
returns c =
    let a = c.args in
    let l = c.loop-i in
    let e = text-last a.words.now l.i (omega arith) l.invariant.0 in
    (omega arith, omega arith)
