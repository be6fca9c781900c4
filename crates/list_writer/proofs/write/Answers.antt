-- `list_writer::write`: words that do not fit, then room; else the list is written.
use mathlib.Core.Path.{refl, sym, ◌∙◌}
use native.Mathlib.Omega.{arith}
use lib.ListN.{length}
use Rattle.list_writer.proofs.Making.{fitting, write-broken, write-short, write_done}
use Rattle.list_writer.proofs.write.Goals as goal

pub returns-then-not-fit : goal.returns-then-not-fit
returns-then-not-fit c =
    let a = c.args in
    (write-broken a.strings.now a.security.now (length a.buf.now) (sym c.fit.ensures ∙ c.if-not-fit.true), refl)

pub overflow_add-size-2 : goal.overflow_add-size-2
overflow_add-size-2 c =
    let a = c.args in
    let h = fitting a.strings.now a.security.now (sym c.fit.ensures ∙ c.if-not-fit.false) in
    omega arith

pub returns-then-buf-size : goal.returns-then-buf-size
returns-then-buf-size c =
    let a = c.args in
    (write-short a.strings.now a.security.now (length a.buf.now) (sym c.fit.ensures ∙ c.if-not-fit.false) (omega arith), refl)

pub put_list-requires : goal.put_list-requires
put_list-requires c =
    let a = c.args in
    ((fitting a.strings.now a.security.now (sym c.fit.ensures ∙ c.if-not-fit.false)).few, omega arith)

pub returns : goal.returns
returns c =
    let a = c.args in
    let e = sym c.fit.ensures ∙ c.if-not-fit.false in
    (write_done a.strings.now a.security.now (length a.buf.now) e (omega arith), c.put_list.ensures)
