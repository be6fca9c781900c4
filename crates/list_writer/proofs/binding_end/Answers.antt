-- `list_writer::binding_end`: a head and a text.
use native.Mathlib.Omega.{arith}
use borrow.Author.Rules.{rules}
use Rattle.list_writer.proofs.Rows.{binding-length}
use Rattle.list_writer.proofs.binding_end.Goals as goal

pub returns-in-Strings : goal.returns-in-Strings
returns-in-Strings c =
    let a = c.args in
    let t = c.text_end.ensures in
    let e = rw c.in-Strings.is at (binding-length a.words.now a.p a.from (search rules)) in
    rw c.in-Strings.is (omega arith, omega arith, omega arith)

pub returns-in-Security : goal.returns-in-Security
returns-in-Security c =
    let a = c.args in
    let t = c.text_end-in-Security.ensures in
    let e = rw c.in-Security.is at (binding-length a.words.now a.p a.from (search rules)) in
    rw c.in-Security.is (omega arith, omega arith, omega arith)
