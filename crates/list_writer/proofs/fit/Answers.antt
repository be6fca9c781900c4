-- `list_writer::fit`: few enough words, and each part bindings in a row.
use mathlib.Core.Path.{sym, ◌∙◌}
use native.Mathlib.Omega.{arith}
use borrow.Author.Tests.{lt-leb}
use Rattle.kinds.proofs.Refusing.{true-false}
use Rattle.list_writer.proofs.Making.{too_many_lem, first-broken, first-kept}
use Rattle.list_writer.proofs.fit.Goals as goal
use Rattle.list_writer.proofs.fit.Goals.{then-strings-security-le-MOST_WORDS, else-strings-security-le-MOST_WORDS}

pub returns-then-in_a_row : goal.returns-then-in_a_row
returns-then-in_a_row c =
    let a = c.args in
    let kept = c.if-in_a_row.true in
    elim c.if-strings-security-le-MOST_WORDS.branch [
      | then-strings-security-le-MOST_WORDS w ↦
          c.in_a_row-then-in_a_row.ensures
          ∙ sym (first-kept a.strings.now a.security.now w.if-strings-security-le-MOST_WORDS.true (sym w.in_a_row.ensures ∙ sym w.value-is ∙ kept))
      | else-strings-security-le-MOST_WORDS w ↦ absurd (true-false (sym kept ∙ w.value-is ∙ lt-leb _ _ w.if-strings-security-le-MOST_WORDS.false))
    ]

pub returns-else-in_a_row : goal.returns-else-in_a_row
returns-else-in_a_row c =
    let a = c.args in
    let broken = c.if-in_a_row.false in
    elim c.if-strings-security-le-MOST_WORDS.branch [
      | then-strings-security-le-MOST_WORDS w ↦
          broken ∙ sym (first-broken a.strings.now a.security.now w.if-strings-security-le-MOST_WORDS.true (sym w.in_a_row.ensures ∙ sym w.value-is ∙ broken))
      | else-strings-security-le-MOST_WORDS w ↦ broken ∙ sym (too_many_lem a.strings.now a.security.now (omega arith))
    ]
