-- `OrpcThis::write_with`: the extensions, then the fields before them.
use mathlib.Core.Path.{◌≡◌, refl, ◌∙◌}
use native.Mathlib.Omega.{arith}
use borrow.Author.Rules.{rules}
use borrow.Author.Tests.{ne_eqb, lt-ltb}
use Rattle.kinds.specs.Refusals.{order}
use Rattle.std.specs.Prelude.{Err}
use Rattle.kinds.specs.Answers.{refusal_number}
use Rattle.kinds.proofs.Answering.{refusal-some}
use Rattle.headers.specs.Headers.{this_front, this_bytes, this_written, this_writing}
use Rattle.headers.proofs.HeaderAnswers.{room, written-before, this-writing, length_front}
use Rattle.headers.proofs.OrpcThis.write_with.Goals as goal

pub returns-then-self-gt-MINOR : goal.returns-then-self-gt-MINOR
unfolding this_writing this_written order
returns-then-self-gt-MINOR c = (simp (lt-ltb _ _ c.if-self-gt-MINOR.true), refl)

pub returns-in_err-length : goal.returns-in_err-length
returns-in_err-length c =
    let e = c.in_err-length.ensures in
    let no : refusal_number c.in_err-length.field-0.0 ≡ 0 → ⊥ = refusal-some _ refl in
    let r : c.from_residual.result ≡ Err c.in_err-length.field-0.0 = search rules in
    rw r (e.0 ∙ this-writing _ _ _ _ _ _ c.if-self-gt-MINOR.false, rw (ne_eqb _ _ no) (rw (ne_eqb _ _ no) at e.1))

pub write_front-requires : goal.write_front-requires
write_front-requires c =
    let r = room _ _ _ _ 28 _ _ c.in_ok-length.ensures.0 refl in
    omega arith

pub returns : goal.returns
unfolding this_bytes
returns c =
    let e = c.in_ok-length.ensures in
    let h = c.args.self in (
      e.0 ∙ this-writing _ _ _ _ _ _ c.if-self-gt-MINOR.false,
      c.write_front.ensures ∙ (rw e.1 (written-before _ (this_front 0 h) _ 28 (length_front 0 h) (room _ _ _ _ 28 _ _ e.0 refl))),
    )
