-- `OrpcThat::write_with`: the extensions, then the field before them.
use mathlib.Core.Path.{◌≡◌, refl, ◌∙◌}
use borrow.Author.Rules.{rules}
use borrow.Author.Tests.{ne_eqb}
use Rattle.fields.specs.Fields.{encode}
use Rattle.fields.proofs.Fields.{length-encode}
use Rattle.std.specs.Prelude.{Err}
use Rattle.kinds.specs.Answers.{refusal_number}
use Rattle.kinds.proofs.Answering.{refusal-some}
use Rattle.headers.specs.Headers.{that_bytes}
use Rattle.headers.proofs.HeaderAnswers.{room, written-before}
use Rattle.headers.proofs.OrpcThat.write_with.Goals as goal

pub returns-in_err-length : goal.returns-in_err-length
returns-in_err-length c =
    let e = c.in_err-length.ensures in
    let no : refusal_number c.in_err-length.field-0.0 ≡ 0 → ⊥ = refusal-some _ refl in
    let r : c.from_residual.result ≡ Err c.in_err-length.field-0.0 = search rules in
    rw r (e.0, rw (ne_eqb _ _ no) (rw (ne_eqb _ _ no) at e.1))

pub returns : goal.returns
unfolding that_bytes
returns c =
    let e = c.in_ok-length.ensures in
    let h = c.args.self in (
      e.0,
      c.write_u32.ensures ∙ (rw e.1 (written-before _ (encode 4 h.flags) _ 4 (length-encode 4 h.flags) (room _ _ _ _ 4 _ _ e.0 refl))),
    )
