-- `extensions::pointed`: the counts and pointers, and the extensions.
use mathlib.Core.Path.{◌≡◌, sym, ap, ◌∙◌}
use borrow.Author.Rules.{rules}
use Rattle.std.specs.Prelude.{Err}
use Rattle.kinds.proofs.Answering.{refusal-some}
use Rattle.extensions.specs.Extensions.{pairs, count_at}
use Rattle.extensions.proofs.ArrayWalk.{walked_stop, pointed-stop, pointed-rest}
use Rattle.extensions.proofs.pointed.Goals as goal

pub returns-in_err-counted_answer : goal.returns-in_err-counted_answer
returns-in_err-counted_answer c =
    let e = rw c.read_u32-n.ensures at c.in_err-counted_answer.ensures in
    let r : c.from_residual.result ≡ Err c.in_err-counted_answer.field-0.0 = search rules in
    rw r (walked_stop _ _ _ (e ∙ sym (pointed-stop _ _ (refusal-some _ e))))

pub returns : goal.returns
returns c =
    let a = c.args in
    let n = c.read_u32-n.ensures in
    let p : c.paired.result ≡ pairs (count_at a.s.now a.at) = c.paired.ensures ∙ ap pairs n in
    let e = rw (p, n) at c.extents.ensures in
    rw (pointed-rest a.s.now a.at (sym (rw n at c.in_ok-counted_answer.ensures))) e
