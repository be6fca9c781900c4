-- `filter::filtered_length`: by N, S and the words of the requested bindings.
use mathlib.Core.Path.{sym, ap, ◌∙◌}
use native.Mathlib.Omega.{arith}
use lib.ListN.{length}
use Rattle.bindings.specs.Bindings.{list_length}
use Rattle.bindings.proofs.ListAnswers.{accepted}
use Rattle.bindings.proofs.FilterWriting.{no_words, filtered-size}
use Rattle.bindings.proofs.filter.filtered_length.Goals as goal

pub returns-then-n-eq0 : goal.returns-then-n-eq0
returns-then-n-eq0 c =
    let a = c.args in
    sym (ap length (no_words a.protocols.now a.s.now c.requires (sym c.read_u16-n.ensures ∙ c.if-n-eq0.true)))

pub requested_words-requires : goal.requested_words-requires
unfolding list_length
requested_words-requires c = let h = accepted _ c.requires in omega arith

pub returns : goal.returns
returns c =
    let a = c.args in
    let n = c.read_u16-n.ensures in
    let k = c.read_u16-k.ensures in
    let e = c.requested_words.ensures.0 in
    rw (filtered-size a.protocols.now a.s.now c.requires (λ z. c.if-n-eq0.false (n ∙ z)), ← k, ← n) (omega arith)

pub overflow_sub-result : goal.overflow_sub-result
overflow_sub-result c = let h = accepted _ c.requires in omega arith
