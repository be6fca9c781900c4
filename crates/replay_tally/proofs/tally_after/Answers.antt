-- `replay_tally::tally_after`: by the side of the code.
use Prim.Native.Nat.{ℕ}
use mathlib.Core.Path.{◌≡◌, sym, ap, ◌∙◌}
use Rattle.tally.specs.Tallies.{raised, wrapped}
use Rattle.balance.specs.Sides.{Side, granting, taking, running, beginning, moved}
use Rattle.replay_tally.specs.Sums.{side_as, side_from}
use Rattle.replay_tally.proofs.Wrapping.{from-else}
use Rattle.replay_tally.proofs.tally_after.Goals as goal

pub returns-then-way-eq1 : goal.returns-then-way-eq1
returns-then-way-eq1 c =
    let a = c.args in
    let q : side_as a.code ≡ taking = c.side-way.ensures ∙ ap side_from c.if-way-eq1.true in
    c.counted.ensures
    ∙ ap (λ (n : ℕ). wrapped (raised a.tally 0 n 0)) c.less.ensures
    ∙ ap (λ (s : Side). wrapped (moved s a.accepted a.old a.new a.tally)) (sym q)

pub returns-then-way-eq2 : goal.returns-then-way-eq2
returns-then-way-eq2 c =
    let a = c.args in
    let q : side_as a.code ≡ running = c.side-way.ensures ∙ ap side_from c.if-way-eq2.true in
    c.counted-then-way-eq2.ensures
    ∙ ap (λ (n : ℕ). wrapped (raised a.tally 0 0 n)) c.less-then-way-eq2.ensures
    ∙ ap (λ (s : Side). wrapped (moved s a.accepted a.old a.new a.tally)) (sym q)

pub returns-then-way-eq3 : goal.returns-then-way-eq3
returns-then-way-eq3 c =
    let a = c.args in
    let q : side_as a.code ≡ beginning = c.side-way.ensures ∙ ap side_from c.if-way-eq3.true in
    c.started.ensures ∙ ap (λ (s : Side). wrapped (moved s a.accepted a.old a.new a.tally)) (sym q)

pub returns : goal.returns
returns c =
    let a = c.args in
    let q : side_as a.code ≡ granting =
    c.side-way.ensures
    ∙ from-else _ c.if-way-eq1.false c.if-way-eq2.false c.if-way-eq3.false in
    c.counted-2.ensures
    ∙ ap (λ (n : ℕ). wrapped (raised a.tally n 0 0)) c.less-2.ensures
    ∙ ap (λ (s : Side). wrapped (moved s a.accepted a.old a.new a.tally)) (sym q)
