-- `fragments::form_of`: the tests of `form_of`.
use mathlib.Core.Path.{sym, ap, ◌∙◌}
use borrow.Author.Tests.{lt-leb, le-leb, eq-eqb, ne_eqb}
use Rattle.fragments.specs.Fragments.{is_plain, form_of}
use Rattle.fragments.proofs.form_of.Goals as goal

pub returns-then-seen-lt24 : goal.returns-then-seen-lt24
unfolding form_of
returns-then-seen-lt24 c = rw (lt-leb _ _ c.if-seen-lt24.true)

pub returns-then-read_u32-ne-SIGNATURE : goal.returns-then-read_u32-ne-SIGNATURE
unfolding form_of
returns-then-read_u32-ne-SIGNATURE c =
    let e = c.read_u32.ensures in
    rw (le-leb _ _ c.if-seen-lt24.false, ne_eqb _ _ (λ z. c.if-read_u32-ne-SIGNATURE.true (e ∙ z)))

pub returns-then-is_plain : goal.returns-then-is_plain
unfolding form_of
returns-then-is_plain c =
    let f = c.read_u32-f.ensures in
    let e = sym c.read_u32.ensures ∙ c.if-read_u32-ne-SIGNATURE.false in
    let g = ap is_plain (sym f) ∙ sym c.is_plain.ensures ∙ c.if-is_plain.true in
    rw (le-leb _ _ c.if-seen-lt24.false, eq-eqb _ _ e, g) f

pub returns-else-is_plain : goal.returns-else-is_plain
unfolding form_of
returns-else-is_plain c =
    let f = c.read_u32-f.ensures in
    let e = sym c.read_u32.ensures ∙ c.if-read_u32-ne-SIGNATURE.false in
    let g = ap is_plain (sym f) ∙ sym c.is_plain.ensures ∙ c.if-is_plain.false in
    rw (le-leb _ _ c.if-seen-lt24.false, eq-eqb _ _ e, g)
