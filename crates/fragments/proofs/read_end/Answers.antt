-- `fragments::read_end`: the rows of `read_end`.
use Prim.Native.Nat.{◌<◌, ◌≤◌}
use mathlib.Core.Path.{◌≡◌, sym, ap, ◌∙◌}
use mathlib.Core.Bool.{true, false}
use native.Mathlib.Omega.{arith}
use borrow.Author.Tests.{lt-ltb, le-ltb, eq-eqb, ne_eqb}
use Rattle.kinds.specs.Refusals.{order}
use Rattle.fields.specs.Fields.{field}
use Rattle.elements.specs.Elements.{signature}
use Rattle.references.specs.References.{fixed_size}
use Rattle.kinds.proofs.Refusing.{last_row}
use Rattle.fragments.specs.Fragments.{is_plain, read_end}
use Rattle.fragments.proofs.read_end.Goals as goal

pub returns-then-seen-lt24 : goal.returns-then-seen-lt24
unfolding read_end order
returns-then-seen-lt24 c = simp (lt-ltb _ _ c.if-seen-lt24.true)

pub returns-then-read_u32-ne-SIGNATURE : goal.returns-then-read_u32-ne-SIGNATURE
unfolding read_end order
returns-then-read_u32-ne-SIGNATURE c =
    let e = c.read_u32.ensures in
    simp (le-ltb _ _ c.if-seen-lt24.false, ne_eqb _ _ (λ z. c.if-read_u32-ne-SIGNATURE.true (e ∙ z)))

pub returns-then-not-is_plain : goal.returns-then-not-is_plain
unfolding read_end order
returns-then-not-is_plain c =
    let signed : field c.args.head.now 0 4 ≡ signature = sym c.read_u32.ensures ∙ c.if-read_u32-ne-SIGNATURE.false in
    let form : is_plain (field c.args.head.now 4 4) ≡ false =
    ap is_plain (sym c.read_u32-f.ensures) ∙ sym c.is_plain.ensures ∙ c.if-not-is_plain.true in
    simp (le-ltb _ _ c.if-seen-lt24.false, eq-eqb _ _ (signed), form)

pub returns-then-seen-fixed_size : goal.returns-then-seen-fixed_size
unfolding read_end order
returns-then-seen-fixed_size c =
    let signed : field c.args.head.now 0 4 ≡ signature = sym c.read_u32.ensures ∙ c.if-read_u32-ne-SIGNATURE.false in
    let form : is_plain (field c.args.head.now 4 4) ≡ true = ap is_plain (sym c.read_u32-f.ensures) ∙ sym c.is_plain.ensures ∙ c.if-not-is_plain.false in
    let size : c.fixed_size.result ≡ fixed_size (field c.args.head.now 4 4) = c.fixed_size.ensures ∙ ap fixed_size c.read_u32-f.ensures in
    let a = c.args in
    let e = size in
    let short : a.seen < fixed_size (field a.head.now 4 4) = omega arith in
    simp
    (le-ltb _ _ c.if-seen-lt24.false, eq-eqb _ _ (signed), form, lt-ltb _ _ short)

pub tail_end-requires : goal.tail_end-requires
tail_end-requires c =
    let a = c.args in
    let e = c.fixed_size.ensures in
    omega arith

pub returns : goal.returns
unfolding read_end order
returns c =
    let signed : field c.args.head.now 0 4 ≡ signature = sym c.read_u32.ensures ∙ c.if-read_u32-ne-SIGNATURE.false in
    let form : is_plain (field c.args.head.now 4 4) ≡ true = ap is_plain (sym c.read_u32-f.ensures) ∙ sym c.is_plain.ensures ∙ c.if-not-is_plain.false in
    let size : c.fixed_size.result ≡ fixed_size (field c.args.head.now 4 4) = c.fixed_size.ensures ∙ ap fixed_size c.read_u32-f.ensures in
    let a = c.args in
    let e = size in
    let long : fixed_size (field a.head.now 4 4) ≤ a.seen = omega arith in
    let t = rw c.read_u32-f.ensures at c.tail_end.ensures in
    simp (
      le-ltb _ _ c.if-seen-lt24.false,
      eq-eqb _ _ (signed),
      form,
      le-ltb _ _ long,
    )
    (t ∙ sym (last_row _))
