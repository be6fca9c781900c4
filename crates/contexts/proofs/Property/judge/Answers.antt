-- `Property::judge`: the rows of `write_property_answer`, in their order.
use mathlib.Core.Path.{◌≡◌, sym, ◌∙◌}
use mathlib.Core.Bool.{true, false}
use borrow.Author.Tests.{lt-ltb, le-ltb}
use Rattle.kinds.specs.Refusals.{order}
use Rattle.contexts.specs.Contexts.{is_property_flags, write_property_answer}
use Rattle.contexts.proofs.Property.judge.Goals as goal

pub returns-then-not-is_property_flags : goal.returns-then-not-is_property_flags
unfolding write_property_answer order
returns-then-not-is_property_flags c =
    let flags : is_property_flags c.args.self.flags ≡ false = sym c.is_property_flags.ensures ∙ c.if-not-is_property_flags.true in
    rw flags

pub returns-then-content-gt4294967295 : goal.returns-then-content-gt4294967295
unfolding write_property_answer order
returns-then-content-gt4294967295 c =
    let flags : is_property_flags c.args.self.flags ≡ true = sym c.is_property_flags.ensures ∙ c.if-not-is_property_flags.false in
    rw (flags, lt-ltb _ _ c.if-content-gt4294967295.true)

pub returns-then-n-content : goal.returns-then-n-content
unfolding write_property_answer order
returns-then-n-content c =
    let flags : is_property_flags c.args.self.flags ≡ true = sym c.is_property_flags.ensures ∙ c.if-not-is_property_flags.false in
    rw (flags, le-ltb _ _ c.if-content-gt4294967295.false, lt-ltb _ _ c.if-n-content.true)

pub returns : goal.returns
unfolding write_property_answer order
returns c =
    let flags : is_property_flags c.args.self.flags ≡ true = sym c.is_property_flags.ensures ∙ c.if-not-is_property_flags.false in
    rw (flags, le-ltb _ _ c.if-content-gt4294967295.false, le-ltb _ _ c.if-n-content.false)
