-- `OrpcThat::write`: the fields are a run of writes from the front.
use mathlib.Core.Path.{refl, sym, ◌∙◌}
use borrow.Author.Tests.{lt-ltb, le-ltb}
use Rattle.kinds.specs.Refusals.{order}
use Rattle.fields.proofs.Fields.{first_field, then-field}
use Rattle.headers.specs.Headers.{that_bytes}
use mathlib.Core.List.{[]}
use Rattle.headers.proofs.HeaderAnswers.{plain, plain-answer, write-answer}
use Rattle.headers.proofs.OrpcThat.write.Goals as goal

pub returns-then-buf-lt-SIZE : goal.returns-then-buf-lt-SIZE
unfolding order
returns-then-buf-lt-SIZE c = (sym (write-answer 0 0 [] [] 4 _ ∙ plain-answer 4 _ ∙ simp (lt-ltb _ _ c.if-buf-lt-SIZE.true)), refl)

pub returns : goal.returns
unfolding that_bytes order
returns c =
    let room = c.if-buf-lt-SIZE.false in
    let run = first_field 4 c.args.self.flags c.write_u32.ensures in
    (sym (write-answer 0 0 [] [] 4 _ ∙ plain-answer 4 _ ∙ simp (le-ltb _ _ room)), rw plain (then-field 4 0 run room c.write_u32-2.ensures).holds)
