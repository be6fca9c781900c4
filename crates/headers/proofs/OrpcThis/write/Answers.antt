-- `OrpcThis::write`: the fields are a run of writes from the front.
use mathlib.Core.Path.{refl}
use borrow.Author.Tests.{lt-ltb, le-ltb}
use Rattle.kinds.specs.Refusals.{order}
use Rattle.fields.proofs.Fields.{first-bytes, then-field}
use Rattle.headers.specs.Headers.{this_front, this_bytes, this_written}
use Rattle.headers.proofs.HeaderAnswers.{plain, plain-answer, length_front}
use Rattle.headers.proofs.OrpcThis.write.Goals as goal

pub returns-then-self-gt-MINOR : goal.returns-then-self-gt-MINOR
unfolding this_written order
returns-then-self-gt-MINOR c = (simp (lt-ltb _ _ c.if-self-gt-MINOR.true), refl)

pub returns-then-buf-lt-SIZE : goal.returns-then-buf-lt-SIZE
unfolding this_written order
returns-then-buf-lt-SIZE c = (simp (le-ltb _ _ c.if-self-gt-MINOR.false, plain-answer, lt-ltb _ _ c.if-buf-lt-SIZE.true), refl)

pub returns : goal.returns
unfolding this_written this_bytes order
returns c =
    let h = c.args.self in
    let room = c.if-buf-lt-SIZE.false in
    let run = first-bytes (this_front 0 h) 28 (length_front 0 h) c.write_front.ensures in (
      simp (le-ltb _ _ c.if-self-gt-MINOR.false, plain-answer, le-ltb _ _ room),
      rw plain (then-field 4 0 run room c.write_u32.ensures).holds,
    )
