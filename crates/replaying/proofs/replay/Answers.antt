-- `replaying::replay`: refused by its lengths or its bytes, else replayed.
use mathlib.Core.Path.{◌≡◌, sym, ◌∙◌, subst}
use mathlib.Core.Bool.{false, ◌&&◌}
use native.Mathlib.Omega.{arith}
use borrow.Author.Tests.{eq-eqb, ne_eqb}
use lib.ListN.{length}
use lib.Dec.{eqb}
use Rattle.rules.specs.Contract.{right_lengths}
use Rattle.table_view.specs.View.{memory}
use Rattle.replay_rules.specs.Replay.{Replayed}
use Rattle.replay_rules.specs.declared.Outcome.{Outcome}
use Rattle.replaying.proofs.Going.{replayed-refused}
use Rattle.replay_rules.proofs.Lengths.{whole-lengths, wrong-lengths, right-lengths}
use Rattle.replaying.proofs.replay.Goals as goal

pub returns-then-words-ne-WORDS : goal.returns-then-words-ne-WORDS
returns-then-words-ne-WORDS c =
    let a = c.args in
    let m = memory a.words.now a.store.now in
    let f : right_lengths m ≡ false = (λ u. ne_eqb (length a.words.now) 8192 c.if-words-ne-WORDS.true u && eqb (length a.store.now) 8192) in
    subst (λ (o : Outcome). Replayed m a.s.now o m) (sym c.refused.ensures) (replayed-refused m a.s.now 1 (wrong-lengths m a.s.now f) (λ z. omega arith))

pub returns-then-store-ne-BYTES : goal.returns-then-store-ne-BYTES
returns-then-store-ne-BYTES c =
    let a = c.args in
    let m = memory a.words.now a.store.now in
    let f : right_lengths m ≡ false =
    (λ u. eq-eqb (length a.words.now) 8192 c.if-words-ne-WORDS.false u && ne_eqb (length a.store.now) 8192 c.if-store-ne-BYTES.true u) in
    subst (λ (o : Outcome). Replayed m a.s.now o m) (sym c.refused-then-store-ne-BYTES.ensures) (replayed-refused m a.s.now 1 (wrong-lengths m a.s.now f) (λ z. omega arith))

pub returns-then-number-ne0 : goal.returns-then-number-ne0
returns-then-number-ne0 c =
    let a = c.args in
    let m = memory a.words.now a.store.now in
    let t = whole-lengths m c.if-words-ne-WORDS.false c.if-store-ne-BYTES.false in
    subst (λ (o : Outcome). Replayed m a.s.now o m) (sym c.refused-then-number-ne0.ensures)
    (replayed-refused m a.s.now _ (c.recording_answer-number.ensures ∙ right-lengths m a.s.now t) c.if-number-ne0.true)

pub replay_records-requires : goal.replay_records-requires
replay_records-requires c =
    (c.if-words-ne-WORDS.false, c.if-store-ne-BYTES.false, sym c.recording_answer-number.ensures ∙ c.if-number-ne0.false)

pub returns : goal.returns
returns c = c.replay_records.ensures
