-- `replaying::shift::replay_records`: `Before` holds before each turn, whatever memory the reset began from.
use mathlib.Core.Path.{◌≡◌}
use mathlib.Core.Bool.{true}
use native.Mathlib.Omega.{arith}
use borrow.Author.Tests.{not-true, not-false}
use Rattle.fields.specs.Fields.{Bytes}
use Rattle.rules.specs.Contract.{right_lengths}
use Rattle.rules.proofs.SoundLaws.{table-fields}
use Rattle.table_view.specs.View.{view, memory, SoundTable}
use Rattle.replay_rules.proofs.Lengths.{whole-lengths}
use Rattle.replaying.proofs.Looping.{Before, before-start, record-there, fits-here, before-next, stopped-here, tally-here, stopped-end, replayed-stopped}
use Rattle.replaying.proofs.shift.replay_records.Goals as goal

pub loop-left-init : goal.loop-left-init
loop-left-init c =
    λ m₀ r q h. before-start c.args.s.now c.requires.2 _ c.read_u64-left.ensures m₀ _ r q h

-- ---- before a turn

-- ---- a turn

pub take_turn-t-requires : goal.take_turn-t-requires
take_turn-t-requires c =
    let right : right_lengths (memory c.args.words.now c.args.store.now) ≡ true = whole-lengths (memory c.args.words.now c.args.store.now) c.requires.0 c.requires.1 in
    let before : Before c.args.s.now (memory c.args.words.now c.args.store.now) (memory c.loop-left.words c.loop-left.store) c.loop-left.left c.loop-left.at c.loop-left.number c.loop-left.held c.loop-left.tally = c.loop-left.invariant (memory c.args.words.now c.args.store.now) _ c.reset.ensures (right) in
    let sound-before : SoundTable (memory c.loop-left.words c.loop-left.store) = table-fields view (memory c.loop-left.words c.loop-left.store) (before).going.sound in
    let b = before in
    let t = c.loop-left-test.true in
    (sound-before, record-there _ _ _ _ _ _ _ _ b t, fits-here _ _ _ _ _ _ _ _ b t, b.sum)

pub shape_of-words-then-not-t : goal.shape_of-words-then-not-t
shape_of-words-then-not-t c =
    let d = c.take_turn-t.ensures.words in
    let e = c.requires.0 in
    omega arith

pub shape_of-store-then-not-t : goal.shape_of-store-then-not-t
shape_of-store-then-not-t c =
    let d = c.take_turn-t.ensures.store in
    let e = c.requires.1 in
    omega arith

pub returns-then-not-t : goal.returns-then-not-t
returns-then-not-t c =
    let right : right_lengths (memory c.args.words.now c.args.store.now) ≡ true = whole-lengths (memory c.args.words.now c.args.store.now) c.requires.0 c.requires.1 in
    let before : Before c.args.s.now (memory c.args.words.now c.args.store.now) (memory c.loop-left.words c.loop-left.store) c.loop-left.left c.loop-left.at c.loop-left.number c.loop-left.held c.loop-left.tally = c.loop-left.invariant (memory c.args.words.now c.args.store.now) _ c.reset.ensures (right) in
    let bytes : Bytes c.args.s.now = λ i. let g = c.shared_slice_known-1.given i in omega arith in
    let b = before in
    let t = c.loop-left-test.true in
    let done = c.take_turn-t.ensures in
    replayed-stopped _ _ c.args.s.now _ _ _ (bytes) (omega arith) c.requires.2 (right)
    (tally-here _ _ _ _ _ _ _ _ b t _ _ done) (stopped-here _ _ _ _ _ _ _ _ b t _ _ done (not-true _ c.if-not-t.true))

pub overflow_add-number : goal.overflow_add-number
overflow_add-number c =
    let right : right_lengths (memory c.args.words.now c.args.store.now) ≡ true = whole-lengths (memory c.args.words.now c.args.store.now) c.requires.0 c.requires.1 in
    let before : Before c.args.s.now (memory c.args.words.now c.args.store.now) (memory c.loop-left.words c.loop-left.store) c.loop-left.left c.loop-left.at c.loop-left.number c.loop-left.held c.loop-left.tally = c.loop-left.invariant (memory c.args.words.now c.args.store.now) _ c.reset.ensures (right) in
    let f = (before).few in omega arith

pub loop-left-preserved : goal.loop-left-preserved
loop-left-preserved c =
    let l = c.loop-left in
    let t = c.loop-left-test.true in
    let done = c.take_turn-t.ensures in
    λ m₀ r q h. before-next _ m₀ _ _ _ _ _ _ (l.invariant m₀ r q h) t _ _ done (not-false _ c.if-not-t.false)

-- ---- behind the last

pub shape_of-words : goal.shape_of-words
shape_of-words c =
    let right : right_lengths (memory c.args.words.now c.args.store.now) ≡ true = whole-lengths (memory c.args.words.now c.args.store.now) c.requires.0 c.requires.1 in
    let before : Before c.args.s.now (memory c.args.words.now c.args.store.now) (memory c.loop-left.words c.loop-left.store) c.loop-left.left c.loop-left.at c.loop-left.number c.loop-left.held c.loop-left.tally = c.loop-left.invariant (memory c.args.words.now c.args.store.now) _ c.reset.ensures (right) in
    let sound-before : SoundTable (memory c.loop-left.words c.loop-left.store) = table-fields view (memory c.loop-left.words c.loop-left.store) (before).going.sound in
    let d = (sound-before).words in let e = c.requires.0 in omega arith

pub shape_of-store : goal.shape_of-store
shape_of-store c =
    let right : right_lengths (memory c.args.words.now c.args.store.now) ≡ true = whole-lengths (memory c.args.words.now c.args.store.now) c.requires.0 c.requires.1 in
    let before : Before c.args.s.now (memory c.args.words.now c.args.store.now) (memory c.loop-left.words c.loop-left.store) c.loop-left.left c.loop-left.at c.loop-left.number c.loop-left.held c.loop-left.tally = c.loop-left.invariant (memory c.args.words.now c.args.store.now) _ c.reset.ensures (right) in
    let sound-before : SoundTable (memory c.loop-left.words c.loop-left.store) = table-fields view (memory c.loop-left.words c.loop-left.store) (before).going.sound in
    let d = (sound-before).store in let e = c.requires.1 in omega arith

pub returns : goal.returns
returns c =
    let right : right_lengths (memory c.args.words.now c.args.store.now) ≡ true = whole-lengths (memory c.args.words.now c.args.store.now) c.requires.0 c.requires.1 in
    let before : Before c.args.s.now (memory c.args.words.now c.args.store.now) (memory c.loop-left.words c.loop-left.store) c.loop-left.left c.loop-left.at c.loop-left.number c.loop-left.held c.loop-left.tally = c.loop-left.invariant (memory c.args.words.now c.args.store.now) _ c.reset.ensures (right) in
    let bytes : Bytes c.args.s.now = λ i. let g = c.shared_slice_known-1.given i in omega arith in
    let b = before in
    replayed-stopped _ _ c.args.s.now _ _ _ (bytes) (omega arith) c.requires.2 (right)
    b.wraps (stopped-end _ _ _ _ _ _ _ _ b c.loop-left-test.false)
