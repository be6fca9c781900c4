-- `call_load::load_snapshot`: wrong lengths are refused, then bytes that are no snapshot; else what was read is copied.
use mathlib.Core.Path.{◌≡◌, sym, ap, ◌∙◌}
use mathlib.Core.Bool.{true}
use native.Mathlib.Omega.{arith}
use borrow.Author.Tests.{eq-eqb, ne_eqb}
use lib.ListN.{length}
use Rattle.rules.specs.Calls.{Call, Start}
use Rattle.rules.specs.Rules.{results, refused_reply, accepted_reply}
use Rattle.rules.proofs.Performing.{unfit}
use Rattle.rules.specs.Contract.{fit}
use Rattle.table_view.specs.View.{memory, view}
use Rattle.call_load.proofs.Loading.{load-refused, load-accepted}
use Rattle.call_load.proofs.load_snapshot.Goals as goal

pub returns-then-words-ne-WORDS : goal.returns-then-words-ne-WORDS
unfolding refused_reply results fit
returns-then-words-ne-WORDS c =
    let a = c.args in
    unfit view (Call.starting (Start.load_snapshot a.snapshot.now)) (memory a.words.now a.store.now) (rw (ne_eqb _ _ c.if-words-ne-WORDS.true))

pub returns-then-store-ne-BYTES : goal.returns-then-store-ne-BYTES
unfolding refused_reply results fit
returns-then-store-ne-BYTES c =
    let a = c.args in
    unfit view (Call.starting (Start.load_snapshot a.snapshot.now)) (memory a.words.now a.store.now) (rw (eq-eqb _ _ c.if-words-ne-WORDS.false, ne_eqb _ _ c.if-store-ne-BYTES.true))

pub returns-then-not-read_snapshot : goal.returns-then-not-read_snapshot
unfolding refused_reply results
returns-then-not-read_snapshot c =
    let a = c.args in
    load-refused a.snapshot.now (memory a.words.now a.store.now)
    c.if-words-ne-WORDS.false c.if-store-ne-BYTES.false
    (sym c.read_snapshot.ensures.accepted ∙ c.if-not-read_snapshot.true)

pub returns : goal.returns
unfolding accepted_reply results
returns c =
    let a = c.args in
    let h = c.read_snapshot in
    let t : h.result ≡ true = c.if-not-read_snapshot.false in
    let words = c.copy_from_slice.ensures.after in
    let store = c.copy_from_slice-2.ensures.after in
    load-accepted a.snapshot.now (memory a.words.now a.store.now) c.if-words-ne-WORDS.false c.if-store-ne-BYTES.false _ _
    (sym h.ensures.accepted ∙ t) (ap length words ∙ omega arith) (ap length store ∙ omega arith)
    ((λ u. view (memory (words u) (store u))) ∙ h.ensures.entries t)
