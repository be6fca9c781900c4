-- `call_ping::ping_listed`: what its number refuses; else the set's row is found or made, updated and pinged.
use Rattle.table_view.proofs.Steps.{whole}
use Rattle.call_ping.proofs.ComplexPings.{late-refused, set-fits, RowMade, update-asked, still-row, still-proper, pinged-done}
use Rattle.std.proofs.Common.{rules, refl}
use Rattle.kinds.proofs.Answering.{refusal-some}
use Rattle.kinds.proofs.Passing.{passed-is}
use Rattle.call_ping.proofs.ping_listed.Goals as goal

pub late_answer-requires : goal.late_answer-requires
late_answer-requires c = search whole

pub returns-in_err-late_answer : goal.returns-in_err-late_answer
returns-in_err-late_answer = (λ c adds dels left. rw (passed-is _ _ c.from_residual.ensures.1) (late-refused _ _ _ _ _ _ _ _ left c.in_err-late_answer.ensures (refusal-some _ refl)))

pub ping_set_number-pinged-requires : goal.ping_set_number-pinged-requires
ping_set_number-pinged-requires c = search whole

pub ping_set_row-i-requires : goal.ping_set_row-i-requires
ping_set_row-i-requires = (λ c.
    let known = c.slice_known-1.given 1 in
    (search whole, λ z. set-fits _ _ c.in_ok-late_answer.ensures refl z known.fits))

pub update_set-requires : goal.update_set-requires
update_set-requires c =
    let made : let a = c.args in RowMade a.words.now a.store.now a.set.0 c.ping_set_row-i.new.words c.ping_set_row-i.result = search in
    (search rules, update-asked (made))

pub ping_row-requires : goal.ping_row-requires
ping_row-requires c =
    let made : let a = c.args in RowMade a.words.now a.store.now a.set.0 c.ping_set_row-i.new.words c.ping_set_row-i.result = search in
    let m = made in
    let u = c.update_set.ensures in
    (search rules, still-row m _ _ _ u, still-proper m _ _ _ u)

pub returns : goal.returns
returns c adds dels left =
    let made : let a = c.args in RowMade a.words.now a.store.now a.set.0 c.ping_set_row-i.new.words c.ping_set_row-i.result = search in
    pinged-done made _ _ _ c.update_set.ensures _ c.ping_row.ensures adds dels left _ _
    refl c.in_ok-late_answer.ensures c.ping_set_number-pinged.ensures
