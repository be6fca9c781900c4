-- `call_ping::ping_of`: what its early number refuses; else the lists are read, and the rest goes by what is left of them.
use Rattle.std.proofs.Common.{refl}
use Rattle.kinds.proofs.Answering.{refusal-some}
use Rattle.kinds.proofs.Passing.{passed-is}
use Rattle.table_view.proofs.Steps.{sound-below}
use Rattle.call_ping.proofs.Taking.{oids-proper}
use Rattle.call_ping.proofs.ComplexPings.{passed-early, early-refused, named_set, not_live, both-listed}
use Rattle.call_ping.proofs.ping_of.Goals as goal

pub returns-in_err-early_answer : goal.returns-in_err-early_answer
returns-in_err-early_answer g c =
    rw (passed-is _ _ c.from_residual.ensures.1)
    (early-refused _ _ _ _ _ _ _ _ c.count.ensures c.count-2.ensures _ (refusal-some _ refl) c.in_err-early_answer.ensures)

pub members_before-before-requires : goal.members_before-before-requires
members_before-before-requires g c =
    let passed = passed-early _ _ _ _ _ _ _ _ c.count.ensures c.count-2.ensures c.requires c.in_ok-early_answer.ensures in
    (c.requires.words, named_set _ _ _ _ _ _ passed c.args.store.now, sound-below _ _ c.requires)

pub update_members-requires : goal.update_members-requires
update_members-requires g c = search oids-proper

pub returns-in_default : goal.returns-in_default
returns-in_default g c =
    let passed = passed-early _ _ _ _ _ _ _ _ c.count.ensures c.count-2.ensures c.requires c.in_ok-early_answer.ensures in
    not_live _ _ _ _ _ _ passed _ (c.in_default.ensures c.args.store.now)

pub update_members-requires-2 : goal.update_members-requires-2
update_members-requires-2 g c = search oids-proper

pub unwrap-left-requires : goal.unwrap-left-requires
unwrap-left-requires g c = (c.update_members-2.ensures c.args.words.now).live

pub ping_listed-requires : goal.ping_listed-requires
ping_listed-requires g c =
    let passed = passed-early _ _ _ _ _ _ _ _ c.count.ensures c.count-2.ensures c.requires c.in_ok-early_answer.ensures in
    (c.requires, named_set _ _ _ _ _ _ passed c.args.store.now)

pub returns : goal.returns
returns g c =
    let passed = passed-early _ _ _ _ _ _ _ _ c.count.ensures c.count-2.ensures c.requires c.in_ok-early_answer.ensures in
    c.ping_listed.ensures _ _
    (both-listed _ _ _ _ _ _ passed _ c.members_before-before.ensures _ c.in-Some.ensures _ (rw c.unwrap-left.ensures at c.update_members-2.ensures))
