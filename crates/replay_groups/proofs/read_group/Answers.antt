-- `replay_groups::read_group`: each code is its call.
use mathlib.Core.Path.{◌≡◌}
use native.Mathlib.Omega.{arith}
use Rattle.recording.specs.Recording.{forms, form_of}
use Rattle.replay_groups.proofs.Coded.{answers-as, done-as}
use borrow.Author.Rules.{rules}
use Rattle.replay_groups.proofs.read_group.Goals as goal

pub resolve-requires : goal.resolve-requires
unfolding form_of forms
resolve-requires c = search (rules, answers-as 13)

pub returns-then-code-eq13 : goal.returns-then-code-eq13
unfolding form_of forms
returns-then-code-eq13 c = search (done-as 13)

pub resolve_filtered-requires : goal.resolve_filtered-requires
unfolding form_of forms
resolve_filtered-requires c = search (rules, answers-as 14)

pub returns-then-code-eq14 : goal.returns-then-code-eq14
unfolding form_of forms
returns-then-code-eq14 c = search (done-as 14)

pub census-requires : goal.census-requires
unfolding form_of forms
census-requires c = search (rules, answers-as 15)

pub returns-then-code-eq15 : goal.returns-then-code-eq15
unfolding form_of forms
returns-then-code-eq15 c = search (done-as 15)

pub members-requires : goal.members-requires
unfolding form_of forms
members-requires c = search (rules, answers-as 16)

pub returns-then-code-eq16 : goal.returns-then-code-eq16
unfolding form_of forms
returns-then-code-eq16 c = search (done-as 16)

pub next_stop-requires : goal.next_stop-requires
unfolding form_of forms
next_stop-requires c = let e : c.byte-code.result ≡ 17 = omega arith in search (rules, answers-as 17)

pub returns : goal.returns
unfolding form_of forms
returns c = let e : c.byte-code.result ≡ 17 = omega arith in search (done-as 17)
