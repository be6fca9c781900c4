-- `replay_groups::count_group`: each code is its call.
use mathlib.Core.Path.{◌≡◌}
use native.Mathlib.Omega.{arith}
use Rattle.recording.specs.Recording.{forms, form_of}
use Rattle.replay_groups.proofs.Coded.{answers-as, done-as}
use borrow.Author.Rules.{rules}
use Rattle.replay_groups.proofs.count_group.Goals as goal

pub add-requires : goal.add-requires
unfolding form_of forms
add-requires c = search (rules, answers-as 5)

pub returns-then-code-eq5 : goal.returns-then-code-eq5
unfolding form_of forms
returns-then-code-eq5 c = search (done-as 5)

pub release-requires : goal.release-requires
unfolding form_of forms
release-requires c = search (rules, answers-as 6)

pub returns-then-code-eq6 : goal.returns-then-code-eq6
unfolding form_of forms
returns-then-code-eq6 c = search (done-as 6)

pub drop_client-requires : goal.drop_client-requires
unfolding form_of forms
drop_client-requires c = search (rules, answers-as 7)

pub returns-then-code-eq7 : goal.returns-then-code-eq7
unfolding form_of forms
returns-then-code-eq7 c = search (done-as 7)

pub add_list-requires : goal.add_list-requires
unfolding form_of forms
add_list-requires c = search (rules, answers-as 8)

pub returns-then-code-eq8 : goal.returns-then-code-eq8
unfolding form_of forms
returns-then-code-eq8 c = search (done-as 8)

pub release_list-requires : goal.release_list-requires
unfolding form_of forms
release_list-requires c = let e : c.byte-code.result ≡ 9 = omega arith in search (rules, answers-as 9)

pub returns : goal.returns
unfolding form_of forms
returns c = let e : c.byte-code.result ≡ 9 = omega arith in search (done-as 9)
