-- `replay_groups::enter_group`: each code is its call.
use mathlib.Core.Path.{◌≡◌}
use native.Mathlib.Omega.{arith}
use Rattle.recording.specs.Recording.{forms, form_of}
use Rattle.replay_groups.proofs.Coded.{answers-as, done-as}
use borrow.Author.Rules.{rules}
use Rattle.replay_groups.proofs.enter_group.Goals as goal

pub reset-requires : goal.reset-requires
unfolding form_of forms
reset-requires c = search (rules, answers-as 0)

pub returns-then-code-eq0 : goal.returns-then-code-eq0
unfolding form_of forms
returns-then-code-eq0 c = search (done-as 0)

pub enter_exporter-requires : goal.enter_exporter-requires
unfolding form_of forms
enter_exporter-requires c = search (rules, answers-as 1)

pub returns-then-code-eq1 : goal.returns-then-code-eq1
unfolding form_of forms
returns-then-code-eq1 c = search (done-as 1)

pub remove_exporter-requires : goal.remove_exporter-requires
unfolding form_of forms
remove_exporter-requires c = search (rules, answers-as 2)

pub returns-then-code-eq2 : goal.returns-then-code-eq2
unfolding form_of forms
returns-then-code-eq2 c = search (done-as 2)

pub enter_object-requires : goal.enter_object-requires
unfolding form_of forms
enter_object-requires c = search (rules, answers-as 3)

pub returns-then-code-eq3 : goal.returns-then-code-eq3
unfolding form_of forms
returns-then-code-eq3 c = search (done-as 3)

pub enter_interface-requires : goal.enter_interface-requires
unfolding form_of forms
enter_interface-requires c = let e : c.byte-code.result ≡ 4 = omega arith in search (rules, answers-as 4)

pub returns : goal.returns
unfolding form_of forms
returns c = let e : c.byte-code.result ≡ 4 = omega arith in search (done-as 4)
