-- `replay_groups::ping_group`: each code is its call.
use mathlib.Core.Path.{◌≡◌}
use native.Mathlib.Omega.{arith}
use Rattle.recording.specs.Recording.{forms, form_of}
use Rattle.replay_groups.proofs.Coded.{answers-as, done-as}
use borrow.Author.Rules.{rules}
use Rattle.replay_groups.proofs.ping_group.Goals as goal

pub simple_ping-requires : goal.simple_ping-requires
unfolding form_of forms
simple_ping-requires c = search (rules, answers-as 10)

pub returns-then-code-eq10 : goal.returns-then-code-eq10
unfolding form_of forms
returns-then-code-eq10 c = search (done-as 10)

pub complex_ping-requires : goal.complex_ping-requires
unfolding form_of forms
complex_ping-requires c = search (rules, answers-as 11)

pub returns-then-code-eq11 : goal.returns-then-code-eq11
unfolding form_of forms
returns-then-code-eq11 c = search (done-as 11)

pub clock-requires : goal.clock-requires
unfolding form_of forms
clock-requires c = let e : c.byte-code.result ≡ 12 = omega arith in search (rules, answers-as 12)

pub returns : goal.returns
unfolding form_of forms
returns c = let e : c.byte-code.result ≡ 12 = omega arith in search (done-as 12)
