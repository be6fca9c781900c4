-- `replay_groups::snapshot_group`: each code is its call.
use mathlib.Core.Path.{◌≡◌}
use native.Mathlib.Omega.{arith}
use Rattle.recording.specs.Recording.{forms, form_of}
use Rattle.replay_groups.proofs.Coded.{code-known, answers-as, done-as}
use borrow.Author.Rules.{rules}
use Rattle.replay_groups.proofs.snapshot_group.Goals as goal

pub write_snapshot-requires : goal.write_snapshot-requires
unfolding form_of forms
write_snapshot-requires c = search (rules, answers-as 18)

pub returns-then-code-eq18 : goal.returns-then-code-eq18
unfolding form_of forms
returns-then-code-eq18 c = search (done-as 18)

pub load_snapshot-requires : goal.load_snapshot-requires
unfolding form_of forms
load_snapshot-requires c =
    let is-load : (c.byte-code.result ≡ 18 → ⊥) → c.byte-code.result ≡ 19 = λ n. let h = code-known _ _ _ _ c.requires.1 in omega arith in
    let e = is-load c.if-code-eq18.false in search (rules, answers-as 19)

pub returns : goal.returns
unfolding form_of forms
returns c =
    let is-load : (c.byte-code.result ≡ 18 → ⊥) → c.byte-code.result ≡ 19 = λ n. let h = code-known _ _ _ _ c.requires.1 in omega arith in
    let e = is-load c.if-code-eq18.false in search (done-as 19)
