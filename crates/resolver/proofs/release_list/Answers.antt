-- `resolver::release_list`: a table that is not sound is refused; else the step is the call.
use mathlib.Core.Path.{◌≡◌, refl}
use native.Mathlib.Omega.{arith}
use lib.ListN.{length}
use Rattle.rules.specs.Rules.{results, refused_reply}
use Rattle.table_view.proofs.Steps.{sound-table, unsound-call, stepped-call}
use Rattle.resolver.proofs.release_list.Goals as goal

pub returns-then-not-sound_indexed : goal.returns-then-not-sound_indexed
unfolding refused_reply results
returns-then-not-sound_indexed c = unsound-call c.sound_indexed.ensures.0 _ refl c.if-not-sound_indexed.true-raw

pub list_step-requires : goal.list_step-requires
list_step-requires c =
    let judged = c.sound_indexed.ensures in
    (sound-table judged.0 c.if-not-sound_indexed.false-raw, judged.1.index c.if-not-sound_indexed.false)

pub returns : goal.returns
returns c =
    let judged = c.sound_indexed.ensures.0 in
    let t = sound-table judged c.if-not-sound_indexed.false-raw in
    let words : length c.list_step.new.words ≡ 8192 = omega arith in
    stepped-call judged _ refl c.if-not-sound_indexed.false-raw c.list_step.ensures words t.store
