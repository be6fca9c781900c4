-- `resolver::resolve_filtered`: a table that is not sound is refused; else the step is the call.
use mathlib.Core.Path.{refl}
use Rattle.rules.specs.Rules.{results, refused_reply}
use Rattle.table_view.proofs.Steps.{sound-table, unsound-call, stepped-call}
use Rattle.resolver.proofs.resolve_filtered.Goals as goal

pub returns-then-not-sound : goal.returns-then-not-sound
unfolding refused_reply results
returns-then-not-sound c = unsound-call c.sound.ensures _ refl c.if-not-sound.true-raw

pub resolve_filtered_step-requires : goal.resolve_filtered_step-requires
resolve_filtered_step-requires c = sound-table c.sound.ensures c.if-not-sound.false-raw

pub returns : goal.returns
returns c =
    let judged = c.sound.ensures in
    let left = c.if-not-sound.false-raw in
    let t = sound-table judged left in
    stepped-call judged _ refl left c.resolve_filtered_step.ensures t.words t.store
