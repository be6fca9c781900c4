-- `rows::has_room`: an exporter more fits where its list is not refused.
use mathlib.Core.Path.{sym, ap, ◌∙◌}
use lib.Dec.{eqb}
use Prim.Native.Nat.{ℕ}
use Rattle.kinds.proofs.Passing.{ok-number}
use Rattle.table_view.specs.View.{memory, view}
use Rattle.snapshot_reader.proofs.rows.SectionFits.{exporter-fits}
use Rattle.snapshot_reader.proofs.rows.Reading.{lists-kept}
use Rattle.snapshot_reader.proofs.rows.has_room.Goals as goal

pub list_answer-requires : goal.list_answer-requires
list_answer-requires c =
    (c.requires.0, c.requires.1, lists-kept c.args.words.now c.args.store.now c.requires.2)

pub returns : goal.returns
returns c x u =
    let a = c.args in
    c.is_ok.ensures.value ∙ ok-number c.list_answer.result ∙ ap (λ (n : ℕ). eqb n 0) c.list_answer.ensures
    ∙ sym (exporter-fits (record { oxid = x; unknown = u; bindings = a.list.now }) (view (memory a.words.now a.store.now)) c.requires.2)
