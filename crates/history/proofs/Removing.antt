-- A resolve of another exporter before a removal and after it.
use mathlib.Core.Path.{sym, ap, ◌∙◌}
use mathlib.Core.Logic.{⊎_elim}
use Rattle.lists.proofs.Tests.{same_or_not}
use Rattle.rules.specs.Entries.{Entries}
use Rattle.rules.specs.Calls.{looking, resolve}
use Rattle.rules.specs.Contract.{Memory}
use Rattle.rules.specs.Rules.{reply}
use Rattle.rules.proofs.Removing.{others-resolve}
use Rattle.table_view.specs.View.{view, sound_memory}
use Rattle.history.specs.Removing.{OthersServed}
use Rattle.history.proofs.Runs.{replied}

pub others-served : OthersServed
others-served x y buffer m m' n n' a r b d s p q t =
    let before = p.answered ∙ replied _ m s in
    ⊎_elim
    (λ z.
    t.answered
    ∙ replied _ m' (q.sound_after z)
    ∙ ap (λ (e : Entries). reply (looking (resolve y buffer)) e) (q.became z)
    ∙ others-resolve (view m) x y buffer d
    ∙ sym before)
    (λ z.
    let same = q.kept z in
    t.answered
    ∙ replied _ m' (ap sound_memory same ∙ s)
    ∙ ap (λ (k : Memory). reply (looking (resolve y buffer)) (view k)) same
    ∙ sym before)
    (same_or_not r.number 0)
