-- `call_enter::enter_exporter_step`: refused as the number says; else the exporter is entered with its list.
use Prim.Native.Nat.{ℕ}
use mathlib.Core.Path.{◌≡◌, refl}
use mathlib.Core.List.{List}
use Rattle.kinds.specs.declared.Guid.{Guid}
use Rattle.kinds.proofs.Answering.{refusal-some}
use Rattle.kinds.proofs.Passing.{passed-is}
use Rattle.rules.specs.Calls.{Call, Edit, numbered}
use Rattle.rules.specs.Rules.{number, next, results, refused_reply, accepted_reply}
use Rattle.table_view.specs.View.{memory, view, Stepped}
use Rattle.table_view.proofs.Steps.{refused-step, accepted-step}
use Rattle.table_edit.specs.Edits.{add_exporter}
use Rattle.call_enter.proofs.Places.{exporter-fits}
use Rattle.call_enter.proofs.enter_exporter_step.Goals as goal

module _ (ws s list : List ℕ) (x : ℕ) (u : Guid) (n : ℕ) (answer : n ≡ number (Call.editing (Edit.enter_exporter x u list)) (view (memory ws s))) where
  refused : (n ≡ 0 → ⊥) → Stepped (Call.editing (Edit.enter_exporter x u list)) (memory ws s) (numbered n) (memory ws s)
  unfolding refused_reply results
  refused h = refused-step n answer h

  entered : n ≡ 0 → (ws' s' : List ℕ) → view (memory ws' s') ≡ add_exporter (record { oxid = x; unknown = u; bindings = list }) (view (memory ws s))
      → Stepped (Call.editing (Edit.enter_exporter x u list)) (memory ws s) (numbered 0) (memory ws' s')
  unfolding accepted_reply results next
  entered z ws' s' v = accepted-step n answer z _ v

pub returns-in_err-exporter_answer : goal.returns-in_err-exporter_answer
returns-in_err-exporter_answer c =
    rw (passed-is _ _ c.from_residual.ensures.1) (refused _ _ _ _ _ _ c.in_err-exporter_answer.ensures (refusal-some _ refl))

pub append_exporter-requires : goal.append_exporter-requires
append_exporter-requires = (λ c.
    exporter-fits _ _ c.requires _ _ _ _ c.in_ok-exporter_answer.ensures refl)

pub returns : goal.returns
returns c = entered _ _ _ _ _ _ c.in_ok-exporter_answer.ensures refl _ _ c.append_exporter.ensures
