-- `call_enter::enter_interface_step`: refused as the number says; else the interface is entered.
use Prim.Native.Nat.{ℕ}
use mathlib.Core.Path.{◌≡◌, refl}
use mathlib.Core.List.{List}
use Rattle.kinds.proofs.Answering.{refusal-some}
use Rattle.kinds.proofs.Passing.{passed-is}
use Rattle.kinds.specs.declared.Guid.{Guid}
use Rattle.rules.specs.Calls.{Call, Edit, numbered}
use Rattle.rules.specs.Rules.{next, results, refused_reply, accepted_reply, entered_counts}
use Rattle.table_view.specs.View.{memory, Stepped}
use Rattle.table_view.proofs.Steps.{refused-step, accepted-step}
use Rattle.table_edit.specs.Edits.{Became, add_interface}
use Rattle.call_enter.proofs.Places.{InterfaceAnswer, interface-fits}
use borrow.Author.Rules.{rules}
use Rattle.call_enter.proofs.enter_interface_step.Goals as goal

module _ (ws s : List ℕ) (o : ℕ) (i iid : Guid) (p n : ℕ) where
  abbrev call : Call
  call = Call.editing (Edit.enter_interface o i iid p)

  refused : (n ≡ 0 → ⊥) → InterfaceAnswer ws o i p n → Stepped call (memory ws s) (numbered n) (memory ws s)
  unfolding refused_reply results
  refused h a = refused-step n (a s iid) h

  entered : n ≡ 0 → InterfaceAnswer ws o i p n → (ws' : List ℕ) → Became (add_interface (record { ipid = i; iid = iid; object = o; counts = entered_counts p })) ws ws'
      → Stepped call (memory ws s) (numbered 0) (memory ws' s)
  unfolding accepted_reply results next
  entered z a ws' b = accepted-step n (a s iid) z _ (b s)

pub returns-in_err-interface_answer : goal.returns-in_err-interface_answer
returns-in_err-interface_answer c =
    rw (passed-is _ _ c.from_residual.ensures.1) (refused _ _ _ _ _ _ _ (refusal-some _ refl) c.in_err-interface_answer.ensures)

pub append_interface-requires : goal.append_interface-requires
append_interface-requires c = (search rules, interface-fits c.args.words.now _ _ _ _ refl c.in_ok-interface_answer.ensures)

pub returns : goal.returns
returns c = entered _ _ _ _ _ _ _ refl c.in_ok-interface_answer.ensures _ c.append_interface.ensures
