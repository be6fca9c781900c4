-- `call_enter::enter_object_step`: refused as the number says; else the object is entered, and then its first interface.
use Prim.Native.Nat.{ℕ, ◌<◌}
use mathlib.Core.Path.{◌≡◌, refl, sym, ap, ◌∙◌}
use mathlib.Core.Bool.{Bool}
use mathlib.Core.List.{List}
use native.Mathlib.Omega.{arith}
use lib.ListN.{length}
use Rattle.kinds.proofs.Answering.{refusal-some}
use Rattle.kinds.proofs.Passing.{passed-is}
use Rattle.kinds.specs.declared.Guid.{Guid}
use Rattle.rules.specs.Entries.{Object, Entries, interface_places}
use Rattle.rules.specs.Calls.{Call, Edit, numbered}
use Rattle.rules.specs.Rules.{next, results, refused_reply, accepted_reply, entered_counts}
use Rattle.table_view.specs.View.{clock_of, interface_count, memory, Stepped}
use Rattle.table_view.proofs.LiveRows.{interfaces-length}
use Rattle.table_view.proofs.Steps.{sound-below, refused-step, accepted-step}
use Rattle.table_edit.specs.Edits.{Became, add_object, add_interface}
use Rattle.call_enter.proofs.Places.{ObjectAnswer, object-fits}
use borrow.Author.Rules.{rules}
use Rattle.call_enter.proofs.enter_object_step.Goals as goal

-- an object more leaves as many interfaces
place-left : (ws : List ℕ) → interface_count ws < interface_places → (ws' : List ℕ) (o : Object) → Became (add_object o) ws ws' → interface_count ws' < interface_places
place-left ws h ws' o b =
    let l = sym (interfaces-length ws') ∙ ap (λ (e : Entries). length e.interfaces) (b ws) ∙ interfaces-length ws in omega arith

module _ (ws s : List ℕ) (o x : ℕ) (i iid : Guid) (p : ℕ) (np : Bool) (n : ℕ) where
  abbrev call : Call
  call = Call.editing (Edit.enter_object o x i iid p np)

  refused : (n ≡ 0 → ⊥) → ObjectAnswer ws o x i p n → Stepped call (memory ws s) (numbered n) (memory ws s)
  unfolding refused_reply results
  refused h a = refused-step n (a s iid np) h

  entered : n ≡ 0 → ObjectAnswer ws o x i p n → (ws₁ ws₂ : List ℕ) → Became (add_object (record { oid = o; exporter = x; noping = np; heard = clock_of ws })) ws ws₁
      → Became (add_interface (record { ipid = i; iid = iid; object = o; counts = entered_counts p })) ws₁ ws₂ → Stepped call (memory ws s) (numbered 0) (memory ws₂ s)
  unfolding accepted_reply results next
  entered z a ws₁ ws₂ b d = accepted-step n (a s iid np) z _ (d s ∙ ap (add_interface _) (b s))

pub returns-in_err-object_answer : goal.returns-in_err-object_answer
returns-in_err-object_answer c =
    rw (passed-is _ _ c.from_residual.ensures.1) (refused _ _ _ _ _ _ _ _ _ (refusal-some _ refl) c.in_err-object_answer.ensures)

pub append_object-requires : goal.append_object-requires
append_object-requires c = (search rules, (object-fits c.args.words.now _ _ _ _ _ refl c.in_ok-object_answer.ensures).0, search sound-below)

pub append_interface-requires : goal.append_interface-requires
append_interface-requires c =
    (search rules, place-left _ (object-fits c.args.words.now _ _ _ _ _ refl c.in_ok-object_answer.ensures).1 _ _ c.append_object.ensures)

pub returns : goal.returns
returns c = entered _ _ _ _ _ _ _ _ _ refl c.in_ok-object_answer.ensures _ _ c.append_object.ensures c.append_interface.ensures
