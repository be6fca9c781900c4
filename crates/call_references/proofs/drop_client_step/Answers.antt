-- `call_references::drop_client_step`: a client that is none is refused; else its counts are cleared, and what has no reference then goes, where anything has none.
use Prim.Native.Nat.{ℕ, ◌<◌, ◌≤◌}
use mathlib.Core.Path.{◌≡◌, refl, sym, ap, ◌∙◌}
use mathlib.Core.Bool.{true}
use mathlib.Core.List.{List}
use native.Mathlib.Omega.{arith}
use borrow.Author.Tests.{lt-ltb, le-ltb}
use lib.Dec.{eqb}
use Rattle.lists.specs.Lists.{distinct}
use Rattle.rules.specs.Entries.{Entries, oids}
use Rattle.rules.specs.Calls.{Call, Edit, numbered}
use Rattle.rules.specs.Sound.{proper, interface_objects_live, set_members_live}
use Rattle.rules.specs.Rules.{refusals, number, next, results, refused_reply, accepted_reply}
use Rattle.rules.proofs.SoundLaws.{sound-fields}
use Rattle.table_view.specs.View.{interface_count, memory, view, Holds, SoundTable, Stepped, oids_of, members_below}
use Rattle.table_edit.specs.Edits.{Became}
use Rattle.table_settle.specs.Leaving.{without_leaving, cleared, held_left}
use Rattle.table_settle.specs.declared.Leaving.TheVariants.{NoInterface}
use Rattle.table_settle.proofs.Settling.{asked}
use Rattle.table_settle.proofs.ClientDrop.{drop-steps}
use Rattle.table_settle.proofs.Staying.{all_held, held-named}
use Rattle.table_view.proofs.LiveRows.{interfaces-length}
use Rattle.table_view.proofs.Steps.{refused-step, accepted-step, row_gives, row-passes, rows_end}
use borrow.Author.Rules.{rules}
use Rattle.call_references.proofs.drop_client_step.Goals as goal

-- what objects without an interface can go from
record Settled (ws : List ℕ) : Type 0 where
  below : members_below ws ≡ true
  apart : distinct eqb (oids_of ws) ≡ true
  named : Holds (λ e. interface_objects_live e ≡ true) ws

module _ (ws s : List ℕ) (c : ℕ) where
  abbrev call : Call
  call = Call.editing (Edit.drop_client c)

  no-client : 7 < c → Stepped call (memory ws s) (numbered 20) (memory ws s)
  unfolding refused_reply results number refusals
  no-client h = refused-step 20 (row_gives _ _ _ refl (lt-ltb 7 c h)) (λ z. omega arith)

  accepted : c ≤ 7 → (ws' : List ℕ) → view (memory ws' s) ≡ next call (view (memory ws s)) → Stepped call (memory ws s) (numbered 0) (memory ws' s)
  unfolding accepted_reply results number refusals
  accepted h ws' v = accepted-step 0 (rows_end (row-passes _ _ _ refl (le-ltb 7 c h))) refl _ v

  -- the client's counts are cleared, then the interfaces without references are gone
  module _ (t : SoundTable (memory ws s)) (ws₁ : List ℕ) (clear : Became (cleared c) ws ws₁) (ws₂ : List ℕ) (held : Became held_left ws₁ ws₂) where
    left : view (memory ws₂ s) ≡ held_left (cleared c (view (memory ws s)))
    left = held s ∙ ap held_left (clear s)

    settled : Settled ws₂
    settled =
        let f = sound-fields _ t.entries in
        let a = asked ws₂ s (ap (λ (e : Entries). proper (oids e)) left ∙ f.objects_proper) (ap set_members_live left ∙ f.set_members_live) in
        record { below = a.0; apart = a.1; named = λ _. ap interface_objects_live left ∙ held-named c _ t.entries }

    -- none is gone
    all-kept : c ≤ 7 → (n : ℕ) → n ≡ interface_count ws → (m : ℕ) → m ≡ n → m ≡ interface_count ws₂ → Stepped call (memory ws s) (numbered 0) (memory ws₂ s)
    all-kept h n counted m same again = accepted h ws₂ (all_held c _ t.entries _ left (cc (interfaces-length ws, interfaces-length ws₂)))

    -- objects that have none go
    unserved-gone : c ≤ 7 → (ws₃ : List ℕ) → Became (without_leaving NoInterface) ws₂ ws₃ → Stepped call (memory ws s) (numbered 0) (memory ws₃ s)
    unserved-gone h ws₃ gone = accepted h ws₃ (gone s ∙ ap (without_leaving NoInterface) left ∙ sym (drop-steps c _))

pub returns-then-client-gt-LAST_CLIENT : goal.returns-then-client-gt-LAST_CLIENT
returns-then-client-gt-LAST_CLIENT c = search no-client

pub returns-then-interface_count-n : goal.returns-then-interface_count-n
returns-then-interface_count-n c = search all-kept

pub remove_unserved-requires : goal.remove_unserved-requires
remove_unserved-requires c =
    let settled_here : Settled c.drop_unheld.new.words = search settled in
    let a = settled_here in (search rules, a.below, a.apart, a.named)

pub returns : goal.returns
returns c = search unserved-gone
