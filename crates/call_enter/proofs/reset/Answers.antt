-- `call_enter::reset`: wrong lengths are refused; else no entries are left.
use Prim.Native.Nat.{ℕ}
use mathlib.Core.Path.{◌≡◌, refl, ◌∙◌}
use mathlib.Core.List.{List}
use borrow.Author.Tests.{eq-eqb, ne_eqb}
use lib.ListN.{length}
use Rattle.kinds.specs.Refusals.{order}
use Rattle.rules.specs.Entries.{fresh}
use Rattle.rules.specs.Calls.{Call, Start, numbered}
use Rattle.rules.specs.Rules.{refusals, number, next, results, refused_reply, accepted_reply}
use Rattle.rules.specs.Contract.{Whole, fit, sound_memory}
use Rattle.rules.proofs.Performing.{unfit, accepted, fit-lengths}
use Rattle.rules.proofs.Keeps.{fresh-sound}
use Rattle.table_view.specs.View.{memory, view, Performed}
use Rattle.table_edit.specs.Edits.{Became}
use Rattle.call_enter.proofs.reset.Goals as goal

module _ (ws s : List ℕ) (t : ℕ) where
  abbrev call : Call
  call = Call.starting (Start.reset t)

  words-unfit : (Whole ws → ⊥) → Performed call (memory ws s) (numbered 1) (memory ws s)
  unfolding refused_reply results fit
  words-unfit h = unfit view call (memory ws s) (rw (ne_eqb _ _ h))

  store-unfit : Whole ws → (Whole s → ⊥) → Performed call (memory ws s) (numbered 1) (memory ws s)
  unfolding refused_reply results fit
  store-unfit w h = unfit view call (memory ws s) (rw (eq-eqb _ _ w, ne_eqb _ _ h))

  cleared : Whole ws → Whole s → (ws' : List ℕ) → Became (λ _. fresh t) ws ws' → length ws' ≡ length ws → Performed call (memory ws s) (numbered 0) (memory ws' s)
  unfolding accepted_reply results number refusals order next sound_memory
  cleared w b ws' v l =
      accepted view call (memory ws s) (memory ws' s) (fit-lengths view call (memory ws s) refl w b) refl
      (rw (eq-eqb _ _ (l ∙ w), eq-eqb _ _ b, v s) (fresh-sound t)) (v s)

pub returns-then-words-ne-WORDS : goal.returns-then-words-ne-WORDS
returns-then-words-ne-WORDS c = search words-unfit

pub returns-then-store-ne-BYTES : goal.returns-then-store-ne-BYTES
returns-then-store-ne-BYTES c = search store-unfit

pub returns : goal.returns
returns c = search cleared
