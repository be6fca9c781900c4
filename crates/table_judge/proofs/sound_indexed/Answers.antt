-- `table_judge::sound_indexed`: both lengths, then the groups of clauses in turn.
use Prim.Native.Nat.{ℕ}
use mathlib.Core.Path.{◌≡◌, sym, ◌∙◌}
use mathlib.Core.Bool.{Bool, true, false, not}
use mathlib.Core.List.{List, [], ◌∷◌}
use borrow.Author.Tests.{eq-eqb, ne_eqb, not-false}
use lib.Dec.{eqb}
use lib.ListN.{length, drop}
use Rattle.lists.specs.Lists.{holding}
use Rattle.lists.proofs.Tests.{holding-fails, holding-passes}
use Rattle.rules.specs.Sound.{proper, groups, lists_kept, naming_clauses, object_clauses, interface_clauses, set_clauses}
use Rattle.rules.specs.Contract as contract
use Rattle.rules.proofs.SoundLaws.{sound-groups, clause-at}
use Rattle.table_view.specs.View.{oids_of, memory, view, sound_memory, Holds}
use Rattle.table_view.proofs.KeptLists.{lists-judged}
use Rattle.table_judge.proofs.Clauses.{judged-fails, judged-passes, judged-last, clauses-after, leaves-not, leaves-where}
use borrow.Author.Rules.{rules}
use Rattle.table_judge.proofs.sound_indexed.Goals as goal

module _ (ws s : List ℕ) where
  -- both lengths and the groups of clauses, without the first k
  abbrev Left : ℕ → Type 0
  Left k = sound_memory (memory ws s) ≡ holding (drop k (eqb (length ws) 8192 ∷ eqb (length s) 8192 ∷ groups (view (memory ws s))))

  left-0 : Left 0
  unfolding contract.sound_memory
  left-0 = clauses-after _ _ _ _ (sound-groups (view (memory ws s)))

  few_words : (length ws ≡ 8192 → ⊥) → false ≡ sound_memory (memory ws s)
  few_words h = holding-fails _ _ left-0 (ne_eqb _ 8192 h)

  module _ (words : length ws ≡ 8192) where
    few_bytes : (length s ≡ 8192 → ⊥) → false ≡ sound_memory (memory ws s)
    few_bytes h = holding-fails _ _ (holding-passes _ _ left-0 (eq-eqb _ 8192 words)) (ne_eqb _ 8192 h)

    module _ (bytes : length s ≡ 8192) (k : Bool) (kept : k ≡ lists_kept (view (memory ws s))) where
      left-2 : Left 2
      left-2 = holding-passes _ _ (holding-passes _ _ left-0 (eq-eqb _ 8192 words)) (eq-eqb _ 8192 bytes)

      lists-fail : not k ≡ true → false ≡ sound_memory (memory ws s)
      lists-fail h = judged-fails _ left-2 (kept ∙ lists-judged ws s bytes) h

      module _ (lists : not k ≡ false) (n : Bool) where
        left-3 : Left 3
        left-3 = judged-passes _ left-2 (kept ∙ lists-judged ws s bytes) lists

        names-fail : not n ≡ true → Holds (λ e. n ≡ holding (naming_clauses e)) ws → false ≡ sound_memory (memory ws s)
        names-fail h judged = judged-fails _ left-3 (judged s) h

        module _ (named : not n ≡ false) (naming : Holds (λ e. n ≡ holding (naming_clauses e)) ws) (o : Bool) where
          left-4 : Left 4
          left-4 = judged-passes _ left-3 (naming s) named

          objects-fail : not o ≡ true → Holds (λ e. o ≡ holding (object_clauses e)) ws → false ≡ sound_memory (memory ws s)
          objects-fail h judged = judged-fails _ left-4 (judged s) h

          module _ (objects : not o ≡ false) (served : Holds (λ e. o ≡ holding (object_clauses e)) ws) (i : Bool) where
            left-5 : Left 5
            left-5 = judged-passes _ left-4 (served s) objects

            interfaces-fail : not i ≡ true → Holds (λ e. i ≡ holding (interface_clauses e)) ws → false ≡ sound_memory (memory ws s)
            interfaces-fail h judged = judged-fails _ left-5 (judged s) h

            sets_last : not i ≡ false → Holds (λ e. i ≡ holding (interface_clauses e)) ws → (r : Bool) → Holds (λ e. r ≡ holding (set_clauses e)) ws
                → r ≡ sound_memory (memory ws s)
            sets_last h judged r sets = judged-last (judged-passes _ left-5 (judged s) h) (sets s)

oids-proper : (ws : List ℕ) (n : Bool) → not n ≡ false → Holds (λ e. n ≡ holding (naming_clauses e)) ws → proper (oids_of ws) ≡ true
oids-proper ws n h judged = clause-at _ 2 (sym (judged []) ∙ not-false _ h)

pub returns-then-words-ne-WORDS : goal.returns-then-words-ne-WORDS
returns-then-words-ne-WORDS c = (search few_words, leaves-not)

pub returns-then-store-ne-BYTES : goal.returns-then-store-ne-BYTES
returns-then-store-ne-BYTES c = (search few_bytes, leaves-not)

pub returns-then-not-lists_kept : goal.returns-then-not-lists_kept
returns-then-not-lists_kept c = (search lists-fail, leaves-not)

pub returns-then-not-naming_sound : goal.returns-then-not-naming_sound
returns-then-not-naming_sound c = (search names-fail, leaves-not)

pub returns-then-not-objects_sound : goal.returns-then-not-objects_sound
returns-then-not-objects_sound c = (search objects-fail, leaves-not)

pub returns-then-not-interfaces_sound : goal.returns-then-not-interfaces_sound
returns-then-not-interfaces_sound c = (search interfaces-fail, leaves-not)

pub sets_sound-requires : goal.sets_sound-requires
sets_sound-requires c = (search rules, search oids-proper)

pub returns : goal.returns
returns c = (search sets_last, search leaves-where)
