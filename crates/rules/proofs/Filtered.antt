-- The resolve with requested protocols agrees with the first resolve where every tower that is present is requested.
use Prim.Native.Nat.{ℕ, ◌≤◌}
use mathlib.Core.Path.{◌≡◌, refl, sym, ap, ◌∙◌}
use mathlib.Core.Bool.{Bool, true, false, cond, ◌&&◌}
use mathlib.Core.List.{List, [], ◌∷◌}
use mathlib.Core.Logic.{◌⊎◌, ⊎_elim, inl, inr}
use borrow.Author.Tests.{le-ltb, eqb-true}
use lib.Dec.{eqb, leb}
use lib.ListN.{length}
use Rattle.kinds.specs.Refusals.{order}
use Rattle.kinds.proofs.Refusing.{by-test}
use Rattle.fields.specs.Fields.{Bytes, field}
use Rattle.bindings.specs.Bindings.{list_answer}
use Rattle.bindings.specs.Filter.{filtered, all_requested}
use Rattle.bindings.proofs.Filtering.{filtered-same}
use Rattle.lists.specs.Lists.{every, first_or}
use Rattle.lists.proofs.Tests.{and_left, and_right}
use Rattle.rules.specs.Entries.{Exporter, Entries}
use Rattle.rules.specs.Calls.{Call, Look, Reply}
use Rattle.rules.specs.Sound.{sound, longest_list}
use Rattle.rules.specs.Rules.{no_exporter, exporter_of, refusals, number, results, refused_reply, accepted_reply, reply}
use Rattle.rules.specs.Contract.{Memory, right_lengths, fit, reply_to}
use Rattle.rules.specs.Filtering.{FilteredAgrees, FilteredTables}
use Rattle.rules.proofs.SoundLaws.{sound-fields}

abbrev is_kept : Exporter → Bool
is_kept x = eqb (list_answer x.bindings) 0 && leb (length x.bindings) longest_list

-- the list of the first exporter that passes a test is accepted; there are no bytes where none passes
first-list : (t : Exporter → Bool) (xs : List Exporter) → every is_kept xs ≡ true
    → ((first_or no_exporter t xs).bindings ≡ []) ⊎ (list_answer (first_or no_exporter t xs).bindings ≡ 0)
unfolding every first_or
first-list t [] h = inl refl
first-list t (x ∷ xs) h =
    by-test (λ (p : Exporter). (p.bindings ≡ []) ⊎ (list_answer p.bindings ≡ 0)) (t x) x (first_or no_exporter t xs)
    (λ e. inr (eqb-true (list_answer x.bindings) 0 (and_left (eqb (list_answer x.bindings) 0) (leb (length x.bindings) longest_list) (and_left (is_kept x) (every is_kept xs) h))))
    (λ e. first-list t xs (and_right (is_kept x) (every is_kept xs) h))

no_bytes : (protocols : List ℕ) → filtered protocols [] ≡ []
unfolding filtered field
no_bytes protocols = refl

module _ (e : Entries) (x : ℕ) (protocols buffer : List ℕ) (few : length protocols ≤ 65535) where
  -- where the filtered list is the stored one, so is the whole reply
  agrees : filtered protocols (exporter_of e x).bindings ≡ (exporter_of e x).bindings → reply (Call.looking (Look.resolve_filtered x protocols buffer)) e ≡ reply (Call.looking (Look.resolve x buffer)) e
  unfolding reply accepted_reply refused_reply results number refusals order
  agrees same = rw (le-ltb 65535 (length protocols) few, same)

  module _ (b : Bytes (exporter_of e x).bindings) (all : all_requested protocols (exporter_of e x).bindings ≡ true) where
    same-list : sound e ≡ true → filtered protocols (exporter_of e x).bindings ≡ (exporter_of e x).bindings
    same-list s =
        ⊎_elim
        (λ n. ap (filtered protocols) n ∙ no_bytes protocols ∙ sym n)
        (λ d. filtered-same protocols (exporter_of e x).bindings b d all)
        (first-list (λ (p : Exporter). eqb x p.oxid) e.exporters (sound-fields e s).lists_kept)

    replies-agree : sound e ≡ true → reply (Call.looking (Look.resolve_filtered x protocols buffer)) e ≡ reply (Call.looking (Look.resolve x buffer)) e
    replies-agree s = agrees (same-list s)

pub filtered-agrees : FilteredAgrees
filtered-agrees = replies-agree

-- two replies that differ at most where the table is sound
same-where : (b : Bool) (p q r : Reply) → (b ≡ true → p ≡ q) → cond b p r ≡ cond b q r
same-where true p q r f = f refl
same-where false p q r f = refl

-- the same of a lent table, also where it is not sound
pub filtered-tables : (view : Memory → Entries) → FilteredTables view
unfolding reply_to fit refused_reply results
filtered-tables view m x protocols buffer few b all =
    same-where (right_lengths m && sound (view m)) _ _ _
    (λ t. filtered-agrees (view m) x protocols buffer few b all (and_right (right_lengths m) (sound (view m)) t))
