-- A resolve of an exporter answers the same before another one is removed and after it.
use Prim.Native.Nat.{ℕ}
use mathlib.Core.Path.{◌≡◌, refl, sym, ap, ◌∙◌}
use mathlib.Core.Bool.{Bool, false, cond, not, ◌||◌}
use mathlib.Core.List.{List, [], ◌∷◌, map}
use borrow.Author.Tests.{eqb-true, not-false}
use lib.Dec.{eqb}
use Rattle.kinds.specs.Refusals.{order}
use Rattle.kinds.proofs.Refusing.{by-test}
use Rattle.lists.specs.Lists.{keep, some, first_or}
use Rattle.rules.specs.Entries.{Exporter}
use Rattle.rules.specs.Rules.{no_exporter, refusals, number, next, results, refused_reply, accepted_reply, reply}
use Rattle.rules.specs.Removing.{OthersResolve}

abbrev oxid_of : Exporter → ℕ
oxid_of p = p.oxid

module _ (x y : ℕ) (d : eqb y x ≡ false) where
  abbrev stays : Exporter → Bool
  stays p = not (eqb x p.oxid)

  abbrev asked : Exporter → Bool
  asked p = eqb y p.oxid

  -- the one that goes is not the one that is asked for
  other : (p : Exporter) → stays p ≡ false → asked p ≡ false
  other p g = ap (eqb y) (sym (eqb-true x p.oxid (not-false (eqb x p.oxid) g))) ∙ d

  live_same : (ps : List Exporter) → some (eqb y) (map oxid_of (keep stays ps)) ≡ some (eqb y) (map oxid_of ps)
  unfolding keep some
  live_same [] = refl
  live_same (p ∷ ps) =
      by-test (λ (qs : List Exporter). some (eqb y) (map oxid_of qs) ≡ (asked p || some (eqb y) (map oxid_of ps))) (stays p) (p ∷ keep stays ps) (keep stays ps)
      (λ g. ap (λ (b : Bool). asked p || b) (live_same ps))
      (λ g. live_same ps ∙ sym (ap (λ (b : Bool). b || some (eqb y) (map oxid_of ps)) (other p g)))

  first-same : (ps : List Exporter) → first_or no_exporter asked (keep stays ps) ≡ first_or no_exporter asked ps
  unfolding keep first_or
  first-same [] = refl
  first-same (p ∷ ps) =
      by-test (λ (qs : List Exporter). first_or no_exporter asked qs ≡ cond (asked p) p (first_or no_exporter asked ps)) (stays p) (p ∷ keep stays ps) (keep stays ps)
      (λ g. ap (λ (q : Exporter). cond (asked p) p q) (first-same ps))
      (λ g. first-same ps ∙ sym (ap (λ (b : Bool). cond b p (first_or no_exporter asked ps)) (other p g)))

pub others-resolve : OthersResolve
unfolding reply accepted_reply refused_reply results number refusals order next
others-resolve e x y buffer d = rw (live_same x y d e.exporters, first-same x y d e.exporters)
