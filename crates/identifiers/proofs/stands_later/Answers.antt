-- `identifiers::stands_later`: in the first two columns, or in the second two.
use Rattle.std.proofs.Common.{◌≡◌, Bool, true, false, List, ◌++◌, sym, ◌∙◌}
use Rattle.lists.specs.Lists.{some}
use Rattle.lists.proofs.Lists.{some-append}
use Rattle.identifiers.proofs.stands_later.Goals as goal

module _ {A : Type 0} (p : A → Bool) (xs ys : List A) {t : Bool} (e : t ≡ some p xs) where
  in-first : t ≡ true → t ≡ some p (xs ++ ys)
  in-first h = let f : some p xs ≡ true = sym e ∙ h in h ∙ sym (some-append p xs ys ∙ rw f)

  in-second : t ≡ false → {r : Bool} → r ≡ some p ys → r ≡ some p (xs ++ ys)
  in-second h q = let f : some p xs ≡ false = sym e ∙ h in q ∙ sym (some-append p xs ys ∙ rw f)

pub returns-then-has_guid_from : goal.returns-then-has_guid_from
returns-then-has_guid_from c = in-first _ _ _ c.has_guid_from.ensures c.if-has_guid_from.true

pub returns-else-has_guid_from : goal.returns-else-has_guid_from
returns-else-has_guid_from c = in-second _ _ _ c.has_guid_from.ensures c.if-has_guid_from.false c.has_guid_from-else-has_guid_from.ensures
