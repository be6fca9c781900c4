-- `identifiers::enter_guids`: the GUIDs from i on are proper before the later ones, and all are noted.
use Prim.Native.Nat.{ℕ, ◌+◌, ◌<◌, ◌-◌}
use mathlib.Core.Path.{◌≡◌, sym, ap, ◌∙◌}
use mathlib.Core.Bool.{Bool}
use mathlib.Core.List.{List, ◌++◌}
use native.Mathlib.Omega.{arith}
use borrow.Author.Rules.{rules}
use lib.ListN.{length, drop}
use Rattle.kinds.specs.declared.Guid.{Guid}
use Rattle.lists.specs.Guids.{nil, same_guid}
use Rattle.lists.proofs.Guids.{guid-decides}
use Rattle.table_columns.specs.Buckets.{guid_bucket, low_bucket}
use Rattle.table_columns.specs.Guids.{guid_at, guids}
use Rattle.table_columns.proofs.GuidColumns.{guids-last, guids-end}
use Rattle.identifiers.proofs.Noting.{before-none, unnoted, before-one}
use Rattle.identifiers.proofs.Guids.{leads-here, entered-nil, entered-repeated, entered_all}
use Rattle.identifiers.proofs.enter_guids.Goals as goal
use Rattle.identifiers.proofs.enter_guids.Goals.{else-is_guid_noted-via-then-is_guid_noted+else-stands_later, else-is_guid_noted-via-else-is_guid_noted}

pub loop-i-init : goal.loop-i-init
loop-i-init c =
    let v = c.args in
    let e = guids-end v.lows.now v.highs.now (length v.lows.now) (search rules) in
    (search rules, c.requires.size, before-none same_guid nil _ e (ap (λ (zs : List Guid). zs ++ drop v.from (guids v.lows2.now v.highs2.now)) e) c.requires.differ c.requires.each)

pub returns-then-is_nil : goal.returns-then-is_nil
returns-then-is_nil c =
    let l = c.loop-i in
    let v = c.args in
    let e = guids-last v.lows.now v.highs.now l.i c.guid_at-g.ensures (search rules) (search rules) in
    entered-nil _ _ _ _ _ (l.i - 1) _ l.invariant.1 e (sym c.is_nil.ensures ∙ c.if-is_nil.true)

pub returns-then-stands_later : goal.returns-then-stands_later
returns-then-stands_later c =
    let l = c.loop-i in
    let next : l.i - 1 + 1 ≡ l.i = omega arith in
    let v = c.args in
    let e = guids-last v.lows.now v.highs.now l.i c.guid_at-g.ensures (search rules) (search rules) in
    entered-repeated _ _ _ _ _ (l.i - 1) _ l.invariant.1 e (sym (rw next at c.stands_later.ensures) ∙ c.if-stands_later.true)

pub loop-i-preserved : goal.loop-i-preserved
loop-i-preserved c =
    let l = c.loop-i in
    let p : 0 < l.i = search rules in
    let next : l.i - 1 + 1 ≡ l.i = omega arith in
    let v = c.args in
    let g = c.guid_at-g in
    let here : Guid → ℕ → Bool = λ h i. same_guid h (guid_at v.lows2.now v.highs2.now i) in
    let b = c.of_guid-b.ensures.0 in
    let k = c.low_of_guid-k.ensures.0 in
    let named = sym c.is_nil.ensures ∙ c.if-is_nil.false in
    let e = guids-last v.lows.now v.highs.now l.i g.ensures p (search rules) in
    let f = ap (λ (zs : List Guid). zs ++ drop v.from (guids v.lows2.now v.highs2.now)) e in (
      search rules,
      c.enter.ensures.size ∙ l.invariant.1,
      before-one guid_bucket low_bucket here same_guid nil g.result l.rows l.invariant.2 b k e f c.enter.ensures (leads-here c.requires l.i g.ensures p (rw next at c.number_of.ensures)) named
          (elim c.else-is_guid_noted.branch [
            | else-is_guid_noted-via-then-is_guid_noted+else-stands_later w ↦ sym (rw next at w.stands_later.ensures) ∙ w.if-stands_later.false
            | else-is_guid_noted-via-else-is_guid_noted w ↦
                unnoted guid_bucket low_bucket here same_guid nil g.result l.rows l.invariant.2 b k guid-decides c.is_guid_noted.ensures w.if-is_guid_noted.false
          ]),
    )

pub returns : goal.returns
returns c =
    let l = c.loop-i in
    let e : l.i ≡ 0 = omega arith in
    entered_all _ _ _ _ _ l.invariant.1 (rw e at l.invariant.2)
