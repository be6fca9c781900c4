-- Two adds or releases on different IPIDs, performed on one sound table in either order. A statement only.
use Rattle.std.specs.Prelude.{◌≡◌, true, false}
use Rattle.lists.specs.Guids.{same_guid}
use Rattle.rules.specs.Calls.{Reply}
use Rattle.rules.specs.Contract.{Memory}
use Rattle.rules.specs.EitherOrder.{CountCall, call_of, taken_in, interface_went, object_went, BothLast}
use Rattle.table_view.specs.View.{view, sound_memory, Performed}

-- two replies to one call, of which the note that an object went is looked at apart
pub record SameReply (r s : Reply) : Type 0 where
  pub number : r.number ≡ s.number
  pub taken : taken_in r ≡ taken_in s
  pub interface : interface_went r ≡ interface_went s

-- a then b, with the replies ra and rb, leaves m₂; b then a, with the replies sb and sa, leaves n₂
pub record Served (a b : CountCall) (m : Memory) (ra rb : Reply) (m₂ : Memory) (sb sa : Reply) (n₂ : Memory) : Type 0 where
  pub first : SameReply ra sa
  pub second : SameReply rb sb
  pub entries : view m₂ ≡ view n₂
  pub moved : BothLast a b (view m) → (object_went ra ≡ 0) × (object_went rb ≡ 1) × (object_went sb ≡ 0) × (object_went sa ≡ 1)
  pub stayed : (BothLast a b (view m) → ⊥) → (object_went ra ≡ object_went sa) × (object_went sb ≡ object_went rb)

abbrev pub EitherServed : Type 0
EitherServed =
    (a b : CountCall) (m m₁ m₂ n₁ n₂ : Memory) (ra rb sa sb : Reply)
    → sound_memory m ≡ true
    → same_guid a.item.ipid b.item.ipid ≡ false
    → Performed (call_of a) m ra m₁
    → Performed (call_of b) m₁ rb m₂
    → Performed (call_of b) m sb n₁
    → Performed (call_of a) n₁ sa n₂
    → Served a b m ra rb m₂ sb sa n₂
