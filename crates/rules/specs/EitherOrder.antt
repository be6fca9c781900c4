-- Two adds or releases on different IPIDs, in either order. Statements only.
use Rattle.std.specs.Prelude.{ℕ, ◌≡◌, true, false, cond, List, get_or, take, eqb}
use Rattle.lists.specs.Guids.{same_guid}
use Rattle.rules.specs.Entries.{Entries}
use Rattle.rules.specs.Calls.{Call, Counting, Reply}
use Rattle.rules.specs.Items.{Item, item_call}
use Rattle.rules.specs.Sound.{sound}
use Rattle.rules.specs.Rules.{is_live_object, interface_of, number, next, reply}

-- the entries after a call, accepted or refused
abbrev pub call_done : Call → Entries → Entries
call_done c e = cond (eqb (number c e) 0) (next c e) e

-- what a reply says: what was taken (nothing of an add), and whether the interface and the object went
abbrev pub taken_in : Reply → List ℕ
taken_in r = take 2 r.values

abbrev pub interface_went : Reply → ℕ
interface_went r = get_or r.values 2 0

abbrev pub object_went : Reply → ℕ
object_went r = get_or r.values 3 0

-- an add or a release: the way, the client, the IPID and the two counts
pub record CountCall : Type 0 where
  pub way : Counting
  pub client : ℕ
  pub item : Item

abbrev pub call_of : CountCall → Call
call_of a = item_call a.way a.client a.item

-- the replies to a before b and after b
abbrev pub before : CountCall → CountCall → Entries → Reply
before a b e = reply (call_of a) e

abbrev pub behind : CountCall → CountCall → Entries → Reply
behind a b e = reply (call_of a) (call_done (call_of b) e)

-- the object of a call's interface
abbrev pub object_of : CountCall → Entries → ℕ
object_of a e = (interface_of e a.item.ipid).object

-- both interfaces are of one object and go, and the object with them
pub record BothLast (a b : CountCall) (e : Entries) : Type 0 where
  pub one : object_of a e ≡ object_of b e
  pub first : interface_went (before a b e) ≡ 1
  pub second : interface_went (before b a e) ≡ 1
  pub gone : is_live_object (call_done (call_of b) (call_done (call_of a) e)) (object_of a e) ≡ false

-- what one call answers is the same before the other and after it
pub record SameAnswer (a b : CountCall) (e : Entries) : Type 0 where
  pub number : (before a b e).number ≡ (behind a b e).number
  pub taken : taken_in (before a b e) ≡ taken_in (behind a b e)
  pub interface : interface_went (before a b e) ≡ interface_went (behind a b e)

pub record EitherOrder (a b : CountCall) (e : Entries) : Type 0 where
  -- each the same answer number and taken counts in either order, refusals included
  pub first : SameAnswer a b e
  pub second : SameAnswer b a e
  -- and the same live entries
  pub entries : call_done (call_of b) (call_done (call_of a) e) ≡ call_done (call_of a) (call_done (call_of b) e)
  -- where both of an object's last interfaces go, exactly one call carries the note that it went: the later one, in either order
  pub moved : BothLast a b e
      → (object_went (before a b e) ≡ 0) × (object_went (behind b a e) ≡ 1) × (object_went (before b a e) ≡ 0) × (object_went (behind a b e) ≡ 1)
  -- else each note stays with its call
  pub stayed : (BothLast a b e → ⊥)
      → (object_went (before a b e) ≡ object_went (behind a b e)) × (object_went (before b a e) ≡ object_went (behind b a e))

-- of every two on different IPIDs, from one sound table's entries
abbrev pub OrderIrrelevant : Type 0
OrderIrrelevant = (a b : CountCall) (e : Entries) → sound e ≡ true → same_guid a.item.ipid b.item.ipid ≡ false → EitherOrder a b e
