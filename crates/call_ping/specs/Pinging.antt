-- Pings by rows: the set's row, and the rows of the objects that are its members; a complex ping by what is left of its lists.
use Rattle.std.specs.Prelude.{◌≡◌, ℕ, ◌-◌, ◌*◌, ◌/◌, ◌^◌, ◌≤◌, Bool, true, false, cond, not, ◌&&◌, ◌||◌, ltb, List, [], ◌∷◌, length, ◌==◌, nat_eq, nat_le, nat_lt, slice_index, Option, is_some, IfSome}
use Rattle.kinds.specs.Refusals.{Row, ◌gives◌, order}
use Rattle.fields.specs.Fields.{field}
use Rattle.lists.specs.Lists.{every, first_index, tabulate, among}
use Rattle.table_columns.specs.Members.{has_member, InWords}
use Rattle.table_columns.specs.declared.members.Members.{Members}
use Rattle.rules.specs.Entries.{Entries, oids, set_numbers, set_places, heard_at, with_sequence, with_members}
use Rattle.rules.specs.PingRows.{change_set}
use Rattle.rules.specs.Rules.{most_listed, make_set, is_live_object, is_live_set, set_of, stale_sequence, new_members}
use Rattle.table_view.specs.View.{member_values}
use Rattle.table_edit.specs.Edits.{change_object}

-- the object at row i is heard now, where it is a member
abbrev pub heard_row : Members → ℕ → Entries → Entries
heard_row m i e = cond (has_member m i) (change_object i (heard_at e.clock) e) e

-- the rows of objects whose OIDs are in a list became members, or no members any more; the other rows stayed
pub record MembersUpdated (member : Bool) (ids listed : List ℕ) (m r : Members) : Type 0 where
  pub words : InWords r
  pub rows : (j : ℕ) → has_member r j ≡ cond (nat_lt j (length ids) && among listed (slice_index ids j)) member (has_member m j)

-- the entries with the set that a complex ping is about: set 0 stands for the set that it makes
abbrev pub with_ping_set : ℕ → Entries → Entries
with_ping_set s e = cond (s == 0) (make_set e) e

-- and its row
abbrev pub ping_set_row : ℕ → Entries → ℕ
ping_set_row s e = cond (s == 0) (length e.sets) (first_index (nat_eq s) (set_numbers e))

-- ---- a complex ping by what is left of its lists

-- set 0 or a live set
abbrev pub is_ping_set : ℕ → Entries → Bool
is_ping_set s e = s == 0 || is_live_set e s

-- the rows of refusals before an id is looked at, by the lengths of the lists
abbrev pub early_rows : ℕ → ℕ → ℕ → ℕ → Entries → List Row
early_rows s n adds dels e =
    ltb most_listed adds gives 10
    ∷ ltb most_listed dels gives 10
    ∷ cond (s == 0) [] (not (is_live_set e s) gives 11 ∷ stale_sequence (set_of e s).sequence n gives 12 ∷ [])

-- and those after 5
abbrev pub late_rows : ℕ → Entries → List Row
late_rows s e = cond (s == 0) (nat_le set_places (length e.sets) gives 9 ∷ nat_eq e.next (2 ^ 64 - 1) gives 18 ∷ []) []

-- OIDs in bytes, eight for each
abbrev pub oids_in : List ℕ → List ℕ
oids_in s = tabulate (length s / 8) (λ k. field s (8 * k) 8)

-- one more OID of a list, and all of them: none where an OID to be added is not live
pub record OneListed (member : Bool) (ids : List ℕ) (oid : ℕ) (m : Members) (r : Option Members) : Type 0 where
  pub members : IfSome r (MembersUpdated member ids (oid ∷ []) m)
  pub live : is_some r ≡ (not member || among ids oid)

pub record AllListed (member : Bool) (ids listed : List ℕ) (m : Members) (r : Option Members) : Type 0 where
  pub members : IfSome r (MembersUpdated member ids listed m)
  pub live : is_some r ≡ (not member || every (among ids) listed)

-- the members that the set has before; the set that is made has none
abbrev pub ping_members : ℕ → Entries → List ℕ
ping_members s e = cond (s == 0) [] (set_of e s).members

pub record MembersBefore (s : ℕ) (e : Entries) (m : Members) : Type 0 where
  pub values : member_values (oids e) m ≡ ping_members s e
  pub past : (j : ℕ) → length (oids e) ≤ j → has_member m j ≡ false

-- the set at a row with a sequence number and members
abbrev pub updated_to : ℕ → ℕ → Members → Entries → Entries
updated_to i n m e = change_set i (λ p. with_sequence n (with_members (member_values (oids e) m) p)) e

-- what is left of two lists that no early row and no 5 refuses: the members that the set comes to have
pub record Reduced (s n : ℕ) (adds dels : List ℕ) (e : Entries) (m : Members) : Type 0 where
  pub early : order (early_rows s n (length adds) (length dels) e) ≡ 0
  pub alive : every (is_live_object e) adds ≡ true
  pub members : member_values (oids e) m ≡ new_members e adds dels (ping_members s e)
