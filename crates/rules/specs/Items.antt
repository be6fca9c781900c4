-- Lists of adds and releases: items of 24 bytes, an IPID, a public and a private count (000, section 2.2.23, REMINTERFACEREF).
use Rattle.std.specs.Prelude.{ℕ, ◌+◌, ◌*◌, ◌/◌, List, length}
use Rattle.kinds.specs.declared.Guid.{Guid}
use Rattle.fields.specs.Fields.{field, guid_at}
use Rattle.lists.specs.Lists.{tabulate}
use Rattle.rules.specs.Calls.{Call, editing, Counting, adding, releasing, add, release}

pub record Item : Type 0 where
  pub ipid : Guid
  pub public : ℕ
  pub private : ℕ

-- the bytes of an item
abbrev pub item_size : ℕ
item_size = 24

-- item k of a list's bytes
abbrev pub item_at : List ℕ → ℕ → Item
item_at s k = record { ipid = guid_at s (item_size * k); public = field s (item_size * k + 16) 4; private = field s (item_size * k + 20) 4 }

-- the number of whole items
abbrev pub item_count : List ℕ → ℕ
item_count s = length s / item_size

unfoldable pub items_of : List ℕ → List Item
items_of s = tabulate (item_count s) (item_at s)

-- the call that an item stands for
abbrev pub item_call : Counting → ℕ → Item → Call
item_call adding c t = editing (add c t.ipid t.public t.private)
item_call releasing c t = editing (release c t.ipid t.public t.private)
