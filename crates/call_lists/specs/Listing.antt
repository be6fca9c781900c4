-- What a list of items answers, and what one item of it does.
use Rattle.std.specs.Prelude.{ℕ, ◌%◌, ◌<◌, ◌≤◌, ◌≡◌, Bool, true, false, List, [], length}
use Rattle.rules.specs.Calls.{Counting, adding, releasing, Reply}
use Rattle.rules.specs.Items.{Item, item_count, item_call}
use Rattle.rules.specs.Rules.{most_listed, item_done, number}
use Rattle.rules.specs.Contract.{Memory}
use Rattle.table_view.specs.View.{view, SoundTable}
use Rattle.call_lists.specs.declared.Counted.{Counted}

-- items are given back, or else added
abbrev pub way_of : Bool → Counting
way_of false = adding
way_of true = releasing

-- a number, and the buffer as it is left
abbrev pub list_reply : ℕ → List ℕ → Reply
list_reply n buffer = record { number = n; values = []; part = []; buffer = buffer }

-- an item that was read
abbrev pub item_of : Counted → Item
item_of i = record { ipid = i.ipid; public = i.public; private = i.private }

-- no refusal of a list
pub record ListTaken (c : ℕ) (items buffer : List ℕ) : Type 0 where
  pub client : c ≤ 7
  pub whole : length items % 24 ≡ 0
  pub most : item_count items ≤ most_listed
  pub room : item_count items ≤ length buffer

-- an item done on a sound table, which is sound afterwards
pub record ItemStepped (w : Counting) (c : ℕ) (t : Item) (m : Memory) (r : ℕ) (m' : Memory) : Type 0 where
  pub number : r ≡ number (item_call w c t) (view m)
  pub byte : r < 256
  pub entries : view m' ≡ item_done w c t (view m)
  pub table : SoundTable m'
