-- What a resolve with requested protocols has in common with the first resolve (document 02, request 6). Statements only.
use Rattle.std.specs.Prelude.{ℕ, ◌≤◌, ◌≡◌, true, List, length}
use Rattle.fields.specs.Fields.{Bytes}
use Rattle.bindings.specs.Filter.{all_requested}
use Rattle.rules.specs.Entries.{Entries}
use Rattle.rules.specs.Calls.{looking, resolve, resolve_filtered}
use Rattle.rules.specs.Sound.{sound}
use Rattle.rules.specs.Rules.{most_listed, exporter_of, reply}
use Rattle.rules.specs.Contract.{Memory, reply_to}

-- a request within the limit that asks for every tower present: the whole reply is the resolve's, refusals included
abbrev pub FilteredAgrees : Type 0
FilteredAgrees =
    (e : Entries) (x : ℕ) (protocols buffer : List ℕ)
    → length protocols ≤ most_listed
    → Bytes (exporter_of e x).bindings
    → all_requested protocols (exporter_of e x).bindings ≡ true
    → sound e ≡ true
    → reply (looking (resolve_filtered x protocols buffer)) e ≡ reply (looking (resolve x buffer)) e

-- the same of every lent table, also of one that is not sound
abbrev pub FilteredTables : (Memory → Entries) → Type 0
FilteredTables view =
    (m : Memory) (x : ℕ) (protocols buffer : List ℕ)
    → length protocols ≤ most_listed
    → Bytes (exporter_of (view m) x).bindings
    → all_requested protocols (exporter_of (view m) x).bindings ≡ true
    → reply_to view (looking (resolve_filtered x protocols buffer)) m ≡ reply_to view (looking (resolve x buffer)) m
