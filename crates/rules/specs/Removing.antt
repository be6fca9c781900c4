-- What a removed exporter leaves of the others (document 02, request 12). A statement only.
use Rattle.std.specs.Prelude.{ℕ, ◌≡◌, false, List, eqb}
use Rattle.rules.specs.Entries.{Entries}
use Rattle.rules.specs.Calls.{looking, editing, resolve, remove_exporter}
use Rattle.rules.specs.Rules.{next, reply}

-- a resolve of another exporter answers as before: number, length, remote-unknown IPID and buffer
abbrev pub OthersResolve : Type 0
OthersResolve =
    (e : Entries) (x y : ℕ) (buffer : List ℕ)
    → eqb y x ≡ false
    → reply (looking (resolve y buffer)) (next (editing (remove_exporter x)) e) ≡ reply (looking (resolve y buffer)) e
