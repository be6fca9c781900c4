-- What a removal leaves of the other exporters (document 02, request 12), of performed calls. A statement only.
use Rattle.std.specs.Prelude.{ℕ, ◌≡◌, true, false, List, eqb}
use Rattle.rules.specs.Calls.{looking, editing, resolve, remove_exporter, Reply}
use Rattle.rules.specs.Contract.{Memory}
use Rattle.table_view.specs.View.{sound_memory, Performed}

-- a resolve of another exporter before a removal and after it: the same reply, wherever the list stands then
abbrev pub OthersServed : Type 0
OthersServed =
    (x y : ℕ) (buffer : List ℕ) (m m' n n' : Memory) (a r b : Reply)
    → eqb y x ≡ false
    → sound_memory m ≡ true
    → Performed (looking (resolve y buffer)) m a n
    → Performed (editing (remove_exporter x)) m r m'
    → Performed (looking (resolve y buffer)) m' b n'
    → b ≡ a
