-- What an interface's row holds for a client, by the entry that it stands for.
use Rattle.std.specs.Prelude.{ℕ, List, get_or}
use Rattle.rules.specs.Entries.{Interface, public_of, private_of}
use Rattle.rules.specs.Rules.{no_interface}
use Rattle.table_view.specs.View.{interfaces_of}
use Rattle.table_view.specs.declared.find.InterfaceCounts.{InterfaceCounts}

abbrev pub counts_at : List ℕ → ℕ → ℕ → InterfaceCounts
counts_at ws i c =
    let r : Interface = get_or (interfaces_of ws) i no_interface in
    record { object = record { 0 = r.object }; public = public_of r; private = private_of c r }
