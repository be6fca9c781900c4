-- GUIDs: the nil one, and equality.
use Rattle.std.specs.Prelude.{Bool, ◌&&◌, eqb}
use Rattle.kinds.specs.declared.Guid.{Guid}

abbrev pub nil : Guid
nil = record { low = 0; high = 0 }

abbrev pub same_guid : Guid → Guid → Bool
same_guid a b = eqb a.low b.low && eqb a.high b.high
