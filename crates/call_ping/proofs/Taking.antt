-- What a sound table lends: OIDs that are proper.
use Rattle.std.proofs.Common.{◌≡◌, ℕ, true, List}
use Rattle.rules.specs.Sound.{proper}
use Rattle.rules.proofs.SoundLaws.{sound-fields}
use Rattle.table_view.specs.View.{oids_of, memory, view, SoundTable}

module _ (ws s : List ℕ) (t : SoundTable (memory ws s)) where
  pub oids-proper : proper (oids_of ws) ≡ true
  oids-proper = (sound-fields (view (memory ws s)) t.entries).objects_proper
