-- What settling asks of the array holds where the OIDs are proper, and what interfaces and sets name is live, as in a sound table.
use Prim.Native.Nat.{ℕ}
use mathlib.Core.Path.{◌≡◌}
use mathlib.Core.Bool.{true}
use mathlib.Core.List.{List}
use lib.Dec.{eqb}
use Rattle.lists.specs.Lists.{distinct}
use Rattle.rules.specs.Entries.{oids}
use Rattle.rules.specs.Sound.{proper, interface_objects_live, set_members_live, sound}
use Rattle.rules.proofs.SoundLaws.{sound-fields}
use Rattle.rules.proofs.Groups.{fine-distinct}
use Rattle.table_view.specs.View.{oids_of, memory, view, Holds, members_below}
use Rattle.table_view.proofs.MemberRows.{live_below}

module _ (ws s : List ℕ) where
  pub asked : proper (oids (view (memory ws s))) ≡ true → set_members_live (view (memory ws s)) ≡ true
      → (members_below ws ≡ true) × (distinct eqb (oids_of ws) ≡ true)
  asked p l = (live_below ws s p l, fine-distinct eqb 0 (oids_of ws) p)

  pub asked-sound : sound (view (memory ws s)) ≡ true
      → (members_below ws ≡ true) × (distinct eqb (oids_of ws) ≡ true) × Holds (λ e. interface_objects_live e ≡ true) ws
  asked-sound h =
      let f = sound-fields (view (memory ws s)) h in
      let a = asked f.objects_proper f.set_members_live in
      (a.0, a.1, λ _. f.interface_objects_live)
