-- What a sound table lends: lists that keep the list rules.
use Prim.Native.Nat.{ℕ}
use mathlib.Core.Path.{◌≡◌}
use mathlib.Core.Bool.{true}
use mathlib.Core.List.{List}
use Rattle.rules.specs.Sound.{lists_kept}
use Rattle.rules.proofs.SoundLaws.{sound-fields}
use Rattle.table_view.specs.View.{memory, view, SoundTable}

module _ (ws s : List ℕ) (t : SoundTable (memory ws s)) where
  pub lists-kept : lists_kept (view (memory ws s)) ≡ true
  lists-kept = (sound-fields (view (memory ws s)) t.entries).lists_kept
