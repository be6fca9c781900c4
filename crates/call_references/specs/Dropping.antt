-- What goes along when an interface goes.
use Rattle.std.specs.Prelude.{ℕ, ◌≡◌, true, not, eqb, get_or}
use Rattle.lists.specs.Lists.{some}
use Rattle.rules.specs.Entries.{Interface, Entries}
use Rattle.rules.specs.Sound.{interface_objects_live, objects_have_interfaces}
use Rattle.rules.specs.Rules.{no_interface, flag}
use Rattle.table_edit.specs.Edits.{drop_interface}
use Rattle.table_settle.specs.Leaving.{without_leaving}
use Rattle.table_settle.specs.declared.Leaving.TheVariants.{NoInterface}

-- the interface at row i is of an object; interfaces name live objects, and each object has one
pub record Serves (i object : ℕ) (e : Entries) : Type 0 where
  pub its : object ≡ (get_or e.interfaces i no_interface).object
  pub named : interface_objects_live e ≡ true
  pub serving : objects_have_interfaces e ≡ true

-- the interface at row i goes, and with it the objects that no interface names then; r says whether that is an object
pub record InterfaceDropped (i object : ℕ) (e : Entries) (r : ℕ) (after : Entries) : Type 0 where
  pub became : after ≡ without_leaving NoInterface (drop_interface i e)
  pub gone : r ≡ flag (not (some (λ (p : Interface). eqb object p.object) (drop_interface i e).interfaces))
