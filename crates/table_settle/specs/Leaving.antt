-- What goes along when objects go.
use Rattle.std.specs.Prelude.{ℕ, Bool, not, eqb}
use Rattle.lists.specs.Lists.{keep}
use Rattle.rules.specs.Entries.{Object, Interface, Entries, with_objects, with_interfaces, with_sets, with_members_of}
use Rattle.rules.specs.Sound.{held, has_interface, heard_within, pinged_within}
use Rattle.rules.specs.Rules.{is_live_object, without_objects, at_interfaces, any_ipid, emptied}
use Rattle.table_settle.specs.declared.Leaving.{Leaving}
use Rattle.table_settle.specs.declared.Leaving.TheVariants.{ExporterRemoved, NoInterface, Unheard}

-- an object stays: it is of another exporter; it has an interface; it is not pinged, or not overdue at the time
abbrev pub stays : Leaving → Entries → Object → Bool
stays (ExporterRemoved x) e o = not (eqb x.0 o.exporter)
stays NoInterface e o = has_interface e o
stays (Unheard t) e o = heard_within t o

-- objects that do not stay go, with their interfaces and memberships
abbrev pub without_leaving : Leaving → Entries → Entries
without_leaving w e = without_objects (stays w e) e

-- the objects that stay, and of members those that stay
abbrev pub objects_left : (Object → Bool) → Entries → Entries
objects_left p e =
    let f : Entries = with_objects (keep p e.objects) e in with_members_of (is_live_object f) f

-- the interfaces whose object is live
abbrev pub interfaces_left : Entries → Entries
interfaces_left e = with_interfaces (keep (λ (i : Interface). is_live_object e i.object) e.interfaces) e

-- the sets that are not overdue at a time
abbrev pub sets_left : ℕ → Entries → Entries
sets_left t e = with_sets (keep (pinged_within t) e.sets) e

-- a client's private references taken off every interface
abbrev pub cleared : ℕ → Entries → Entries
cleared c e = at_interfaces any_ipid (emptied c) e

-- the interfaces to which a reference is held
abbrev pub held_left : Entries → Entries
held_left e = with_interfaces (keep held e.interfaces) e
