-- The rules speak by identifier, the code by row: live entries and the entry of an identifier by its row; sound entries have distinct
-- identifiers.
use Prim.Native.Nat.{ℕ}
use mathlib.Core.Path.{◌≡◌, sym, ◌∙◌}
use mathlib.Core.Bool.{true, ◌&&◌}
use mathlib.Core.List.{List, map}
use lib.ListN.{get_or, length}
use lib.Dec.{eqb, ltb}
use Rattle.kinds.specs.declared.Guid.{Guid}
use Rattle.lists.specs.Lists.{apart, distinct}
use Rattle.lists.specs.Guids.{nil, same_guid}
use Rattle.lists.proofs.Tests.{and_left, and_right}
use Rattle.lists.proofs.First.{some-index, entry-index}
use Rattle.lists.proofs.Distinct.{distinct_append}
use Rattle.rules.specs.Entries.{Exporter, Object, Interface, PingSet, Entries, oxids, oids, set_numbers, interface_ipids, ipids, exporter_row, object_row, interface_row, set_row}
use Rattle.rules.specs.Sound.{sound}
use Rattle.rules.specs.Rules.{is_live_exporter, is_live_object, is_live_interface, is_live_set, no_exporter, no_interface, no_set, exporter_of, interface_of, set_of}
use Rattle.rules.proofs.Groups.{fine-distinct, grouped}

-- the interface in the row of an IPID, and the set in the row of a number
abbrev pub interface_in : Entries → Guid → Interface
interface_in e i = get_or e.interfaces (interface_row e i) no_interface

abbrev pub set_in : Entries → ℕ → PingSet
set_in e s = get_or e.sets (set_row e s) no_set

module _ (e : Entries) where
  -- live: the row is below the number of entries
  pub exporter-live : (x : ℕ) → is_live_exporter e x ≡ ltb (exporter_row e x) (length e.exporters)
  exporter-live x = some-index (eqb x) (λ (p : Exporter). p.oxid) e.exporters

  pub object-live : (o : ℕ) → is_live_object e o ≡ ltb (object_row e o) (length e.objects)
  object-live o = some-index (eqb o) (λ (p : Object). p.oid) e.objects

  pub interface-live : (i : Guid) → is_live_interface e i ≡ ltb (interface_row e i) (length e.interfaces)
  interface-live i = some-index (same_guid i) (λ (p : Interface). p.ipid) e.interfaces

  pub set-live : (s : ℕ) → is_live_set e s ≡ ltb (set_row e s) (length e.sets)
  set-live s = some-index (eqb s) (λ (p : PingSet). p.number) e.sets

  -- the entry of an identifier is the one in its row
  pub exporter-row : (x : ℕ) → exporter_of e x ≡ get_or e.exporters (exporter_row e x) no_exporter
  exporter-row x = entry-index (eqb x) (λ (p : Exporter). p.oxid) no_exporter e.exporters

  pub interface-row : (i : Guid) → interface_of e i ≡ interface_in e i
  interface-row i = entry-index (same_guid i) (λ (p : Interface). p.ipid) no_interface e.interfaces

  pub set-row : (s : ℕ) → set_of e s ≡ set_in e s
  set-row s = entry-index (eqb s) (λ (p : PingSet). p.number) no_set e.sets

  -- sound entries have distinct identifiers
  module _ (s : sound e ≡ true) where
    pub oxids-distinct : distinct eqb (oxids e) ≡ true
    oxids-distinct = fine-distinct eqb 0 (oxids e) (grouped e s).exporters.ids

    pub oids-distinct : distinct eqb (oids e) ≡ true
    oids-distinct = fine-distinct eqb 0 (oids e) (grouped e s).objects.ids

    pub sets-distinct : distinct eqb (set_numbers e) ≡ true
    sets-distinct = fine-distinct eqb 0 (set_numbers e) (grouped e s).sets.ids

    pub interfaces-distinct : distinct same_guid (interface_ipids e) ≡ true
    interfaces-distinct =
        let us : List Guid = map (λ (x : Exporter). x.unknown) e.exporters in
        and_right (distinct same_guid us) (distinct same_guid (interface_ipids e))
        (and_left (distinct same_guid us && distinct same_guid (interface_ipids e)) (apart same_guid us (interface_ipids e))
        (sym (distinct_append same_guid us (interface_ipids e)) ∙ fine-distinct same_guid nil (ipids e) (grouped e s).ids))
