-- Sorted entries rise by identifier: each comes before all that follow it.
use Prim.Native.Nat.{ℕ}
use mathlib.Core.Path.{◌≡◌, refl, sym, ap, ◌∙◌}
use mathlib.Core.Bool.{Bool, true, false, true≢false}
use mathlib.Core.List.{List, map}
use mathlib.Core.Logic.{⊎_elim}
use native.Mathlib.Omega.{arith}
use lib.Seq.{take_all}
use lib.Dec.{eqb, ltb}
use Rattle.kinds.specs.declared.Guid.{Guid}
use Rattle.fields.specs.Fields.{guid_bytes, guid_at, GuidFits}
use Rattle.fields.proofs.Fields.{length-guid, guid-as}
use Rattle.lists.specs.Lists.{distinct, among}
use Rattle.lists.specs.Guids.{same_guid}
use Rattle.lists.specs.Order.{rising, ascending, bytes_before}
use Rattle.lists.proofs.Tests.{true-or-false}
use Rattle.lists.proofs.Distinct.{same-eq}
use Rattle.lists.proofs.Guids.{guid-decides}
use Rattle.lists.proofs.Elements.{in-every, map-in}
use Rattle.lists.proofs.Order.{rising-map}
use Rattle.lists.proofs.Rising.{keep-ascending, rising-ascending, numbers-ascending, bytes-trans, bytes-total}
use Rattle.rules.specs.Entries.{Object, Interface, PingSet, interface_ipids}
use Rattle.rules.specs.Snapshot.{set_before, sorted}
use Rattle.rules.specs.Swapping.{SectionsRise}
use Rattle.rules.proofs.ByRow.{oxids-distinct, oids-distinct, sets-distinct, interfaces-distinct}
use Rattle.rules.proofs.SnapshotSorting.{sorted_oids, ordered_sets, set-from, set-numbers}

-- ---- IPIDs, by their bytes

abbrev guid_before : Guid → Guid → Bool
guid_before g h = bytes_before (guid_bytes g) (guid_bytes h)

-- an identifier that fits is told by its bytes
guid-told : (g h : Guid) → GuidFits g → GuidFits h → guid_bytes g ≡ guid_bytes h → g ≡ h
guid-told g h fg fh e = sym (read g fg refl) ∙ read h fh e
  where
    read : (i : Guid) → GuidFits i → guid_bytes g ≡ guid_bytes i → guid_at (guid_bytes g) 0 ≡ i
    read i f q =
        let l = length-guid g in
        guid-as (guid_bytes g) 0 i (take_all 16 (guid_bytes g) (omega arith) ∙ q) (omega arith) f

guids-total : (g h : Guid) → GuidFits g → GuidFits h → same_guid g h ≡ false → guid_before h g ≡ false → guid_before g h ≡ true
guids-total g h fg fh d b =
    ⊎_elim
    (λ t. t)
    (λ f. absurd (true≢false (sym (same-eq same_guid guid-decides g h (guid-told g h fg fh (bytes-total (guid_bytes g) (guid_bytes h) (length-guid g ∙ sym (length-guid h)) f b))) ∙ d)))
    (true-or-false (guid_before g h))

-- ---- the sections

pub sections-rise : SectionsRise
unfolding sorted
sections-rise e s f =
    record {
      exporters = ascending-keys (λ x. x.oxid) e.exporters (oxids-distinct e s);
      objects = objects-rise;
      interfaces =
          ap (ascending guid_before) (sym (rising-map (λ (i : Interface). i.ipid) guid_before e.interfaces))
          ∙ rising-ascending guid_before GuidFits same_guid (λ x y z. bytes-trans (guid_bytes x) (guid_bytes y) (guid_bytes z)) guids-total (interface_ipids e)
          (λ i m. let r = map-in (λ (p : Interface). p.ipid) e.interfaces m in rw r.2 (f.interfaces r.0 r.1).ipid)
          (interfaces-distinct e s);
      sets = ascending-keys (λ p. p.number) (ordered_sets e) (ap (distinct eqb) (set-numbers e s) ∙ sets-distinct e s);
      members =
          in-every _ (rising set_before (ordered_sets e))
          (λ p m.
          let r = set-from e m in
          ap (λ (q : PingSet). ascending ltb q.members) r.2 ∙ keep-ascending ltb (among r.0.members) (sorted_oids e) objects-rise);
    }
  where
    ascending-keys : {A : Type 0} (key : A → ℕ) (xs : List A) → distinct eqb (map key xs) ≡ true → ascending ltb (map key (rising (λ x y. ltb (key x) (key y)) xs)) ≡ true
    ascending-keys key xs u = cc (rising-map key ltb xs, numbers-ascending (map key xs) u)

    objects-rise : ascending ltb (sorted_oids e) ≡ true
    objects-rise = ascending-keys (λ (o : Object). o.oid) e.objects (oids-distinct e s)
