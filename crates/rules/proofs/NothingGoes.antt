-- Where every object stays, nothing goes along with objects.
use Prim.Native.Nat.{ℕ}
use mathlib.Core.Path.{◌≡◌, ap, ◌∙◌}
use mathlib.Core.Bool.{Bool, true}
use mathlib.Core.List.{List, map}
use Rattle.lists.specs.Lists.{keep, every, among}
use Rattle.lists.proofs.Lists.{keep_all, map-id-on}
use Rattle.rules.specs.Entries.{Object, Interface, PingSet, Entries, oids, with_objects, with_interfaces, with_sets, with_members}
use Rattle.rules.specs.Sound.{held, has_interface, sound}
use Rattle.rules.specs.Rules.{drop_empty, without_objects}
use Rattle.rules.proofs.SoundLaws.{sound-fields}

-- where every object stays, and every interface and member names one, nothing goes
pub nothing-goes : (stays : Object → Bool) (e : Entries) → every stays e.objects ≡ true → every (λ (i : Interface). among (oids e) i.object) e.interfaces ≡ true
    → every (λ (s : PingSet). every (among (oids e)) s.members) e.sets ≡ true → without_objects stays e ≡ e
nothing-goes stays e a b c =
    ap (λ (os : List Object). with_interfaces (keep (live os) e.interfaces) (with_sets (map (cut os) e.sets) (with_objects os e))) (keep_all stays e.objects a)
    ∙ ap (λ (is : List Interface). with_interfaces is (with_sets (map (cut e.objects) e.sets) e)) (keep_all (live e.objects) e.interfaces b)
    ∙ ap (λ (ss : List PingSet). with_sets ss e)
    (map-id-on (λ (s : PingSet). every (among (oids e)) s.members) (cut e.objects)
    (λ s h. ap (λ (l : List ℕ). with_members l s) (keep_all (among (oids e)) s.members h)) e.sets c)
  where
    live : List Object → Interface → Bool
    live os i = among (map (λ (o : Object). o.oid) os) i.object

    cut : List Object → PingSet → PingSet
    cut os s = with_members (keep (among (map (λ (o : Object). o.oid) os)) s.members) s

-- from sound entries nothing is dropped
pub full-kept : (e : Entries) → sound e ≡ true → drop_empty e ≡ e
full-kept e s =
    let g = sound-fields e s in
    ap (λ (is : List Interface). without_objects (has_interface (with_interfaces is e)) (with_interfaces is e)) (keep_all held e.interfaces g.interfaces_held)
    ∙ nothing-goes (has_interface e) e g.objects_have_interfaces g.interface_objects_live g.set_members_live
