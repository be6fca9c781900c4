-- Where a kind has no fewer rows than before, all of them stayed, and nothing else goes.
use Prim.Native.Nat.{ℕ}
use mathlib.Core.Path.{◌≡◌, refl, sym, ap, ◌∙◌}
use mathlib.Core.Bool.{Bool, true}
use mathlib.Core.List.{List, [], ◌∷◌, map}
use mathlib.Core.Logic.{⊎_elim}
use native.Mathlib.Omega.{arith}
use lib.ListN.{length, length-map}
use Rattle.lists.specs.Lists.{keep, every, among}
use Rattle.lists.proofs.Tests.{true-or-false}
use Rattle.lists.proofs.Lists.{every_map, every-kept, keep_all, length-keep, map-map}
use Rattle.rules.specs.Entries.{Object, Interface, Entries, oids, with_interfaces}
use Rattle.rules.specs.Sound.{held, has_interface, interface_objects_live, sound}
use Rattle.rules.specs.Calls.{editing, drop_client}
use Rattle.rules.specs.Rules.{is_live_object, emptied, next}
use Rattle.rules.proofs.SoundLaws.{sound-fields}
use Rattle.rules.proofs.Groups.{serving-objects}
use Rattle.rules.proofs.NothingGoes.{nothing-goes}
use Rattle.table_settle.specs.Leaving.{stays, without_leaving, objects_left, cleared, held_left}
use Rattle.table_settle.specs.declared.Leaving.{Leaving}
use Rattle.table_settle.specs.declared.Leaving.TheVariants.{NoInterface}
use Rattle.table_settle.proofs.ClientDrop.{drop-steps}

-- where no fewer are kept, all are
keep-full : {A : Type 0} (p : A → Bool) (xs : List A) → length (keep p xs) ≡ length xs → keep p xs ≡ xs
unfolding keep
keep-full p [] h = refl
keep-full {A} p (x ∷ xs) h =
    ⊎_elim
    (λ t. let g : length (x ∷ keep p xs) ≡ length (x ∷ xs) = rw t at h in rw t (ap (λ (l : List A). x ∷ l) (keep-full p xs (omega arith))))
    (λ f. let g : length (keep p xs) ≡ length (x ∷ xs) = rw f at h in let m = length-keep p xs in absurd (omega arith))
    (true-or-false (p x))

-- no fewer objects: no interface goes with them
pub all-stayed : (w : Leaving) (e f : Entries) → f ≡ objects_left (stays w e) e → length f.objects ≡ length e.objects → interface_objects_live e ≡ true
    → f ≡ without_leaving w e
all-stayed w e f d l n =
    let left : Entries = objects_left (stays w e) e in
    let os : keep (stays w e) e.objects ≡ e.objects = keep-full (stays w e) e.objects (ap (λ (x : Entries). length x.objects) (sym d) ∙ l) in
    d
    ∙ sym
    (ap (λ (is : List Interface). with_interfaces is left)
    (keep_all (λ (i : Interface). is_live_object left i.object) e.interfaces
    (ap (λ (xs : List Object). every (λ (i : Interface). among (map (λ (o : Object). o.oid) xs) i.object) e.interfaces) os ∙ n)))

-- ---- a client's drop

module _ (c : ℕ) (e : Entries) (h : sound e ≡ true) where
  abbrev after : Entries
  after = cleared c e

  -- interfaces still name live objects
  cleared-named : interface_objects_live after ≡ true
  cleared-named = every_map (λ (i : Interface). among (oids e) i.object) (emptied c) e.interfaces ∙ (sound-fields e h).interface_objects_live

  -- those that are held as well
  pub held-named : interface_objects_live (held_left after) ≡ true
  held-named = every-kept (λ (i : Interface). among (oids e) i.object) held after.interfaces cleared-named

  -- and each object has one
  cleared-serving : every (has_interface after) e.objects ≡ true
  cleared-serving =
      sym (serving-objects e.objects after.interfaces)
      ∙ ap (λ (l : List ℕ). every (among l) (oids e)) (map-map (λ (i : Interface). i.object) (emptied c) e.interfaces)
      ∙ serving-objects e.objects e.interfaces
      ∙ (sound-fields e h).objects_have_interfaces

  -- no fewer interfaces: no object goes
  pub all_held : (f : Entries) → f ≡ held_left after → length f.interfaces ≡ length e.interfaces → f ≡ next (editing (drop_client c)) e
  all_held f d l =
      let is : keep held after.interfaces ≡ after.interfaces =
      keep-full held after.interfaces (ap (λ (x : Entries). length x.interfaces) (sym d) ∙ l ∙ sym (length-map e.interfaces (emptied c))) in
      let same : held_left after ≡ after = ap (λ (l : List Interface). with_interfaces l after) is in
      let none : without_leaving NoInterface after ≡ after =
      nothing-goes (has_interface after) after cleared-serving cleared-named (sound-fields e h).set_members_live in
      d ∙ same ∙ sym (drop-steps c e ∙ ap (without_leaving NoInterface) same ∙ none)
