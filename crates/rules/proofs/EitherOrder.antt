-- Two adds or releases on different IPIDs, in either order.
use Prim.Native.Nat.{ℕ, ◌+◌, min}
use mathlib.Core.Path.{◌≡◌, refl, sym, ap, ◌∙◌}
use mathlib.Core.Bool.{Bool, true, false, cond, not, ◌&&◌, ◌||◌, and-false}
use mathlib.Core.List.Memᴰ
use mathlib.Core.List.{List, [], ◌∷◌, map}
use mathlib.Core.Logic.{◌⊎◌, inl, inr, ⊎_elim}
use native.Mathlib.Omega.{arith}
use borrow.Author.Tests.{eq-eqb, eqb-true, not-true, not-false}
use lib.ListN.{get_or, take}
use lib.Dec.{eqb}
use Rattle.kinds.specs.declared.Guid.{Guid}
use Rattle.kinds.specs.Refusals.{order, ◌gives◌}
use Rattle.kinds.proofs.Refusing.{true-false, by-test, passed}
use Rattle.lists.specs.Lists.{keep, some, every, first_or, among}
use Rattle.lists.specs.Guids.{same_guid}
use Rattle.lists.proofs.Tests.{true-or-false, and_intro, and_left, and_right}
use Rattle.lists.proofs.Lists.{every_map, every-kept, every-mono, some-map, some-keep, some_mono, keep_all, keep-within, map-map, map-ext}
use Rattle.lists.proofs.Distinct.{eqb-decides, same-eq, same-comm, some-same-keep-map}
use Rattle.lists.proofs.Guids.{guid-decides}
use Rattle.lists.proofs.Elements.{In, in-every, every_in, in_some, some_in, map-in, keep-in, in-keep, first-sole, sole-key}
use Rattle.rules.specs.Entries.{Object, Interface, PingSet, Entries, oids, with_objects, with_interfaces, with_sets, with_members, public_of, private_of}
use Rattle.rules.specs.Calls.{Call, editing, Counting, adding, releasing, add, release}
use Rattle.rules.specs.Items.{Item, item_call}
use Rattle.rules.specs.Sound.{sound, held, has_interface}
use Rattle.rules.specs.Rules.{is_live_object, is_live_interface, no_interface, interface_of, passes_count, no_client, at_interface, drop_empty, increased}
use Rattle.rules.specs.Rules.{decreased, flag, release_values, refusals, number, next, results, refused_reply, accepted_reply, reply}
use Rattle.rules.specs.EitherOrder.{call_done, taken_in, interface_went, object_went, CountCall, call_of, before, behind, object_of, BothLast, SameAnswer, OrderIrrelevant}
use Rattle.rules.proofs.SoundLaws.{sound-fields}
use Rattle.rules.proofs.Stepping.{reply-number}
use Rattle.rules.proofs.ByRow.{interfaces-distinct}
use Rattle.rules.proofs.NothingGoes.{full-kept}
use Rattle.rules.proofs.Keeps.{keeps}

-- ---- lists of which elements are changed and some kept

module _ {A : Type 0} (q : A → Bool) (h : A → A) where
  -- what fails before a change and after it may be left out first
  keep-through : (xs : List A) → every (λ x. q x || not (q (h x))) xs ≡ true → keep q (map h (keep q xs)) ≡ keep q (map h xs)
  unfolding keep every
  keep-through [] t = refl
  keep-through (x ∷ xs) t =
      let rest = keep-through xs (and_right (q x || not (q (h x))) _ t) in
      ⊎_elim
      (λ a. cc)
      (λ (a : q x ≡ false). cc (not-true (q (h x)) (rw a at (and_left (q x || not (q (h x))) _ t))))
      (true-or-false (q x))

  module _ (p : A → Bool) (same : (x : A) → p (h x) ≡ p x) (fixed : (x : A) → p x ≡ true → h x ≡ x) where
    -- what is found is not changed, and was kept
    through-first : (d : A) (xs : List A) → every q xs ≡ true → first_or d p (keep q (map h xs)) ≡ first_or d p xs
    unfolding keep every first_or
    through-first d [] t = refl
    through-first d (x ∷ xs) t =
        let rest = through-first d xs (and_right (q x) _ t) in
        ⊎_elim
        (λ a. cc (fixed x a, and_left (q x) _ t))
        (λ a. ⊎_elim (λ k. cc (same x)) (λ k. cc) (true-or-false (q (h x))))
        (true-or-false (p x))

    one_found : (x : A) → q x ≡ true → (q (h x) && p (h x)) ≡ p x
    one_found x t = ⊎_elim (λ a. cc (fixed x a)) (λ a. cc (same x, and-false (q (h x)))) (true-or-false (p x))

    all_found : (xs : List A) → every q xs ≡ true → some (λ x. q (h x) && p (h x)) xs ≡ some p xs
    unfolding some every
    all_found [] t = refl
    all_found (x ∷ xs) t = λ u. one_found x (and_left (q x) _ t) u || all_found xs (and_right (q x) _ t) u

    through-some : (xs : List A) → every q xs ≡ true → some p (keep q (map h xs)) ≡ some p xs
    through-some xs t = some-keep p q (map h xs) ∙ some-map (λ x. q x && p x) h xs ∙ all_found xs t

-- ---- what goes

abbrev has_in : List Interface → Object → Bool
has_in is o = some (λ (r : Interface). eqb o.oid r.object) is

abbrev ids_of : List Object → List ℕ
ids_of os = map (λ (o : Object). o.oid) os

abbrev cut_to : List Object → PingSet → PingSet
cut_to os s = with_members (keep (among (ids_of os)) s.members) s

-- the entries with these interfaces, and with the objects that have one of them
abbrev served_by : List Interface → Entries → Entries
served_by is e =
    with_interfaces is (with_sets (map (cut_to (keep (has_in is) e.objects)) e.sets) (with_objects (keep (has_in is) e.objects) e))

-- interfaces of objects name the objects that are left
live-left : (os : List Object) (is : List Interface) → every (λ (r : Interface). among (ids_of os) r.object) is ≡ true
    → every (λ (r : Interface). among (ids_of (keep (has_in is) os)) r.object) is ≡ true
live-left os is h =
    in-every _ is
    (λ r m.
    some-same-keep-map eqb eqb-decides (λ (n : ℕ). some (λ (x : Interface). eqb n x.object) is) (λ (o : Object). o.oid) r.object os
    ∙ and_intro _ _ (in_some (λ (x : Interface). eqb r.object x.object) m (eq-eqb r.object r.object refl)) (every_in (λ (x : Interface). among (ids_of os) x.object) m h))

-- of interfaces that name objects none goes but those that are not held
drop-form : (e : Entries) → every (λ (r : Interface). among (oids e) r.object) e.interfaces ≡ true → drop_empty e ≡ served_by (keep held e.interfaces) e
drop-form e h =
    let is = keep held e.interfaces in
    ap (λ (l : List Interface). with_interfaces l (with_sets (map (cut_to (keep (has_in is) e.objects)) e.sets) (with_objects (keep (has_in is) e.objects) e)))
    (keep_all (λ (r : Interface). among (ids_of (keep (has_in is) e.objects)) r.object) is (live-left e.objects is (every-kept _ held e.interfaces h)))

-- a change of an interface's counts
record Plain (f : Interface → Interface) : Type 0 where
  ipid : (r : Interface) → (f r).ipid ≡ r.ipid
  object : (r : Interface) → (f r).object ≡ r.object

abbrev at : Guid → (Interface → Interface) → Interface → Interface
at i f r = cond (same_guid i r.ipid) (f r) r

at_plain : (i : Guid) (f : Interface → Interface) → Plain f → Plain (at i f)
at_plain i f p =
    record {
      ipid = λ r. by-test (λ (x : Interface). x.ipid ≡ r.ipid) (same_guid i r.ipid) (f r) r (λ t. p.ipid r) (λ t. refl);
      object = λ r. by-test (λ (x : Interface). x.object ≡ r.object) (same_guid i r.ipid) (f r) r (λ t. p.object r) (λ t. refl);
    }

-- changed interfaces name the same objects
named-changed : (ns : List ℕ) (h : Interface → Interface) → Plain h → (is : List Interface)
    → every (λ (r : Interface). among ns r.object) is ≡ true → every (λ (r : Interface). among ns r.object) (map h is) ≡ true
named-changed ns h p is t = every_map (λ (r : Interface). among ns r.object) h is ∙ (λ u. every (λ (r : Interface). among ns (p.object r u)) is) ∙ t

-- some object's interface after a change and a choice is one of before
has-before : (q : Interface → Bool) (h : Interface → Interface) → Plain h → (is : List Interface) (o : Object) → has_in (keep q (map h is)) o ≡ true → has_in is o ≡ true
has-before q h p is o t =
    sym (λ u. some (λ (r : Interface). eqb o.oid (p.object r u)) is)
    ∙ sym (some-map (λ (r : Interface). eqb o.oid r.object) h is)
    ∙ some_mono (λ (r : Interface). q r && eqb o.oid r.object) (λ r. eqb o.oid r.object) (λ r. and_right (q r) _) (map h is)
    (sym (some-keep (λ (r : Interface). eqb o.oid r.object) q (map h is)) ∙ t)

among-kept : (q : Object → Bool) (os : List Object) (n : ℕ) → among (ids_of (keep q os)) n ≡ true → among (ids_of os) n ≡ true
among-kept q os n t =
    some-map (eqb n) (λ (o : Object). o.oid) os
    ∙ some_mono (λ (o : Object). q o && eqb n o.oid) (λ o. eqb n o.oid) (λ o. and_right (q o) _) os
    (sym (some-keep (λ (o : Object). eqb n o.oid) q os) ∙ sym (some-map (eqb n) (λ (o : Object). o.oid) (keep q os)) ∙ t)

-- interfaces of which fewer are left, one time after the other
served-twice : (is : List Interface) (q : Interface → Bool) (h : Interface → Interface) → Plain h → (e : Entries) → served_by (keep q (map h is)) (served_by is e) ≡ served_by (keep q (map h is)) e
served-twice is q h p e =
    ap (λ (l : List Object). with_interfaces js (with_sets (map (cut_to l) (map (cut_to (keep (has_in is) e.objects)) e.sets)) (with_objects l e))) objects
    ∙ ap (λ (l : List PingSet). with_interfaces js (with_sets l (with_objects (keep (has_in js) e.objects) e)))
    (map-map (cut_to (keep (has_in js) e.objects)) (cut_to (keep (has_in is) e.objects)) e.sets
    ∙ map-ext _ (cut_to (keep (has_in js) e.objects))
    (λ s. ap (λ (l : List ℕ). with_members l s)
    (keep-within (among (ids_of (keep (has_in is) e.objects))) (among (ids_of (keep (has_in js) e.objects)))
    (λ n t. among-kept (has_in js) (keep (has_in is) e.objects) n (ap (λ (l : List Object). among (ids_of l) n) objects ∙ t)) s.members))
    e.sets)
  where
    js : List Interface
    js = keep q (map h is)

    objects : keep (has_in js) (keep (has_in is) e.objects) ≡ keep (has_in js) e.objects
    objects = keep-within (has_in is) (has_in js) (has-before q h p is) e.objects

-- ---- two interfaces

module _ (i j : Guid) (apart : same_guid i j ≡ false) where
  -- an IPID is not both
  not-both : (x : Guid) → same_guid i x ≡ true → same_guid j x ≡ false
  not-both x a =
      ⊎_elim
      (λ b. absurd (true-false (sym (same-eq same_guid guid-decides i j (guid-decides.sound i x a ∙ sym (guid-decides.sound j x b))) ∙ apart)))
      (λ b. b)
      (true-or-false (same_guid j x))

  module _ (f g : Interface → Interface) (pf : Plain f) (pg : Plain g) where
    -- one that is i is not changed as j
    fixed : (r : Interface) → same_guid i r.ipid ≡ true → at j g r ≡ r
    fixed r t = ap (λ (b : Bool). cond b (g r) r) (not-both r.ipid t)

    same-ipid : (r : Interface) → same_guid i (at j g r).ipid ≡ same_guid i r.ipid
    same-ipid r = ap (same_guid i) ((at_plain j g pg).ipid r)

    -- the changes in either order
    changes-swap : (r : Interface) → at j g (at i f r) ≡ at i f (at j g r)
    changes-swap r =
        ⊎_elim
        (λ t. cc (ap (same_guid j) (pf.ipid r), not-both r.ipid t))
        (λ t. cc (same-ipid r))
        (true-or-false (same_guid i r.ipid))

    at-swap : (e : Entries) → at_interface j g (at_interface i f e) ≡ at_interface i f (at_interface j g e)
    at-swap e =
        ap (λ (l : List Interface). with_interfaces l e)
        (map-map (at j g) (at i f) e.interfaces ∙ map-ext _ _ changes-swap e.interfaces ∙ sym (map-map (at i f) (at j g) e.interfaces))

    module _ (e : Entries) (named : every (λ (r : Interface). among (oids e) r.object) e.interfaces ≡ true) (counted : every held e.interfaces ≡ true) where
      -- what fails after the first change fails after the second
      fails : every (λ (r : Interface). held r || not (held (at j g r))) (map (at i f) e.interfaces) ≡ true
      fails =
          every_map _ (at i f) _
          ∙ every-mono held _ (λ r t.
          ⊎_elim
          (λ a. let w : at j g (at i f r) ≡ at i f r = cc ((at_plain i f pf).ipid r, not-both r.ipid a) in rw w (or-not (held (at i f r))))
          (λ a. let w : at i f r ≡ r = rw a in rw (w, t))
          (true-or-false (same_guid i r.ipid))) e.interfaces counted
        where
          or-not : (b : Bool) → (b || not b) ≡ true
          or-not true = refl
          or-not false = refl

      -- what goes after the first change may go after the second
      drop-later : drop_empty (at_interface j g (drop_empty (at_interface i f e))) ≡ drop_empty (at_interface j g (at_interface i f e))
      drop-later =
          ap (λ (x : Entries). drop_empty (at_interface j g x)) (drop-form (at_interface i f e) first)
          ∙ drop-form (at_interface j g (served_by is e)) (named-changed _ (at j g) (at_plain j g pg) is (live-left e.objects is (every-kept _ held _ first)))
          ∙ served-twice is held (at j g) (at_plain j g pg) e
          ∙ ap (λ (l : List Interface). served_by l e) (keep-through held (at j g) (map (at i f) e.interfaces) fails)
          ∙ sym (drop-form (at_interface j g (at_interface i f e)) (named-changed (oids e) (at j g) (at_plain j g pg) (map (at i f) e.interfaces) first))
        where
          is : List Interface
          is = keep held (map (at i f) e.interfaces)

          first : every (λ (r : Interface). among (oids e) r.object) (map (at i f) e.interfaces) ≡ true
          first = named-changed (oids e) (at i f) (at_plain i f pf) e.interfaces named

      -- the interface i after a change of j
      changed-live : is_live_interface (drop_empty (at_interface j g e)) i ≡ is_live_interface e i
      changed-live =
          ap (λ (x : Entries). is_live_interface x i) (drop-form (at_interface j g e) (named-changed (oids e) (at j g) (at_plain j g pg) e.interfaces named))
          ∙ some-map (same_guid i) (λ (r : Interface). r.ipid) _
          ∙ through-some held (at j g) (λ r. same_guid i r.ipid) same-ipid fixed e.interfaces counted
          ∙ sym (some-map (same_guid i) (λ (r : Interface). r.ipid) e.interfaces)

      changed-entry : interface_of (drop_empty (at_interface j g e)) i ≡ interface_of e i
      changed-entry =
          ap (λ (x : Entries). interface_of x i) (drop-form (at_interface j g e) (named-changed (oids e) (at j g) (at_plain j g pg) e.interfaces named))
          ∙ through-first held (at j g) (λ r. same_guid i r.ipid) same-ipid fixed no_interface e.interfaces counted

-- ---- the calls

-- what an accepted call makes of its interface
abbrev moves : Counting → ℕ → ℕ → ℕ → Interface → Interface
moves adding c p q = increased c p q
moves releasing c p q = decreased c p q

moves-plain : (w : Counting) (c p q : ℕ) → Plain (moves w c p q)
moves-plain adding c p q = record { ipid = λ r. refl; object = λ r. refl }
moves-plain releasing c p q = record { ipid = λ r. refl; object = λ r. refl }

none-plain : Plain (λ (r : Interface). r)
none-plain = record { ipid = λ r. refl; object = λ r. refl }

abbrev change_if : CountCall → Bool → Interface → Interface
change_if a b r = cond b (moves a.way a.client a.item.public a.item.private r) r

change-plain : (a : CountCall) (b : Bool) → Plain (change_if a b)
change-plain a true = moves-plain a.way a.client a.item.public a.item.private
change-plain a false = none-plain

abbrev accepts : CountCall → Entries → Bool
accepts a e = eqb (number (call_of a) e) 0

-- no change
at_none : (i : Guid) (e : Entries) → at_interface i (λ r. r) e ≡ e
at_none i e =
    ap (λ (l : List Interface). with_interfaces l e)
    (map-ext (at i (λ r. r)) (λ r. r) (λ r. by-test (λ (x : Interface). x ≡ r) (same_guid i r.ipid) r r (λ t. refl) (λ t. refl)) e.interfaces ∙ map_same e.interfaces)
  where
    map_same : (l : List Interface) → map (λ r. r) l ≡ l
    map_same [] = refl
    map_same (x ∷ xs) = ap (λ (m : List Interface). x ∷ m) (map_same xs)

-- accepted or not, a call changes its interface, and what is empty then goes
next-drop : (w : Counting) (c : ℕ) (t : Item) (e : Entries) → sound e ≡ true → number (item_call w c t) e ≡ 0
    → next (item_call w c t) e ≡ drop_empty (at_interface t.ipid (moves w c t.public t.private) e)
unfolding next
next-drop adding c t e s z = sym (full-kept (at_interface t.ipid (increased c t.public t.private) e) (keeps (item_call adding c t) e s z))
next-drop releasing c t e s z = refl

done-drop : (a : CountCall) (e : Entries) → sound e ≡ true → call_done (call_of a) e ≡ drop_empty (at_interface a.item.ipid (change_if a (accepts a e)) e)
done-drop a e s = by (accepts a e) refl
  where
    by : (b : Bool) → accepts a e ≡ b → cond b (next (call_of a) e) e ≡ drop_empty (at_interface a.item.ipid (change_if a b) e)
    by true t = next-drop a.way a.client a.item e s (eqb-true _ 0 t)
    by false t = sym (ap drop_empty (at_none a.item.ipid e) ∙ full-kept e s)

sound-done : (c : Call) (e : Entries) → sound e ≡ true → sound (call_done c e) ≡ true
sound-done c e s = by-test (λ (x : Entries). sound x ≡ true) (eqb (number c e) 0) (next c e) e (λ t. keeps c e s (eqb-true _ 0 t)) (λ t. s)

-- two calls on different IPIDs
record Apart (a b : CountCall) : Type 0 where
  apart : same_guid a.item.ipid b.item.ipid ≡ false

module _ (a b : CountCall) (d : Apart a b) (e : Entries) (s : sound e ≡ true) where
  -- the interface of a after b
  live_same : is_live_interface (call_done (call_of b) e) a.item.ipid ≡ is_live_interface e a.item.ipid
  live_same =
      let g = sound-fields e s in
      rw (done-drop b e s) (changed-live _ _ d.apart (λ r. r) _ none-plain (change-plain b (accepts b e)) e g.interface_objects_live g.interfaces_held)

  entry-same : interface_of (call_done (call_of b) e) a.item.ipid ≡ interface_of e a.item.ipid
  entry-same =
      let g = sound-fields e s in
      rw (done-drop b e s) (changed-entry _ _ d.apart (λ r. r) _ none-plain (change-plain b (accepts b e)) e g.interface_objects_live g.interfaces_held)

-- a call's number by what it looks at
number-from : (w : Counting) (c : ℕ) (t : Item) (e e' : Entries) → is_live_interface e' t.ipid ≡ is_live_interface e t.ipid → interface_of e' t.ipid ≡ interface_of e t.ipid
    → number (item_call w c t) e' ≡ number (item_call w c t) e
unfolding number refusals
number-from adding c t e e' l r =
    λ u. order (no_client c gives 20 ∷ not (l u) gives 6 ∷ (passes_count (public_of (r u) + t.public) || passes_count (private_of c (r u) + t.private)) gives 8 ∷ [])
number-from releasing c t e e' l r = λ u. order (no_client c gives 20 ∷ not (l u) gives 6 ∷ [])

module _ (a b : CountCall) (d : Apart a b) (e : Entries) (s : sound e ≡ true) where
  number_same : number (call_of a) (call_done (call_of b) e) ≡ number (call_of a) e
  number_same = number-from a.way a.client a.item e (call_done (call_of b) e) (live_same a b d e s) (entry-same a b d e s)

-- both calls, as changes of their interfaces
both-done : (a b : CountCall) → Apart a b → Apart b a → (e : Entries) → sound e ≡ true
    → call_done (call_of b) (call_done (call_of a) e)
    ≡ drop_empty (at_interface b.item.ipid (change_if b (accepts b e)) (at_interface a.item.ipid (change_if a (accepts a e)) e))
both-done a b d d' e s =
    let g = sound-fields e s in
    rw (done-drop b _ (sound-done (call_of a) e s), number_same b a d' e s, done-drop a e s)
    (drop-later _ _ d.apart _ _ (change-plain a (accepts a e)) (change-plain b (accepts b e)) e g.interface_objects_live g.interfaces_held)

same_entries : (a b : CountCall) → Apart a b → Apart b a → (e : Entries) → sound e ≡ true → call_done (call_of b) (call_done (call_of a) e) ≡ call_done (call_of a) (call_done (call_of b) e)
same_entries a b d d' e s =
    both-done a b d d' e s ∙ ap drop_empty (at-swap _ _ d.apart _ _ (change-plain a (accepts a e)) (change-plain b (accepts b e)) e) ∙ sym (both-done b a d' d e s)

-- ---- the answers

abbrev zeros : List ℕ
zeros = 0 ∷ 0 ∷ 0 ∷ 0 ∷ []

-- what an add answers
add-values : (c : ℕ) (i : Guid) (p q : ℕ) (e : Entries) → (reply (editing (add c i p q)) e).values ≡ []
unfolding reply accepted_reply refused_reply results
add-values c i p q e = by (eqb (number (editing (add c i p q)) e) 0)
  where
    by : (b : Bool) → (cond b (accepted_reply (editing (add c i p q)) e) (refused_reply (number (editing (add c i p q)) e) (editing (add c i p q)) e)).values ≡ []
    by true = refl
    by false = refl

-- what a release answers, accepted and refused
release-values : (c : ℕ) (i : Guid) (p q : ℕ) (e : Entries) → eqb (number (editing (release c i p q)) e) 0 ≡ true
    → (reply (editing (release c i p q)) e).values ≡ release_values c i p q e (call_done (editing (release c i p q)) e)
unfolding reply accepted_reply refused_reply results
release-values c i p q e t = cc t

release-zeros : (c : ℕ) (i : Guid) (p q : ℕ) (e : Entries) → eqb (number (editing (release c i p q)) e) 0 ≡ false → (reply (editing (release c i p q)) e).values ≡ zeros
unfolding reply accepted_reply refused_reply results
release-zeros c i p q e t = ap (λ (b : Bool). (cond b (accepted_reply (editing (release c i p q)) e) (refused_reply (number (editing (release c i p q)) e) (editing (release c i p q)) e)).values) t

-- what was taken and whether the interface went, by what the call looks at and what it leaves
answer-from : (w : Counting) (c : ℕ) (t : Item) (e e' : Entries) → number (item_call w c t) e' ≡ number (item_call w c t) e → interface_of e' t.ipid ≡ interface_of e t.ipid
    → is_live_interface (call_done (item_call w c t) e') t.ipid ≡ is_live_interface (call_done (item_call w c t) e) t.ipid
    → (taken_in (reply (item_call w c t) e) ≡ taken_in (reply (item_call w c t) e')) × (interface_went (reply (item_call w c t) e) ≡ interface_went (reply (item_call w c t) e'))
answer-from adding c t e e' n r l =
    let same = add-values c t.ipid t.public t.private e ∙ sym (add-values c t.ipid t.public t.private e') in
    (ap (take 2) same, ap (λ (v : List ℕ). get_or v 2 0) same)
answer-from releasing c t e e' n r l =
    let call = editing (release c t.ipid t.public t.private) in
    ⊎_elim
    (λ z.
    let v = release-values c t.ipid t.public t.private e z in
    let v' = release-values c t.ipid t.public t.private e' (ap (λ (m : ℕ). eqb m 0) n ∙ z) in (
      ap (take 2) v ∙ sym (λ u. min t.public (public_of (r u)) ∷ min t.private (private_of c (r u)) ∷ []) ∙ sym (ap (take 2) v'),
      ap (λ (x : List ℕ). get_or x 2 0) v ∙ sym (λ u. flag (not (l u))) ∙ sym (ap (λ (x : List ℕ). get_or x 2 0) v'),
    ))
    (λ z.
    let same = release-zeros c t.ipid t.public t.private e z ∙ sym (release-zeros c t.ipid t.public t.private e' (ap (λ (m : ℕ). eqb m 0) n ∙ z)) in
    (ap (take 2) same, ap (λ (v : List ℕ). get_or v 2 0) same))
    (true-or-false (eqb (number call e) 0))

-- each call's answer before the other and after it
same_answer_lem : (a b : CountCall) → Apart a b → Apart b a → (e : Entries) → sound e ≡ true → SameAnswer a b e
same_answer_lem a b d d' e s =
    let n = number_same a b d e s in
    let r =
    answer-from a.way a.client a.item e (call_done (call_of b) e) n (entry-same a b d e s)
    (ap (λ (x : Entries). is_live_interface x a.item.ipid) (sym (same_entries a b d d' e s)) ∙ live_same a b d (call_done (call_of a) e) (sound-done (call_of a) e s)) in
    record { number = reply-number (call_of a) e ∙ sym n ∙ sym (reply-number (call_of a) (call_done (call_of b) e)); taken = r.0; interface = r.1 }

-- ---- the note that an object went

-- an accepted release
abbrev is_release : Counting → Bool
is_release adding = false
is_release releasing = true

abbrev lessens : CountCall → Entries → Bool
lessens a e = is_release a.way && accepts a e

-- a call that is no accepted release notes nothing, and no object goes
record Quiet (a : CountCall) (e : Entries) : Type 0 where
  none : lessens a e ≡ false
  object : object_went (reply (call_of a) e) ≡ 0
  interface : interface_went (reply (call_of a) e) ≡ 0
  objects : (o : ℕ) → is_live_object (call_done (call_of a) e) o ≡ is_live_object e o

-- an accepted release notes what it leaves
record Loud (a : CountCall) (e : Entries) : Type 0 where
  some : lessens a e ≡ true
  object : object_went (reply (call_of a) e) ≡ flag (not (is_live_object (call_done (call_of a) e) (object_of a e)))
  interface : interface_went (reply (call_of a) e) ≡ flag (not (is_live_interface (call_done (call_of a) e) a.item.ipid))
  live : is_live_interface e a.item.ipid ≡ true

release_live : (c : ℕ) (i : Guid) (p q : ℕ) (e : Entries) → number (editing (release c i p q)) e ≡ 0 → is_live_interface e i ≡ true
unfolding number refusals
release_live c i p q e h = not-false _ (passed _ 6 _ (omega arith) (passed _ 20 _ (omega arith) h).1).0

notes : (w : Counting) (c : ℕ) (t : Item) (e : Entries) → Quiet (record { way = w; client = c; item = t }) e ⊎ Loud (record { way = w; client = c; item = t }) e
unfolding next
notes adding c t e =
    let v = add-values c t.ipid t.public t.private e in
    inl
    (record {
      none = refl;
      object = ap (λ (l : List ℕ). get_or l 3 0) v;
      interface = ap (λ (l : List ℕ). get_or l 2 0) v;
      objects = λ o. by-test (λ (x : Entries). is_live_object x o ≡ is_live_object e o) (eqb (number (editing (add c t.ipid t.public t.private)) e) 0) _ e (λ z. refl) (λ z. refl);
    })
notes releasing c t e =
    ⊎_elim
    (λ z.
    let v = release-values c t.ipid t.public t.private e z in
    inr
    (record {
      some = z;
      object = ap (λ (l : List ℕ). get_or l 3 0) v;
      interface = ap (λ (l : List ℕ). get_or l 2 0) v;
      live = release_live c t.ipid t.public t.private e (eqb-true _ 0 z);
    }))
    (λ z.
    let v = release-zeros c t.ipid t.public t.private e z in
    inl
    (record {
      none = z;
      object = ap (λ (l : List ℕ). get_or l 3 0) v;
      interface = ap (λ (l : List ℕ). get_or l 2 0) v;
      objects = λ o. ap (λ (b : Bool). is_live_object (cond b (next (editing (release c t.ipid t.public t.private)) e) e) o) z;
    }))
    (true-or-false (eqb (number (editing (release c t.ipid t.public t.private)) e) 0))

noted : (a : CountCall) (e : Entries) → Quiet a e ⊎ Loud a e
noted a e = notes a.way a.client a.item e

-- what an interface went for
went-loud : (a : CountCall) (e : Entries) → interface_went (reply (call_of a) e) ≡ 1 → Loud a e
went-loud a e h = ⊎_elim (λ q. absurd (let z = sym q.interface ∙ h in omega arith)) (λ l. l) (noted a e)

-- the entry that is found passes what all pass
first_passes : {A : Type 0} (d : A) (p q : A → Bool) (xs : List A) → some p xs ≡ true → every q xs ≡ true → q (first_or d p xs) ≡ true
unfolding some every first_or
first_passes d p q [] s t = absurd (true-false (sym s))
first_passes d p q (x ∷ xs) s t =
    ⊎_elim
    (λ a. ap (λ (b : Bool). q (cond b x (first_or d p xs))) a ∙ and_left (q x) _ t)
    (λ a. ap (λ (b : Bool). q (cond b x (first_or d p xs))) a ∙ first_passes d p q xs (ap (λ (b : Bool). b || some p xs) (sym a) ∙ s) (and_right (q x) _ t))
    (true-or-false (p x))

-- the object of a live interface is live
object-live : (e : Entries) → sound e ≡ true → (i : Guid) → is_live_interface e i ≡ true → is_live_object e (interface_of e i).object ≡ true
object-live e s i l =
    first_passes no_interface (λ (r : Interface). same_guid i r.ipid) (λ (r : Interface). among (oids e) r.object) e.interfaces
    (sym (some-map (same_guid i) (λ (r : Interface). r.ipid) e.interfaces) ∙ l) (sound-fields e s).interface_objects_live

module _ (a b : CountCall) (d : Apart a b) (d' : Apart b a) (e : Entries) (s : sound e ≡ true) where
  abbrev after_first : Entries
  after_first = call_done (call_of a) e

  -- the earlier call does not carry the note, the later one does
  carried : BothLast a b e → (object_went (before a b e) ≡ 0) × (object_went (behind b a e) ≡ 1)
  carried k =
      let la = went-loud a e k.first in
      let lb = went-loud b after_first (sym (same_answer_lem b a d' d e s).interface ∙ k.second) in
      let same : (interface_of after_first b.item.ipid).object ≡ object_of a e = ap (λ (r : Interface). r.object) (entry-same b a d' e s) ∙ sym k.one in (
        la.object ∙ ap (λ (n : ℕ). flag (not (is_live_object after_first n))) (sym same)
            ∙ ap (λ (x : Bool). flag (not x)) (object-live after_first (sound-done (call_of a) e s) b.item.ipid lb.live),
        lb.object ∙ ap (λ (n : ℕ). flag (not (is_live_object (call_done (call_of b) after_first) n))) same ∙ ap (λ (x : Bool). flag (not x)) k.gone,
      )

-- ---- where the note stays

-- what a call leaves of the interfaces and objects of sound entries
module _ (b : CountCall) (e : Entries) (s : sound e ≡ true) where
  abbrev changed : Interface → Interface
  changed = at b.item.ipid (change_if b (accepts b e))

  changed-plain : Plain changed
  changed-plain = at_plain b.item.ipid (change_if b (accepts b e)) (change-plain b (accepts b e))

  form : call_done (call_of b) e ≡ served_by (keep held (map changed e.interfaces)) e
  form =
      cc (done-drop b e s, drop-form (at_interface b.item.ipid (change_if b (accepts b e)) e) (named-changed (oids e) changed changed-plain e.interfaces (sound-fields e s).interface_objects_live))

  left-interfaces : (call_done (call_of b) e).interfaces ≡ keep held (map changed e.interfaces)
  left-interfaces = ap (λ (x : Entries). x.interfaces) form

  -- an object that is left was there
  object-before : (o : ℕ) → is_live_object (call_done (call_of b) e) o ≡ true → is_live_object e o ≡ true
  object-before o t = among-kept (has_in (keep held (map changed e.interfaces))) e.objects o (sym (ap (λ (x : Entries). is_live_object x o) form) ∙ t)

  -- an interface that is left is one that was there, of the same IPID and object
  left-from : (y : Interface) → In y (call_done (call_of b) e).interfaces → (z : Interface) × In z e.interfaces × (y ≡ changed z)
  left-from y m = map-in changed e.interfaces (keep-in held (map changed e.interfaces) (rw left-interfaces at m)).0

  -- the interface of another IPID is left
  other-left : (x : Interface) → In x e.interfaces → same_guid b.item.ipid x.ipid ≡ false → In x (call_done (call_of b) e).interfaces
  other-left x m t =
      let fix : changed x ≡ x = ap (λ (c : Bool). cond c (change_if b (accepts b e) x) x) t in
      rw left-interfaces (in-keep held (rw fix at (Memᴰ.map changed m)) (every_in held m (sound-fields e s).interfaces_held))

-- the live interface of an IPID is its entry
sole-entry : (e : Entries) → sound e ≡ true → (i : Guid) (x : Interface) → In x e.interfaces → same_guid i x.ipid ≡ true → interface_of e i ≡ x
sole-entry e s i x m t =
    first-sole (λ (r : Interface). same_guid i r.ipid) no_interface
    (sole-key same_guid guid-decides (λ (r : Interface). r.ipid) i (interfaces-distinct e s) m (guid-decides.sound i x.ipid t))

module _ (a b : CountCall) (d : Apart a b) (d' : Apart b a) (e : Entries) (s : sound e ≡ true) where
  abbrev first : Entries
  first = call_done (call_of a) e

  abbrev final : Entries
  final = call_done (call_of b) first

  first-sound : sound first ≡ true
  first-sound = sound-done (call_of a) e s

  final-sound : sound final ≡ true
  final-sound = sound-done (call_of b) first first-sound

  -- an interface that is left names an object that is left
  left-names : (y : Interface) → In y final.interfaces → (o : ℕ) → y.object ≡ o → is_live_object final o ≡ true
  left-names y m o q = ap (among (oids final)) (sym q) ∙ every_in (λ (r : Interface). among (oids final) r.object) m (sound-fields final final-sound).interface_objects_live

  module _ (o : ℕ) (own : object_of a e ≡ o) (there : is_live_object first o ≡ true) (gone : is_live_object final o ≡ false) where
    -- an interface of the object is that of the second call
    only-second : (x : Interface) → In x first.interfaces → x.object ≡ o → same_guid b.item.ipid x.ipid ≡ true
    only-second x m q =
        ⊎_elim
        (λ t. t)
        (λ t. absurd (true-false (sym (left-names x (other-left b first first-sound x m t) o q) ∙ gone)))
        (true-or-false (same_guid b.item.ipid x.ipid))

    -- the object has one
    some-interface : (x : Interface) × In x first.interfaces × (x.object ≡ o)
    some-interface =
        let r = some_in (eqb o) (oids first) there in
        let w = map-in (λ (p : Object). p.oid) first.objects r.1 in
        let v = some_in (λ (x : Interface). eqb w.0.oid x.object) first.interfaces (every_in (has_interface first) w.1 (sound-fields first first-sound).objects_have_interfaces) in
        (v.0, v.1, sym (eqb-true w.0.oid v.0.object v.2) ∙ sym w.2 ∙ sym (eqb-true o r.0 r.2))

    -- it is of the second call's object
    one-object : object_of a e ≡ object_of b e
    one-object =
        let x = some-interface in
        cc (own, x.2, sole-entry first first-sound b.item.ipid x.0 x.1 (only-second x.0 x.1 x.2), entry-same b a d' e s)

    -- the first call's interface is gone
    first-gone : is_live_interface first a.item.ipid ≡ false
    first-gone =
        ⊎_elim
        (λ t.
        let r = some_in (λ (x : Interface). same_guid a.item.ipid x.ipid) first.interfaces (sym (some-map (same_guid a.item.ipid) (λ (x : Interface). x.ipid) first.interfaces) ∙ t) in
        let w = left-from a e s r.0 r.1 in
        let p = changed-plain a e s in
        let z = w.0 in
        let same = ap (λ (x : Interface). x.ipid) w.2 ∙ p.ipid z in
        let mine = sole-entry e s a.item.ipid z w.1 (ap (same_guid a.item.ipid) (sym same) ∙ r.2) in
        let q : r.0.object ≡ o = ap (λ (x : Interface). x.object) w.2 ∙ p.object z ∙ ap (λ (x : Interface). x.object) (sym mine) ∙ own in
        absurd (true-false (sym (only-second r.0 r.1 q) ∙ not-both a.item.ipid b.item.ipid d.apart r.0.ipid r.2)))
        (λ t. t)
        (true-or-false (is_live_interface first a.item.ipid))

    -- and the second call's after it
    second-gone : is_live_interface final b.item.ipid ≡ false
    second-gone =
        ⊎_elim
        (λ t.
        let r = some_in (λ (x : Interface). same_guid b.item.ipid x.ipid) final.interfaces (sym (some-map (same_guid b.item.ipid) (λ (x : Interface). x.ipid) final.interfaces) ∙ t) in
        let w = left-from b first first-sound r.0 r.1 in
        let p = changed-plain b first first-sound in
        let z = w.0 in
        let same = ap (λ (x : Interface). x.ipid) w.2 ∙ p.ipid z in
        let x = some-interface in
        let mine = sole-entry first first-sound b.item.ipid z w.1 (ap (same_guid b.item.ipid) (sym same) ∙ r.2) in
        let yours = sole-entry first first-sound b.item.ipid x.0 x.1 (only-second x.0 x.1 x.2) in
        let q : r.0.object ≡ o = ap (λ (y : Interface). y.object) w.2 ∙ p.object z ∙ ap (λ (y : Interface). y.object) (sym mine ∙ yours) ∙ x.2 in
        absurd (true-false (sym (left-names r.0 r.1 o q) ∙ gone)))
        (λ t. t)
        (true-or-false (is_live_interface final b.item.ipid))

    -- so both of its last interfaces went
    both-last : Loud a e → BothLast a b e
    both-last la =
        record {
          one = one-object;
          first = la.interface ∙ ap (λ (x : Bool). flag (not x)) first-gone;
          second =
              (same_answer_lem b a d' d e s).interface
              ∙ ⊎_elim
              (λ (q : Quiet b first). absurd (true-false (sym there ∙ sym (q.objects o) ∙ gone)))
              (λ (l : Loud b first). l.interface ∙ ap (λ (x : Bool). flag (not x)) second-gone)
              (noted b first);
          gone = ap (is_live_object final) own ∙ gone;
        }

  -- a note that does not move
  kept-note : (BothLast a b e → ⊥) → object_went (before a b e) ≡ object_went (behind a b e)
  kept-note k =
      let same : lessens a (call_done (call_of b) e) ≡ lessens a e = ap (λ (n : ℕ). is_release a.way && eqb n 0) (number_same a b d e s) in
      ⊎_elim
      (λ (x : Quiet a e).
      ⊎_elim
      (λ (y : Quiet a (call_done (call_of b) e)). x.object ∙ sym y.object)
      (λ (y : Loud a (call_done (call_of b) e)). absurd (true-false (sym y.some ∙ same ∙ x.none)))
      (noted a (call_done (call_of b) e)))
      (λ (x : Loud a e).
      ⊎_elim
      (λ (y : Quiet a (call_done (call_of b) e)). absurd (true-false (sym x.some ∙ sym same ∙ y.none)))
      (λ (y : Loud a (call_done (call_of b) e)).
      x.object
      ∙ ap (λ (t : Bool). flag (not t)) (objects-same x)
      ∙ (λ u. flag (not (is_live_object (same_entries a b d d' e s u) (sym (ap (λ (r : Interface). r.object) (entry-same a b d e s)) u))))
      ∙ sym y.object)
      (noted a (call_done (call_of b) e)))
      (noted a e)
    where
      objects-same : Loud a e → is_live_object first (object_of a e) ≡ is_live_object final (object_of a e)
      objects-same x =
          ⊎_elim
          (λ t. object-before b first first-sound (object_of a e) t ∙ sym t)
          (λ t.
          ⊎_elim
          (λ v. absurd (k (both-last (object_of a e) refl v t x)))
          (λ v. v ∙ sym t)
          (true-or-false (is_live_object first (object_of a e))))
          (true-or-false (is_live_object final (object_of a e)))

pub order-irrelevant : OrderIrrelevant
order-irrelevant a b e s h =
    let d : Apart a b = record { apart = h } in
    let d' : Apart b a = record { apart = same-comm same_guid guid-decides b.item.ipid a.item.ipid ∙ h } in
    let same = same_entries a b d d' e s in
    let swapped : BothLast a b e → BothLast b a e =
    λ k. record { one = sym k.one; first = k.second; second = k.first; gone = (λ u. is_live_object (sym same u) (sym k.one u)) ∙ k.gone } in
    let back : BothLast b a e → BothLast a b e =
    λ k. record { one = sym k.one; first = k.second; second = k.first; gone = (λ u. is_live_object (same u) (sym k.one u)) ∙ k.gone } in
    record {
      first = same_answer_lem a b d d' e s;
      second = same_answer_lem b a d' d e s;
      entries = same;
      moved = λ k. let x = carried a b d d' e s k in let y = carried b a d' d e s (swapped k) in (x.0, x.1, y.0, y.1);
      stayed = λ k. (kept-note a b d d' e s k, kept-note b a d' d e s (λ m. k (back m)));
    }
