-- What has gone in a history stays gone after any call that does not begin one.
use Prim.Native.Nat.{ℕ, suc, ◌+◌, ◌-◌, ◌≤◌}
use mathlib.Core.Path.{◌≡◌, refl, sym, ap, subst, ◌∙◌}
use mathlib.Core.Bool.{Bool, true, false, cond, not, ◌&&◌, ◌||◌, or-true, true≢false}
use mathlib.Core.List.Memᴰ
use mathlib.Core.List.{List, [], ◌∷◌, ◌++◌, map}
use mathlib.Core.Logic.{◌⊎◌, inl, inr, ⊎_elim}
use native.Mathlib.Omega.{arith}
use borrow.Author.Tests.{eq-eqb, eqb-true, leb-true, le-leb, not-true}
use lib.Dec.{eqb, leb}
use Rattle.kinds.specs.declared.Guid.{Guid}
use Rattle.kinds.proofs.Refusing.{by-test}
use Rattle.lists.specs.Guids.{same_guid}
use Rattle.lists.proofs.Tests.{true-or-false, and_intro, and_left, and_right}
use Rattle.lists.proofs.Lists.{map-append}
use Rattle.lists.proofs.Distinct.{Decides, eqb-decides, same-eq}
use Rattle.lists.specs.Lists.{holding}
use Rattle.lists.proofs.Guids.{guid-decides}
use Rattle.lists.proofs.Elements.{In, every_in, in-every, in_some, some_in, in-keep, map-in, snoc-in, one_in, first-sole}
use Rattle.rules.specs.Calls.{Call, starting, looking, editing, Counting, adding, releasing, enter_exporter, remove_exporter, enter_object}
use Rattle.rules.specs.Calls.{enter_interface, add, release, drop_client, count_list, simple_ping, complex_ping, clock}
use Rattle.rules.specs.Items.{Item, items_of, item_call}
use Rattle.rules.specs.Rules.{any_ipid, number}
use Rattle.rules.proofs.SoundLaws.{none, ◌and◌}
use Rattle.history.specs.History.{ExporterLife, ObjectLife, InterfaceLife, SetLife, History, begins, at_zero, interfaces_at_zero, exporter_removed, unheard_since, unheard, object_gone, live_objects}
use Rattle.history.specs.History.{live_interface, live_set, no_object_life, live, with_set_lives, removed_life, heard_life, at_account, at_accounts, granting, taking, taking_all, pinged_life, changed}
use Rattle.history.specs.History.{at_live_interfaces, at_live_set, object_serials, is_member, ping_lives, start_set, count_lived, item_fed, items_fed, lived, feed, feed_all, along, implies, stays_gone}
use Rattle.history.specs.Runs.{unbegun, history_of, none_begins, StaysGone}
use Rattle.history.proofs.Lives.{Kept, serial_of_object}
use Rattle.history.proofs.Beginning.{kept_fresh}
use Rattle.history.proofs.Identities.{live-object, found-object}
use Rattle.history.proofs.Steps.{clock-live}
use Rattle.history.proofs.Entering.{interface-accepted}
use Rattle.history.proofs.Leaving.{clock-accepted}
use Rattle.history.proofs.Feeding.{step, fed}
use Rattle.history.proofs.Answers.{feed-append}

-- ---- two lists, place by place

-- each element of the first is in relation R to the one at its place in the second, which may be longer
data Along {A : Type 0} (R : A → A → Type 0) : List A → List A → Type 0 where
  rest : {ys : List A} → Along R [] ys
  one : {x y : A} {xs ys : List A} → R x y → Along R xs ys → Along R (x ∷ xs) (y ∷ ys)

module _ {A : Type 0} (R : A → A → Type 0) where
  mapped : (f : A → A) (xs : List A) → ((x : A) → In x xs → R x (f x)) → Along R xs (map f xs)
  mapped f [] r = rest
  mapped f (x ∷ xs) r = one (r x (Memᴰ.head refl)) (mapped f xs (λ y m. r y (Memᴰ.tail m)))

  itself : (xs : List A) → ((x : A) → R x x) → Along R xs xs
  itself [] r = rest
  itself (x ∷ xs) r = one (r x) (itself xs r)

  -- with one more
  more : {xs ys : List A} (y : A) → Along R xs ys → Along R xs (ys ++ (y ∷ []))
  more y rest = rest
  more y (one r a) = one r (more y a)

  -- the second changed
  then-mapped : {xs ys : List A} (f : A → A) → ((x y : A) → R x y → R x (f y)) → Along R xs ys → Along R xs (map f ys)
  then-mapped f t rest = rest
  then-mapped f t (one {x} {y} r a) = one (t x y r) (then-mapped f t a)

  -- the element at the place of one of the first
  at_place : {x : A} {xs ys : List A} → Along R xs ys → In x xs → (y : A) × In y ys × R x y
  at_place rest m = elim m [ ]
  at_place (one {y = y} r a) (Memᴰ.head e) = (y, Memᴰ.head refl, rw e r)
  at_place (one r a) (Memᴰ.tail m) = let w = at_place a m in (w.0, Memᴰ.tail w.1, w.2)

  -- as a test
  as-test : (p : A → A → Bool) {xs ys : List A} → ((x y : A) → In x xs → In y ys → R x y → p x y ≡ true) → Along R xs ys → along p xs ys ≡ true
  unfolding along
  as-test p t rest = refl
  as-test p t (one {x} {y} {xs} {ys} r a) =
      and_intro (p x y) (along p xs ys) (t x y (Memᴰ.head refl) (Memᴰ.head refl) r)
      (as-test p (λ v w m n. t v w (Memᴰ.tail m) (Memᴰ.tail n)) a)

-- ---- lives, before and after

record SameExporter (x x' : ExporterLife) : Type 0 where
  serial : x.serial ≡ x'.serial
  removed : x.removed ≡ true → x'.removed ≡ true

-- of an object that is gone no hearing is added
record SameObject (h : History) (o o' : ObjectLife) : Type 0 where
  serial : o.serial ≡ o'.serial
  exporter : o.exporter ≡ o'.exporter
  noping : o.noping ≡ o'.noping
  heard : object_gone h o ≡ true → o.heard ≡ o'.heard

record SameInterface (l l' : InterfaceLife) : Type 0 where
  ipid : l.ipid ≡ l'.ipid
  object : l.object ≡ l'.object
  zero : at_zero l ≡ true → at_zero l' ≡ true

-- of a set that is gone no ping is added
record SameSet (h : History) (s s' : SetLife) : Type 0 where
  number : s.number ≡ s'.number
  pinged : live_set h s ≡ false → s.pinged ≡ s'.pinged

-- l' was there, or belongs to no object that is gone
Origin : History → InterfaceLife → Type 0
Origin h l' =
    ((l : InterfaceLife) × In l h.interfaces × SameInterface l l')
    ⊎ ((o : ObjectLife) → In o h.objects → object_gone h o ≡ true → o.serial ≡ l'.object → ⊥)

record Later (h h' : History) : Type 0 where
  clock : h.clock ≤ h'.clock
  exporters : Along SameExporter h.exporters h'.exporters
  objects : Along (SameObject h) h.objects h'.objects
  interfaces : Along SameInterface h.interfaces h'.interfaces
  origins : (l : InterfaceLife) → In l h'.interfaces → Origin h l
  sets : Along (SameSet h) h.sets h'.sets

-- ---- what has gone

-- one of three reasons
reasons : (a b c : Bool) → (a || b || c) ≡ true → (a ≡ true) ⊎ ((b ≡ true) ⊎ (c ≡ true))
reasons true b c t = inl refl
reasons false true c t = inr (inl refl)
reasons false false c t = inr (inr t)

third : (a b c : Bool) → c ≡ true → (a || b || c) ≡ true
third true b c t = refl
third false true c t = refl
third false false c t = t

second : (a b c : Bool) → b ≡ true → (a || b || c) ≡ true
second true b c t = refl
second false b c t = ap (λ (x : Bool). x || c) t

first : (a b c : Bool) → a ≡ true → (a || b || c) ≡ true
first a b c t = ap (λ (x : Bool). x || b || c) t

late-later : (now then t : ℕ) → now ≤ then → leb 360 (now - t) ≡ true → leb 360 (then - t) ≡ true
late-later now then t h b = let l = leb-true 360 (now - t) b in le-leb 360 (then - t) (omega arith)

implied : (a b : Bool) → (a ≡ true → b ≡ true) → implies a b ≡ true
implied true b f = f refl
implied false b f = refl

module _ (h h' : History) (w : Later h h') where
  module _ (o o' : ObjectLife) (m : In o h.objects) (r : SameObject h o o') where
    -- its interfaces stay at zero
    zero-later : object_gone h o ≡ true → interfaces_at_zero h o ≡ true → interfaces_at_zero h' o' ≡ true
    unfolding Origin
    zero-later g t =
        in-every (λ (l : InterfaceLife). not (eqb l.object o'.serial) || at_zero l) h'.interfaces
        (λ l n.
        ⊎_elim
        (λ e. ⊎_elim
        (λ a. let z = every_in (λ (p : InterfaceLife). not (eqb p.object o.serial) || at_zero p) a.1 t in
        ap (λ (b : Bool). not (eqb l.object o'.serial) || b)
        (a.2.zero (own a.0.object o.serial (at_zero a.0) (a.2.object ∙ eqb-true l.object o'.serial e ∙ sym r.serial) z))
        ∙ or-true (not (eqb l.object o'.serial)))
        (λ a. absurd (a o m g (r.serial ∙ sym (eqb-true l.object o'.serial e))))
        (w.origins l n))
        (λ e. ap (λ (b : Bool). not b || at_zero l) e)
        (true-or-false (eqb l.object o'.serial)))
      where
        own : (a b : ℕ) (z : Bool) → a ≡ b → (not (eqb a b) || z) ≡ true → z ≡ true
        own a b z e t = cc (eq-eqb a b e, t)

    -- its exporter stays removed
    removed-later : exporter_removed h o ≡ true → exporter_removed h' o' ≡ true
    removed-later t =
        let x = some_in (λ (p : ExporterLife). eqb p.serial o.exporter && p.removed) h.exporters t in
        let y = at_place SameExporter w.exporters x.1 in
        let e = eqb-true x.0.serial o.exporter (and_left (eqb x.0.serial o.exporter) x.0.removed x.2) in
        in_some (λ (p : ExporterLife). eqb p.serial o'.exporter && p.removed) y.1
        (and_intro (eqb y.0.serial o'.exporter) y.0.removed
        (eq-eqb y.0.serial o'.exporter (sym y.2.serial ∙ e ∙ r.exporter))
        (y.2.removed (and_right (eqb x.0.serial o.exporter) x.0.removed x.2)))

    -- it stays unheard
    unheard-later : object_gone h o ≡ true → unheard h o ≡ true → unheard h' o' ≡ true
    unheard-later g t =
        and_intro (not o'.noping) (unheard_since h' o'.heard)
        (ap not (sym r.noping) ∙ and_left (not o.noping) (unheard_since h o.heard) t)
        (ap (unheard_since h') (sym (r.heard g))
        ∙ late-later h.clock h'.clock o.heard w.clock (and_right (not o.noping) (unheard_since h o.heard) t))

    gone-later : object_gone h o ≡ true → object_gone h' o' ≡ true
    gone-later g =
        ⊎_elim
        (λ a. first (interfaces_at_zero h' o') (exporter_removed h' o') (unheard h' o') (zero-later g a))
        (λ b. ⊎_elim
        (λ c. second (interfaces_at_zero h' o') (exporter_removed h' o') (unheard h' o') (removed-later c))
        (λ c. third (interfaces_at_zero h' o') (exporter_removed h' o') (unheard h' o') (unheard-later g c))
        b)
        (reasons (interfaces_at_zero h o) (exporter_removed h o) (unheard h o) g)

  -- an interface that is live was live
  interface-before : Kept h → Kept h' → (l l' : InterfaceLife) → In l h.interfaces → SameInterface l l' → live_interface h' l' ≡ true → live_interface h l ≡ true
  interface-before k k' l l' m r t =
      let own = k.owned l m in
      let o = own.life in
      let p = at_place (SameObject h) w.objects own.here in
      let f = some_in (λ (q : ObjectLife). eqb q.serial l'.object) (live_objects h') (and_right (not (at_zero l')) _ t) in
      let v = live-object h' f.1 in
      let same : p.0 ≡ f.0 =
      one_in eqb eqb-decides serial_of_object h'.objects k'.objects.differ p.1 v.0
      (sym p.2.serial ∙ own.named ∙ r.object ∙ sym (eqb-true f.0.serial l'.object f.2)) in
      let alive : object_gone h o ≡ false =
      ⊎_elim
      (λ g. absurd (true≢false (sym (gone-later o p.0 own.here p.2 g) ∙ ap (object_gone h') same ∙ v.1)))
      (λ g. g)
      (true-or-false (object_gone h o)) in
      let left : at_zero l ≡ false =
      ⊎_elim
      (λ z. absurd (true≢false (sym (r.zero z) ∙ not-true (at_zero l') (and_left (not (at_zero l')) _ t))))
      (λ z. z)
      (true-or-false (at_zero l)) in
      and_intro (not (at_zero l)) _ (ap not left)
      (in_some (λ (q : ObjectLife). eqb q.serial l.object) (in-keep (λ q. not (object_gone h q)) own.here (ap not alive)) (eq-eqb o.serial l.object own.named))

  -- a set that is live was live
  set-later : (s s' : SetLife) → SameSet h s s' → live_set h s ≡ false → live_set h' s' ≡ false
  set-later s s' r f = cc (r.pinged f, late-later h.clock h'.clock s.pinged w.clock (not-false-true (unheard_since h s.pinged) f))
    where
      not-false-true : (b : Bool) → not b ≡ false → b ≡ true
      not-false-true true t = refl
      not-false-true false t = absurd (true≢false t)

  later-gone : Kept h → Kept h' → stays_gone h h' ≡ true
  unfolding stays_gone
  later-gone k k' =
      (as-test SameExporter _ (λ x y m n r. and_intro (eqb x.serial y.serial) _ (eq-eqb _ _ r.serial) (implied x.removed y.removed r.removed)) w.exporters
      and as-test (SameObject h) _
      (λ x y m n r. and_intro (eqb x.serial y.serial) _ (eq-eqb _ _ r.serial) (implied (object_gone h x) (object_gone h' y) (gone-later x y m r)))
      w.objects
      and as-test SameInterface _
      (λ x y m n r. and_intro (same_guid x.ipid y.ipid) _ (same-eq same_guid guid-decides _ _ r.ipid)
      (implied (not (live_interface h x)) (not (live_interface h' y))
      (λ f. ⊎_elim
      (λ t. absurd (true≢false (sym (interface-before k k' x y m r t) ∙ not-true (live_interface h x) f)))
      (λ t. ap not t)
      (true-or-false (live_interface h' y)))))
      w.interfaces
      and as-test (SameSet h) _
      (λ x y m n r. and_intro (eqb x.number y.number) _ (eq-eqb _ _ r.number)
      (implied (not (live_set h x)) (not (live_set h' y)) (λ f. ap not (set-later x y r (not-true (live_set h x) f)))))
      w.sets
      and none).together

-- ---- the calls

-- lives that stay
exporter-stays : (x : ExporterLife) → SameExporter x x
exporter-stays x = record { serial = refl; removed = λ t. t }

object-stays : (h : History) (o : ObjectLife) → SameObject h o o
object-stays h o = record { serial = refl; exporter = refl; noping = refl; heard = λ g. refl }

interface-stays : (l : InterfaceLife) → SameInterface l l
interface-stays l = record { ipid = refl; object = refl; zero = λ z. z }

set-stays : (h : History) (s : SetLife) → SameSet h s s
set-stays h s = record { number = refl; pinged = λ f. refl }

module _ (h : History) where
  exporters-stay : Along SameExporter h.exporters h.exporters
  exporters-stay = itself SameExporter h.exporters exporter-stays

  objects-stay : Along (SameObject h) h.objects h.objects
  objects-stay = itself (SameObject h) h.objects (object-stays h)

  interfaces-stay : Along SameInterface h.interfaces h.interfaces
  interfaces-stay = itself SameInterface h.interfaces interface-stays

  origins-stay : (l : InterfaceLife) → In l h.interfaces → Origin h l
  unfolding Origin
  origins-stay l m = inl (l, m, interface-stays l)

  sets-stay : Along (SameSet h) h.sets h.sets
  sets-stay = itself (SameSet h) h.sets (set-stays h)

  later-self : Later h h
  later-self = record { clock = omega arith; exporters = exporters-stay; objects = objects-stay; interfaces = interfaces-stay; origins = origins-stay; sets = sets-stay }

  -- one more interface, of an object that is not gone
  origins-more : (n : InterfaceLife) → ((o : ObjectLife) → In o h.objects → object_gone h o ≡ true → o.serial ≡ n.object → ⊥)
      → (l : InterfaceLife) → In l (h.interfaces ++ (n ∷ [])) → Origin h l
  unfolding Origin
  origins-more n d l m = ⊎_elim (λ a. inl (l, a, interface-stays l)) (λ q. inr (λ o a g e. d o a g (e ∙ ap (λ (p : InterfaceLife). p.object) q))) (snoc-in h.interfaces m)

-- ---- counts

-- nothing but counts differs
record Recounted (h h' : History) : Type 0 where
  clock : h.clock ≡ h'.clock
  exporters : h.exporters ≡ h'.exporters
  objects : h.objects ≡ h'.objects
  sets : h.sets ≡ h'.sets
  interfaces : Along SameInterface h.interfaces h'.interfaces
  origins : (l' : InterfaceLife) → In l' h'.interfaces → (l : InterfaceLife) × In l h.interfaces × SameInterface l l'

recounted-self : (h : History) → Recounted h h
recounted-self h =
    record { clock = refl; exporters = refl; objects = refl; sets = refl; interfaces = interfaces-stay h; origins = λ l m. (l, m, interface-stays l) }

interface-then : {l m n : InterfaceLife} → SameInterface l m → SameInterface m n → SameInterface l n
interface-then a b = record { ipid = a.ipid ∙ b.ipid; object = a.object ∙ b.object; zero = λ z. b.zero (a.zero z) }

along_then : {ls ms ns : List InterfaceLife} → Along SameInterface ls ms → Along SameInterface ms ns → Along SameInterface ls ns
along_then rest b = rest
along_then (one r a) (one s b) = one (interface-then r s) (along_then a b)

recounted-then : (h g f : History) → Recounted h g → Recounted g f → Recounted h f
recounted-then h g f a b =
    record {
      clock = a.clock ∙ b.clock;
      exporters = a.exporters ∙ b.exporters;
      objects = a.objects ∙ b.objects;
      sets = a.sets ∙ b.sets;
      interfaces = along_then a.interfaces b.interfaces;
      origins = λ n i. let m = b.origins n i in let l = a.origins m.0 m.1 in (l.0, l.1, interface-then l.2 m.2);
    }

recounted-later : (h h' : History) → Recounted h h' → Later h h'
unfolding Origin
recounted-later h h' r =
    let c = r.clock in
    record {
      clock = omega arith;
      exporters = subst (Along SameExporter h.exporters) r.exporters (exporters-stay h);
      objects = subst (Along (SameObject h) h.objects) r.objects (objects-stay h);
      interfaces = r.interfaces;
      origins = λ l m. inl (r.origins l m);
      sets = subst (Along (SameSet h) h.sets) r.sets (sets-stay h);
    }

module _ (h : History) where
  module _ (meant : Guid → Bool) (f : InterfaceLife → InterfaceLife) (a : (l : InterfaceLife) → l.ipid ≡ (f l).ipid) (b : (l : InterfaceLife) → l.object ≡ (f l).object) where
    counted : InterfaceLife → InterfaceLife
    counted l = cond (meant l.ipid && live_interface h l) (f l) l

    counted_same : (l : InterfaceLife) → SameInterface l (counted l)
    unfolding counted
    counted_same l =
        by-test (SameInterface l) (meant l.ipid && live_interface h l) (f l) l
        (λ t.
        let alive = and_left (not (at_zero l)) _ (and_right (meant l.ipid) (live_interface h l) t) in
        record { ipid = a l; object = b l; zero = λ z. absurd (true≢false (sym alive ∙ ap not z)) })
        (λ t. interface-stays l)

    counts-recounted : Recounted h (at_live_interfaces meant f h)
    unfolding counted
    counts-recounted =
        record {
          clock = refl;
          exporters = refl;
          objects = refl;
          sets = refl;
          interfaces = mapped SameInterface counted h.interfaces (λ l m. counted_same l);
          origins = λ l m. let r = map-in counted h.interfaces m in (r.0, r.1, subst (SameInterface r.0) (sym r.2) (counted_same r.0));
        }

    counts-later : Later h (at_live_interfaces meant f h)
    counts-later = recounted-later h _ counts-recounted

  -- ---- pings

  module _ (k n : ℕ) (ss : List SetLife) (c : Along (SameSet h) h.sets ss) where
    abbrev changed_sets : History
    changed_sets = with_set_lives n ss h

    abbrev hearing : ObjectLife → ObjectLife
    hearing o = cond (is_member changed_sets k o && not (object_gone h o)) (heard_life h.clock o) o

    hearing-same : (o : ObjectLife) → SameObject h o (hearing o)
    hearing-same o =
        by-test (SameObject h o) (is_member changed_sets k o && not (object_gone h o)) (heard_life h.clock o) o
        (λ t.
        let alive = and_right (is_member changed_sets k o) (not (object_gone h o)) t in
        record { serial = refl; exporter = refl; noping = refl; heard = λ g. absurd (true≢false (sym alive ∙ ap not g)) })
        (λ t. object-stays h o)

    abbrev pinging : SetLife → SetLife
    pinging s = cond (eqb k s.number && live_set h s) (pinged_life h.clock s) s

    pinging-same : (s t : SetLife) → SameSet h s t → SameSet h s (pinging t)
    pinging-same s t r =
        by-test (SameSet h s) (eqb k t.number && live_set h t) (pinged_life h.clock t) t
        (λ q.
        let alive = and_right (eqb k t.number) (live_set h t) q in
        record {
          number = r.number;
          pinged = λ f. absurd (true≢false (sym alive ∙ ap (λ (p : ℕ). not (unheard_since h p)) (sym (r.pinged f)) ∙ f));
        })
        (λ q. r)

    ping-later : Later h (ping_lives k changed_sets)
    ping-later =
        record {
          clock = omega arith;
          exporters = exporters-stay h;
          objects = mapped (SameObject h) hearing h.objects (λ o m. hearing-same o);
          interfaces = interfaces-stay h;
          origins = origins-stay h;
          sets = then-mapped (SameSet h) pinging pinging-same c;
        }

  -- a set changed by a complex ping
  module _ (k n : ℕ) (adds dels : List ℕ) where
    changing : SetLife → SetLife
    changing s = cond (eqb k s.number && live_set h s) (changed n adds dels s) s

    changing-same : (s : SetLife) → SameSet h s (changing s)
    unfolding changing
    changing-same s =
        by-test (SameSet h s) (eqb k s.number && live_set h s) (changed n adds dels s) s (λ q. record { number = refl; pinged = λ f. refl }) (λ q. set-stays h s)

    complex-later : (new : Bool) → Later h (ping_lives k (at_live_set k (changed n adds dels) (cond new (start_set h) h)))
    unfolding changing
    complex-later true =
        ping-later k (h.next + 1) (map changing (h.sets ++ (new_set ∷ [])))
        (rw (map-append changing h.sets (new_set ∷ [])) (more (SameSet h) (changing new_set) (mapped (SameSet h) changing h.sets (λ s m. changing-same s))))
      where
        new_set : SetLife
        new_set = record { number = h.next; sequence = 0; pinged = h.clock; members = [] }
    complex-later false = ping-later k h.next (map changing h.sets) (mapped (SameSet h) changing h.sets (λ s m. changing-same s))

-- a removal
removal-later : (h : History) (x : ℕ) → Later h (lived (editing (remove_exporter x)) h)
unfolding lived
removal-later h x =
    record {
      clock = omega arith;
      exporters = mapped SameExporter (λ (p : ExporterLife). cond (eqb x p.oxid) (removed_life p) p) h.exporters
          (λ p m. record {
            serial = by-test (λ (q : ExporterLife). p.serial ≡ q.serial) (eqb x p.oxid) (removed_life p) p (λ t. refl) (λ t. refl);
            removed = λ r. by-test (λ (q : ExporterLife). q.removed ≡ true) (eqb x p.oxid) (removed_life p) p (λ t. refl) (λ t. r);
          });
      objects = objects-stay h;
      interfaces = interfaces-stay h;
      origins = origins-stay h;
      sets = sets-stay h;
    }

-- an item's counts, and the items
count-recounted : (w : Counting) (c : ℕ) (i : Guid) (p q : ℕ) (h : History) → Recounted h (count_lived w c i p q h)
count-recounted adding c i p q h = counts-recounted h (same_guid i) (at_accounts c (granting p) (granting q)) (λ l. refl) (λ l. refl)
count-recounted releasing c i p q h = counts-recounted h (same_guid i) (at_accounts c (taking p) (taking q)) (λ l. refl) (λ l. refl)

items-recounted : (w : Counting) (c : ℕ) (ts : List Item) (h : History) → Recounted h (items_fed w c ts h)
unfolding items_fed
items-recounted w c [] h = recounted-self h
items-recounted w c (t ∷ ts) h =
    recounted-then h (item_fed w c t h) _
    (by-test (Recounted h) (eqb (number (item_call w c t) (live h)) 0) _ h (λ a. count-recounted w c t.ipid t.public t.private h) (λ a. recounted-self h))
    (items-recounted w c ts (item_fed w c t h))

-- every accepted call but one that begins a history
later : (c : Call) (h : History) → Kept h → begins c ≡ false → number c (live h) ≡ 0 → Later h (lived c h)
unfolding lived
later (starting s) h k b a = absurd (true≢false b)
later (editing (enter_exporter x u l)) h k b a =
    record {
      clock = omega arith;
      exporters = more SameExporter _ (exporters-stay h);
      objects = objects-stay h;
      interfaces = interfaces-stay h;
      origins = origins-stay h;
      sets = sets-stay h;
    }
later (editing (remove_exporter x)) h k b a = removal-later h x
later (editing (enter_object o x i iid n np)) h k b a =
    record {
      clock = omega arith;
      exporters = exporters-stay h;
      objects = more (SameObject h) _ (objects-stay h);
      interfaces = more SameInterface _ (interfaces-stay h);
      origins = origins-more h _ (λ p m g e. let l = k.objects.below p m in omega arith);
      sets = sets-stay h;
    }
later (editing (enter_interface o i iid n)) h k b a =
    record {
      clock = omega arith;
      exporters = exporters-stay h;
      objects = objects-stay h;
      interfaces = more SameInterface _ (interfaces-stay h);
      origins = origins-more h _
          (λ p m g e.
          let f = found-object h k o (interface-accepted (live h) o i iid n a).0 in
          let v = live-object h f.1.here in
          let s = ap (λ (q : ObjectLife). q.serial) (first-sole (λ (q : ObjectLife). eqb o q.oid) no_object_life f.1) in
          true≢false (sym g ∙ ap (object_gone h) (one_in eqb eqb-decides serial_of_object h.objects k.objects.differ m v.0 (e ∙ s)) ∙ v.1));
      sets = sets-stay h;
    }
later (editing (add c i p q)) h k b a = counts-later h (same_guid i) (at_accounts c (granting p) (granting q)) (λ l. refl) (λ l. refl)
later (editing (release c i p q)) h k b a = counts-later h (same_guid i) (at_accounts c (taking p) (taking q)) (λ l. refl) (λ l. refl)
later (editing (drop_client c)) h k b a = counts-later h any_ipid (at_account (suc c) taking_all) (λ l. refl) (λ l. refl)
later (count_list w c s l) h k b a = recounted-later h _ (items-recounted w c (items_of s) h)
later (editing (simple_ping s)) h k b a = ping-later h s h.next h.sets (sets-stay h)
later (editing (complex_ping s n adds dels)) h k b a = complex-later h (cond (eqb s 0) h.next s) n (object_serials h adds) (object_serials h dels) (eqb s 0)
later (editing (clock t)) h k b a =
    let z : h.clock ≤ t = rw (clock-live h) at (clock-accepted (live h) t a) in
    record { clock = z; exporters = exporters-stay h; objects = objects-stay h; interfaces = interfaces-stay h; origins = origins-stay h; sets = sets-stay h }
later (looking l) h k b a = later-self h

-- ---- of the history of any calls

-- what holds of every history holds of it
pub kept-all : (h : History) → Kept h → (cs : List Call) → Kept (feed_all h cs)
unfolding feed_all
kept-all h k [] = k
kept-all h k (c ∷ cs) = kept-all (feed h c) (fed c h k).kept cs

-- one call more
call-gone : (h : History) → Kept h → (c : Call) → (begins c && eqb (number c (live h)) 0) ≡ false → stays_gone h (feed h c) ≡ true
unfolding feed
call-gone h k c t =
    by-test (λ (g : History). stays_gone h g ≡ true) (eqb (number c (live h)) 0) (lived c h) h
    (λ a. let n = eqb-true (number c (live h)) 0 a in later-gone h (lived c h) (later c h k (accepted (begins c) _ a t) n) k (step c h k n).kept)
    (λ a. later-gone h h (later-self h) k k)
  where
    accepted : (a b : Bool) → b ≡ true → (a && b) ≡ false → a ≡ false
    accepted true b t f = absurd (true≢false (sym t ∙ f))
    accepted false b t f = refl

-- ---- over more than one call

implies-then : (a b c : Bool) → implies a b ≡ true → implies b c ≡ true → implies a c ≡ true
implies-then true true c f g = g
implies-then true false c f g = absurd (true≢false (sym f))
implies-then false b c f g = refl

-- the same life, which stays gone
life-then : {A : Type 0} (same : A → A → Bool) → Decides same → (x y z : A) (a b c : Bool)
    → (same x y && implies a b) ≡ true → (same y z && implies b c) ≡ true → (same x z && implies a c) ≡ true
life-then same dec x y z a b c f g =
    and_intro (same x z) (implies a c)
    (same-eq same dec x z (dec.sound x y (and_left (same x y) (implies a b) f) ∙ dec.sound y z (and_left (same y z) (implies b c) g)))
    (implies-then a b c (and_right (same x y) (implies a b) f) (and_right (same y z) (implies b c) g))

along-on : {A : Type 0} (p q r : A → A → Bool) → ((x y z : A) → p x y ≡ true → q y z ≡ true → r x z ≡ true)
    → (xs ys zs : List A) → along p xs ys ≡ true → along q ys zs ≡ true → along r xs zs ≡ true
unfolding along
along-on p q r t [] ys zs a b = refl
along-on p q r t (x ∷ xs) [] zs a b = absurd (true≢false (sym a))
along-on p q r t (x ∷ xs) (y ∷ ys) [] a b = absurd (true≢false (sym b))
along-on p q r t (x ∷ xs) (y ∷ ys) (z ∷ zs) a b =
    and_intro (r x z) (along r xs zs)
    (t x y z (and_left (p x y) (along p xs ys) a) (and_left (q y z) (along q ys zs) b))
    (along-on p q r t xs ys zs (and_right (p x y) (along p xs ys) a) (and_right (q y z) (along q ys zs) b))

abbrev exporter_stays : ExporterLife → ExporterLife → Bool
exporter_stays x x' = eqb x.serial x'.serial && implies x.removed x'.removed

abbrev object_stays : History → History → ObjectLife → ObjectLife → Bool
object_stays h h' o o' = eqb o.serial o'.serial && implies (object_gone h o) (object_gone h' o')

abbrev interface_stays : History → History → InterfaceLife → InterfaceLife → Bool
interface_stays h h' l l' = same_guid l.ipid l'.ipid && implies (not (live_interface h l)) (not (live_interface h' l'))

abbrev set_stays : History → History → SetLife → SetLife → Bool
set_stays h h' s s' = eqb s.number s'.number && implies (not (live_set h s)) (not (live_set h' s'))

record Stays (h h' : History) : Type 0 where
  exporters : along exporter_stays h.exporters h'.exporters ≡ true
  objects : along (object_stays h h') h.objects h'.objects ≡ true
  interfaces : along (interface_stays h h') h.interfaces h'.interfaces ≡ true
  sets : along (set_stays h h') h.sets h'.sets ≡ true

stays-fields : (h h' : History) → stays_gone h h' ≡ true → Stays h h'
unfolding stays_gone holding
stays-fields h h' s =
    let a = and_right (along exporter_stays h.exporters h'.exporters) _ s in
    let b = and_right (along (object_stays h h') h.objects h'.objects) _ a in
    let c = and_right (along (interface_stays h h') h.interfaces h'.interfaces) _ b in
    record { exporters = and_left _ _ s; objects = and_left _ _ a; interfaces = and_left _ _ b; sets = and_left _ _ c }

stays-made : (h h' : History) → Stays h h' → stays_gone h h' ≡ true
unfolding stays_gone
stays-made h h' s = (s.exporters and s.objects and s.interfaces and s.sets and none).together

stays_then : (h h' h'' : History) → stays_gone h h' ≡ true → stays_gone h' h'' ≡ true → stays_gone h h'' ≡ true
stays_then h h' h'' s t =
    let a = stays-fields h h' s in
    let b = stays-fields h' h'' t in
    stays-made h h''
    (record {
      exporters = along-on exporter_stays exporter_stays exporter_stays (λ x y z. life-then eqb eqb-decides x.serial y.serial z.serial x.removed y.removed z.removed)
          h.exporters h'.exporters h''.exporters a.exporters b.exporters;
      objects = along-on (object_stays h h') (object_stays h' h'') (object_stays h h'')
          (λ x y z. life-then eqb eqb-decides x.serial y.serial z.serial (object_gone h x) (object_gone h' y) (object_gone h'' z))
          h.objects h'.objects h''.objects a.objects b.objects;
      interfaces = along-on (interface_stays h h') (interface_stays h' h'') (interface_stays h h'')
          (λ x y z. life-then same_guid guid-decides x.ipid y.ipid z.ipid (not (live_interface h x)) (not (live_interface h' y)) (not (live_interface h'' z)))
          h.interfaces h'.interfaces h''.interfaces a.interfaces b.interfaces;
      sets = along-on (set_stays h h') (set_stays h' h'') (set_stays h h'')
          (λ x y z. life-then eqb eqb-decides x.number y.number z.number (not (live_set h x)) (not (live_set h' y)) (not (live_set h'' z)))
          h.sets h'.sets h''.sets a.sets b.sets;
    })

calls-gone : (h : History) → Kept h → (ds : List Call) → none_begins h ds ≡ true → stays_gone h (feed_all h ds) ≡ true
unfolding feed_all none_begins
calls-gone h k [] b = later-gone h h (later-self h) k k
calls-gone h k (d ∷ ds) b =
    stays_then h (feed h d) (feed_all (feed h d) ds)
    (call-gone h k d (not-true (begins d && eqb (number d (live h)) 0) (and_left (not (begins d && eqb (number d (live h)) 0)) (none_begins (feed h d) ds) b)))
    (calls-gone (feed h d) (fed d h k).kept ds (and_right (not (begins d && eqb (number d (live h)) 0)) (none_begins (feed h d) ds) b))

-- what has gone stays gone
pub stays-gone : StaysGone
stays-gone cs ds b =
    subst (λ (g : History). stays_gone (history_of cs) g ≡ true) (sym (feed-append unbegun cs ds)) (calls-gone (history_of cs) (kept-all _ (kept_fresh 0) cs) ds b)
