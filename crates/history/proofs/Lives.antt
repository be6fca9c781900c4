-- What holds of every history, and what of it a call that enters nothing keeps.
use Prim.Native.Nat.{ℕ, ◌+◌, ◌<◌, ◌≤◌}
use mathlib.Core.Path.{◌≡◌, sym, ap, ◌∙◌}
use mathlib.Core.Bool.{true, Bool, ◌&&◌}
use mathlib.Core.List.Memᴰ
use mathlib.Core.List.{List, [], ◌∷◌, ◌++◌, map}
use mathlib.Core.Logic.{⊎_elim}
use native.Mathlib.Omega.{arith}
use borrow.Author.Tests.{ne_eqb, le-leb}
use lib.ListN.{length, length-map, length-append, replicate}
use lib.Dec.{eqb, leb}
use Rattle.lists.specs.Lists.{first_or, distinct, every}
use Rattle.kinds.specs.declared.Guid.{Guid}
use Rattle.lists.proofs.Lists.{map-append, map-map}
use Rattle.lists.proofs.Distinct.{eqb-decides, distinct_snoc}
use Rattle.rules.specs.Sound.{sound}
use Rattle.history.specs.History.{ExporterLife, ObjectLife, InterfaceLife, SetLife, History, live_objects, live, heard_life, Account, no_account, entered_interface}
use Rattle.lists.proofs.Elements.{In, map-in, snoc-in, in-none, Sole, first-sole, sole-by}

-- ---- serial numbers

-- they are distinct, and below the number of lives
pub record Serials {A : Type 0} (serial : A → ℕ) (xs : List A) : Type 0 where
  pub differ : distinct eqb (map serial xs) ≡ true
  pub below : (x : A) → In x xs → serial x < length xs

-- a life with this serial
pub record Named {A : Type 0} (serial : A → ℕ) (xs : List A) (n : ℕ) : Type 0 where
  pub life : A
  pub here : In life xs
  pub named : serial life ≡ n

module _ {A : Type 0} (f : A → ℕ) where
  -- one more life
  pub serials-snoc : (xs : List A) (x : A) → Serials f xs → f x ≡ length xs → Serials f (xs ++ (x ∷ []))
  serials-snoc xs x s e =
      let l : length (xs ++ (x ∷ [])) ≡ length xs + 1 = length-append xs (x ∷ []) in
      record {
        differ =
            ap (distinct eqb) (map-append f xs (x ∷ []))
            ∙ distinct_snoc eqb eqb-decides (map f xs) (f x) s.differ
            (in-none (eqb (f x)) (map f xs)
            (λ n m. let r = map-in f xs m in let b = s.below r.0 r.1 in ne_eqb (f x) n (λ q. let z = r.2 in omega arith)));
        below = λ y m. ⊎_elim (λ n. let b = s.below y n in omega arith) (λ q. let z : f y ≡ f x = ap f q in omega arith) (snoc-in xs m);
      }

  -- a serial that is named stays named
  pub named-snoc : {xs : List A} {n : ℕ} (x : A) → Named f xs n → Named f (xs ++ (x ∷ [])) n
  named-snoc x r = record { life = r.life; here = Memᴰ.append_left (x ∷ []) r.here; named = r.named }

  -- lives with the same serials
  pub serials-same : {xs ys : List A} → map f ys ≡ map f xs → Serials f xs → Serials f ys
  serials-same {xs} {ys} e s =
      let l : length ys ≡ length xs = sym (length-map ys f) ∙ ap length e ∙ length-map xs f in
      record {
        differ = ap (distinct eqb) e ∙ s.differ;
        below = λ y m. let r = map-in f xs (rw e at (Memᴰ.map f m)) in let b = s.below r.0 r.1 in let z = r.2 in omega arith;
      }

  -- a serial that is named stays named
  pub named-same : {xs ys : List A} {n : ℕ} → map f ys ≡ map f xs → Named f xs n → Named f ys n
  named-same {xs} {ys} {n} e r =
      let q = map-in f ys (rw (sym e) at (Memᴰ.map f r.here)) in record { life = q.0; here = q.1; named = sym q.2 ∙ r.named }

  -- it is the only one
  pub named-sole : {xs : List A} {n : ℕ} → Serials f xs → (r : Named f xs n) → Sole (λ y. eqb (f y) n) xs r.life
  named-sole {xs} {n} s r = sole-by eqb eqb-decides f n s.differ r.here r.named

  -- it is found by its serial
  pub life-found : {xs : List A} {n : ℕ} (d : A) → Serials f xs → (r : Named f xs n) → first_or d (λ y. eqb (f y) n) xs ≡ r.life
  life-found {xs} {n} d s r = first-sole (λ y. eqb (f y) n) d (named-sole s r)

  -- also among one more
  pub life-found-snoc : (d : A) (xs : List A) (x : A) (n : ℕ) → Serials f xs → f x ≡ length xs → Named f xs n
      → first_or d (λ y. eqb (f y) n) (xs ++ (x ∷ [])) ≡ first_or d (λ y. eqb (f y) n) xs
  life-found-snoc d xs x n s e r =
      cc (first-sole (λ y. eqb (f y) n) d (sole-by eqb eqb-decides f n (serials-snoc xs x s e).differ (Memᴰ.append_left (x ∷ []) r.here) r.named), life-found d s r)

-- ---- what holds of every history

-- no more was taken than granted
abbrev pub covered : Account → Bool
covered a = leb a.taken a.granted

pub record Bounded (l : InterfaceLife) : Type 0 where
  pub each : every covered l.accounts ≡ true

-- of an interface that is entered
pub bounded-entered : (i iid : Guid) (o n : ℕ) → Bounded (entered_interface i iid o n)
unfolding every
bounded-entered i iid o n = record { each = ap (λ (b : Bool). b && every covered (replicate 8 no_account)) (le-leb 0 n (omega arith)) }

-- an object life without its last hearing
abbrev pub still : ObjectLife → ObjectLife
still o = heard_life 0 o

-- the serials of the two kinds of lives that others name
abbrev pub serial_of_exporter : ExporterLife → ℕ
serial_of_exporter x = x.serial

abbrev pub serial_of_object : ObjectLife → ℕ
serial_of_object o = o.serial

-- the invariant
pub record Kept (h : History) : Type 0 where
  pub exporters : Serials serial_of_exporter h.exporters
  pub objects : Serials serial_of_object h.objects
  pub exported : (o : ObjectLife) → In o h.objects → Named serial_of_exporter h.exporters o.exporter
  pub owned : (l : InterfaceLife) → In l h.interfaces → Named serial_of_object h.objects l.object
  pub bounded : (l : InterfaceLife) → In l h.interfaces → Bounded l
  pub members : (s : SetLife) → In s h.sets → (k : ℕ) → In k s.members → k < length h.objects
  -- a life that is live has no later one with its OID
  pub latest : (o p : ObjectLife) → In o (live_objects h) → In p h.objects → o.oid ≡ p.oid → p.serial ≤ o.serial
  pub sound : sound (live h) ≡ true

-- a call that enters no exporter, object or interface
pub kept_from : (h h' : History) → Kept h
    → map serial_of_exporter h'.exporters ≡ map serial_of_exporter h.exporters
    → map still h'.objects ≡ map still h.objects
    → map (λ (l : InterfaceLife). l.object) h'.interfaces ≡ map (λ (l : InterfaceLife). l.object) h.interfaces
    → ((l : InterfaceLife) → In l h'.interfaces → Bounded l)
    → ((s : SetLife) → In s h'.sets → (k : ℕ) → In k s.members → k < length h.objects)
    → ((o : ObjectLife) → In o (live_objects h') → In (still o) (map still (live_objects h)))
    → sound (live h') ≡ true
    → Kept h'
kept_from h h' k a b c bounded members alive s =
    record {
      exporters = serials-same serial_of_exporter a k.exporters;
      objects = serials-same serial_of_object ids k.objects;
      exported = λ o m. let r = map-in still h.objects (rw b at (Memᴰ.map still m)) in
          named-same serial_of_exporter a (rw (ap (λ (q : ObjectLife). q.exporter) (sym r.2)) at (k.exported r.0 r.1));
      owned = λ l m. let r = map-in (λ (q : InterfaceLife). q.object) h.interfaces (rw c at (Memᴰ.map (λ (q : InterfaceLife). q.object) m)) in
          named-same serial_of_object ids (rw (sym r.2) at (k.owned r.0 r.1));
      bounded = bounded;
      members = λ t m j n. let q = members t m j n in let l = lengths in omega arith;
      latest = λ o p m n e.
          let r = map-in still (live_objects h) (alive o m) in
          let w = map-in still h.objects (rw b at (Memᴰ.map still n)) in
          let ro : o.oid ≡ r.0.oid = ap (λ (q : ObjectLife). q.oid) r.2 in
          let rs : o.serial ≡ r.0.serial = ap (λ (q : ObjectLife). q.serial) r.2 in
          let wo : p.oid ≡ w.0.oid = ap (λ (q : ObjectLife). q.oid) w.2 in
          let ws : p.serial ≡ w.0.serial = ap (λ (q : ObjectLife). q.serial) w.2 in
          let z = k.latest r.0 w.0 r.1 w.1 (sym ro ∙ e ∙ wo) in omega arith;
      sound = s;
    }
  where
    lengths : length h'.objects ≡ length h.objects
    lengths = sym (length-map h'.objects still) ∙ ap length b ∙ length-map h.objects still

    ids : map serial_of_object h'.objects ≡ map serial_of_object h.objects
    ids = cc (map-map serial_of_object still h'.objects, b, map-map serial_of_object still h.objects)
