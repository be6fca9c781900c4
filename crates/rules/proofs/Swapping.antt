-- Swapping a box: what is read of bytes fits, what is written is bytes, and a load accepts exactly the snapshots of sound entries.
use Prim.Native.Nat.{ℕ, zero, suc, ◌+◌, ◌*◌, ◌/◌, ◌%◌, ◌^◌, ◌<◌}
use mathlib.Core.Path.{◌≡◌, refl, sym, ap, subst, ◌∙◌}
use mathlib.Core.Bool.{true, cond}
use mathlib.Core.List.Memᴰ
use mathlib.Core.List.{List, [], ◌∷◌, ◌++◌, append_assoc}
use mathlib.Core.Logic.{⊎_elim}
use native.Mathlib.Omega.{arith}
use borrow.Author.Tests.{eq-eqb, ltb-true, lt-ltb}
use lib.ListN.{length, get_or, drop, length-take, get_or-eq_default}
use lib.Dec.{eqb, ltb}
use Rattle.kinds.specs.declared.Guid.{Guid}
use Rattle.fields.specs.Fields.{encode, field, guid_bytes, Bytes}
use Rattle.fields.proofs.Fields.{drop-bytes, take-bytes, field_bound, guid-fits}
use Rattle.bindings.specs.Bindings.{joined, same_words}
use Rattle.bindings.proofs.Filtering.{same_lists}
use Rattle.lists.specs.Lists.{every}
use Rattle.lists.proofs.Tests.{below_or_not, and_intro}
use Rattle.lists.proofs.Lists.{every-at, every_append, every-from-at, length-tabulate}
use Rattle.lists.proofs.Elements.{tabulate-in}
use Rattle.rules.specs.Entries.{Exporter, Object, Interface, PingSet, Entries, Ordered}
use Rattle.rules.specs.Sound.{sound}
use Rattle.rules.specs.Snapshot.{sorted, in_row, section, exporter_bytes, object_bytes, interface_bytes, set_bytes, sections, snapshot_bytes, Front, read_row}
use Rattle.rules.specs.Snapshot.{read_section, read_number, read_exporter, read_object, read_interface, read_set, entries_of, placed, all_bytes, is_snapshot}
use Rattle.rules.specs.Swapping.{Each, ExporterFits, ObjectFits, InterfaceFits, SetFits, Fits, OneForm, SoundSnapshot, Loads, Swaps, LoadsOrdered}
use Rattle.rules.proofs.SoundLaws.{clause-at, none, ◌and◌}
use Rattle.rules.proofs.SnapshotReading.{encoded-front, reads-back}
use Rattle.rules.proofs.SnapshotSorting.{sorted-fits, sorted-placed, sorted-ordered, sorted-sound, sorted-once}

-- ---- bytes, as a test

pub bytes-every : (s : List ℕ) → Bytes s → all_bytes s ≡ true
bytes-every s b = every-from-at (λ (k : ℕ). ltb k 256) 0 s (λ j h. lt-ltb (get_or s j 0) 256 (b j))

pub every-bytes : (s : List ℕ) → all_bytes s ≡ true → Bytes s
every-bytes s t i =
    ⊎_elim
    (λ b. ltb-true (get_or s i 0) 256 (every-at (λ (k : ℕ). ltb k 256) s 0 i b t))
    (λ b. let z : get_or s i 0 ≡ 0 = get_or-eq_default s 0 {n = i} b in omega arith)
    (below_or_not i (length s))

-- ---- what is read of bytes fits

-- what one reads of bytes is of P, and leaves bytes
record Proper {A : Type 0} (one : List ℕ → Front A) (P : A → Type 0) : Type 0 where
  value : (s : List ℕ) → Bytes s → P (one s).value
  rest : (s : List ℕ) → Bytes s → Bytes (one s).rest

module _ {A : Type 0} {one : List ℕ → Front A} {P : A → Type 0} (p : Proper one P) where
  row-rest : (n : ℕ) (s : List ℕ) → Bytes s → Bytes (read_row one n s).rest
  unfolding read_row
  row-rest zero s b = b
  row-rest (suc n) s b = row-rest n (one s).rest (p.rest s b)

  row-values : (n : ℕ) (s : List ℕ) → Bytes s → Each P (read_row one n s).value
  unfolding read_row
  row-values zero s b x m = absurd (Memᴰ.not-nil m)
  row-values (suc n) s b x (Memᴰ.head e) = rw e (p.value s b)
  row-values (suc n) s b x (Memᴰ.tail m) = row-values n (one s).rest (p.rest s b) x m

  section-rest : (s : List ℕ) → Bytes s → Bytes (read_section one s).rest
  section-rest s b = row-rest (field s 0 2) (drop 2 s) (drop-bytes s 2 b)

  section-values : (s : List ℕ) → Bytes s → Each P (read_section one s).value
  section-values s b = row-values (field s 0 2) (drop 2 s) (drop-bytes s 2 b)

-- as many are read as the count says
pub length-row : {A : Type 0} (one : List ℕ → Front A) (n : ℕ) (s : List ℕ) → length (read_row one n s).value ≡ n
unfolding read_row
length-row one zero s = refl
length-row one (suc n) s = ap suc (length-row one n (one s).rest)

number-proper : Proper read_number (λ k. k < 2 ^ 64)
unfolding read_number
number-proper = record { value = λ s b. field_bound s 0 8 b; rest = λ s b. drop-bytes s 8 b }

exporter-proper : Proper read_exporter ExporterFits
unfolding read_exporter
exporter-proper =
    record {
      value = λ s b.
          let n : field s 24 2 < 2 ^ 16 = field_bound s 24 2 b in
          let l = length-take (field s 24 2) (drop 26 s) in
          record {
            oxid = field_bound s 0 8 b;
            unknown = guid-fits s 8 b;
            size = omega arith;
            bytes = take-bytes (field s 24 2) (drop 26 s) (drop-bytes s 26 b);
          };
      rest = λ s b. drop-bytes (drop 26 s) (field s 24 2) (drop-bytes s 26 b);
    }

object-proper : Proper read_object ObjectFits
unfolding read_object
object-proper =
    record {
      value = λ s b. record { oid = field_bound s 0 8 b; exporter = field_bound s 8 8 b; heard = field_bound s 17 8 b };
      rest = λ s b. drop-bytes s 25 b;
    }

interface-proper : Proper read_interface InterfaceFits
unfolding read_interface
interface-proper =
    record {
      value = λ s b.
          record {
            ipid = guid-fits s 0 b;
            iid = guid-fits s 16 b;
            object = field_bound s 32 8 b;
            nine = length-tabulate 9 (λ k. field s (40 + 4 * k) 4);
            counts = λ n m. let r = tabulate-in 9 (λ k. field s (40 + 4 * k) 4) m in rw r.2 (field_bound s (40 + 4 * r.0) 4 b);
          };
      rest = λ s b. drop-bytes s 76 b;
    }

set-proper : Proper read_set SetFits
unfolding read_set
set-proper =
    record {
      value = λ s b.
          let l = length-row read_number (field (drop 18 s) 0 2) (drop 2 (drop 18 s)) in
          let n : field (drop 18 s) 0 2 < 2 ^ 16 = field_bound (drop 18 s) 0 2 (drop-bytes s 18 b) in
          record {
            number = field_bound s 0 8 b;
            sequence = field_bound s 8 2 b;
            pinged = field_bound s 10 8 b;
            size = omega arith;
            members = section-values number-proper (drop 18 s) (drop-bytes s 18 b);
          };
      rest = λ s b. section-rest number-proper (drop 18 s) (drop-bytes s 18 b);
    }

-- a number of a list of small ones
pub small_at : (ns : List ℕ) (i : ℕ) → Each (λ k. k < 2 ^ 64) ns → get_or ns i 0 < 2 ^ 64
small_at [] i h = omega arith
small_at (n ∷ ns) zero h = h n (Memᴰ.head refl)
small_at (n ∷ ns) (suc i) h = small_at ns i (λ k m. h k (Memᴰ.tail m))

pub read_fits : (s : List ℕ) → Bytes s → placed (entries_of s) ≡ true → Fits (entries_of s)
unfolding entries_of
read_fits s b p =
    let n : Front (List ℕ) = read_section read_number s in
    let x : Front (List Exporter) = read_section read_exporter n.rest in
    let o : Front (List Object) = read_section read_object x.rest in
    let i : Front (List Interface) = read_section read_interface o.rest in
    let b1 = section-rest number-proper s b in
    let b2 = section-rest exporter-proper n.rest b1 in
    let b3 = section-rest object-proper x.rest b2 in
    let b4 = section-rest interface-proper o.rest b3 in
    record {
      clock = small_at n.value 0 (section-values number-proper s b);
      next = small_at n.value 1 (section-values number-proper s b);
      exporters = section-values exporter-proper n.rest b1;
      objects = section-values object-proper x.rest b2;
      interfaces = section-values interface-proper o.rest b3;
      sets = section-values set-proper i.rest b4;
      places = p;
    }

-- ---- what is written is bytes

append-all : (xs ys : List ℕ) → all_bytes xs ≡ true → all_bytes ys ≡ true → all_bytes (xs ++ ys) ≡ true
append-all xs ys a b = every_append (λ (k : ℕ). ltb k 256) xs ys ∙ and_intro (all_bytes xs) (all_bytes ys) a b

encode-all : (w n : ℕ) → all_bytes (encode w n) ≡ true
unfolding every encode
encode-all zero n = refl
encode-all (suc w) n = and_intro (ltb (n % 256) 256) (all_bytes (encode w (n / 256))) (lt-ltb (n % 256) 256 (omega arith)) (encode-all w (n / 256))

guid-all : (g : Guid) → all_bytes (guid_bytes g) ≡ true
guid-all g = append-all (encode 8 g.low) (encode 8 g.high) (encode-all 8 g.low) (encode-all 8 g.high)

row-all : {A : Type 0} (bytes : A → List ℕ) (xs : List A) → Each (λ x. all_bytes (bytes x) ≡ true) xs → all_bytes (in_row bytes xs) ≡ true
unfolding in_row every
row-all bytes [] h = refl
row-all bytes (x ∷ xs) h = append-all (bytes x) (in_row bytes xs) (h x (Memᴰ.head refl)) (row-all bytes xs (λ y m. h y (Memᴰ.tail m)))

section-all : {A : Type 0} (bytes : A → List ℕ) (xs : List A) → Each (λ x. all_bytes (bytes x) ≡ true) xs → all_bytes (section bytes xs) ≡ true
section-all bytes xs h = append-all (encode 2 (length xs)) (in_row bytes xs) (encode-all 2 (length xs)) (row-all bytes xs h)

-- lists of bytes, joined
record Joined (ls : List (List ℕ)) : Type 0 where
  bytes : all_bytes (joined ls) ≡ true

nothing-more : Joined []
unfolding joined every
nothing-more = record { bytes = refl }

infixr 5 ◌then◌
◌then◌ : {l : List ℕ} {ls : List (List ℕ)} → all_bytes l ≡ true → Joined ls → Joined (l ∷ ls)
unfolding joined
◌then◌ {l} {ls} p q = record { bytes = append-all l (joined ls) p q.bytes }

exporter-all : (x : Exporter) → Bytes x.bindings → all_bytes (exporter_bytes x) ≡ true
unfolding exporter_bytes
exporter-all x b =
    (encode-all 8 x.oxid
    then guid-all x.unknown
    then encode-all 2 (length x.bindings)
    then bytes-every x.bindings b
    then nothing-more).bytes

object-all : (o : Object) → all_bytes (object_bytes o) ≡ true
unfolding object_bytes
object-all o =
    (encode-all 8 o.oid
    then encode-all 8 o.exporter
    then encode-all 1 (cond o.noping 1 0)
    then encode-all 8 o.heard
    then nothing-more).bytes

interface-all : (i : Interface) → all_bytes (interface_bytes i) ≡ true
unfolding interface_bytes
interface-all i =
    (guid-all i.ipid
    then guid-all i.iid
    then encode-all 8 i.object
    then row-all (encode 4) i.counts (λ k n. encode-all 4 k)
    then nothing-more).bytes

set_all : (p : PingSet) → all_bytes (set_bytes p) ≡ true
unfolding set_bytes
set_all p =
    (encode-all 8 p.number
    then encode-all 2 p.sequence
    then encode-all 8 p.pinged
    then section-all (encode 8) p.members (λ k n. encode-all 8 k)
    then nothing-more).bytes

written-bytes : (e : Entries) → Fits e → all_bytes (sections e) ≡ true
unfolding sections
written-bytes e f =
    (section-all (encode 8) (e.clock ∷ e.next ∷ []) (λ k m. encode-all 8 k)
    then section-all exporter_bytes e.exporters (λ x m. exporter-all x (f.exporters x m).bytes)
    then section-all object_bytes e.objects (λ o m. object-all o)
    then section-all interface_bytes e.interfaces (λ i m. interface-all i)
    then section-all set_bytes e.sets (λ p m. set_all p)
    then nothing-more).bytes

-- ---- the clauses of an accepted snapshot by name

same_self : (xs : List ℕ) → same_words xs xs ≡ true
unfolding same_words
same_self [] = refl
same_self (x ∷ xs) = and_intro (eqb x x) (same_words xs xs) (eq-eqb x x refl) (same_self xs)

pub record Snapshot (s : List ℕ) : Type 0 where
  pub bytes : Bytes s
  pub places : placed (entries_of s) ≡ true
  pub sound : sound (entries_of s) ≡ true
  pub own : snapshot_bytes (entries_of s) ≡ s

pub snapshot-fields : (s : List ℕ) → is_snapshot s ≡ true → Snapshot s
unfolding is_snapshot
snapshot-fields s t =
    record {
      bytes = every-bytes s (clause-at _ 0 t);
      places = clause-at _ 1 t;
      sound = clause-at _ 2 t;
      own = same_lists (snapshot_bytes (entries_of s)) s (clause-at _ 3 t);
    }

pub snapshot-made : (s : List ℕ) → Snapshot s → is_snapshot s ≡ true
unfolding is_snapshot
snapshot-made s h =
    (bytes-every s h.bytes
    and h.places
    and h.sound
    and (ap (λ (x : List ℕ). same_words x s) h.own ∙ same_self s)
    and none).together

-- ---- what an accepted snapshot holds

-- sections begin with the count of the two numbers
two-numbers : (e : Entries) → field (sections e) 0 2 ≡ 2
unfolding sections joined
two-numbers e = ap (λ (x : List ℕ). field x 0 2) (append_assoc (encode 2 2) _ _) ∙ encoded-front 2 2 _ (omega arith)

module _ (s : List ℕ) (t : is_snapshot s ≡ true) where
  abbrev h : Snapshot s
  h = snapshot-fields s t

  pub snapshot-fits : Fits (entries_of s)
  snapshot-fits = read_fits s h.bytes h.places

  -- its entries are sorted
  pub snapshot-sorted : entries_of s ≡ sorted (entries_of s)
  snapshot-sorted = ap entries_of (sym h.own) ∙ reads-back (sorted (entries_of s)) (sorted-fits (entries_of s) snapshot-fits)

  pub snapshot-count : field s 0 2 ≡ 2
  snapshot-count = cc (h.own, two-numbers (sorted (entries_of s)))

pub loads-ordered : LoadsOrdered
loads-ordered s t = subst (λ (e : Entries). Ordered e) (sym (snapshot-sorted s t)) (sorted-ordered (entries_of s))

-- ---- the statements

pub swaps : Swaps
swaps e s f =
    let g = sorted-fits e f in
    let r = reads-back (sorted e) g in
    let again : snapshot_bytes (sorted e) ≡ snapshot_bytes e = ap sections (sorted-once e) in
    record {
      accepted =
          snapshot-made (snapshot_bytes e)
          (record {
            bytes = every-bytes (snapshot_bytes e) (written-bytes (sorted e) g);
            places = ap placed r ∙ sorted-placed e f.places;
            sound = ap sound r ∙ sorted-sound e s;
            own = ap snapshot_bytes r ∙ again;
          });
      entries = r;
      again = again;
    }

pub loads : Loads
loads s = (taken, λ w. subst (λ (x : List ℕ). is_snapshot x ≡ true) w.bytes (swaps w.entries w.sound w.fits).accepted)
  where
    taken : is_snapshot s ≡ true → SoundSnapshot s
    taken t = let h = snapshot-fields s t in record { entries = entries_of s; sound = h.sound; fits = snapshot-fits s t; bytes = h.own }

pub one_form : OneForm
one_form e f fe ff q = sym (reads-back (sorted e) (sorted-fits e fe)) ∙ ap entries_of q ∙ reads-back (sorted f) (sorted-fits f ff)
