-- Reading the sections of entries gives the entries.
use Prim.Native.Nat.{ℕ, suc, ◌+◌, ◌*◌, ◌^◌, ◌<◌}
use mathlib.Core.Path.{◌≡◌, refl, sym, ap, ◌∙◌}
use mathlib.Core.Bool.{Bool, true, false, cond, not}
use mathlib.Core.List.Memᴰ
use mathlib.Core.List.{List, [], ◌∷◌, ◌++◌, append_assoc, append-nil}
use native.Mathlib.Omega.{arith}
use borrow.Author.Tests.{leb-true}
use lib.ListN.{length, drop, length-append}
use lib.Seq.{drop-append-add, take_at, drop_at}
use lib.Dec.{eqb, leb}
use Rattle.fields.specs.Fields.{encode, field}
use Rattle.fields.proofs.Fields.{length-encode, field-as}
use Rattle.bindings.specs.Bindings.{joined}
use Rattle.lists.specs.Lists.{tabulate}
use Rattle.lists.proofs.Tests.{holding-head, holding-tail}
use Rattle.lists.proofs.Lists.{tabulate-ext}
use Rattle.rules.specs.Entries.{Exporter, Object, Interface, PingSet, Entries}
use Rattle.rules.specs.Snapshot.{in_row, section, exporter_bytes, object_bytes, interface_bytes, set_bytes, sections, Front, read_row}
use Rattle.rules.specs.Snapshot.{read_section, read_number, read_exporter, read_object, read_interface, read_set, entries_of, placed}
use Rattle.rules.specs.Swapping.{Each, ExporterFits, ObjectFits, InterfaceFits, SetFits, Fits, ReadsBack}
use Rattle.rules.proofs.OneByOne.{field_back}

-- ---- fields one after the other

module _ (p q : List ℕ) (n : ℕ) (e : length p ≡ n) where
  -- past p
  drop_past : (k : ℕ) → drop (n + k) (p ++ q) ≡ drop k q
  drop_past k = rw (sym e) (drop-append-add p q k)

  field_past : (k w : ℕ) → field (p ++ q) (n + k) w ≡ field q k w
  field_past k w = rw (sym e) (field_back p q k w)

-- at the front
pub encoded-front : (w v : ℕ) (q : List ℕ) → v < 256 ^ w → field (encode w v ++ q) 0 w ≡ v
encoded-front w v q b =
    let l = length-append (encode w v) q in
    let m = length-encode w v in
    field-as (encode w v ++ q) 0 w v (take_at (encode w v) q w m) (omega arith) b

-- a number and its width in bytes
record Wide : Type 0 where
  width : ℕ
  value : ℕ

abbrev wide : ℕ → ℕ → Wide
wide w v = record { width = w; value = v }

fields : List Wide → List ℕ
fields [] = []
fields (x ∷ xs) = encode x.width x.value ++ fields xs

widths : List Wide → ℕ
widths [] = 0
widths (x ∷ xs) = x.width + widths xs

length_fields : (xs : List Wide) → length (fields xs) ≡ widths xs
unfolding fields widths
length_fields [] = refl
length_fields (x ∷ xs) =
    length-append (encode x.width x.value) (fields xs) ∙ (λ u. length-encode x.width x.value u + length_fields xs u)

-- past them
past-fields : (xs : List Wide) (q : List ℕ) (k : ℕ) → drop (widths xs + k) (fields xs ++ q) ≡ drop k q
past-fields xs q k = drop_past (fields xs) q (widths xs) (length_fields xs) k

-- one of them
field_of : (xs : List Wide) (x : Wide) (ys : List Wide) (q : List ℕ) → x.value < 256 ^ x.width
    → field (fields (xs ++ (x ∷ ys)) ++ q) (widths xs) x.width ≡ x.value
unfolding fields widths
field_of [] x ys q b = rw (append_assoc (encode x.width x.value) (fields ys) q) (encoded-front x.width x.value (fields ys ++ q) b)
field_of (y ∷ xs) x ys q b =
    rw (
      append_assoc (encode y.width y.value) (fields (xs ++ (x ∷ ys))) q,
      field_past (encode y.width y.value) (fields (xs ++ (x ∷ ys)) ++ q) y.width (length-encode y.width y.value) (widths xs) x.width,
    )
    (field_of xs x ys q b)

-- ---- rows

-- elements of one size in a row
pub length-uniform : {A : Type 0} (bytes : A → List ℕ) (w : ℕ) (xs : List A) → Each (λ x. length (bytes x) ≡ w) xs → length (in_row bytes xs) ≡ w * length xs
unfolding in_row
length-uniform bytes w [] h = omega arith
length-uniform bytes w (x ∷ xs) h =
    let a = length-append (bytes x) (in_row bytes xs) in
    let b = h x (Memᴰ.head refl) in
    let c = length-uniform bytes w xs (λ y m. h y (Memᴰ.tail m)) in
    omega arith

pub length-numbers : (w : ℕ) (ns : List ℕ) → length (in_row (encode w) ns) ≡ w * length ns
length-numbers w ns = length-uniform (encode w) w ns (λ n m. length-encode w n)

numbers-read : (w : ℕ) (ns rest : List ℕ) → Each (λ n. n < 256 ^ w) ns → tabulate (length ns) (λ k. field (in_row (encode w) ns ++ rest) (w * k) w) ≡ ns
unfolding in_row tabulate
numbers-read w [] rest b = refl
numbers-read w (n ∷ ns) rest b =
    let z : w * 0 ≡ 0 = omega arith in
    let front : field (encode w n ++ in_row (encode w) ns ++ rest) (w * 0) w ≡ n =
    rw (z, append_assoc (encode w n) (in_row (encode w) ns) rest) (encoded-front w n (in_row (encode w) ns ++ rest) (b n (Memᴰ.head refl))) in
    let more =
    tabulate-ext (length ns) (λ k. field (encode w n ++ in_row (encode w) ns ++ rest) (w * suc k) w) (λ k. field (in_row (encode w) ns ++ rest) (w * k) w)
    (λ k l.
    let s : w * suc k ≡ w + w * k = omega arith in
    rw (s, append_assoc (encode w n) (in_row (encode w) ns) rest) (field_past (encode w n) (in_row (encode w) ns ++ rest) w (length-encode w n) (w * k) w))
    ∙ numbers-read w ns rest (λ m i. b m (Memᴰ.tail i)) in
    λ u. front u ∷ more u

-- what is read off the front of the bytes of x, whatever follows
record Reads {A : Type 0} (one : List ℕ → Front A) (bytes : A → List ℕ) (x : A) : Type 0 where
  front : (rest : List ℕ) → one (bytes x ++ rest) ≡ record { value = x; rest = rest }

module _ {A : Type 0} (one : List ℕ → Front A) (bytes : A → List ℕ) where
  row_read : (xs : List A) → Each (Reads one bytes) xs → (rest : List ℕ) → read_row one (length xs) (in_row bytes xs ++ rest) ≡ record { value = xs; rest = rest }
  unfolding read_row in_row
  row_read [] r rest = refl
  row_read (x ∷ xs) r rest =
      rw (append_assoc (bytes x) (in_row bytes xs) rest, (r x (Memᴰ.head refl)).front (in_row bytes xs ++ rest))
      (λ u. let f : Front (List A) = row_read xs (λ y m. r y (Memᴰ.tail m)) rest u in record { value = x ∷ f.value; rest = f.rest })

  -- a section
  section-read : (xs : List A) → length xs < 2 ^ 16 → Each (Reads one bytes) xs → (rest : List ℕ) → read_section one (section bytes xs ++ rest) ≡ record { value = xs; rest = rest }
  section-read xs b r rest =
      rw (
        append_assoc (encode 2 (length xs)) (in_row bytes xs) rest,
        encoded-front 2 (length xs) (in_row bytes xs ++ rest) b,
        drop_at (encode 2 (length xs)) (in_row bytes xs ++ rest) 2 (length-encode 2 (length xs)),
      )
      (row_read xs r rest)

-- ---- the four kinds, and numbers

number-reads : (k : ℕ) → k < 2 ^ 64 → Reads read_number (encode 8) k
unfolding read_number
number-reads k b = record { front = λ rest u. record { value = encoded-front 8 k rest b u; rest = drop_at (encode 8 k) rest 8 (length-encode 8 k) u } }

-- a mark is one byte
mark : (n : Bool) → cond n 1 0 < 256
mark true = omega arith
mark false = omega arith

marked : (n : Bool) → not (eqb (cond n 1 0) 0) ≡ n
marked true = refl
marked false = refl

object-read : (o : Object) → ObjectFits o → (rest : List ℕ) → read_object (object_bytes o ++ rest) ≡ record { value = o; rest = rest }
unfolding read_object object_bytes joined fields widths
object-read o b rest =
    let i : Wide = wide 8 o.oid in
    let x : Wide = wide 8 o.exporter in
    let n : Wide = wide 1 (cond o.noping 1 0) in
    let h : Wide = wide 8 o.heard in
    λ u.
    record {
      value = record {
        oid = field_of [] i (x ∷ n ∷ h ∷ []) rest b.oid u;
        exporter = field_of (i ∷ []) x (n ∷ h ∷ []) rest b.exporter u;
        noping = (ap (λ (k : ℕ). not (eqb k 0)) (field_of (i ∷ x ∷ []) n (h ∷ []) rest (mark o.noping)) ∙ marked o.noping) u;
        heard = field_of (i ∷ x ∷ n ∷ []) h [] rest b.heard u;
      };
      rest = past-fields (i ∷ x ∷ n ∷ h ∷ []) rest 0 u;
    }

exporter-read : (x : Exporter) → ExporterFits x → (rest : List ℕ) → read_exporter (exporter_bytes x ++ rest) ≡ record { value = x; rest = rest }
unfolding read_exporter exporter_bytes joined fields widths
exporter-read x b rest =
    let i : Wide = wide 8 x.oxid in
    let l : Wide = wide 8 x.unknown.low in
    let h : Wide = wide 8 x.unknown.high in
    let n : Wide = wide 2 (length x.bindings) in
    let q : List ℕ = x.bindings ++ rest in
    let e : exporter_bytes x ++ rest ≡ fields (i ∷ l ∷ h ∷ n ∷ []) ++ q = simp (append_assoc, append-nil) in
    rw e
    (rw (field_of (i ∷ l ∷ h ∷ []) n [] q b.size, past-fields (i ∷ l ∷ h ∷ n ∷ []) q 0)
    (λ u.
    record {
      value = record {
        oxid = field_of [] i (l ∷ h ∷ n ∷ []) q b.oxid u;
        unknown = record { low = field_of (i ∷ []) l (h ∷ n ∷ []) q b.unknown.low u; high = field_of (i ∷ l ∷ []) h (n ∷ []) q b.unknown.high u };
        bindings = take_at x.bindings rest (length x.bindings) refl u;
      };
      rest = drop_at x.bindings rest (length x.bindings) refl u;
    }))

interface-read : (i : Interface) → InterfaceFits i → (rest : List ℕ) → read_interface (interface_bytes i ++ rest) ≡ record { value = i; rest = rest }
unfolding read_interface interface_bytes joined fields widths
interface-read i b rest =
    let l : Wide = wide 8 i.ipid.low in
    let h : Wide = wide 8 i.ipid.high in
    let l' : Wide = wide 8 i.iid.low in
    let h' : Wide = wide 8 i.iid.high in
    let o : Wide = wide 8 i.object in
    let front : List Wide = l ∷ h ∷ l' ∷ h' ∷ o ∷ [] in
    let q : List ℕ = in_row (encode 4) i.counts ++ rest in
    let size : length (in_row (encode 4) i.counts) ≡ 36 = let a = length-numbers 4 i.counts in let c = b.nine in omega arith in
    let counts =
    tabulate-ext 9 (λ k. field (fields front ++ q) (40 + 4 * k) 4) (λ k. field q (4 * k) 4) (λ k t. field_past (fields front) q 40 (length_fields front) (4 * k) 4)
    ∙ ap (λ (n : ℕ). tabulate n (λ k. field q (4 * k) 4)) (sym b.nine)
    ∙ numbers-read 4 i.counts rest b.counts in
    let e : interface_bytes i ++ rest ≡ fields front ++ q = simp (append_assoc, append-nil) in
    rw e
    (λ u.
    record {
      value = record {
        ipid = record { low = field_of [] l (h ∷ l' ∷ h' ∷ o ∷ []) q b.ipid.low u; high = field_of (l ∷ []) h (l' ∷ h' ∷ o ∷ []) q b.ipid.high u };
        iid = record { low = field_of (l ∷ h ∷ []) l' (h' ∷ o ∷ []) q b.iid.low u; high = field_of (l ∷ h ∷ l' ∷ []) h' (o ∷ []) q b.iid.high u };
        object = field_of (l ∷ h ∷ l' ∷ h' ∷ []) o [] q b.object u;
        counts = counts u;
      };
      rest = (past-fields front q 36 ∙ drop_at (in_row (encode 4) i.counts) rest 36 size) u;
    })

set-read : (s : PingSet) → SetFits s → (rest : List ℕ) → read_set (set_bytes s ++ rest) ≡ record { value = s; rest = rest }
unfolding read_set set_bytes joined fields widths
set-read s b rest =
    let n : Wide = wide 8 s.number in
    let k : Wide = wide 2 s.sequence in
    let t : Wide = wide 8 s.pinged in
    let q : List ℕ = section (encode 8) s.members ++ rest in
    let e : set_bytes s ++ rest ≡ fields (n ∷ k ∷ t ∷ []) ++ q = simp (append_assoc, append-nil) in
    rw e
    (rw (past-fields (n ∷ k ∷ t ∷ []) q 0)
    (λ u.
    let f : Front (List ℕ) = section-read read_number (encode 8) s.members b.size (λ j m. number-reads j (b.members j m)) rest u in
    record {
      value = record {
        number = field_of [] n (k ∷ t ∷ []) q b.number u;
        sequence = field_of (n ∷ []) k (t ∷ []) q b.sequence u;
        pinged = field_of (n ∷ k ∷ []) t [] q b.pinged u;
        members = f.value;
      };
      rest = f.rest;
    }))

-- ---- the whole

-- no more than the places are below 65,536
few : (n k : ℕ) → leb n k ≡ true → k < 2 ^ 16 → n < 2 ^ 16
few n k t b = let l = leb-true n k t in omega arith

pub reads-back : ReadsBack
unfolding entries_of sections joined placed
reads-back e f =
    let t : List ℕ = section set_bytes e.sets ++ [] in
    let i : List ℕ = section interface_bytes e.interfaces ++ t in
    let o : List ℕ = section object_bytes e.objects ++ i in
    let x : List ℕ = section exporter_bytes e.exporters ++ o in
    let p1 = f.places in
    let p2 = holding-tail _ _ p1 in
    let p3 = holding-tail _ _ p2 in
    let p4 = holding-tail _ _ p3 in
    rw (section-read read_number (encode 8) (e.clock ∷ e.next ∷ []) (omega arith) (numbers e f) x)
    (rw (section-read read_exporter exporter_bytes e.exporters (few _ 16 (holding-head _ _ p1) (omega arith)) (λ y m. record { front = exporter-read y (f.exporters y m) }) o)
    (rw (section-read read_object object_bytes e.objects (few _ 128 (holding-head _ _ p2) (omega arith)) (λ y m. record { front = object-read y (f.objects y m) }) i)
    (rw (section-read read_interface interface_bytes e.interfaces (few _ 256 (holding-head _ _ p3) (omega arith)) (λ y m. record { front = interface-read y (f.interfaces y m) }) t)
    (rw (section-read read_set set_bytes e.sets (few _ 32 (holding-head _ _ p4) (omega arith)) (λ y m. record { front = set-read y (f.sets y m) }) [])
    refl))))
  where
    numbers : (e : Entries) → Fits e → Each (Reads read_number (encode 8)) (e.clock ∷ e.next ∷ [])
    numbers e f k (Memᴰ.head q) = number-reads k (rw q f.clock)
    numbers e f k (Memᴰ.tail (Memᴰ.head q)) = number-reads k (rw q f.next)
    numbers e f k (Memᴰ.tail (Memᴰ.tail none)) = elim none [ ]
