-- How long a snapshot is: its length does not depend on the order of the entries.
use Prim.Native.Nat.{ℕ, ◌+◌, ◌*◌, ◌≤◌}
use mathlib.Core.Path.{◌≡◌, refl, sym, ap, ◌∙◌}
use mathlib.Core.Bool.{Bool, cond}
use mathlib.Core.List.{List, [], ◌∷◌, map}
use native.Mathlib.Omega.{arith}
use borrow.Author.Tests.{leb-true}
use lib.ListN.{length, length-append, length-map}
use Rattle.fields.specs.Fields.{encode}
use Rattle.fields.proofs.Fields.{length-encode, length-guid}
use Rattle.bindings.specs.Bindings.{joined}
use Rattle.lists.specs.Lists.{keep, among}
use Rattle.lists.specs.Order.{rising}
use Rattle.lists.proofs.Lists.{length-keep, keep-map}
use Rattle.lists.proofs.Order.{rising-in, length-rising}
use Rattle.lists.proofs.Rising.{sum-rising, kept-rising}
use Rattle.rules.specs.Entries.{Exporter, Object, Interface, PingSet, Entries, oids, lists_length}
use Rattle.rules.specs.Snapshot.{object_before, interface_before, exporter_before, set_before, members_in_order, sorted, in_row}
use Rattle.rules.specs.Snapshot.{section, exporter_bytes, object_bytes, interface_bytes, set_bytes, sections, placed}
use Rattle.rules.specs.Swapping.{Each, SnapshotLength, SnapshotInside}
use Rattle.rules.proofs.SoundLaws.{sound-fields, clause-at}
use Rattle.rules.proofs.SnapshotReading.{length-uniform, length-numbers}
use Rattle.rules.proofs.SnapshotSorting.{sorted_oids, ordered_sets, lists-rising}

-- ---- the bytes of one entry

-- lists joined, of so many bytes
record Sized (ls : List (List ℕ)) (n : ℕ) : Type 0 where
  size : length (joined ls) ≡ n

nothing-more : Sized [] 0
unfolding joined
nothing-more = record { size = refl }

infixr 5 ◌then◌
◌then◌ : {l : List ℕ} {ls : List (List ℕ)} {m n : ℕ} → length l ≡ m → Sized ls n → Sized (l ∷ ls) (m + n)
unfolding joined
◌then◌ {l} {ls} p q = record { size = length-append l (joined ls) ∙ (λ u. p u + q.size u) }

length-section : {A : Type 0} (bytes : A → List ℕ) (xs : List A) {n : ℕ} → length (in_row bytes xs) ≡ n → length (section bytes xs) ≡ 2 + n
length-section bytes xs q = length-append (encode 2 (length xs)) (in_row bytes xs) ∙ (λ u. length-encode 2 (length xs) u + q u)

pub exporter-size : (x : Exporter) → length (exporter_bytes x) ≡ 26 + length x.bindings
unfolding exporter_bytes
exporter-size x =
    let s : length (exporter_bytes x) ≡ 8 + (16 + (2 + (length x.bindings + 0))) =
    (length-encode 8 x.oxid then length-guid x.unknown then length-encode 2 (length x.bindings) then refl then nothing-more).size in
    omega arith

pub object-size : (o : Object) → length (object_bytes o) ≡ 25
unfolding object_bytes
object-size o = (length-encode 8 o.oid then length-encode 8 o.exporter then length-encode 1 (cond o.noping 1 0) then length-encode 8 o.heard then nothing-more).size

pub interface-size : (i : Interface) → length i.counts ≡ 9 → length (interface_bytes i) ≡ 76
unfolding interface_bytes
interface-size i nine =
    let s : length (interface_bytes i) ≡ 16 + (16 + (8 + (4 * length i.counts + 0))) =
    (length-guid i.ipid then length-guid i.iid then length-encode 8 i.object then length-numbers 4 i.counts then nothing-more).size in
    omega arith

pub set-size : (p : PingSet) → length (set_bytes p) ≡ 20 + 8 * length p.members
unfolding set_bytes
set-size p =
    let s : length (set_bytes p) ≡ 8 + (2 + (8 + (2 + 8 * length p.members + 0))) =
    (length-encode 8 p.number
    then length-encode 2 p.sequence
    then length-encode 8 p.pinged
    then length-section (encode 8) p.members (length-numbers 8 p.members)
    then nothing-more).size in
    omega arith

-- ---- in a row

exporters-size : (xs : List Exporter) → length (in_row exporter_bytes xs) ≡ 26 * length xs + lists_length xs
unfolding in_row lists_length
exporters-size [] = refl
exporters-size (x ∷ xs) =
    let a = length-append (exporter_bytes x) (in_row exporter_bytes xs) in
    let b = exporter-size x in
    let c = exporters-size xs in
    omega arith

sets-size : (ss : List PingSet) → length (in_row set_bytes ss) ≡ 20 * length ss + 8 * length (joined (map (λ (s : PingSet). s.members) ss))
unfolding in_row joined
sets-size [] = refl
sets-size (s ∷ ss) =
    let a = length-append (set_bytes s) (in_row set_bytes ss) in
    let b = set-size s in
    let c = sets-size ss in
    let d = length-append s.members (joined (map (λ (p : PingSet). p.members) ss)) in
    omega arith

-- the sections, in the order in which the entries stand
sections-size : (e : Entries) → Each (λ i. length i.counts ≡ 9) e.interfaces
    → length (sections e)
    ≡ 26 + (26 * length e.exporters + lists_length e.exporters) + 25 * length e.objects + 76 * length e.interfaces
    + (20 * length e.sets + 8 * length (joined (map (λ (s : PingSet). s.members) e.sets)))
unfolding sections
sections-size e nine =
    let k : ℕ = length (joined (map (λ (s : PingSet). s.members) e.sets)) in
    let s : length (sections e)
    ≡ 2 + 8 * 2 + (2 + (26 * length e.exporters + lists_length e.exporters) + (2 + 25 * length e.objects + (2 + 76 * length e.interfaces + (2 + (20 * length e.sets + 8 * k) + 0)))) =
    (length-section (encode 8) (e.clock ∷ e.next ∷ []) (length-numbers 8 (e.clock ∷ e.next ∷ []))
    then length-section exporter_bytes e.exporters (exporters-size e.exporters)
    then length-section object_bytes e.objects (length-uniform object_bytes 25 e.objects (λ o m. object-size o))
    then length-section interface_bytes e.interfaces (length-uniform interface_bytes 76 e.interfaces (λ i m. interface-size i (nine i m)))
    then length-section set_bytes e.sets (sets-size e.sets)
    then nothing-more).size in
    omega arith

-- ---- whatever the order

-- as many members are kept
members_kept : (e : Entries) (ss : List PingSet)
    → length (joined (map (λ (s : PingSet). s.members) (map (members_in_order (sorted_oids e)) ss))) ≡ length (joined (map (λ (s : PingSet). keep (among s.members) (oids e)) ss))
unfolding joined
members_kept e [] = refl
members_kept e (s ∷ ss) =
    let a = length-append (keep (among s.members) (sorted_oids e)) (joined (map (λ (p : PingSet). p.members) (map (members_in_order (sorted_oids e)) ss))) in
    let b = length-append (keep (among s.members) (oids e)) (joined (map (λ (p : PingSet). keep (among p.members) (oids e)) ss)) in
    let c = same (among s.members) in
    let d = members_kept e ss in
    omega arith
  where
    oid : Object → ℕ
    oid o = o.oid

    kept : (p : ℕ → Bool) (os : List Object) → length (keep p (map oid os)) ≡ length (keep (λ (o : Object). p (oid o)) os)
    kept p os = ap length (keep-map p oid os) ∙ length-map (keep (λ (o : Object). p (oid o)) os) oid

    same : (p : ℕ → Bool) → length (keep p (sorted_oids e)) ≡ length (keep p (oids e))
    same p = kept p (rising object_before e.objects) ∙ kept-rising object_before (λ (o : Object). p (oid o)) e.objects ∙ sym (kept p e.objects)

-- joined members are a sum over the sets
members-rising : (ss : List PingSet) → length (joined (map (λ (s : PingSet). s.members) (rising set_before ss))) ≡ length (joined (map (λ (s : PingSet). s.members) ss))
unfolding joined
members-rising ss =
    sum-rising set_before (λ ps. length (joined (map (λ (s : PingSet). s.members) ps))) (λ s. length s.members)
    (λ p ps. length-append p.members (joined (map (λ (s : PingSet). s.members) ps))) ss

pub snapshot-length : SnapshotLength
unfolding sorted
snapshot-length e nine =
    let s = sections-size (sorted e) (λ i m. nine i (rising-in interface_before e.interfaces m)) in
    let x = length-rising exporter_before e.exporters in
    let l = lists-rising e.exporters in
    let o = length-rising object_before e.objects in
    let i = length-rising interface_before e.interfaces in
    let p = length-rising set_before (ordered_sets e) ∙ length-map e.sets (members_in_order (sorted_oids e)) in
    let m = members-rising (ordered_sets e) ∙ members_kept e e.sets in
    s ∙ (λ u. 26 + (26 * x u + l u) + 25 * o u + 76 * i u + (20 * p u + 8 * m u))

-- ---- how long at most

-- a set has no more members than there are objects
members-few : (ids : List ℕ) (n : ℕ) → length ids ≤ n → (ss : List PingSet) → length (joined (map (λ (s : PingSet). keep (among s.members) ids) ss)) ≤ n * length ss
unfolding joined
members-few ids n h [] = omega arith
members-few ids n h (s ∷ ss) =
    let a = length-append (keep (among s.members) ids) (joined (map (λ (p : PingSet). keep (among p.members) ids) ss)) in
    let b = length-keep (among s.members) ids in
    let c = members-few ids n h ss in
    omega arith

pub snapshot-inside : SnapshotInside
unfolding placed
snapshot-inside e s f =
    let size = snapshot-length e (λ i m. (f.interfaces i m).nine) in
    let x = leb-true (length e.exporters) 16 (clause-at _ 0 f.places) in
    let o = leb-true (length e.objects) 128 (clause-at _ 1 f.places) in
    let i = leb-true (length e.interfaces) 256 (clause-at _ 2 f.places) in
    let p = leb-true (length e.sets) 32 (clause-at _ 3 f.places) in
    let l = leb-true (lists_length e.exporters) 8192 (sound-fields e s).lists_inside in
    let n = length-map e.objects (λ (o : Object). o.oid) in
    let m = members-few (oids e) 128 (omega arith) e.sets in
    omega arith
