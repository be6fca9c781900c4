-- Which entries fit a section: of one row more, and of the sections of a snapshot.
use Prim.Native.Nat.{ℕ, zero, suc}
use mathlib.Core.Path.{◌≡◌, sym, ap, ◌∙◌}
use mathlib.Core.Bool.{Bool, true, false, ◌&&◌}
use mathlib.Core.List.{List, [], ◌∷◌, ◌++◌}
use mathlib.Core.Logic.{⊎_elim}
use native.Mathlib.Omega.{arith}
use borrow.Author.Tests.{eqb-true, eq-eqb, leb-true, le-leb, ltb-true, lt-ltb}
use lib.Dec.{eqb, ltb, leb}
use lib.ListN.{length, length-append}
use Rattle.kinds.specs.Refusals.{order}
use Rattle.kinds.proofs.Refusing.{true-false, same_test}
use Rattle.bindings.specs.Bindings.{list_answer}
use Rattle.lists.specs.Lists.{every, holding}
use Rattle.lists.proofs.Tests.{true-or-false, and_left, and_right, and_intro}
use Rattle.lists.proofs.Lists.{every-snoc}
use Rattle.rules.specs.Entries.{Exporter, Object, Interface, PingSet, Entries, exporter_places, object_places, interface_places, set_places, lists_length, oids}
use Rattle.rules.specs.Rules.{list_refusals}
use Rattle.rules.specs.Sound.{longest_list, store_bytes}
use Rattle.rules.specs.Snapshot.{read_exporter, read_object, read_interface, read_set}
use Rattle.rules.proofs.ListsLength.{bytes-snoc}
use Rattle.rules.proofs.SoundLaws.{clause-at, none, ◌and◌}
use Rattle.call_enter.proofs.Places.{list-fits, fits-list}
use Rattle.table_edit.specs.Edits.{add_exporter, add_object, add_interface, add_set}
use Rattle.snapshot_rows.specs.declared.Section.{Section}
use Rattle.snapshot_rows.specs.declared.Section.TheVariants.{Exporters, Objects, Interfaces, Sets}
use Rattle.snapshot_reader.specs.ReadRows.{with_row, after_row, with_rows, in_order, fits}

-- ---- one row more

length-snoc : {A : Type 0} (xs : List A) (x : A) → length (xs ++ (x ∷ [])) ≡ suc (length xs)
length-snoc xs x = let a = length-append xs (x ∷ []) in omega arith

-- the number of entries, with one more
room_snoc : {A : Type 0} (xs : List A) (x : A) (n : ℕ) → leb (length (xs ++ (x ∷ []))) n ≡ ltb (length xs) n
room_snoc xs x n =
    let a = length-snoc xs x in
    same_test (leb (length (xs ++ (x ∷ []))) n) (ltb (length xs) n)
    (λ t. let b = leb-true _ n t in lt-ltb (length xs) n (omega arith))
    (λ t. let b = ltb-true _ n t in le-leb (length (xs ++ (x ∷ []))) n (omega arith))

abbrev kept : Exporter → Bool
kept x = eqb (list_answer x.bindings) 0 && leb (length x.bindings) longest_list

-- an exporter more fits where its list is not refused
pub exporter-fits : (x : Exporter) (e : Entries) → fits Exporters e ≡ true → fits Exporters (add_exporter x e) ≡ eqb (order (list_refusals x.bindings e)) 0
unfolding fits
exporter-fits x e h =
    let xs = e.exporters in
    let room = room_snoc xs x exporter_places in
    let lists = every-snoc kept xs x in
    let bytes = ap (λ (n : ℕ). leb n store_bytes) (bytes-snoc xs x) in
    same_test _ _
    (λ t.
    let k = and_right (every kept xs) (kept x) (sym lists ∙ clause-at _ 1 t) in
    eq-eqb _ 0
    (fits-list e x.bindings (
      eqb-true _ 0 (and_left (eqb (list_answer x.bindings) 0) _ k),
      leb-true _ longest_list (and_right (eqb (list_answer x.bindings) 0) _ k),
      ltb-true _ exporter_places (sym room ∙ clause-at _ 0 t),
      leb-true _ store_bytes (sym bytes ∙ clause-at _ 2 t),
    )))
    (λ t.
    let f = list-fits e x.bindings (eqb-true _ 0 t) in
    ((room ∙ lt-ltb (length xs) exporter_places f.2)
    and (lists ∙ and_intro (every kept xs) (kept x) (clause-at _ 1 h) (and_intro (eqb (list_answer x.bindings) 0) _ (eq-eqb _ 0 f.0) (le-leb (length x.bindings) longest_list f.1)))
    and (bytes ∙ le-leb _ store_bytes f.3)
    and none).together)

-- an object more fits where there is a place, and so does an interface
pub object-fits : (o : Object) (e : Entries) → fits Objects e ≡ true → fits Objects (add_object o e) ≡ ltb (length e.objects) object_places
unfolding fits
object-fits o e h =
    let room = room_snoc e.objects o object_places in
    same_test _ _
    (λ t. sym room ∙ clause-at _ 0 t)
    (λ t. ((room ∙ t) and clause-at _ 1 h and none).together)

pub interface-fits : (i : Interface) (e : Entries) → fits Interfaces (add_interface i e) ≡ ltb (length e.interfaces) interface_places
unfolding fits
interface-fits i e = room_snoc e.interfaces i interface_places

-- a set more fits where there is a place and its members stand in the order of the objects
pub set-fits : (p : PingSet) (e : Entries) → fits Sets e ≡ true
    → fits Sets (add_set p e) ≡ holding (ltb (length e.sets) set_places ∷ in_order (oids e) p.members ∷ [])
unfolding fits
set-fits p e h =
    let ps = e.sets in
    let room = room_snoc ps p set_places in
    let ordered = every-snoc (λ (q : PingSet). in_order (oids e) q.members) ps p in
    same_test _ _
    (λ t.
    ((sym room ∙ clause-at _ 0 t)
    and and_right (every (λ (q : PingSet). in_order (oids e) q.members) ps) (in_order (oids e) p.members) (sym ordered ∙ clause-at _ 1 t)
    and none).together)
    (λ t.
    ((room ∙ clause-at _ 0 t)
    and (ordered ∙ and_intro (every (λ (q : PingSet). in_order (oids e) q.members) ps) (in_order (oids e) p.members) (clause-at _ 1 h) (clause-at _ 1 t))
    and none).together)

-- ---- what fits fits with a row less

-- fewer entries have places
fewer : {A : Type 0} (xs : List A) (x : A) (n : ℕ) → leb (length (xs ++ (x ∷ []))) n ≡ true → leb (length xs) n ≡ true
fewer xs x n t = let a = length-snoc xs x in let b = leb-true _ n t in le-leb (length xs) n (omega arith)

row-less : (k : Section) (s : List ℕ) (e : Entries) → fits k (with_row k s e) ≡ true → fits k e ≡ true
unfolding fits
row-less Exporters s e t =
    let xs = e.exporters in
    let x = (read_exporter s).value in
    let b = leb-true (lists_length (xs ++ (x ∷ []))) store_bytes (clause-at _ 2 t) in
    let c = bytes-snoc xs x in
    (fewer xs x 16 (clause-at _ 0 t)
    and and_left (every kept xs) (kept x) (sym (every-snoc kept xs x) ∙ clause-at _ 1 t)
    and le-leb (lists_length xs) store_bytes (omega arith)
    and none).together
row-less Objects s e t = (fewer e.objects (read_object s).value 128 (clause-at _ 0 t) and clause-at _ 1 t and none).together
row-less Interfaces s e t = fewer e.interfaces (read_interface s).value 256 t
row-less Sets s e t =
    let ps = e.sets in
    let p = (read_set s).value in
    let ordered : PingSet → Bool = λ q. in_order (oids e) q.members in
    (fewer ps p 32 (clause-at _ 0 t)
    and and_left (every ordered ps) (ordered p) (sym (every-snoc ordered ps p) ∙ clause-at _ 1 t)
    and none).together

-- so what does not fit does not with more rows
pub rows-unfit : (k : Section) (n : ℕ) (s : List ℕ) (e : Entries) → fits k e ≡ false → fits k (with_rows k n s e).entries ≡ false
unfolding with_rows
rows-unfit k zero s e h = h
rows-unfit k (suc n) s e h =
    rows-unfit k n (after_row k s) (with_row k s e)
    (⊎_elim (λ t. absurd (true-false (sym (row-less k s e t) ∙ h))) (λ (f : fits k (with_row k s e) ≡ false). f) (true-or-false (fits k (with_row k s e))))
