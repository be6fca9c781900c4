-- Room is refused exactly when a kind that the call needs has as many live entries as places.
use Prim.Native.Nat.{ℕ, suc, zero, ◌+◌, ◌≤◌}
use mathlib.Core.Path.{◌≡◌, refl, sym, ap, ◌∙◌}
use mathlib.Core.Bool.{Bool, true, false, cond, not, ◌&&◌, and-false}
use mathlib.Core.List.{List, [], ◌∷◌, map}
use mathlib.Core.Logic.{⊎_elim}
use native.Mathlib.Omega.{arith}
use borrow.Author.Tests.{eq-eqb, ne_eqb, eqb-false, le-leb, lt-leb, not-true}
use lib.ListN.{length, drop, length-append}
use lib.Dec.{eqb, leb}
use Rattle.kinds.specs.Refusals.{Row, ◌gives◌, passes, differ, order}
use Rattle.kinds.proofs.Refusing.{by-test}
use Rattle.bindings.specs.Bindings.{joined, front_answer, list_answer}
use Rattle.fields.specs.Fields.{field}
use Rattle.kinds.specs.declared.Guid.{Guid}
use Rattle.contexts.specs.Contexts.{property_length, property_answer, properties_answer, extents_answer, head_answer as context_head, context_answer, is_marshaler}
use Rattle.elements.specs.Elements.{is_reference, element_content, element_front, element_end, content_answer, element_answer}
use Rattle.references.specs.References.{is_custom, is_extended, object_answer, element_start, head_answer, plain_answer, extended_front, extended_answer, form_answer, layout_by, layout_answer, reference_answer}
use Rattle.lists.proofs.Tests.{below_or_not}
use Rattle.rules.specs.Entries.{Exporter, Entries, lists_length, exporter_places, object_places, interface_places, set_places}
use Rattle.rules.proofs.ListsLength.{bytes-joined}
use Rattle.rules.specs.Calls.{Call, starting, looking, editing, reset, enter_exporter, remove_exporter, enter_object, enter_interface, add, release, drop_client}
use Rattle.rules.specs.Calls.{count_list, simple_ping, complex_ping, clock, resolve, resolve_filtered, census, members, next_stop, write_snapshot, load_snapshot}
use Rattle.rules.specs.Rules.{refusals, number}
use Rattle.rules.specs.Contract.{Memory}
use Rattle.table_view.specs.View.{view}
use Rattle.table_view.proofs.LiveRows.{exporters-length, objects-length, interfaces-length, sets-length}
use Rattle.history.specs.Runs.{together, agree, above, needs_full_kind, room_exactly}

-- ---- rows of refusals

-- of these rows 9 is given, where no earlier row refuses, exactly if full holds
record Rows (rs : List Row) (full : Bool) : Type 0 where
  nine : eqb (order rs) 9 ≡ (eqb (order (above 9 rs)) 0 && full)

-- no row
none : Rows [] false
unfolding order above
none = record { nine = refl }

-- a row of another number
row_before_lem : {rs : List Row} {full : Bool} (b : Bool) (n : ℕ) → (n ≡ 9 → ⊥) → (b ≡ true → n ≡ 0 → ⊥) → Rows rs full → Rows (b gives n ∷ rs) full
unfolding order above
row_before_lem {rs} {full} true n d z r = record { nine = rw (ne_eqb n 9 d) (rw (ne_eqb n 0 (z refl)) refl) }
row_before_lem {rs} {full} false n d z r = record { nine = rw (ne_eqb n 9 d) r.nine }

-- a row of 9, before rows that do not give it
here : {rs : List Row} (b : Bool) → Rows rs false → Rows (b gives 9 ∷ rs) b
unfolding order above
here {rs} true r = record { nine = refl }
here {rs} false r = record { nine = r.nine ∙ and-false (eqb (order (above 9 rs)) 0) }

-- rows without 9 do not give it
not-nine : {rs : List Row} → Rows rs false → order rs ≡ 9 → ⊥
not-nine {rs} r = eqb-false (order rs) 9 (r.nine ∙ and-false (eqb (order (above 9 rs)) 0))

-- an answer that is passed on
passing : {rs : List Row} {full : Bool} (n : ℕ) → (n ≡ 9 → ⊥) → Rows rs full → Rows (passes n ∷ rs) full
passing n d r = row_before_lem (differ n 0) n d (λ t. eqb-false n 0 (not-true (eqb n 0) t)) r

-- a row of a number that is neither 9 nor 0
other : {b : Bool} {n : ℕ} {rs : List Row} {full : Bool} → eqb n 9 ≡ false → eqb n 0 ≡ false → Rows rs full → Rows (b gives n ∷ rs) full
other {b} {n} d z r = row_before_lem b n (eqb-false n 9 d) (λ t. eqb-false n 0 z) r

-- rows by a test, of which one gives 9
either : {rs ss : List Row} {full : Bool} (b : Bool) → Rows rs full → Rows ss false → Rows (cond b rs ss) (b && full)
either true r q = r
either false r q = q

-- ---- the answers of the formats

-- of a list at the front
front-answer : (s : List ℕ) → front_answer s ≡ 9 → ⊥
unfolding front_answer
front-answer s = not-nine (other refl refl (other refl refl (other refl refl none)))

-- of a list
list-answer : (s : List ℕ) → list_answer s ≡ 9 → ⊥
unfolding list_answer
list-answer s = not-nine (passing (front_answer s) (front-answer s) (other refl refl none))

-- of a context
property-answer : (t : List ℕ) → property_answer t ≡ 9 → ⊥
unfolding property_answer
property-answer t = not-nine (other refl refl (other refl refl (other refl refl (other refl refl none))))

properties-answer : (n : ℕ) (t : List ℕ) → properties_answer n t ≡ 9 → ⊥
unfolding properties_answer
properties-answer zero t = not-nine (other refl refl none)
properties-answer (suc n) t =
    not-nine (passing (property_answer t) (property-answer t) (passing (properties_answer n (drop (property_length t) t)) (properties-answer n (drop (property_length t) t)) none))

extents-answer : (s : List ℕ) → extents_answer s ≡ 9 → ⊥
unfolding extents_answer
extents-answer s = not-nine (other refl refl (other refl refl (other refl refl (other refl refl (other refl refl none)))))

context-head : (s : List ℕ) → context_head s ≡ 9 → ⊥
unfolding context_head
context-head s = not-nine (other refl refl (other refl refl (other refl refl (other refl refl (other refl refl (other refl refl (passing (extents_answer s) (extents-answer s) none)))))))

context-answer : (s : List ℕ) → context_answer s ≡ 9 → ⊥
unfolding context_answer
context-answer s =
    not-nine (passing (context_head s) (context-head s) (passing (properties_answer (field s 40 4) (drop 48 s)) (properties-answer (field s 40 4) (drop 48 s)) none))

object-answer : (g : Guid) (t : List ℕ) → object_answer g t ≡ 9 → ⊥
unfolding object_answer
object-answer g t = by-test (λ (n : ℕ). n ≡ 9 → ⊥) (is_marshaler g) (context_answer t) 0 (λ e. context-answer t) (λ e. omega arith)

-- of an element, where j judges a reference in it
element-front : (t : List ℕ) → element_front t ≡ 9 → ⊥
unfolding element_front
element-front t = not-nine (other refl refl (other refl refl (other refl refl (other refl refl (other refl refl (other refl refl (other refl refl none)))))))

element-end : (t : List ℕ) → element_end t ≡ 9 → ⊥
unfolding element_end
element-end t = not-nine (other refl refl (other refl refl none))

element-answer : (j : List ℕ → ℕ) (t : List ℕ) → ((x : List ℕ) → j x ≡ 9 → ⊥) → element_answer j t ≡ 9 → ⊥
unfolding element_answer
element-answer j t h =
    let x = element_content t in
    let inner : content_answer j x ≡ 9 → ⊥ = by-test (λ (n : ℕ). n ≡ 9 → ⊥) (is_reference x) (j x) 0 (λ e. h x) (λ e. omega arith) in
    not-nine (passing (element_front t) (element-front t) (passing (content_answer j x) inner (passing (element_end t) (element-end t) none)))

-- of the layout of a reference
head-answer : (s : List ℕ) → head_answer s ≡ 9 → ⊥
unfolding head_answer
head-answer s = not-nine (other refl refl (other refl refl (other refl refl (other refl refl none))))

plain-answer : (s : List ℕ) → plain_answer s ≡ 9 → ⊥
unfolding plain_answer
plain-answer s = by-test (λ (n : ℕ). n ≡ 9 → ⊥) (is_custom (field s 4 4)) _ _ (λ e. object-answer _ _) (λ e. list-answer _)

extended-front : (s : List ℕ) → extended_front s ≡ 9 → ⊥
unfolding extended_front
extended-front s = not-nine (other refl refl (passing (front_answer (drop 68 s)) (front-answer (drop 68 s)) (other refl refl (other refl refl (other refl refl (other refl refl none))))))

extended-answer : (j : List ℕ → ℕ) (s : List ℕ) → ((x : List ℕ) → j x ≡ 9 → ⊥) → extended_answer j s ≡ 9 → ⊥
unfolding extended_answer
extended-answer j s h =
    let t = drop (element_start s) s in
    not-nine (passing (extended_front s) (extended-front s) (passing (element_answer j t) (element-answer j t h) none))

form-answer : (j : List ℕ → ℕ) (s : List ℕ) → ((x : List ℕ) → j x ≡ 9 → ⊥) → form_answer j s ≡ 9 → ⊥
unfolding form_answer
form-answer j s h = by-test (λ (n : ℕ). n ≡ 9 → ⊥) (is_extended (field s 4 4)) (extended_answer j s) (plain_answer s) (λ e. extended-answer j s h) (λ e. plain-answer s)

layout-answer : (d : ℕ) (s : List ℕ) → layout_answer d s ≡ 9 → ⊥
unfolding layout_answer layout_by
layout-answer zero s = omega arith
layout-answer (suc d) s =
    not-nine (passing (head_answer s) (head-answer s) (passing (form_answer (layout_answer d) s) (form-answer (layout_answer d) s (layout-answer d)) none))

-- of a reference
reference-answer : (s : List ℕ) → reference_answer s ≡ 9 → ⊥
unfolding reference_answer
reference-answer s = not-nine (passing (layout_answer 8 s) (layout-answer 8 s) (other refl refl none))

-- ---- the calls

-- no kind has more entries than places
pub record Placed (e : Entries) : Type 0 where
  pub exporters : length e.exporters ≤ exporter_places
  pub objects : length e.objects ≤ object_places
  pub interfaces : length e.interfaces ≤ interface_places
  pub sets : length e.sets ≤ set_places

-- then as many or more are as many
full-places : (places n : ℕ) → n ≤ places → leb places n ≡ eqb n places
full-places places n h =
    ⊎_elim
    (λ b. lt-leb places n b ∙ sym (ne_eqb n places (omega arith)))
    (λ b. le-leb places n b ∙ sym (eq-eqb n places (omega arith)))
    (below_or_not n places)

-- the live lists and a new one have so many bytes
together-bytes : (xs : List Exporter) (new : List ℕ) → length (together xs new) ≡ lists_length xs + length new
together-bytes xs new = cc (length-append (joined (map (λ (x : Exporter). x.bindings) xs)) new, bytes-joined xs)

-- of every call
rows : (c : Call) (e : Entries) → Placed e → Rows (refusals c e) (needs_full_kind c e)
unfolding refusals needs_full_kind
rows (starting (reset t)) e p = none
rows (editing (enter_exporter x u b)) e p =
    other refl refl (passing (list_answer b) (list-answer b) (other refl refl
    (rw (sym (full-places exporter_places (length e.exporters) p.exporters), together-bytes e.exporters b) (here _ none))))
rows (editing (remove_exporter x)) e p = other refl refl none
rows (editing (enter_object o x i iid n np)) e p =
    other refl refl (other refl refl (other refl refl
    (rw (sym (full-places object_places (length e.objects) p.objects), sym (full-places interface_places (length e.interfaces) p.interfaces)) (here _ none))))
rows (editing (enter_interface o i iid n)) e p =
    other refl refl (other refl refl (other refl refl (rw (sym (full-places interface_places (length e.interfaces) p.interfaces)) (here _ none))))
rows (editing (add c i m n)) e p = other refl refl (other refl refl (other refl refl none))
rows (editing (release c i m n)) e p = other refl refl (other refl refl none)
rows (editing (drop_client c)) e p = other refl refl none
rows (count_list w c s b) e p = other refl refl (other refl refl (other refl refl (other refl refl none)))
rows (editing (simple_ping s)) e p = other refl refl none
rows (editing (complex_ping s n adds dels)) e p =
    other refl refl
    (either (eqb s 0)
    (other refl refl (rw (sym (full-places set_places (length e.sets) p.sets)) (here _ (other refl refl none))))
    (other refl refl (other refl refl (other refl refl none))))
rows (editing (clock t)) e p = other refl refl none
rows (looking (resolve x buffer)) e p = other refl refl (other refl refl none)
rows (looking (resolve_filtered x protocols buffer)) e p = other refl refl (other refl refl (other refl refl none))
rows (looking census) e p = none
rows (looking (members s)) e p = other refl refl none
rows (looking (next_stop r)) e p = passing (reference_answer r) (reference-answer r) (other refl refl none)
rows (looking (write_snapshot buffer)) e p = other refl refl none
rows (starting (load_snapshot s)) e p = other refl refl none

-- two equal tests agree
pub agreed : (a b : Bool) → a ≡ b → agree a b ≡ true
agreed true b e = sym e
agreed false b e = sym (ap not e)

-- room is refused exactly when a kind is full
pub room-exactly : (c : Call) (e : Entries) → Placed e → room_exactly (number c e) c e ≡ true
unfolding room_exactly number
room-exactly c e p = agreed _ _ (rows c e p).nine

-- the entries of a memory have places
pub view-placed : (m : Memory) → Placed (view m)
view-placed m =
    record {
      exporters = rw (exporters-length m.words m.store) (omega arith);
      objects = rw (objects-length m.words) (omega arith);
      interfaces = rw (interfaces-length m.words) (omega arith);
      sets = rw (sets-length m.words) (omega arith);
    }
