-- The loop by which members are heard: the rows of the objects are gone through from the last to the first.
use Rattle.std.proofs.Common.{◌≡◌, ℕ, suc, ◌<◌, ◌≤◌, Bool, true, false, cond, ◌&&◌, leb, List, map, length, get_or, set, sym, ap, ◌∙◌, ⊎_elim, arith, le-leb}
use mathlib.Core.Bool.{and-false}
use borrow.Author.Tests.{lt-leb}
use lib.ListN.{length-map}
use Rattle.lists.specs.Lists.{tabulate, among}
use Rattle.table_columns.specs.Members.{has_member}
use Rattle.table_columns.specs.declared.members.Members.{Members}
use Rattle.lists.proofs.Tests.{true-or-false, below_or_not, same_or_not}
use Rattle.lists.proofs.Lists.{get_d_map, length-tabulate, get_d_tabulate, tabulate-ext, set-tabulate, map-tabulate, tabulate-get_or}
use Rattle.rules.specs.Entries.{Object, Entries, oids, with_objects, heard_at}
use Rattle.rules.specs.Sound.{proper}
use Rattle.rules.specs.Rules.{no_object, heard_now}
use Rattle.call_ping.specs.Pinging.{heard_row}
use Rattle.table_view.proofs.MemberLaws.{member-among}
use Rattle.table_view.specs.View.{object_count, oids_of, memory, view, member_values}
use Rattle.table_view.proofs.LiveRows.{objects-length}
use Rattle.table_edit.specs.Edits.{Became}

module _ (m : Members) (e : Entries) where
  -- the object at row j, heard now where a test holds
  abbrev heard_if : Bool → ℕ → Object
  heard_if t j = cond t (heard_at e.clock (get_or e.objects j no_object)) (get_or e.objects j no_object)

  -- the members from row i on are heard
  abbrev pub heard_from : ℕ → Entries
  heard_from i = with_objects (tabulate (length e.objects) (λ j. heard_if (leb i j && has_member m j) j)) e

  -- no row yet
  heard-none : (n : ℕ) → n ≡ length e.objects → e ≡ heard_from n
  heard-none n h =
      ap (λ (os : List Object). with_objects os e)
      (sym (tabulate-get_or e.objects no_object)
      ∙ tabulate-ext (length e.objects) (λ j. get_or e.objects j no_object) (λ j. heard_if (leb n j && has_member m j) j) (λ j b. rw (lt-leb n j (omega arith))))

  -- one row
  heard-row : (n i : ℕ) → n ≡ suc i → i < length e.objects → heard_row m i (heard_from n) ≡ heard_from i
  heard-row n i z h =
      ⊎_elim
      (λ (t : has_member m i ≡ true).
      rw t
      (ap (λ (os : List Object). with_objects os e)
      (ap (set (tabulate size (at n)) i) (ap (heard_at e.clock) (get_d_tabulate size (at n) no_object i h ∙ last) ∙ sym (here t))
      ∙ sym (set-tabulate size i (at n) (at i) h (λ j b d. other j d)))))
      (λ (f : has_member m i ≡ false). rw f (ap (λ (os : List Object). with_objects os e) (tabulate-ext size (at n) (at i) (λ j b. sym (unheard f j)))))
      (true-or-false (has_member m i))
    where
      size : ℕ
      size = length e.objects

      at : ℕ → ℕ → Object
      at k j = heard_if (leb k j && has_member m j) j

      last : at n i ≡ get_or e.objects i no_object
      last = rw (lt-leb n i (omega arith))

      here : has_member m i ≡ true → at i i ≡ heard_at e.clock (get_or e.objects i no_object)
      here t = rw (le-leb i i (omega arith), t)

      other : (j : ℕ) → (j ≡ i → ⊥) → at i j ≡ at n j
      other j d =
          ⊎_elim
          (λ (b : j < i). rw (lt-leb i j b, lt-leb n j (omega arith)))
          (λ (b : i ≤ j). rw (le-leb i j b, le-leb n j (omega arith)))
          (below_or_not j i)

      unheard : has_member m i ≡ false → (j : ℕ) → at i j ≡ at n j
      unheard f j = ⊎_elim (λ (s : j ≡ i). rw (s, f, and-false (leb i i), and-false (leb n i))) (λ d. other j d) (same_or_not j i)

  -- every row
  heard_all : (n : ℕ) → n ≡ 0 → proper (oids e) ≡ true → length e.objects ≤ 128 → heard_from n ≡ heard_now (member_values (oids e) m) e
  heard_all n z p l =
      let size : ℕ = length e.objects in
      let ms : List ℕ = member_values (oids e) m in
      let heard : Object → Object = λ o. cond (among ms o.oid) (heard_at e.clock o) o in
      ap (λ (os : List Object). with_objects os e)
      (tabulate-ext size (λ j. heard_if (leb n j && has_member m j) j) (λ j. heard (get_or e.objects j no_object))
      (λ j b.
      rw (le-leb n j (omega arith))
      (ap (λ (t : Bool). heard_if t j) (member j b)))
      ∙ sym (map-tabulate heard size (λ j. get_or e.objects j no_object))
      ∙ ap (map heard) (tabulate-get_or e.objects no_object))
    where
      member : (j : ℕ) → j < length e.objects → has_member m j ≡ among (member_values (oids e) m) (get_or e.objects j no_object).oid
      member j b =
          let n = length-map e.objects (λ (o : Object). o.oid) in
          sym (member-among (oids e) p m j (omega arith) (omega arith)) ∙ ap (among (member_values (oids e) m)) (get_d_map (λ (o : Object). o.oid) e.objects no_object 0 j b)

-- ---- the loop

-- the members from row i on are heard
pub record HearLoop (ws₀ : List ℕ) (m : Members) (ws : List ℕ) (i : ℕ) : Type 0 where
  pub below : i ≤ object_count ws₀
  pub heard : Became (λ e. heard_from m e i) ws₀ ws

pub hear-begin : (ws : List ℕ) (m : Members) (n : ℕ) → n ≡ object_count ws → HearLoop ws m ws n
hear-begin ws m n counted = record { below = omega arith; heard = λ s. heard-none m (view (memory ws s)) n (counted ∙ sym (objects-length ws)) }

module _ (ws₀ : List ℕ) (m : Members) (ws : List ℕ) (n : ℕ) (l : HearLoop ws₀ m ws n) where
  -- the row before is that of an object
  pub hear-below : (i : ℕ) → n ≡ suc i → i < object_count ws
  hear-below i z =
      let b = l.below in
      let a = objects-length ws₀ in
      let e = objects-length ws in
      let same = ap (λ (e : Entries). length e.objects) (l.heard ws) ∙ length-tabulate _ _ in
      omega arith

  pub hear-again : (i : ℕ) (ws₁ : List ℕ) → n ≡ suc i → Became (heard_row m i) ws ws₁ → HearLoop ws₀ m ws₁ i
  hear-again i ws₁ z row =
      let b = l.below in
      let a = objects-length ws₀ in
      record { below = omega arith; heard = λ s. row s ∙ ap (heard_row m i) (l.heard s) ∙ heard-row m (view (memory ws₀ s)) n i z (omega arith) }

  pub hear-end : n ≡ 0 → proper (oids_of ws₀) ≡ true → Became (λ e. heard_now (member_values (oids e) m) e) ws₀ ws
  hear-end z p s = let a = objects-length ws₀ in l.heard s ∙ heard_all m (view (memory ws₀ s)) n z p (omega arith)
