-- Once the end is declared, the state answers as the whole bytes do.
use Prim.Native.Nat.{ℕ, suc, ◌+◌, ◌-◌, ◌*◌, ◌<◌, ◌≤◌, min}
use mathlib.Core.Path.{◌≡◌, refl, sym, ap, ◌∙◌}
use mathlib.Core.Bool.{Bool, true, false, cond, not, ◌&&◌, ◌||◌}
use mathlib.Core.List.{List, [], ◌∷◌}
use native.Mathlib.Omega.{arith}
use borrow.Author.Tests.{ne_eqb, eqb-true, eqb-false, lt-ltb, ltb-true, ltb-false, not-false}
use lib.Dec.{eqb, ltb}
use lib.ListN.{length, take, drop, length-drop}
use lib.Seq.{take_all}
use Rattle.kinds.specs.Refusals.{Row, ◌gives◌, differ, passes, order}
use Rattle.kinds.proofs.Refusing.{by-test, same_test, true-false, or-false, differ-false, passed, passed_on, last_row}
use Rattle.fields.specs.Fields.{field, Bytes, guid_at, stored}
use Rattle.fields.proofs.Fields.{drop-bytes, field-drop, take_rest}
use Rattle.bindings.specs.Bindings.{joined, count, split, two_parts, list_length, front_answer, list_answer}
use Rattle.bindings.proofs.ListBytes.{by_bool, field_bound}
use Rattle.contexts.specs.Contexts.{is_marshaler}
use Rattle.elements.specs.Elements.{signature}
use Rattle.references.specs.References.{is_form, is_custom, is_extended, fixed_size, reference_at, head_answer, object_answer}
use Rattle.references.specs.References.{plain_answer, form_answer, layout_by, layout_answer, names_nil, reference_answer, tail_of}
use Rattle.references.proofs.Forms.{size-most, Headed, headed, accepted, tail-start, tail-end}
use Rattle.list_walk.specs.Walk.{both_closed}
use Rattle.fragments.specs.Fragments.{AnyCuts, AsRead, Reading, is_plain, is_nil_reference, plain_reference, plain_tail, whole_answer, finished_by, list_end, read_end, end_answer, finished, final_after}
use Rattle.fragments.specs.declared.Fragments.{Fragments}
use Rattle.list_walk.proofs.Walks.{parts-walk}
use Rattle.fragments.proofs.Bytewise.{by-plain, plain_form, form, form-made, nonzero-form, tail, tail_length, tail-in, come, walk_of}
use Rattle.fragments.proofs.Following.{Follows, at_first, follows-all, head-field}

-- ---- rows

-- rows with the same tests, of which the later ones matter only where the first does not hold
same_row : (rs ss : List Row) (a b : Bool) (n : ℕ) → a ≡ b → (b ≡ false → order rs ≡ order ss) → order (a gives n ∷ rs) ≡ order (b gives n ∷ ss)
unfolding order
same_row rs ss true true n e f = refl
same_row rs ss true false n e f = absurd (true-false e)
same_row rs ss false true n e f = absurd (true-false (sym e))
same_row rs ss false false n e f = f refl

-- an answer that is passed on is made of rows
pass-rows : (b : Bool) (n : ℕ) (rs ss : List Row) → 0 < n → order (passes (order (b gives n ∷ rs)) ∷ ss) ≡ order (b gives n ∷ passes (order rs) ∷ ss)
unfolding order
pass-rows true n rs ss h = let z : n ≡ 0 → ⊥ = λ e. omega arith in rw (ne_eqb n 0 z)
pass-rows false n rs ss h = refl

passed-row : (y : ℕ) (rs ss : List Row) → (y ≡ 0 → order rs ≡ order ss) → order (passes y ∷ rs) ≡ order (passes y ∷ ss)
passed-row y rs ss g = same_row rs ss (differ y 0) (differ y 0) y refl (λ e. g (differ-false _ _ e))

pass-none : (ss : List Row) → order (passes (order []) ∷ ss) ≡ order ss
unfolding order
pass-none ss = refl

-- a refusal in the first row
first-row : (n : ℕ) (rs : List Row) → 0 < n → order (passes n ∷ rs) ≡ n
unfolding order
first-row n rs h = let z : n ≡ 0 → ⊥ = λ e. omega arith in rw (ne_eqb n 0 z)

-- a row that does not hold
no_row : (b : Bool) (n : ℕ) → b ≡ false → order (b gives n ∷ []) ≡ order []
unfolding order
no_row b n e = rw e

-- two rows whose answer is passed on
pass-two : (n : ℕ) (b : Bool) (m : ℕ) (ss : List Row) → 0 < m → order (passes n ∷ b gives m ∷ ss) ≡ order (passes (order (passes n ∷ b gives m ∷ [])) ∷ ss)
unfolding order
pass-two n b m ss h =
    by_bool (eqb n 0)
    (λ e. rw e (sym (pass-rows b m [] ss h)))
    (λ e. rw (e, e))

-- ---- the list

module _ (l : ℕ) (s : List ℕ) (r : Reading) (f : Follows l s r) (bytes : Bytes s)
    (long : 24 ≤ length s) (signed : field s 0 4 ≡ signature) (named : is_plain (field s 4 4) ≡ true) (enough : fixed_size (field s 4 4) ≤ length s) where
  flags : form s ≡ field s 4 4
  flags = form-made s long signed named

  nonzero : form s ≡ 0 → ⊥
  nonzero z = nonzero-form (field s 4 4) named (sym flags ∙ z)

  pub tail-size : tail_length s ≡ length (drop (fixed_size (field s 4 4)) s)
  tail-size = tail-in s nonzero ∙ (rw (flags, length-drop (fixed_size (field s 4 4)) s))

  -- the count of the tail's bytes is true up to 131,075
  below : (m : ℕ) → m < 131075 → ltb (r.state.seen - fixed_size (field s 4 4)) m ≡ ltb (length (drop (fixed_size (field s 4 4)) s)) m
  below m h =
      let n = f.seen in
      let z = size-most (field s 4 4) in
      let q = length-drop (fixed_size (field s 4 4)) s in
      same_test _ _
      (λ t. let u = ltb-true (r.state.seen - fixed_size (field s 4 4)) m t in lt-ltb (length (drop (fixed_size (field s 4 4)) s)) m (omega arith))
      (λ t. let u = ltb-true (length (drop (fixed_size (field s 4 4)) s)) m t in lt-ltb (r.state.seen - fixed_size (field s 4 4)) m (omega arith))

  above : (m : ℕ) → m < 131075 → ltb m (r.state.seen - fixed_size (field s 4 4)) ≡ ltb m (length (drop (fixed_size (field s 4 4)) s))
  above m h =
      let n = f.seen in
      let z = size-most (field s 4 4) in
      let q = length-drop (fixed_size (field s 4 4)) s in
      same_test _ _
      (λ t. let u = ltb-true m (r.state.seen - fixed_size (field s 4 4)) t in lt-ltb m (length (drop (fixed_size (field s 4 4)) s)) (omega arith))
      (λ t. let u = ltb-true m (length (drop (fixed_size (field s 4 4)) s)) t in lt-ltb m (r.state.seen - fixed_size (field s 4 4)) (omega arith))

  head-count : 4 ≤ length (drop (fixed_size (field s 4 4)) s)
      → (field r.state.head (fixed_size (field s 4 4)) 2 ≡ count (drop (fixed_size (field s 4 4)) s))
      × (field r.state.head (fixed_size (field s 4 4) + 2) 2 ≡ split (drop (fixed_size (field s 4 4)) s))
  head-count h =
      let z = size-most (field s 4 4) in
      let q = length-drop (fixed_size (field s 4 4)) s in
      let o : fixed_size (field s 4 4) + 0 ≡ fixed_size (field s 4 4) = omega arith in (
        head-field l s r f (fixed_size (field s 4 4)) 2 (omega arith) (omega arith) ∙ (rw o at (sym (field-drop s (fixed_size (field s 4 4)) 0 2 (omega arith)))),
        head-field l s r f (fixed_size (field s 4 4) + 2) 2 (omega arith) (omega arith) ∙ sym (field-drop s (fixed_size (field s 4 4)) 2 2 (omega arith)),
      )

  -- all words have come
  closed_parts : is_custom (field s 4 4) ≡ false → list_length (drop (fixed_size (field s 4 4)) s) ≤ length (drop (fixed_size (field s 4 4)) s)
      → both_closed (count (drop (fixed_size (field s 4 4)) s)) (split (drop (fixed_size (field s 4 4)) s)) r.state.mode ≡ two_parts (drop (fixed_size (field s 4 4)) s)
  unfolding list_length walk_of
  closed_parts c h =
      let t = drop (fixed_size (field s 4 4)) s in
      let m : r.state.mode ≡ walk_of t = f.mode ∙ (rw (flags, ne_eqb _ _ (nonzero-form (field s 4 4) named), c)) in
      let all : come t ≡ count t = omega arith in
      rw (parts-walk t, m, all)

  pub list-end : is_custom (field s 4 4) ≡ false
      → list_end r.state.head (fixed_size (field s 4 4)) (r.state.seen - fixed_size (field s 4 4)) r.state.mode ≡ list_answer (drop (fixed_size (field s 4 4)) s)
  unfolding list_end list_answer front_answer list_length
  list-end c =
      let t = drop (fixed_size (field s 4 4)) s in
      let bound = field_bound t 0 (drop-bytes s (fixed_size (field s 4 4)) bytes) in
      same_row _ _ _ _ 13 (below 4 (omega arith))
      (λ e.
      let four : 4 ≤ length t = ltb-false _ _ e in
      let h = head-count four in
      rw (h.0, h.1)
      (same_row _ _ _ _ 13 (below (4 + 2 * count t) (omega arith))
      (λ e2.
      let room : list_length t ≤ length t = ltb-false _ _ e2 in
      same_row _ _ _ _ 14 (ap not (closed_parts c room))
      (λ e3. same_row _ _ _ _ 14 (above (4 + 2 * count t) (omega arith)) (λ _. refl) ∙ sym (pass-none _))
      ∙ sym (pass-rows (not (two_parts t)) 14 _ _ (omega arith)))
      ∙ sym (pass-rows (ltb (length t) (list_length t)) 13 _ _ (omega arith))))
      ∙ sym (pass-rows (ltb (length t) 4) 13 _ _ (omega arith))

  -- the fixed fields
  pub head-reference : reference_at r.state.head ≡ reference_at s
  unfolding reference_at fixed_size
  head-reference =
      let a = head-field l s r f 4 4 (omega arith) (omega arith) in
      let i = head-field l s r f 8 8 (omega arith) (omega arith) in
      let j = head-field l s r f 16 8 (omega arith) (omega arith) in
      by-plain (field s 4 4) named
      (λ e.
      let n : 64 ≤ length s = rw e at enough in
      rw (
        a,
        e,
        i,
        j,
        head-field l s r f 24 4 (omega arith) (omega arith),
        head-field l s r f 28 4 (omega arith) (omega arith),
        head-field l s r f 32 8 (omega arith) (omega arith),
        head-field l s r f 40 8 (omega arith) (omega arith),
        head-field l s r f 48 8 (omega arith) (omega arith),
        head-field l s r f 56 8 (omega arith) (omega arith),
      ))
      (λ e.
      let n : 80 ≤ length s = rw e at enough in
      rw (
        a,
        e,
        i,
        j,
        head-field l s r f 24 4 (omega arith) (omega arith),
        head-field l s r f 28 4 (omega arith) (omega arith),
        head-field l s r f 32 8 (omega arith) (omega arith),
        head-field l s r f 40 8 (omega arith) (omega arith),
        head-field l s r f 48 8 (omega arith) (omega arith),
        head-field l s r f 56 8 (omega arith) (omega arith),
        head-field l s r f 64 8 (omega arith) (omega arith),
        head-field l s r f 72 8 (omega arith) (omega arith),
      ))
      (λ e.
      let n : 48 ≤ length s = rw e at enough in
      rw (
        a,
        e,
        i,
        j,
        head-field l s r f 24 8 (omega arith) (omega arith),
        head-field l s r f 32 8 (omega arith) (omega arith),
        head-field l s r f 40 4 (omega arith) (omega arith),
        head-field l s r f 44 4 (omega arith) (omega arith),
      ))

  -- room
  pub no_room : (n : ℕ) → (r.state.over || ltb (min l n) r.state.kept) ≡ ltb (min l n) (length (drop (fixed_size (field s 4 4)) s))
  no_room n =
      let t = tail-size in
      let q = f.kept in
      by_bool (ltb l (tail_length s))
      (λ e.
      let u = ltb-true l (tail_length s) e in
      let v : min l n < length (drop (fixed_size (field s 4 4)) s) = omega arith in
      rw (f.over, e, lt-ltb _ _ v))
      (λ e.
      let u = ltb-false l (tail_length s) e in
      let v : r.state.kept ≡ length (drop (fixed_size (field s 4 4)) s) = omega arith in
      rw (f.over, e, v))

-- ---- the answers

-- what the whole is refused by, before 22 and 15
abbrev layout : List ℕ → ℕ
layout s = order (passes (head_answer s) ∷ passes (cond (is_custom (field s 4 4)) 0 (list_answer (plain_tail s))) ∷ [])

layout-headed : (s : List ℕ) → layout s ≡ 0 → Headed s
layout-headed s e = headed s (passed_on (head_answer s) _ e).0

layout-custom : (s : List ℕ) → is_custom (field s 4 4) ≡ true → layout s ≡ head_answer s
unfolding order
layout-custom s c = rw c (last_row (head_answer s))

-- of a form with a list
layout-listed : (s : List ℕ) → is_extended (field s 4 4) ≡ false → is_custom (field s 4 4) ≡ false → layout_answer 8 s ≡ layout s
unfolding layout_answer layout_by form_answer plain_answer
layout-listed s x c = rw (x, c)

nil-custom : (s : List ℕ) → field s 4 4 ≡ 4 → is_nil_reference (reference_at s) ≡ false
unfolding reference_at
nil-custom s e = rw e

nil-listed : (s : List ℕ) → is_plain (field s 4 4) ≡ true → is_custom (field s 4 4) ≡ false → (d : ℕ) → is_nil_reference (reference_at s) ≡ names_nil (suc d) s
unfolding reference_at names_nil
nil-listed s h c d =
    by-plain (field s 4 4) h (λ e. rw e) (λ e. rw e) (λ e. absurd (eqb-false (field s 4 4) 4 c e))

-- the whole, by its form
module _ (s : List ℕ) where
  plain-extended : is_extended (field s 4 4) ≡ true → plain_reference s ≡ cond (ltb (length s) 24) 13 14
  unfolding plain_reference
  plain-extended x = rw x

  plain-custom : is_extended (field s 4 4) ≡ false → is_custom (field s 4 4) ≡ true → plain_reference s ≡ head_answer s
  unfolding plain_reference
  plain-custom x c = rw (x, c)

  plain-listed : is_extended (field s 4 4) ≡ false → is_custom (field s 4 4) ≡ false → plain_reference s ≡ reference_answer s
  unfolding plain_reference
  plain-listed x c = rw (x, c)

-- an accepted whole
record Plain (s : List ℕ) : Type 0 where
  held : Headed s
  form : is_plain (field s 4 4) ≡ true

plain : (s : List ℕ) → is_extended (field s 4 4) ≡ false → Headed s → Plain s
plain s x h = record { held = h; form = plain_form (field s 4 4) x ∙ h.form }

plain_done : (s : List ℕ) → plain_reference s ≡ 0 → Plain s
unfolding plain_reference
plain_done s =
    by-test (λ (n : ℕ). n ≡ 0 → Plain s) (is_extended (field s 4 4)) _ _
    (λ x. by-test (λ (n : ℕ). n ≡ 0 → Plain s) (ltb (length s) 24) 13 14 (λ t e. absurd (omega arith)) (λ t e. absurd (omega arith)))
    (λ x. by-test (λ (n : ℕ). n ≡ 0 → Plain s) (is_custom (field s 4 4)) _ _ (λ c e. plain s x (headed s e)) (λ c e. plain s x (accepted s e)))

module _ (l : ℕ) (s : List ℕ) (r : Reading) (f : Follows l s r) (bytes : Bytes s) where
  seen_below : (m : ℕ) → m ≤ 131155 → ltb r.state.seen m ≡ ltb (length s) m
  seen_below m h =
      let e = f.seen in
      same_test _ _
      (λ t. let u = ltb-true r.state.seen m t in lt-ltb (length s) m (omega arith))
      (λ t. let u = ltb-true (length s) m t in lt-ltb r.state.seen m (omega arith))

  read : ℕ
  read = read_end r.state.head r.state.seen r.state.mode

  tail-end-same : (c : Bool) (x y : ℕ) → (c ≡ false → x ≡ y) → cond c 0 x ≡ cond c 0 y
  tail-end-same true x y g = refl
  tail-end-same false x y g = g refl

  -- flags other than 8
  pub read-end : is_extended (field s 4 4) ≡ false → read_end r.state.head r.state.seen r.state.mode ≡ layout s
  unfolding read_end head_answer
  read-end x =
      same_row _ _ _ _ 13 (seen_below 24 (omega arith))
      (λ e1.
      let long : 24 ≤ length s = ltb-false _ _ e1 in
      let a = head-field l s r f 0 4 (omega arith) (omega arith) in
      let b = head-field l s r f 4 4 (omega arith) (omega arith) in
      rw (a, b)
      (same_row _ _ _ _ 14 refl
      (λ e2.
      same_row _ _ _ _ 14 (ap not (plain_form (field s 4 4) x))
      (λ e3.
      let z = size-most (field s 4 4) in
      same_row _ _ _ _ 13 (seen_below (fixed_size (field s 4 4)) (omega arith))
      (λ e4.
      let signed = differ-false _ _ e2 in
      let named : is_plain (field s 4 4) ≡ true = plain_form (field s 4 4) x ∙ not-false _ e3 in
      let enough : fixed_size (field s 4 4) ≤ length s = ltb-false _ _ e4 in
      let k = fixed_size (field s 4 4) in
      let T : cond (is_custom (field s 4 4)) 0 (list_end r.state.head k (r.state.seen - k) r.state.mode) ≡ cond (is_custom (field s 4 4)) 0 (list_answer (drop k s)) =
      tail-end-same (is_custom (field s 4 4)) _ _ (list-end l s r f bytes long signed named enough) in
      (rw T) ∙ sym (pass-none _))
      ∙ sym (pass-rows (ltb (length s) (fixed_size (field s 4 4))) 13 _ _ (omega arith)))
      ∙ sym (pass-rows (not (is_form (field s 4 4))) 14 _ _ (omega arith)))
      ∙ sym (pass-rows (differ (field s 0 4) signature) 14 _ _ (omega arith))))
      ∙ sym (pass-rows (ltb (length s) 24) 13 _ _ (omega arith))

  -- flags 8
  read-extended : field s 4 4 ≡ 8 → read_end r.state.head r.state.seen r.state.mode ≡ cond (ltb (length s) 24) 13 14
  unfolding read_end order
  read-extended x =
      let t = seen_below 24 (omega arith) in
      by_bool (ltb (length s) 24)
      (λ e. rw (t, e))
      (λ e.
      let long : 24 ≤ length s = ltb-false _ _ e in
      let b = head-field l s r f 4 4 (omega arith) (omega arith) in
      rw (t, e, b, x) (by-test (λ (n : ℕ). n ≡ 14) (differ (field r.state.head 0 4) signature) 14 14 (λ _. refl) (λ _. refl)))

  -- and 22
  abbrev judged : ℕ → ℕ
  judged n = order (passes n ∷ is_nil_reference (reference_at r.state.head) gives 22 ∷ [])

  module _ (x : is_extended (field s 4 4) ≡ false) where
    same-nil : Headed s → is_nil_reference (reference_at r.state.head) ≡ is_nil_reference (reference_at s)
    same-nil h = ap is_nil_reference (head-reference l s r f bytes h.long h.signed (plain s x h).form h.fixed)

    read-custom : is_custom (field s 4 4) ≡ true → judged (layout s) ≡ head_answer s
    read-custom c =
        ap judged (layout-custom s c)
        ∙ passed-row (head_answer s) _ []
        (λ e. no_row _ 22 (same-nil (headed s e) ∙ nil-custom s (eqb-true _ _ c)))
        ∙ last_row (head_answer s)

    read-listed : is_custom (field s 4 4) ≡ false → judged (layout s) ≡ reference_answer s
    unfolding reference_answer
    read-listed c =
        passed-row (layout s) _ (names_nil 8 s gives 22 ∷ [])
        (λ e.
        let h = layout-headed s e in
        ap (λ (b : Bool). order (b gives 22 ∷ [])) (same-nil h ∙ nil-listed s (plain s x h).form c 7))
        ∙ ap (λ (n : ℕ). order (passes n ∷ names_nil 8 s gives 22 ∷ [])) (sym (layout-listed s x c))

  pub read_whole : judged (read_end r.state.head r.state.seen r.state.mode) ≡ plain_reference s
  read_whole =
      by_bool (is_extended (field s 4 4))
      (λ x.
      ap judged (read-extended (eqb-true _ _ x))
      ∙ by-test (λ (n : ℕ). judged n ≡ n) (ltb (length s) 24) 13 14 (λ _. first-row 13 _ (omega arith)) (λ _. first-row 14 _ (omega arith))
      ∙ sym (plain-extended s x))
      (λ x.
      ap judged (read-end x)
      ∙ by_bool (is_custom (field s 4 4))
      (λ c. read-custom x c ∙ sym (plain-custom s x c))
      (λ c. read-listed x c ∙ sym (plain-listed s x c)))

  pub end-answer : (n : ℕ) → end_answer r.state (length r.waiting) n ≡ whole_answer s l n
  unfolding end_answer whole_answer
  end-answer n =
      pass-two (read_end r.state.head r.state.seen r.state.mode) _ 22 _ (omega arith)
      ∙ ap (λ (a : ℕ). order (passes a ∷ (r.state.over || ltb (min (length r.waiting) n) r.state.kept) gives 15 ∷ [])) read_whole
      ∙ passed-row (plain_reference s) _ (ltb (min l n) (length (plain_tail s)) gives 15 ∷ [])
      (λ e.
      let a = plain_done s e in
      let h = a.held in
      rw (f.wide, no_room l s r f bytes h.long h.signed a.form h.fixed n))

-- ---- a reference that is done

record Done (s : List ℕ) (r : Reading) : Type 0 where
  fields : reference_at r.state.head ≡ reference_at s
  size : r.state.kept ≡ length (plain_tail s)
  bytes : take r.state.kept r.waiting ≡ plain_tail s

done : (l : ℕ) (s : List ℕ) (r : Reading) (n : ℕ) → Follows l s r → Bytes s → whole_answer s l n ≡ 0 → Done s r
unfolding whole_answer
done l s r n f b e =
    let p = passed_on (plain_reference s) _ e in
    let o = passed (ltb (min l n) (length (plain_tail s))) 15 _ (omega arith) p.1 in
    let room : length (plain_tail s) ≤ min l n = ltb-false _ _ o.0 in
    let a = plain_done s p.0 in
    let h = a.held in
    let m : tail_length s ≡ length (plain_tail s) = tail-size l s r f b h.long h.signed a.form h.fixed in
    let g : form s ≡ field s 4 4 = form-made s h.long h.signed a.form in
    let k = f.kept in
    let size : r.state.kept ≡ length (plain_tail s) = omega arith in
    let every : length (plain_tail s) ≤ r.state.kept = omega arith in
    let same : tail s ≡ plain_tail s = rw g in
    record {
      fields = head-reference l s r f b h.long h.signed a.form h.fixed;
      size = size;
      bytes = f.held ∙ (rw (same, take_all r.state.kept (plain_tail s) every));
    }

module _ (l : ℕ) (s : List ℕ) (r : Reading) (f : Follows l s r) (bytes : Bytes s) where
  pub end-finished : (n : ℕ) → finished r n ≡ finished_by (whole_answer s l n) (reference_at s) (length (plain_tail s))
  unfolding finished
  end-finished n =
      rw (end-answer l s r f bytes n)
      (by_bool (eqb (whole_answer s l n) 0)
      (λ e. let d = done l s r n f bytes (eqb-true _ _ e) in rw (e, d.fields, d.size))
      (λ e. rw e))

  pub end-filled : (b : List ℕ) → final_after r b ≡ stored (whole_answer s l (length b)) (plain_tail s) b
  unfolding final_after
  end-filled b =
      rw (end-answer l s r f bytes (length b))
      (by_bool (eqb (whole_answer s l (length b)) 0)
      (λ e. let d = done l s r (length b) f bytes (eqb-true _ _ e) in rw (e, d.bytes))
      (λ e. rw e))

pub any-cuts : AnyCuts
any-cuts =
    record {
      answered = λ fs w b h. end-finished (length w) (joined fs) _ (follows-all (length w) [] fs _ h (at_first w)) h (length b);
      filled = λ fs w b h. end-filled (length w) (joined fs) _ (follows-all (length w) [] fs _ h (at_first w)) h b;
    }

-- ---- the reader of whole references

-- a custom reference whose object data it does not look into
module _ (s : List ℕ) (x : is_extended (field s 4 4) ≡ false) (c : is_custom (field s 4 4) ≡ true) (m : is_marshaler (guid_at s 24) ≡ false) where
  other-layout : layout_answer 8 s ≡ head_answer s
  unfolding layout_answer layout_by form_answer plain_answer object_answer
  other-layout = rw (x, c, m) (rw c at (layout-custom s c))

  other-nil : (d : ℕ) → names_nil (suc d) s ≡ false
  unfolding names_nil
  other-nil d = let e : field s 4 4 ≡ 4 = eqb-true _ _ c in rw e

  read-other : head_answer s ≡ reference_answer s
  unfolding reference_answer
  read-other =
      sym (last_row (head_answer s))
      ∙ sym (passed-row (head_answer s) (names_nil 8 s gives 22 ∷ []) [] (λ e. no_row _ 22 (other-nil 7)))
      ∙ ap (λ (n : ℕ). order (passes n ∷ names_nil 8 s gives 22 ∷ [])) (sym other-layout)

as_number : (s : List ℕ) → is_extended (field s 4 4) ≡ false → (is_custom (field s 4 4) && is_marshaler (guid_at s 24)) ≡ false → plain_reference s ≡ reference_answer s
as_number s x m =
    by_bool (is_custom (field s 4 4))
    (λ c. plain-custom s x c ∙ read-other s x c (rw c at m))
    (plain-listed s x)

as-tail : (s : List ℕ) → is_extended (field s 4 4) ≡ false → reference_answer s ≡ 0 → plain_tail s ≡ tail_of s
as-tail s x done =
    rw (tail-start s done, tail-end s done, x) (sym (take_rest s (fixed_size (field s 4 4))))

pub as_read : AsRead
as_read = record { number = as_number; tail = as-tail }

-- ---- for the code

-- what was kept lies within the waiting buffer
pub end-room : (f : Fragments) (w n : ℕ) → end_answer f w n ≡ 0 → f.kept ≤ w
unfolding end_answer
end-room f w n e =
    let p = passed_on (read_end f.head f.seen f.mode) _ e in
    let q = passed (is_nil_reference (reference_at f.head)) 22 _ (omega arith) p.1 in
    let o = passed (f.over || ltb (min w n) f.kept) 15 _ (omega arith) q.1 in
    let h : f.kept ≤ min w n = ltb-false _ _ (or-false f.over _ o.0).1 in
    omega arith
