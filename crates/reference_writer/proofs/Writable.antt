-- What can be written, how long it is, and the rows of the writer's answer.
use Prim.Native.Nat.{ℕ, ◌+◌, ◌-◌, ◌<◌, ◌≤◌}
use mathlib.Core.Path.{◌≡◌, refl, sym, ap, ◌∙◌}
use mathlib.Core.Bool.{Bool, true, false, cond, not, ◌&&◌, ◌||◌}
use mathlib.Core.List.{List, [], ◌∷◌, ◌++◌, append-nil}
use native.Mathlib.Omega.{arith}
use borrow.Author.Tests.{ne_eqb, lt-ltb, le-ltb, ltb-false, not-false}
use lib.Dec.{eqb, ltb}
use lib.ListN.{length, take, drop, drop_of_length-le}
use borrow.Rule.Slice.PartMut.{mid_of, post_of, put_mid, mid_len, Post-is}
use Rattle.kinds.specs.Refusals.{◌gives◌, passes, differ, order}
use Rattle.kinds.specs.declared.Guid.{Guid}
use Rattle.kinds.proofs.Refusing.{or-false, eq-differ, ne-differ, passed, passed_on, last_row}
use Rattle.fields.specs.Fields.{encode, written, longest}
use Rattle.fields.proofs.Fields.{written_in_lem, written-front}
use Rattle.elements.specs.Elements.{is_nil, is_reference, content_answer, given_answer}
use Rattle.references.specs.References.{by_form, is_form, is_extended, fixed_size, layout_answer, has_nil, names_nil, answer_within}
use Rattle.references.specs.declared.Block.{Block}
use Rattle.references.specs.declared.Reference.{Reference}
use Rattle.references.proofs.Forms.{by_form_lem}
use Rattle.reference_writer.specs.Writing.{block_bytes, header_bytes, body_bytes, element_given, tail_answer, value_answer, written_length, write_answer, write_reference}

-- ---- lengths

pub length-block : (b : Block) → length (block_bytes b) ≡ 40
unfolding block_bytes encode
length-block b = refl

pub length-header : (r : Reference) → length (header_bytes r) ≡ 24
unfolding header_bytes encode
length-header r = refl

pub length-body : (r : Reference) → is_form r.flags ≡ true → 24 + length (body_bytes r) ≡ fixed_size r.flags
unfolding body_bytes block_bytes fixed_size encode
length-body r h = by_form_lem r.flags h (λ e. rw e) (λ e. rw e) (λ e. rw e) (λ e. rw e)

-- ---- what can be written

pub form-none : {A : Type 0} (f : ℕ) (a b c d e : A) → is_form f ≡ false → by_form f a b c d e ≡ e
form-none f a b c d e h =
    let p = or-false (eqb f 1) (eqb f 2 || (eqb f 4 || eqb f 8)) h in
    let q = or-false (eqb f 2) (eqb f 4 || eqb f 8) p.1 in
    let r = or-false (eqb f 4) (eqb f 8) q.1 in
    rw (p.0, q.0, r.0, r.1)

pub tail_none : (r : Reference) (t : List ℕ) → is_form r.flags ≡ false → tail_answer r t ≡ 0
unfolding tail_answer
tail_none r t h = form-none r.flags _ _ _ _ _ h

pub given-parts : (j : List ℕ → ℕ) (id : Guid) (x : List ℕ) → given_answer j id x ≡ 0 → (length x ≤ longest) × (content_answer j x ≡ 0)
unfolding given_answer
given-parts j id x done =
    let a = passed (is_nil id) 14 _ (omega arith) done in
    let b = passed (eqb (length x) 0) 14 _ (omega arith) a.1 in
    let d = passed (ltb longest (length x)) 14 _ (omega arith) b.1 in
    (ltb-false _ _ d.0, (passed_on (content_answer j x) _ d.1).0)

size-least : (f : ℕ) → is_form f ≡ true → 48 ≤ fixed_size f
unfolding fixed_size
size-least f h = by_form_lem f h (λ e. rw e (omega arith)) (λ e. rw e (omega arith)) (λ e. rw e (omega arith)) (λ e. rw e (omega arith))

-- ---- the writer's rows, as the code has them

-- with an element's refusals may stand the 22 of a reference in it, for the block's own 22 comes after them
nil-after : (n h : Bool) (k : ℕ) (d : Bool) → differ k 0 ≡ d
    → order (passes k ∷ (h || n) gives 22 ∷ []) ≡ order (passes (order (passes k ∷ n gives 22 ∷ [])) ∷ h gives 22 ∷ [])
unfolding order
nil-after n h k true e = simp e
nil-after true true k false e = simp e
nil-after true false k false e = simp e
nil-after false true k false e = simp e
nil-after false false k false e = simp e

given-rows : (a b c i n h : Bool) (k : ℕ)
    → order (passes (order (a gives 14 ∷ b gives 14 ∷ c gives 14 ∷ passes (cond i k 0) ∷ [])) ∷ (h || (i && n)) gives 22 ∷ [])
    ≡ order (passes (order (a gives 14 ∷ b gives 14 ∷ c gives 14 ∷ passes (cond i (order (passes k ∷ n gives 22 ∷ [])) 0) ∷ [])) ∷ h gives 22 ∷ [])
unfolding order
given-rows true b c i n h k = refl
given-rows false true c i n h k = refl
given-rows false false true i n h k = refl
given-rows false false false false n true k = refl
given-rows false false false false n false k = refl
given-rows false false false true n h k = simp last_row (nil-after n h k (differ k 0) refl)

-- the block names zero, of a form that has one
abbrev pub own_nil : Reference → Bool
own_nil r = by_form r.flags (has_nil r.block) (has_nil r.block) false (has_nil r.block) false

pub own_block : (r : Reference) → is_form r.flags ≡ true → (r.flags ≡ 4 → ⊥) → own_nil r ≡ has_nil r.block
own_block r form other = by_form_lem r.flags form (λ e. rw e) (λ e. rw e) (λ e. absurd (other e)) (λ e. rw e)

pub value-rows : (r : Reference) (t x : List ℕ) → is_form r.flags ≡ true → tail_answer r t ≡ 0
    → value_answer r t x ≡ order (passes (cond (is_extended r.flags) (given_answer (answer_within 7) r.element x) 0) ∷ own_nil r gives 22 ∷ [])
unfolding value_answer order given_answer
value-rows r t x form tail =
    rw (form, eq-differ _ _ tail)
    (by_form_lem r.flags form
    (λ e. rw e)
    (λ e. rw e)
    (λ e. rw e)
    (λ e. rw e (given-rows (is_nil r.element) (eqb (length x) 0) (ltb longest (length x)) (is_reference x) (names_nil 7 x) (has_nil r.block) (layout_answer 7 x))))

-- ---- what can be written

-- r can be written with the tail t and the element's data x, where there is room
pub record Valued (r : Reference) (t x : List ℕ) : Type 0 where
  pub form : is_form r.flags ≡ true
  pub least : 48 ≤ fixed_size r.flags
  pub given : element_given r x ≡ 0

pub valued : (r : Reference) (t x : List ℕ) → value_answer r t x ≡ 0 → Valued r t x
unfolding value_answer
valued r t x done =
    let a = passed (not (is_form r.flags)) 14 _ (omega arith) done in
    let b = passed_on (tail_answer r t) _ a.1 in
    let d = passed_on (element_given r x) _ b.1 in
    record { form = not-false _ a.0; least = size-least _ (not-false _ a.0); given = d.0 }

module _ (r : Reference) (t x : List ℕ) (n : ℕ) where
  pub write-refused : (value_answer r t x ≡ 0 → ⊥) → write_reference r t x n ≡ record { answer = value_answer r t x; length = 0 }
  unfolding write_reference write_answer order
  write-refused h = rw (ne-differ _ _ h, ne_eqb _ _ h)

  pub write-short : value_answer r t x ≡ 0 → n < written_length r t x → write_reference r t x n ≡ record { answer = 15; length = 0 }
  unfolding write_reference write_answer order
  write-short done l = rw (eq-differ _ _ done, lt-ltb _ _ l)

  pub write-fits : value_answer r t x ≡ 0 → written_length r t x ≤ n → write_reference r t x n ≡ record { answer = 0; length = written_length r t x }
  unfolding write_reference write_answer order
  write-fits done l = rw (eq-differ _ _ done, le-ltb _ _ l)

-- a write that fills a part of a buffer
pub written-part : (s y : List ℕ) (a e : ℕ) → a ≤ e → e ≤ length s → length y ≡ e - a → put_mid a (e - a) s (written (mid_of a (e - a) s) 0 y) ≡ written s a y
written-part s y a e h l n =
    let m = mid_len a e s l in
    let part = mid_of a (e - a) s in
    let full : length part ≤ length y = omega arith in
    let none : drop (length y) part ≡ [] = drop_of_length-le part full in
    let here : written part 0 y ≡ y = written-front part y (omega arith) ∙ (rw none (append-nil y)) in
    let past : a + length y ≡ e = omega arith in
    let rest : post_of a (e - a) s ≡ drop (a + length y) s = Post-is a e s h ∙ ap (λ (k : ℕ). drop k s) (sym past) in
    ap (put_mid a (e - a) s) here ∙ ap (λ (z : List ℕ). take a s ++ (y ++ z)) rest ∙ sym (written_in_lem s a y (omega arith))
