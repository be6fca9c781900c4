-- Round trips of references over their layout, one pair of statements for the four forms, and the writer as a reader.
use Prim.Native.Nat.{ℕ, suc, ◌+◌, ◌-◌, ◌^◌, ◌<◌, ◌≤◌}
use mathlib.Core.Path.{◌≡◌, refl, sym, ap, ◌∙◌}
use mathlib.Core.Bool.{Bool, true, false, cond, not, ◌&&◌, ◌||◌}
use mathlib.Core.List.{List, [], ◌∷◌, ◌++◌, append_assoc, append-nil}
use native.Mathlib.Omega.{arith}
use native.Mathlib.Nat.{add-zero, add-sub_cancel_left}
use borrow.Author.Tests.{eq-eqb, ne_eqb, le-ltb, ltb-false, not-false}
use lib.Dec.{ltb}
use lib.ListN.{length, take, drop, length-append, length-drop, take-append-drop}
use lib.Seq.{take_at, drop_at, drop-drop, length-take-le}
use Rattle.kinds.specs.Refusals.{◌gives◌, passes, differ, order}
use Rattle.kinds.specs.declared.Guid.{Guid}
use Rattle.kinds.proofs.Refusing.{by-test, eq-differ, accepted-by, passed, passed_on, last_row}
use Rattle.fields.specs.Fields.{field, encode, guid_at, guid_bytes, stored, Bytes, GuidFits, rounded, longest}
use Rattle.fields.proofs.Fields.{guid-fits, field_bound, drop-bytes, part_of, field-part, guid-part, field-then, field_next, guid-then, take_rest, written-front, field-drop}
use Rattle.bindings.specs.Bindings.{list_length, front_answer, list_answer}
use Rattle.bindings.proofs.ListAnswers.{list-front, list-front-length, front-list}
use Rattle.references.specs.References.{no_guid, no_block, block_at, extended_signature, is_form, is_extended, fixed_size, list_end, element_start, content_start}
use Rattle.references.specs.References.{content_length, content_of, reference_at, head_answer, object_answer, plain_answer, extended_front, extended_answer, form_answer}
use Rattle.references.specs.References.{layout_by, layout_answer, tail_end, tail_place, tail_of, refused, read_reference, has_nil, nil_given, names_nil, reference_answer}
use Rattle.reference_writer.specs.Writing.{block_bytes, header_bytes, body_bytes, elements_bytes, reference_bytes, formed, tail_answer, write_answer, written_length, value_answer}
use Rattle.references.specs.declared.Block.{Block}
use Rattle.elements.specs.Elements.{signature, is_reference, element_bytes, content_size, element_front, element_content, element_answer, given_answer}
use Rattle.contexts.specs.Contexts.{is_marshaler, context_answer, context_at, context_bytes, properties_at, properties_bytes}
use Rattle.references.specs.declared.Reference.{Reference}
use Rattle.references.specs.declared.ReadReference.{ReadReference}
use Rattle.elements.proofs.ElementAnswers.{fronted}
use Rattle.references.proofs.Forms.{by_form_lem, flags-at, Headed, Opened, opened}
use Rattle.references.proofs.Nested.{Level, level, content-from}
use Rattle.reference_writer.proofs.Writable.{length-header, length-body, given-parts}
use Rattle.contexts.proofs.RoundTrip.{context-write-then-read, context-read-then-write}
use Rattle.reference_writer.specs.RoundTrips.{BlockFits, Fits, ReadAs, WriteThenRead, ReadThenWrite, Sized, WriterAsReader, RoundTrip}
use Rattle.elements.proofs.RoundTrip.{laid, length-element, element-given, element-back}

-- ---- the block

-- bytes that are a block's hold the block
pub block-as : (s : List ℕ) (at : ℕ) (b : Block) → take 40 (drop at s) ≡ block_bytes b → at + 40 ≤ length s → BlockFits b → block_at s at ≡ b
unfolding block_bytes encode
block-as s at b e l f =
    let x = block_bytes b in
    let flags : field s at 4 ≡ b.flags = rw (add-zero at) at (field-part s x at 40 e l 0 4 b.flags (omega arith) refl f.flags) in
    rw (
      flags,
      field-part s x at 40 e l 4 4 b.public (omega arith) refl f.public,
      field-part s x at 40 e l 8 8 b.oxid.0 (omega arith) refl f.oxid,
      field-part s x at 40 e l 16 8 b.oid.0 (omega arith) refl f.oid,
      guid-part s x at 40 e l 24 b.ipid (omega arith) refl f.ipid,
    )

-- a block, and the bytes after it
pub block-then : (s : List ℕ) (at : ℕ) (rest : List ℕ) → Bytes s → at + 40 ≤ length s → drop (at + 40) s ≡ rest → drop at s ≡ block_bytes (block_at s at) ++ rest
unfolding block_bytes
block-then s at rest b l e =
    let past : at + 24 + 16 ≡ at + 40 = omega arith in
    let ipid = guid-then s (at + 24) rest b (omega arith) (rw past e) in
    field_next s at 4 (at + 4) _ b refl (omega arith)
    (field_next s (at + 4) 4 (at + 8) _ b (omega arith) (omega arith)
    (field_next s (at + 8) 8 (at + 16) _ b (omega arith) (omega arith)
    (field_next s (at + 16) 8 (at + 24) _ b (omega arith) (omega arith) ipid)))
    ∙ simp append_assoc

layout-step : (d : ℕ) (s : List ℕ) → layout_answer (suc d) s ≡ layout_by (layout_answer d) s
unfolding layout_answer
layout-step d s = refl

-- ---- sizes

tail-extended : (r : Reference) (t : List ℕ) → r.flags ≡ 8 → tail_answer r t ≡ list_answer t
unfolding tail_answer
tail-extended r t e = rw e

-- ---- from the layout to the reader

-- s is laid out as the reference r with the tail t and the data x of its element
pub record Laid (s : List ℕ) (r : Reference) (t x : List ℕ) : Type 0 where
  pub header : take 24 s ≡ header_bytes r
  pub body : take (fixed_size r.flags - 24) (drop 24 s) ≡ body_bytes r
  pub rest : drop (fixed_size r.flags) s ≡ t ++ elements_bytes r x
  pub room : fixed_size r.flags ≤ length s
  pub long : 24 ≤ length s

pub reference-laid : (r : Reference) (t x : List ℕ) → is_form r.flags ≡ true → Laid (reference_bytes r t x) r t x
unfolding reference_bytes
reference-laid r t x form =
    let h = header_bytes r in
    let b = body_bytes r in
    let e = elements_bytes r x in
    let head = length-header r in
    let body = length-body r form in
    let whole : length (h ++ b) ≡ fixed_size r.flags = omega (arith, length-append h b) in
    let size : length b ≡ fixed_size r.flags - 24 = omega arith in
    let all : h ++ b ++ t ++ e ≡ h ++ b ++ (t ++ e) = append_assoc (h ++ b) t e in
    let rest = t ++ e in
    record {
      header = rw (all, append_assoc h b rest) (take_at h (b ++ rest) 24 head);
      body = rw (all, append_assoc h b rest, drop_at h (b ++ rest) 24 head) (take_at b rest _ size);
      rest = rw all (drop_at (h ++ b) rest _ whole);
      room = rw all (omega (arith, length-append (h ++ b) rest));
      long = rw all (omega (arith, length-append (h ++ b) rest));
    }

-- the number of elements and the signature before them
marks : List ℕ
marks = encode 4 1 ++ encode 4 extended_signature

length-marks : length marks ≡ 8
unfolding marks encode
length-marks = refl

elements-length : (b : Bool) (l : List ℕ) (n : ℕ) → 8 + length l ≡ n → length (cond b (encode 4 1 ++ encode 4 extended_signature ++ l) []) ≡ cond b n 0
unfolding marks
elements-length true l n e = let a = length-append marks l in let k = length-marks in omega arith
elements-length false l n e = refl

guid-from : (s : List ℕ) (k : ℕ) → guid_at (drop k s) 0 ≡ guid_at s k
guid-from s k = rw (field-drop s k 0 8 (omega arith), field-drop s k 8 8 (omega arith), add-zero k)

sum-four : (n : ℕ) → n + 4 + 4 ≡ n + 8
sum-four n = omega arith

-- rows that pass an answer on
first-row : (k : ℕ) → order (passes k ∷ passes 0 ∷ []) ≡ k
unfolding order
first-row k = last_row k

second-row : (k : ℕ) → order (passes 0 ∷ passes k ∷ []) ≡ k
unfolding order
second-row k = last_row k

three-rows : (a b : ℕ) (n : Bool) → order (passes (order (passes a ∷ passes b ∷ [])) ∷ n gives 22 ∷ []) ≡ order (false gives 14 ∷ passes a ∷ passes b ∷ n gives 22 ∷ [])
unfolding order
three-rows a b n =
    by-test (λ (k : ℕ). cond (differ k 0) k (cond n 22 0) ≡ cond (differ a 0) a (cond (differ b 0) b (cond n 22 0))) (differ a 0) a _
    (λ e. rw e)
    (λ e. by-test (λ (k : ℕ). cond (differ k 0) k (cond n 22 0) ≡ cond (differ a 0) a (cond (differ b 0) b (cond n 22 0))) (differ b 0) b 0
    (λ d. rw (e, d))
    (λ d. rw (e, d)))

-- what the header holds
record Header (s : List ℕ) (r : Reference) : Type 0 where
  signed : field s 0 4 ≡ signature
  flags : field s 4 4 ≡ r.flags
  iid : guid_at s 8 ≡ r.iid

header-as : (s : List ℕ) (r : Reference) → take 24 s ≡ header_bytes r → 24 ≤ length s → is_form r.flags ≡ true → GuidFits r.iid → Header s r
unfolding header_bytes encode
header-as s r e l form f =
    let x = header_bytes r in
    record {
      signed = field-part s x 0 24 e l 0 4 signature (omega arith) refl (omega arith);
      flags = field-part s x 0 24 e l 4 4 r.flags (omega arith) refl (by_form_lem r.flags form (λ e. omega arith) (λ e. omega arith) (λ e. omega arith) (λ e. omega arith));
      iid = guid-part s x 0 24 e l 8 r.iid (omega arith) refl f;
    }

module _ (s : List ℕ) (r : Reference) (t x : List ℕ) (f : Fits r) (form : is_form r.flags ≡ true) (l : Laid s r t x) where
  headed-as : Header s r
  headed-as = header-as s r l.header l.long form f.iid

  head_done : head_answer s ≡ 0
  unfolding head_answer order
  head_done =
      let h = headed-as in
      rw (le-ltb _ _ l.long, eq-differ _ _ h.signed, h.flags, form, le-ltb _ _ l.room)

  -- ---- the extended form
  module _ (e : r.flags ≡ 8) where
    rest-as : drop 68 s ≡ t ++ (marks ++ element_bytes r.element x)
    unfolding fixed_size elements_bytes marks
    rest-as = rw e at l.rest

    body-as : take 44 (drop 24 s) ≡ block_bytes r.block ++ encode 4 extended_signature
    unfolding fixed_size body_bytes
    body-as = rw e at l.body

    room_as : 68 ≤ length s
    unfolding fixed_size
    room_as = rw e at l.room

    signed-as : field s 64 4 ≡ extended_signature
    unfolding block_bytes encode
    signed-as =
        let b = block_bytes r.block ++ encode 4 extended_signature in
        field-part s b 24 44 body-as room_as 40 4 extended_signature (omega arith) refl (omega arith)

    block_held : block_at s 24 ≡ r.block
    unfolding block_bytes encode
    block_held =
        let b = block_bytes r.block ++ encode 4 extended_signature in
        let room = room_as in
        block-as s 24 r.block (part_of s b 24 44 0 40 body-as (omega arith)) (omega arith) f.block

    module _ (list : list_answer t ≡ 0) where
      end-as : list_end s ≡ 68 + length t
      end-as = rw rest-as (ap (λ (n : ℕ). 68 + n) (list-front-length t (marks ++ element_bytes r.element x) list))

      -- from the end of the list
      elements-as : drop (68 + length t) s ≡ marks ++ element_bytes r.element x
      elements-as = sym (drop-drop (length t) 68 s) ∙ (rw rest-as (drop_at t _ (length t) refl))

      more-as : 68 + length t + 8 ≤ length s
      more-as =
          let a = ap length elements-as in
          let b = length-drop (68 + length t) s in
          let d = length-append marks (element_bytes r.element x) in
          let m = length-marks in
          let n = length-element r.element x in
          omega arith

      marks-as : take 8 (drop (68 + length t) s) ≡ marks
      marks-as = rw elements-as (take_at marks (element_bytes r.element x) 8 length-marks)

      number-as : field s (list_end s) 4 ≡ 1
      unfolding marks encode
      number-as =
          let n = field-part s marks (68 + length t) 8 marks-as more-as 0 4 1 (omega arith) refl (omega arith) in
          rw (end-as, ← add-zero (68 + length t)) n

      again-as : field s (list_end s + 4) 4 ≡ extended_signature
      unfolding marks encode
      again-as = rw end-as (field-part s marks (68 + length t) 8 marks-as more-as 4 4 extended_signature (omega arith) refl (omega arith))

      front-done : extended_front s ≡ 0
      unfolding extended_front order
      front-done =
          let front : front_answer (drop 68 s) ≡ 0 = rw rest-as (list-front t _ list) in
          let end = end-as in
          let more = more-as in
          let a : list_end s + 4 ≤ length s = omega arith in
          let b : list_end s + 8 ≤ length s = omega arith in
          rw (eq-differ _ _ signed-as, eq-differ _ _ front, le-ltb _ _ a, eq-eqb _ _ number-as, le-ltb _ _ b, eq-differ _ _ again-as)

      element-as : drop (element_start s) s ≡ element_bytes r.element x
      element-as = rw end-as (sym (drop-drop 8 (68 + length t) s) ∙ (rw elements-as (drop_at marks (element_bytes r.element x) 8 length-marks)))

      module _ (most : length x ≤ longest) where
        form-extended : (j : List ℕ → ℕ) → form_answer j s ≡ given_answer j r.element x
        unfolding form_answer extended_answer order
        form-extended j =
            let h = headed-as in
            rw (h.flags, e, eq-differ _ _ front-done, element-as, element-given j r.element x f.element most)
            (last_row (given_answer j r.element x))

        element-held : guid_at s (element_start s) ≡ r.element
        element-held =
            sym (guid-from s (element_start s)) ∙ ap (λ (l : List ℕ). guid_at l 0) element-as ∙ (laid r.element x f.element most).id

        content-held : content_of s ≡ x
        content-held =
            let h = headed-as in
            rw (h.flags, e) (content-from s ∙ ap (λ (l : List ℕ). element_content l) element-as ∙ (laid r.element x f.element most).content)

  -- ---- the other forms

  form-plain : (j : List ℕ → ℕ) → (r.flags ≡ 8 → ⊥) → form_answer j s ≡ tail_answer r t
  unfolding form_answer plain_answer tail_answer fixed_size body_bytes elements_bytes block_bytes encode
  form-plain j other =
      let h = headed-as in
      by_form_lem r.flags form
      (λ e.
      let rest : drop 64 s ≡ t = (rw e at l.rest) ∙ append-nil t in
      rw (h.flags, e, rest))
      (λ e.
      let rest : drop 80 s ≡ t = (rw e at l.rest) ∙ append-nil t in
      rw (h.flags, e, rest))
      (λ e.
      let rest : drop 48 s ≡ t = (rw e at l.rest) ∙ append-nil t in
      let b = guid_bytes r.clsid ++ encode 4 r.extension ++ encode 4 r.size in
      let body : take 24 (drop 24 s) ≡ b = rw e at l.body in
      let room : 48 ≤ length s = rw e at l.room in
      let clsid : guid_at s 24 ≡ r.clsid = guid-part s b 24 24 body room 0 r.clsid (omega arith) refl f.clsid in
      rw (h.flags, e, rest) (ap (λ (g : Guid). object_answer g t) clsid))
      (λ e. absurd (other e))

  -- ---- each form

  module _ (sized : Sized r t x) where
    -- the layout's answer is that of the tail, then that of the element
    layout-as : (j : List ℕ → ℕ) → layout_by j s ≡ order (passes (tail_answer r t) ∷ passes (cond (is_extended r.flags) (given_answer j r.element x) 0) ∷ [])
    unfolding layout_by Sized
    layout-as j =
        let other : (r.flags ≡ 8 → ⊥) → form_answer j s ≡ order (passes (tail_answer r t) ∷ passes (cond (is_extended r.flags) (given_answer j r.element x) 0) ∷ []) =
        λ no. form-plain j no ∙ (rw (ne_eqb _ _ no) (sym (first-row (tail_answer r t)))) in
        rw head_done (second-row (form_answer j s))
        ∙ by_form_lem r.flags form
        (λ e. other (λ z. omega arith))
        (λ e. other (λ z. omega arith))
        (λ e. other (λ z. omega arith))
        (λ e.
        let z = sized e in
        let tail : tail_answer r t ≡ 0 = tail-extended r t e ∙ z.0 in
        form-extended e z.0 z.1 j ∙ (rw (tail, e) (sym (second-row (given_answer j r.element x)))))

    block-plain : (r.flags ≡ 4 → ⊥) → block_at s 24 ≡ r.block
    unfolding body_bytes block_bytes fixed_size encode
    block-plain custom =
        by_form_lem r.flags form
        (λ e.
        let body : take 40 (drop 24 s) ≡ block_bytes r.block = rw e at l.body in
        let room : 64 ≤ length s = rw e at l.room in
        block-as s 24 r.block body room f.block)
        (λ e.
        let b = block_bytes r.block ++ guid_bytes r.clsid in
        let body : take 56 (drop 24 s) ≡ b = rw e at l.body in
        let room : 80 ≤ length s = rw e at l.room in
        block-as s 24 r.block (part_of s b 24 56 0 40 body (omega arith)) (omega arith) f.block)
        (λ e. absurd (custom e))
        (λ e. block_held e)

    nil-as : (d : ℕ) → names_nil (suc d) s ≡ nil_given (names_nil d) r.flags r.block x
    unfolding names_nil Sized
    nil-as d =
        let h = headed-as in
        by_form_lem r.flags form
        (λ e. rw (h.flags, e) (ap has_nil (block-plain (λ z. omega arith))))
        (λ e. rw (h.flags, e) (ap has_nil (block-plain (λ z. omega arith))))
        (λ e. rw (h.flags, e))
        (λ e. let z = sized e in rw (content-held e z.0 z.1, h.flags, e) (ap (λ (b : Block). has_nil b || (is_reference x && names_nil d x)) (block-plain (λ z. omega arith))))

    value_as : reference_at s ≡ formed r
    unfolding reference_at formed body_bytes fixed_size encode Sized block_bytes
    value_as =
        let h = headed-as in
        by_form_lem r.flags form
        (λ e. rw (h.flags, e, h.iid, block-plain (λ z. omega arith)))
        (λ e.
        let b = block_bytes r.block ++ guid_bytes r.clsid in
        let body : take 56 (drop 24 s) ≡ b = rw e at l.body in
        let room : 80 ≤ length s = rw e at l.room in
        let clsid : guid_at s 64 ≡ r.clsid = guid-part s b 24 56 body room 40 r.clsid (omega arith) refl f.clsid in
        rw (h.flags, e, h.iid, block-plain (λ z. omega arith), clsid))
        (λ e.
        let b = guid_bytes r.clsid ++ encode 4 r.extension ++ encode 4 r.size in
        let body : take 24 (drop 24 s) ≡ b = rw e at l.body in
        let room : 48 ≤ length s = rw e at l.room in
        rw (
          h.flags,
          e,
          h.iid,
          guid-part s b 24 24 body room 0 r.clsid (omega arith) refl f.clsid,
          field-part s b 24 24 body room 16 4 r.extension (omega arith) refl f.extension,
          field-part s b 24 24 body room 20 4 r.size (omega arith) refl f.size,
        ))
        (λ e. let z = sized e in rw (h.flags, e, h.iid, block-plain (λ z. omega arith), element-held e z.0 z.1))

    -- the tail, where it stands
    tail-as : take (tail_end s - fixed_size (field s 4 4)) (drop (fixed_size (field s 4 4)) s) ≡ t
    unfolding fixed_size elements_bytes Sized
    tail-as =
        let h = headed-as in
        by_form_lem r.flags form
        (λ e. rw (h.flags, e) (take_rest s 64 ∙ (rw e at l.rest) ∙ append-nil t))
        (λ e. rw (h.flags, e) (take_rest s 80 ∙ (rw e at l.rest) ∙ append-nil t))
        (λ e. rw (h.flags, e) (take_rest s 48 ∙ (rw e at l.rest) ∙ append-nil t))
        (λ e. let z = sized e in rw (h.flags, e, end-as e z.0, add-sub_cancel_left 68 (length t), rest-as e) (take_at t _ (length t) refl))

    content-as : content_of s ≡ cond (is_extended r.flags) x []
    unfolding Sized
    content-as =
        let h = headed-as in
        let other : (r.flags ≡ 8 → ⊥) → content_of s ≡ cond (is_extended r.flags) x [] = λ no. rw (h.flags, ne_eqb _ _ no) in
        by_form_lem r.flags form
        (λ e. other (λ z. omega arith))
        (λ e. other (λ z. omega arith))
        (λ e. other (λ z. omega arith))
        (λ e. let z = sized e in content-held e z.0 z.1 ∙ (rw e))

-- what the writer refuses before 15 is what the reader would refuse of what it would write
pub writer-as-reader : WriterAsReader
unfolding value_answer reference_answer
writer-as-reader r t x f form sized =
    let s = reference_bytes r t x in
    let l = reference-laid r t x form in
    let layout : layout_answer 8 s ≡ _ = layout-step 7 s ∙ layout-as s r t x f form l sized (layout_answer 7) in
    rw (form, layout, nil-as s r t x f form l sized 7)
    (sym (three-rows (tail_answer r t) (cond (is_extended r.flags) (given_answer (layout_answer 7) r.element x) 0) (nil_given (names_nil 7) r.flags r.block x)))

-- ---- what the writer accepts

record Accepted (r : Reference) (t x : List ℕ) : Type 0 where
  form : is_form r.flags ≡ true
  sized : Sized r t x

value-accepted : (r : Reference) (t x : List ℕ) → value_answer r t x ≡ 0 → Accepted r t x
unfolding value_answer Sized
value-accepted r t x done =
    let a = passed (not (is_form r.flags)) 14 _ (omega arith) done in
    let b = passed_on (tail_answer r t) _ a.1 in
    let d = passed_on (cond (is_extended r.flags) (given_answer (layout_answer 7) r.element x) 0) _ b.1 in
    record {
      form = not-false _ a.0;
      sized = λ e. (sym (tail-extended r t e) ∙ b.0, (given-parts (layout_answer 7) r.element x (rw e at d.0)).0);
    }

-- the bytes of a reference, its tail and the data of its element are read as the three
pub reference-read-back : (r : Reference) (t x : List ℕ) → Fits r → value_answer r t x ≡ 0 → ReadAs (reference_bytes r t x) r t x
unfolding read_reference tail_place
reference-read-back r t x f done =
    let s = reference_bytes r t x in
    let a = value-accepted r t x done in
    let l = reference-laid r t x a.form in
    let answer : reference_answer s ≡ 0 = sym (writer-as-reader r t x f a.form a.sized) ∙ done in
    let tail : tail_of s ≡ t = rw (eq-eqb _ _ answer) (tail-as s r t x f a.form l a.sized) in
    record {
      fields = rw (eq-eqb _ _ answer, value_as s r t x f a.form l a.sized);
      tail = tail;
      content = content-as s r t x f a.form l a.sized;
      context = λ c hs fits proper n e. rw (tail ∙ e) (context-write-then-read c hs fits proper n).1;
    }

pub length-elements : (r : Reference) (x : List ℕ) → length (elements_bytes r x) ≡ cond (is_extended r.flags) (32 + rounded (length x)) 0
unfolding elements_bytes
length-elements r x =
    let m = length-append marks (element_bytes r.element x) in
    let k = length-marks in
    let n = length-element r.element x in
    elements-length (is_extended r.flags) (element_bytes r.element x) (32 + rounded (length x)) (omega arith)

pub length-reference : (r : Reference) (t x : List ℕ) → is_form r.flags ≡ true → length (reference_bytes r t x) ≡ written_length r t x
unfolding reference_bytes
length-reference r t x form =
    let h = length-header r in
    let b = length-body r form in
    let e = length-elements r x in
    simp length-append (omega arith)

-- ---- the two ways round

-- what the writer put at the front of a buffer is read as it was written
pub write-then-read : WriteThenRead
unfolding write_answer
write-then-read r t x b f done =
    let v = passed_on (value_answer r t x) _ done in
    let room : written_length r t x ≤ length b = ltb-false _ _ (passed (ltb (length b) (written_length r t x)) 15 _ (omega arith) v.1).0 in
    let size = length-reference r t x (value-accepted r t x v.0).form in
    let y = reference_bytes r t x in
    let l : length y ≤ length b = omega arith in
    rw (written-front b y l, take_at y (drop (length y) b) _ size) (reference-read-back r t x f v.0)

-- ---- from the reader to the layout

block-fits : (s : List ℕ) (at : ℕ) → Bytes s → BlockFits (block_at s at)
block-fits s at h =
    record {
      flags = field_bound s at 4 h;
      public = field_bound s (at + 4) 4 h;
      oxid = field_bound s (at + 8) 8 h;
      oid = field_bound s (at + 16) 8 h;
      ipid = guid-fits s (at + 24) h;
    }

no-fits : GuidFits no_guid
no-fits = record { low = omega arith; high = omega arith }

no-block-fits : BlockFits no_block
no-block-fits = record { flags = omega arith; public = omega arith; oxid = omega arith; oid = omega arith; ipid = no-fits }

-- what is read fits
fits-at : (s : List ℕ) → Bytes s → is_form (field s 4 4) ≡ true → Fits (reference_at s)
unfolding reference_at
fits-at s b form =
    let g : (at : ℕ) → GuidFits (guid_at s at) = λ at. guid-fits s at b in
    let k = block-fits s 24 b in
    let z : 0 < 2 ^ 32 = omega arith in
    by_form_lem (field s 4 4) form
    (λ e. rw e (record { iid = g 8; block = k; clsid = no-fits; extension = z; size = z; element = no-fits }))
    (λ e. rw e (record { iid = g 8; block = k; clsid = g 64; extension = z; size = z; element = no-fits }))
    (λ e. rw e (record { iid = g 8; block = no-block-fits; clsid = g 24; extension = field_bound s 40 4 b; size = field_bound s 44 4 b; element = no-fits }))
    (λ e. rw e (record { iid = g 8; block = k; clsid = no-fits; extension = z; size = z; element = g (element_start s) }))

-- an accepted reference
read-accepted : (s : List ℕ) → reference_answer s ≡ 0 → Level 7 s
unfolding reference_answer
read-accepted s done = level 8 s (omega arith) (passed_on (layout_answer 8 s) _ done).0

-- the parts of an accepted extended reference
module _ (s : List ℕ) (b : Bytes s) (f : field s 4 4 ≡ 8) (a : Level 7 s) where
  open-extended : (extended_front s ≡ 0) × (element_answer (layout_answer 7) (drop (element_start s) s) ≡ 0)
  unfolding form_answer extended_answer
  open-extended =
      let e : extended_answer (layout_answer 7) s ≡ 0 = rw f at a.form in
      let x = passed_on (extended_front s) _ e in
      let y = passed_on (element_answer (layout_answer 7) (drop (element_start s) s)) _ x.1 in
      (x.0, y.0)

  o : Opened s
  o = opened s open-extended.0

  element-then : drop (element_start s) s ≡ element_bytes (guid_at s (element_start s)) (take (content_length s) (drop (content_start s) s))
  element-then =
      rw (← guid-from s (element_start s), content-from s) (element-back (layout_answer 7) (drop (element_start s) s) (drop-bytes s (element_start s) b) open-extended.1)

  marks_then : drop (list_end s) s ≡ marks ++ element_bytes (guid_at s (element_start s)) (take (content_length s) (drop (content_start s) s))
  unfolding marks
  marks_then =
      let p = o in
      let room = p.room in
      let e = field_next s (list_end s + 4) 4 (element_start s) _ b (sum-four (list_end s)) room element-then in
      let d = field-then s (list_end s) 4 _ b (omega arith) e in
      (rw (p.number, p.again) at d) ∙ simp append_assoc

  list-then : drop 68 s ≡ take (list_end s - 68) (drop 68 s) ++ (marks ++ element_bytes (guid_at s (element_start s)) (take (content_length s) (drop (content_start s) s)))
  list-then =
      let k = list_length (drop 68 s) in
      rw (add-sub_cancel_left 68 k) (sym (take-append-drop k (drop 68 s)) ∙ (rw (drop-drop k 68 s, marks_then)))

  extended_then : drop 24 s ≡ block_bytes (block_at s 24)
      ++ (encode 4 extended_signature ++ (take (list_end s - 68) (drop 68 s) ++ (marks ++ element_bytes (guid_at s (element_start s)) (take (content_length s) (drop (content_start s) s)))))
  extended_then =
      let p = o in
      let room = p.room in
      let e = field-then s 64 4 _ b (omega arith) list-then in
      block-then s 24 _ b (omega arith) (rw p.signed at e)

-- the header that is read
header_at : (s : List ℕ) → Headed s → header_bytes (reference_at s) ≡ encode 4 (field s 0 4) ++ encode 4 (field s 4 4) ++ guid_bytes (guid_at s 8)
unfolding header_bytes reference_at
header_at s a = rw a.signed (by_form_lem (field s 4 4) a.form (λ e. rw e) (λ e. rw e) (λ e. rw e) (λ e. rw e))

-- what follows it
body-then : (s : List ℕ) → Bytes s → Level 7 s → let n = fixed_size (field s 4 4) in
    drop 24 s ≡ body_bytes (reference_at s) ++ (take (tail_end s - n) (drop n s) ++ elements_bytes (reference_at s) (content_of s))
unfolding body_bytes elements_bytes reference_at fixed_size marks
body-then s b a =
    let h = a.head in
    by_form_lem (field s 4 4) h.form
    (λ e.
    let room : 64 ≤ length s = rw e at h.fixed in
    rw e (block-then s 24 _ b room (sym (append-nil (drop 64 s)) ∙ (rw (take_rest s 64)))))
    (λ e.
    let room : 80 ≤ length s = rw e at h.fixed in
    let body : drop 24 s ≡ block_bytes (block_at s 24) ++ guid_bytes (guid_at s 64) ++ drop 80 s =
    block-then s 24 _ b (omega arith) (guid-then s 64 _ b room refl) ∙ simp append_assoc in
    rw (e, take_rest s 80, append-nil (drop 80 s)) body)
    (λ e.
    let room : 48 ≤ length s = rw e at h.fixed in
    let body : drop 24 s ≡ guid_bytes (guid_at s 24) ++ encode 4 (field s 40 4) ++ encode 4 (field s 44 4) ++ drop 48 s =
    guid-then s 24 _ b (omega arith) (field-then s 40 4 _ b (omega arith) (field-then s 44 4 _ b room refl)) ∙ simp append_assoc in
    rw (e, take_rest s 48, append-nil (drop 48 s)) body)
    (λ e. rw e (extended_then s b e a ∙ sym (append_assoc (block_bytes (block_at s 24)) (encode 4 extended_signature) _)))

tail-read : (s : List ℕ) → reference_answer s ≡ 0 → tail_of s ≡ take (tail_end s - fixed_size (field s 4 4)) (drop (fixed_size (field s 4 4)) s)
unfolding tail_place
tail-read s done = rw (eq-eqb _ _ done)

-- bytes that are read as a reference are its bytes, with its tail and the data of its element
pub reference-bytes-back : (s : List ℕ) → Bytes s → reference_answer s ≡ 0 → s ≡ reference_bytes (reference_at s) (tail_of s) (content_of s)
unfolding reference_bytes
reference-bytes-back s b done =
    let a = read-accepted s done in
    let h = a.head in
    let long = h.long in
    rw (tail-read s done, header_at s h)
    (field-then s 0 4 _ b (omega arith) (field-then s 4 4 _ b (omega arith) (guid-then s 8 _ b (omega arith) (body-then s b a)))
    ∙ simp append_assoc)

-- the data of an accepted element is not too long
content-most : (t : List ℕ) → Bytes t → element_front t ≡ 0 → length (element_content t) ≤ longest
content-most t b done =
    let f = fronted t done in
    let size = f.size in
    let whole = f.whole in
    let most : field t 20 4 < 2 ^ 32 = field_bound t 20 4 b in
    let n : length (element_content t) ≡ content_size t = length-take-le (content_size t) (drop 24 t) (rw length-drop (omega arith)) in
    omega arith

front_of : (j : List ℕ → ℕ) (t : List ℕ) → element_answer j t ≡ 0 → element_front t ≡ 0
unfolding element_answer
front_of j t done = (passed_on (element_front t) _ done).0

sized-at : (s : List ℕ) → Bytes s → reference_answer s ≡ 0 → Sized (reference_at s) (tail_of s) (content_of s)
unfolding Sized fixed_size
sized-at s b done =
    let a = read-accepted s done in
    λ e.
    let f : field s 4 4 ≡ 8 = sym (flags-at s a.head.form) ∙ e in
    let t = drop (element_start s) s in
    let list : list_answer (tail_of s) ≡ 0 = rw (tail-read s done, f, add-sub_cancel_left 68 (list_length (drop 68 s))) (front-list (drop 68 s) (o s b f a).list) in
    let most = content-most t (drop-bytes s (element_start s) b) (front_of (layout_answer 7) t (open-extended s b f a).1) in
    let same : content_of s ≡ element_content t = rw f (content-from s) in
    (list, rw same most)

-- an answer 0 of the reader
pub same-reference : (s : List ℕ) (r : Reference) → read_reference s ≡ record { answer = 0; reference = r } → (reference_answer s ≡ 0) × (reference_at s ≡ r)
unfolding read_reference
same-reference s r e =
    let read = accepted-by (λ (x : ReadReference). x.answer) (reference_answer s) _ (refused (reference_answer s)) _ refl refl e in
    (read.0, ap (λ (x : ReadReference). x.reference) read.1)

-- the object data of an accepted custom reference with the context marshaler's CLSID is laid out as its context and properties
pub context-back : (s : List ℕ) → Bytes s → reference_answer s ≡ 0 → field s 4 4 ≡ 4 → is_marshaler (guid_at s 24) ≡ true
    → tail_of s ≡ context_bytes (context_at (tail_of s)) (properties_bytes (properties_at (context_at (tail_of s)).count (drop 48 (tail_of s))))
unfolding form_answer plain_answer object_answer fixed_size
context-back s b done f m =
    let a = read-accepted s done in
    let context : context_answer (drop 48 s) ≡ 0 = rw (f, m) at a.form in
    let t : tail_of s ≡ drop 48 s = tail-read s done ∙ (rw f (take_rest s 48)) in
    rw t (context-read-then-write (drop 48 s) (drop-bytes s 48 b) context)

clsid-at : (s : List ℕ) → field s 4 4 ≡ 4 → (reference_at s).clsid ≡ guid_at s 24
unfolding reference_at
clsid-at s e = rw e

-- what was read is accepted by the writer, and written as the same bytes; object data that is a context is laid out as one
pub read-then-write : ReadThenWrite
unfolding write_answer order
read-then-write s b r bytes e l =
    let read = same-reference s r e in
    let done = read.0 in
    let a = read-accepted s done in
    let t = tail_of s in
    let x = content_of s in
    let back = reference-bytes-back s bytes done in
    let form : is_form (reference_at s).flags ≡ true = rw (flags-at s a.head.form) a.head.form in
    let value : value_answer (reference_at s) t x ≡ 0 =
    writer-as-reader (reference_at s) t x (fits-at s bytes a.head.form) form (sized-at s bytes done) ∙ ap reference_answer (sym back) ∙ done in
    let size : length s ≡ written_length (reference_at s) t x = ap length back ∙ length-reference (reference_at s) t x form in
    let room : written_length (reference_at s) t x ≤ length b = omega arith in
    let two : (write_answer r t x (length b) ≡ 0) × (stored 0 (reference_bytes r t x) b ≡ s ++ drop (length s) b) =
    rw (← read.1) (rw (value, le-ltb _ _ room), rw (← back) (written-front b s l)) in
    record {
      accepted = two.0;
      same = two.1;
      context =
          λ f m.
          let flags : field s 4 4 ≡ 4 = sym (flags-at s a.head.form) ∙ ap (λ (y : Reference). y.flags) read.1 ∙ f in
          let clsid : guid_at s 24 ≡ r.clsid = sym (clsid-at s flags) ∙ ap (λ (y : Reference). y.clsid) read.1 in
          context-back s bytes done flags (ap (λ (g : Guid). is_marshaler g) clsid ∙ m);
    }

pub round_trip : RoundTrip
round_trip = record { read_then_write = read-then-write; write_then_read = write-then-read }
