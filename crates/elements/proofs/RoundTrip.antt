-- The element of an extended reference over its layout: its bytes are judged as the writer judges what they are made of, and bytes that are
-- accepted are an element's.
use Prim.Native.Nat.{ℕ, ◌+◌, ◌-◌, ◌≤◌}
use mathlib.Core.Path.{◌≡◌, refl, sym, ap, ◌∙◌}
use mathlib.Core.Bool.{Bool, true, false, not}
use mathlib.Core.List.{List, [], ◌∷◌, ◌++◌, append_assoc}
use native.Mathlib.Omega.{arith}
use borrow.Author.Tests.{le-ltb, ltb-false, not-false}
use lib.Dec.{eqb, ltb}
use lib.ListN.{length, take, drop, length-append, length-drop, length-replicate, take-append-drop}
use lib.Seq.{take_at, drop_at, drop-drop, take_all, length-take-le}
use Rattle.kinds.specs.Refusals.{◌gives◌, passes, order}
use Rattle.kinds.specs.declared.Guid.{Guid}
use Rattle.kinds.proofs.Refusing.{eq-differ, passed, passed_on}
use Rattle.fields.specs.Fields.{field, encode, guid_at, guid_bytes, Bytes, GuidFits, zeros, all_zero, rounded, longest}
use Rattle.fields.proofs.Fields.{field-part, guid-part, field-then, guid-then, zeros-zero, zero-zeros}
use Rattle.elements.specs.Elements.{is_nil, element_bytes, content_size, element_length, element_content, padding, element_front, element_end, content_answer, element_answer, given_answer}
use Rattle.elements.proofs.ElementAnswers.{fronted, content-within}

-- ---- from the layout to the judge

-- t is laid out as the element g with the data x
pub record Laid (t : List ℕ) (g : Guid) (x : List ℕ) : Type 0 where
  pub id : guid_at t 0 ≡ g
  pub size : field t 16 4 ≡ length x
  pub whole : field t 20 4 ≡ rounded (length x)
  pub content : element_content t ≡ x
  pub padded : all_zero (padding t) ≡ true
  pub long : length t ≡ 24 + rounded (length x)

module _ (g : Guid) (x : List ℕ) where
  head : List ℕ
  head = guid_bytes g ++ encode 4 (length x) ++ encode 4 (rounded (length x))

  length-head : length head ≡ 24
  unfolding head encode
  length-head = refl

  blank : List ℕ
  blank = zeros (rounded (length x) - length x)

  split : element_bytes g x ≡ head ++ (x ++ blank)
  unfolding element_bytes head blank
  split = append_assoc (guid_bytes g ++ encode 4 (length x) ++ encode 4 (rounded (length x))) x (zeros (rounded (length x) - length x))

  pub length-element : length (element_bytes g x) ≡ 24 + rounded (length x)
  unfolding blank
  length-element =
      let a = length-append head (x ++ blank) in
      let b = length-append x blank in
      let d = length-replicate {A = ℕ} (rounded (length x) - length x) 0 in
      let h = length-head in
      ap length split ∙ omega arith

  module _ (f : GuidFits g) (most : length x ≤ longest) where
    pub laid : Laid (element_bytes g x) g x
    unfolding head blank encode
    laid =
        let t = element_bytes g x in
        let n = length x in
        let m = rounded n in
        let front : take 24 t ≡ head = rw split (take_at head (x ++ blank) 24 length-head) in
        let rest : drop 24 t ≡ x ++ blank = rw split (drop_at head (x ++ blank) 24 length-head) in
        let long = length-element in
        let l : 24 ≤ length t = omega arith in
        let size = field-part t head 0 24 front l 16 4 n (omega arith) refl (omega arith) in
        let whole = field-part t head 0 24 front l 20 4 m (omega arith) refl (omega arith) in
        let after : drop (24 + n) t ≡ blank = sym (drop-drop n 24 t) ∙ (rw rest (drop_at x blank n refl)) in
        let z : length blank ≡ m - n = length-replicate {A = ℕ} (m - n) 0 in
        let pads : padding t ≡ blank = rw (size, whole, after) (take_all (m - n) blank (omega arith)) in
        record {
          id = guid-part t head 0 24 front l 0 g (omega arith) refl f;
          size = size;
          whole = whole;
          content = rw (size, rest) (take_at x blank n refl);
          padded = rw pads (zeros-zero (m - n));
          long = long;
        }

-- the rows of the two judges
rows : (a b : Bool) (k : ℕ) → order (passes (order (a gives 14 ∷ b gives 14 ∷ [])) ∷ passes k ∷ passes 0 ∷ []) ≡ order (a gives 14 ∷ b gives 14 ∷ false gives 14 ∷ passes k ∷ [])
unfolding order
rows true b k = refl
rows false true k = refl
rows false false k = refl

module _ (g : Guid) (x t : List ℕ) (l : Laid t g x) where
  front-given : element_front t ≡ order (is_nil g gives 14 ∷ eqb (length x) 0 gives 14 ∷ [])
  unfolding element_front order
  front-given =
      let long = l.long in
      let whole = l.whole in
      let a : 16 ≤ length t = omega arith in
      let b : 20 ≤ length t = omega arith in
      let d : 24 ≤ length t = omega arith in
      let e : 24 + field t 20 4 ≤ length t = omega arith in
      rw (
        le-ltb _ _ a,
        ap is_nil l.id,
        le-ltb _ _ b,
        le-ltb _ _ d,
        eq-differ _ _ (whole ∙ ap rounded (sym l.size)),
        le-ltb _ _ e,
        l.size,
      )

  end-given : element_end t ≡ 0
  unfolding element_end order
  end-given =
      let long = l.long in
      let whole = l.whole in
      let h : length t ≤ 24 + field t 20 4 = omega arith in
      rw (l.padded, le-ltb _ _ h)

-- the bytes of an element are judged as what they are made of
pub element-given : (j : List ℕ → ℕ) (g : Guid) (x : List ℕ) → GuidFits g → length x ≤ longest → element_answer j (element_bytes g x) ≡ given_answer j g x
unfolding element_answer given_answer
element-given j g x f most =
    let t = element_bytes g x in
    let l = laid g x f most in
    rw (front-given g x t l, end-given g x t l, l.content, le-ltb longest (length x) most)
    (rows (is_nil g) (eqb (length x) 0) (content_answer j x))

-- ---- from the judge to the layout

pub element-back : (j : List ℕ → ℕ) (t : List ℕ) → Bytes t → element_answer j t ≡ 0 → t ≡ element_bytes (guid_at t 0) (element_content t)
unfolding element_answer element_end element_bytes
element-back j t bytes done =
    let a = passed_on (element_front t) _ done in
    let b = passed_on (content_answer j (element_content t)) _ a.1 in
    let e = (passed_on (element_end t) _ b.1).0 in
    let z = passed (not (all_zero (padding t))) 14 _ (omega arith) e in
    let o = passed (ltb (element_length t) (length t)) 14 _ (omega arith) z.1 in
    let f = fronted t a.0 in
    let w = content-within t a.0 in
    let n = content_size t in
    let m = field t 20 4 in
    let x = element_content t in
    let over = ltb-false (element_length t) (length t) o.0 in
    let len : length x ≡ n = length-take-le n (drop 24 t) (rw length-drop (omega arith)) in
    let rest : length (drop (24 + n) t) ≡ m - n = rw length-drop (omega arith) in
    let pads : padding t ≡ drop (24 + n) t = take_all (m - n) (drop (24 + n) t) (omega arith) in
    let blank : drop (24 + n) t ≡ zeros (m - n) = rw (pads, rest) at (zero-zeros (padding t) (not-false _ z.0)) in
    let size = f.size in
    let last : drop 24 t ≡ x ++ zeros (m - n) = sym (take-append-drop n (drop 24 t)) ∙ (rw (drop-drop n 24 t, blank)) in
    let third = field-then t 20 4 _ bytes (omega arith) last in
    let second = field-then t 16 4 _ bytes (omega arith) third in
    let first = guid-then t 0 _ bytes (omega arith) second in
    rw (len, ← size) (first ∙ simp append_assoc)
