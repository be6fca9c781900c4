-- A list as it is written, its answer, and what holds of what is written.
use Prim.Native.Nat.{ℕ, ◌+◌, ◌-◌, ◌*◌, ◌<◌, ◌≤◌}
use mathlib.Core.Path.{◌≡◌, sym, ap, ◌∙◌}
use mathlib.Core.Bool.{true, false}
use mathlib.Core.List.{List, [], ◌∷◌, ◌++◌, append_assoc, append-nil}
use native.Mathlib.Omega.{arith}
use native.Mathlib.Numerals.{add-one}
use native.Mathlib.Nat.{zero-add}
use borrow.Author.Tests.{lt-ltb, le-ltb, lt-leb, le-leb, leb-true}
use lib.Dec.{leb}
use lib.ListN.{length, get_or, drop, length-drop}
use lib.Seq.{drop-cons}
use Rattle.kinds.specs.Refusals.{order}
use Rattle.fields.specs.Fields.{encode, written}
use Rattle.fields.proofs.Fields.{length-encode, written-two, first_field, then-field, then-bytes}
use Rattle.lists.proofs.Tests.{and_left, and_right}
use Rattle.bindings.specs.Bindings.{is_part}
use Rattle.bindings.specs.ListBytes.{word_bytes, parts_bytes}
use Rattle.bindings.specs.declared.Part.TheVariants.{Strings, Security}
use Rattle.bindings.proofs.ListBytes.{length-bytes, bytes-append, parts-length}
use Rattle.list_writer.specs.Writing.{ended, fits, made_list, write_list_answer, write_list}
use Rattle.list_writer.proofs.Rows.{length-ended}

-- ---- words, one by one

pub words_step : (buf ws : List ℕ) (to i : ℕ) → i < length ws → to + 2 * length ws ≤ length buf
    → written (written buf (to + 2 * i) (encode 2 (get_or ws i 0))) (to + 2 * (i + 1)) (word_bytes (drop (i + 1) ws)) ≡ written buf (to + 2 * i) (word_bytes (drop i ws))
unfolding word_bytes
words_step buf ws to i h room =
    let n : length (word_bytes (drop (i + 1) ws)) ≡ 2 * (length ws - (i + 1)) = length-bytes (drop (i + 1) ws) ∙ (rw length-drop) in
    let q : to + 2 * (i + 1) ≡ to + 2 * i + 2 = omega arith in
    let d : drop i ws ≡ get_or ws i 0 ∷ drop (i + 1) ws = drop-cons ws i 0 h ∙ (rw (add-one i)) in
    rw (q, d) (written-two buf (encode 2 (get_or ws i 0)) (word_bytes (drop (i + 1) ws)) (to + 2 * i) 2 (length-encode 2 (get_or ws i 0)) (omega arith))

module _ (a b : List ℕ) where
  pub made-length : length (made_list a b) ≡ 8 + 2 * (length a + length b)
  unfolding made_list
  made-length = let n = length-ended a in let k = length-ended b in omega (arith, parts-length (ended a) (ended b))

  -- ---- N, S and both parts, one after the other

  made-fields : made_list a b ≡ encode 2 (length a + length b + 2) ++ encode 2 (length a + 1) ++ word_bytes a ++ encode 2 0 ++ word_bytes b ++ encode 2 0
  unfolding made_list parts_bytes word_bytes
  made-fields =
      let n : length (ended a) + length (ended b) ≡ length a + length b + 2 = omega (arith, length-ended a, length-ended b) in
      rw (n, length-ended a, bytes-append a (0 ∷ []), bytes-append b (0 ∷ [])) (simp (append_assoc, append-nil))

  pub made-written : (buf x₁ x₂ x₃ x₄ x₅ x₆ : List ℕ) → 8 + 2 * (length a + length b) ≤ length buf
      → x₁ ≡ written buf 0 (encode 2 (length a + length b + 2))
      → x₂ ≡ written x₁ 2 (encode 2 (length a + 1))
      → x₃ ≡ written x₂ 4 (word_bytes a)
      → x₄ ≡ written x₃ (4 + 2 * length a) (encode 2 0)
      → x₅ ≡ written x₄ (6 + 2 * length a) (word_bytes b)
      → x₆ ≡ written x₅ (6 + 2 * length a + 2 * length b) (encode 2 0)
      → x₆ ≡ written buf 0 (made_list a b)
  made-written buf x₁ x₂ x₃ x₄ x₅ x₆ room e₁ e₂ e₃ e₄ e₅ e₆ =
      let p₅ : 4 + 2 * length a + 2 ≡ 6 + 2 * length a = omega arith in
      let p₆ : 4 + 2 * length a + 2 + 2 * length b ≡ 6 + 2 * length a + 2 * length b = omega arith in
      let f₄ : x₄ ≡ written x₃ (0 + (4 + 2 * length a)) (encode 2 0) = rw zero-add e₄ in
      let f₅ : x₅ ≡ written x₄ (0 + (4 + 2 * length a + 2)) (word_bytes b) = rw (zero-add, p₅) e₅ in
      let f₆ : x₆ ≡ written x₅ (0 + (4 + 2 * length a + 2 + 2 * length b)) (encode 2 0) = rw (zero-add, p₆) e₆ in
      let r₁ = first_field 2 (length a + length b + 2) e₁ in
      let r₂ = then-field 2 (length a + 1) r₁ (omega arith) e₂ in
      let r₃ = then-bytes (word_bytes a) (2 * length a) r₂ (length-bytes a) (omega arith) e₃ in
      let r₄ = then-field 2 0 r₃ (omega arith) f₄ in
      let r₅ = then-bytes (word_bytes b) (2 * length b) r₄ (length-bytes b) (omega arith) f₅ in
      let r₆ = then-field 2 0 r₅ (omega arith) f₆ in
      r₆.holds ∙ ap (written buf 0) (sym made-fields)

  -- ---- whether they fit

  pub too_many_lem : 65533 < length a + length b → fits a b ≡ false
  unfolding fits
  too_many_lem h = rw (lt-leb (length a + length b) 65533 h)

  -- conversely
  pub record Fitting : Type 0 where
    pub few : length a + length b ≤ 65533
    pub strings : is_part Strings (ended a) ≡ true
    pub security : is_part Security (ended b) ≡ true

  pub fitting : fits a b ≡ true → Fitting
  unfolding fits
  fitting e =
      let rows = and_right (leb (length a + length b) 65533) _ e in
      record {
        few = leb-true (length a + length b) 65533 (and_left _ _ e);
        strings = and_left (is_part Strings (ended a)) _ rows;
        security = and_right (is_part Strings (ended a)) _ rows;
      }

  module _ (h : length a + length b ≤ 65533) where
    pub first-broken : is_part Strings (ended a) ≡ false → fits a b ≡ false
    unfolding fits
    first-broken e = rw (le-leb (length a + length b) 65533 h, e)

    pub first-kept : is_part Strings (ended a) ≡ true → fits a b ≡ is_part Security (ended b)
    unfolding fits
    first-kept e = rw (le-leb (length a + length b) 65533 h, e)

  -- ---- the answer

  module _ (n : ℕ) where
    pub write-broken : fits a b ≡ false → record { answer = 14; length = 0 } ≡ write_list a b n
    unfolding write_list write_list_answer order
    write-broken e = rw e

    pub write-short : fits a b ≡ true → n < 8 + 2 * (length a + length b) → record { answer = 15; length = 0 } ≡ write_list a b n
    unfolding write_list write_list_answer order
    write-short e h = rw (e, made-length, lt-ltb n (8 + 2 * (length a + length b)) h)

    pub write_done : fits a b ≡ true → 8 + 2 * (length a + length b) ≤ n → record { answer = 0; length = 8 + 2 * (length a + length b) } ≡ write_list a b n
    unfolding write_list write_list_answer order
    write_done e h = rw (e, made-length, le-ltb n (8 + 2 * (length a + length b)) h)
