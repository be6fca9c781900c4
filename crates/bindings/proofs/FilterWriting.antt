-- The filtered list, by its fields, as it is written.
use Prim.Native.Nat.{ℕ, ◌+◌, ◌-◌, ◌*◌, ◌<◌, ◌≤◌}
use mathlib.Core.Path.{◌≡◌, sym, ap, ◌∙◌}
use mathlib.Core.Bool.{false}
use mathlib.Core.List.{List, [], ◌∷◌, ◌++◌, append_assoc}
use native.Mathlib.Omega.{arith}
use native.Mathlib.Nat.{zero-add}
use borrow.Author.Tests.{lt-ltb, le-ltb, ne_eqb}
use lib.ListN.{length, take, drop, length-append, length-drop}
use lib.Seq.{drop-drop, drop_at}
use Rattle.fields.specs.Fields.{encode, written, Bytes}
use Rattle.fields.proofs.Fields.{first_field, then-field, then-bytes, take_rest}
use Rattle.kinds.specs.Refusals.{order}
use Rattle.kinds.proofs.Refusing.{ne-differ}
use Rattle.bindings.specs.Bindings.{words, bindings_of, joined, is_bare, count, split, part_words, list_length, list_answer}
use Rattle.bindings.specs.ListBytes.{word_bytes, parts_bytes}
use Rattle.bindings.specs.Filter.{requested, filtered, filter_answer, write_filtered}
use Rattle.bindings.specs.declared.Part.TheVariants.{Strings, Security}
use Rattle.bindings.proofs.Parts.{length-words}
use Rattle.bindings.proofs.ListAnswers.{accepted, not-bare}
use Rattle.bindings.proofs.ListBytes.{length-bytes, bytes-append, drop-four, parts-length, list-remade, field_bound}
use Rattle.bindings.proofs.Filtering.{part-rows, filtered-bare, filtered-parts, filtered-shorter}

-- a list without words
pub no_words : (protocols s : List ℕ) → list_answer s ≡ 0 → count s ≡ 0 → filtered protocols s ≡ s
no_words protocols s done z =
    let l = (accepted s done).held.below in
    let k : split s ≡ 0 = omega arith in
    filtered-bare protocols s (rw (z, k))

module _ (protocols s : List ℕ) (done : list_answer s ≡ 0) (some : count s ≡ 0 → ⊥) where
  has_words : is_bare s ≡ false
  has_words = not-bare s (λ n k. some n)

  kept : List ℕ
  kept = joined (requested protocols (words s 4 (split s)))

  size_of : length (kept ++ (0 ∷ [])) ≡ length kept + 1
  size_of = length-append kept (0 ∷ [])

  pub filtered-size : length (filtered protocols s) ≡ 6 + 2 * (length (joined (requested protocols (words s 4 (split s)))) + (count s - split s))
  unfolding kept
  filtered-size =
      let n = length-words s (4 + 2 * split s) (count s - split s) in
      let m = size_of in
      rw (filtered-parts protocols s has_words) (omega (arith, parts-length (kept ++ (0 ∷ [])) (part_words s Security)))

  module _ (b : Bytes s) where
    -- S is not 0
    positive : 0 < split s
    positive =
        let w = part-rows Strings (part_words s Strings) ((accepted s done).held.part has_words Strings) in
        let j = joined (bindings_of Strings (part_words s Strings)) in
        let n : split s ≡ length j + 1 = sym (length-words s 4 (split s)) ∙ ap length w ∙ length-append j (0 ∷ []) in
        omega arith

    -- what follows the string bindings: the zero word of their part and the security part
    string-end : drop (2 + 2 * split s) s ≡ word_bytes (0 ∷ []) ++ word_bytes (part_words s Security)
    string-end =
        let j = joined (bindings_of Strings (part_words s Strings)) in
        let w = part-rows Strings (part_words s Strings) ((accepted s done).held.part has_words Strings) in
        let n : split s ≡ length j + 1 = sym (length-words s 4 (split s)) ∙ ap length w ∙ length-append j (0 ∷ []) in
        let at : 2 + 2 * split s ≡ 4 + 2 * length j = omega arith in
        let d : drop 4 s ≡ word_bytes (part_words s Strings) ++ word_bytes (part_words s Security) =
        ap (drop 4) (list-remade s b done) ∙ drop-four (part_words s Strings) (part_words s Security) in
        let f : drop 4 s ≡ word_bytes j ++ (word_bytes (0 ∷ []) ++ word_bytes (part_words s Security)) =
        d ∙ ap (λ (x : List ℕ). word_bytes x ++ word_bytes (part_words s Security)) w
        ∙ ap (λ (x : List ℕ). x ++ word_bytes (part_words s Security)) (bytes-append j (0 ∷ []))
        ∙ append_assoc (word_bytes j) (word_bytes (0 ∷ [])) (word_bytes (part_words s Security)) in
        ap (λ (k : ℕ). drop k s) at ∙ sym (drop-drop (2 * length j) 4 s) ∙ ap (drop (2 * length j)) f ∙ drop_at (word_bytes j) _ (2 * length j) (length-bytes j)

    filtered-fields : filtered protocols s ≡ encode 2 (length kept + 1 + (count s - split s)) ++ encode 2 (length kept + 1) ++ word_bytes kept ++ drop (2 + 2 * split s) s
    unfolding parts_bytes kept
    filtered-fields =
        filtered-parts protocols s has_words
        ∙ (rw (size_of, length-words s (4 + 2 * split s) (count s - split s), bytes-append kept (0 ∷ []), string-end) (simp append_assoc))

    rest-size : length (drop (2 + 2 * split s) s) ≡ 2 + 2 * (count s - split s)
    unfolding list_length
    rest-size =
        let w = (accepted s done).whole in
        let l = (accepted s done).held.below in
        rw length-drop (omega (arith, positive))

    -- four writes, one after the other
    fields-written : (buf x₁ x₂ x₃ x₄ : List ℕ) → length (filtered protocols s) ≤ length buf
        → x₁ ≡ written buf 0 (encode 2 (length (joined (requested protocols (words s 4 (split s)))) + 1 + (count s - split s)))
        → x₂ ≡ written x₁ 2 (encode 2 (length (joined (requested protocols (words s 4 (split s)))) + 1))
        → x₃ ≡ written x₂ 4 (word_bytes (joined (requested protocols (words s 4 (split s)))))
        → x₄ ≡ written x₃ (4 + 2 * length (joined (requested protocols (words s 4 (split s))))) (drop (2 + 2 * split s) s)
        → x₄ ≡ written buf 0 (filtered protocols s)
    unfolding kept
    fields-written buf x₁ x₂ x₃ x₄ room e₁ e₂ e₃ e₄ =
        let z = filtered-size in
        let n = length-drop (2 + 2 * split s) s in
        let w = (accepted s done).whole in
        let l = (accepted s done).held.below in
        let q : length (drop (2 + 2 * split s) s) ≡ 2 + 2 * (count s - split s) = rest-size in
        let r₁ = first_field 2 (length kept + 1 + (count s - split s)) e₁ in
        let r₂ = then-field 2 (length kept + 1) r₁ (omega arith) e₂ in
        let r₃ = then-bytes (word_bytes kept) (2 * length kept) r₂ (length-bytes kept) (omega arith) e₃ in
        let f : x₄ ≡ written x₃ (0 + (4 + 2 * length kept)) (drop (2 + 2 * split s) s) = rw zero-add e₄ in
        let r₄ = then-bytes (drop (2 + 2 * split s) s) (2 + 2 * (count s - split s)) r₃ q (omega arith) f in
        r₄.holds ∙ ap (written buf 0) (sym filtered-fields)

    -- the same by the numbers that code has
    module _ (N K R : ℕ) (n : N ≡ count s) (k : K ≡ split s) (r : R ≡ length (joined (requested protocols (words s 4 K)))) where
      pub filtered-written : (buf x₁ x₂ x₃ x₄ : List ℕ) → length (filtered protocols s) ≤ length buf
          → x₁ ≡ written buf 0 (encode 2 (R + 1 + (N - K)))
          → x₂ ≡ written x₁ 2 (encode 2 (R + 1))
          → x₃ ≡ written x₂ 4 (word_bytes (joined (requested protocols (words s 4 K))))
          → x₄ ≡ written x₃ (4 + 2 * R) (take (length s - (2 + 2 * K)) (drop (2 + 2 * K) s))
          → x₄ ≡ written buf 0 (filtered protocols s)
      filtered-written buf x₁ x₂ x₃ x₄ room e₁ e₂ e₃ e₄ =
          let q : R ≡ length (joined (requested protocols (words s 4 (split s)))) = rw k at r in
          fields-written buf x₁ x₂ x₃ x₄ room (rw (n, k, q) at e₁) (rw q at e₂) (rw k at e₃) (rw (take_rest s (2 + 2 * K), k, q) at e₄)

      -- N of the filtered list has 16 bits
      pub filtered-count : R + 1 + (N - K) < 65536
      unfolding list_length
      filtered-count =
          let q : R ≡ length (joined (requested protocols (words s 4 (split s)))) = rw k at r in
          let a = filtered-shorter protocols s b done in
          let z = filtered-size in
          let w = (accepted s done).whole in
          let l = (accepted s done).held.below in
          let f = field_bound s 0 b in
          omega arith

-- ---- the answer

module _ (protocols s : List ℕ) (n : ℕ) where
  pub answer-list : (list_answer s ≡ 0 → ⊥) → filter_answer protocols s n ≡ list_answer s
  unfolding filter_answer order
  answer-list bad = rw (ne-differ (list_answer s) 0 bad)

  pub answer-room : list_answer s ≡ 0 → n < length (filtered protocols s) → filter_answer protocols s n ≡ 15
  unfolding filter_answer order
  answer-room done h = rw (done, lt-ltb n (length (filtered protocols s)) h)

  pub answer-done : list_answer s ≡ 0 → length (filtered protocols s) ≤ n → filter_answer protocols s n ≡ 0
  unfolding filter_answer order
  answer-done done h = rw (done, le-ltb n (length (filtered protocols s)) h)

  pub write-refused : (k : ℕ) → filter_answer protocols s n ≡ k → (k ≡ 0 → ⊥) → record { answer = k; length = 0 } ≡ write_filtered protocols s n
  unfolding write_filtered
  write-refused k e bad = rw (e, ne_eqb k 0 bad)

  pub write_done : filter_answer protocols s n ≡ 0 → record { answer = 0; length = length (filtered protocols s) } ≡ write_filtered protocols s n
  unfolding write_filtered
  write_done e = rw e
