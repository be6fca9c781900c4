-- `extended_front`: the rows of `extended_front`, in their order.
use Prim.Native.Nat.{ℕ, ◌+◌, ◌-◌, ◌<◌, ◌≤◌}
use mathlib.Core.Path.{◌≡◌, sym, ◌∙◌}
use mathlib.Core.Bool.{not}
use mathlib.Core.List.{List, [], ◌∷◌}
use native.Mathlib.Omega.{arith}
use borrow.Author.Tests.{lt-ltb, le-ltb, eq-eqb, ne_eqb}
use lib.Dec.{ltb}
use lib.ListN.{length, take, drop}
use borrow.Author.Rules.{rules}
use Rattle.std.specs.Prelude.{Err}
use Rattle.kinds.proofs.Answering.{refusal-not-0}
use Rattle.kinds.specs.Refusals.{◌gives◌, differ, order}
use Rattle.kinds.proofs.Refusing.{ne-differ, eq-differ}
use Rattle.fields.specs.Fields.{field}
use Rattle.fields.proofs.Fields.{take_rest}
use Rattle.bindings.specs.Bindings.{front_answer}
use Rattle.references.specs.References.{extended_signature, is_element_count, list_end, extended_front}
use Rattle.references.proofs.extended_front.Goals as goal

module _ (s : List ℕ) (x : ℕ) (first : x ≡ field s 64 4) where
  unsigned : (x ≡ extended_signature → ⊥) → 14 ≡ extended_front s
  unfolding extended_front order
  unsigned h = simp (ne-differ _ _ (λ z. h (first ∙ z)))

  module _ (signed : x ≡ extended_signature) (n : ℕ) (judged : n ≡ front_answer (take (length s - 68) (drop 68 s))) where
    list-refused : (n ≡ 0 → ⊥) → n ≡ extended_front s
    unfolding extended_front order
    list-refused h = let e = rw (take_rest s 68) at judged in simp (eq-differ _ _ (sym first ∙ signed), ne-differ _ _ (λ z. h (e ∙ z))) e

    module _ (good : n ≡ 0) (end : ℕ) (ends : end ≡ list_end s) where
      -- what is left after the list
      listed : extended_front s
          ≡ order
          (ltb (length s) (end + 4) gives 13
          ∷ not (is_element_count (field s end 4)) gives 14
          ∷ ltb (length s) (end + 8) gives 13
          ∷ differ (field s (end + 4) 4) extended_signature gives 14
          ∷ [])
      unfolding extended_front order
      listed = let e = rw (take_rest s 68) at judged in rw (eq-differ _ _ (sym first ∙ signed), eq-differ _ _ (sym e ∙ good), ends)

      count-short : length s < end + 4 → 13 ≡ extended_front s
      unfolding order
      count-short h = rw (listed, lt-ltb _ _ h)

      module _ (a : end + 4 ≤ length s) (k : ℕ) (count : k ≡ field s end 4) where
        count-other : (k ≡ 1 → ⊥) → 14 ≡ extended_front s
        unfolding order
        count-other h = rw (listed, le-ltb _ _ a, ne_eqb _ _ (λ z. h (count ∙ z)))

        module _ (one : k ≡ 1) where
          mark-short : length s < end + 8 → 13 ≡ extended_front s
          unfolding order
          mark-short h = rw (listed, le-ltb _ _ a, eq-eqb _ _ (sym count ∙ one), lt-ltb _ _ h)

          module _ (b : end + 8 ≤ length s) (y : ℕ) (mark : y ≡ field s (end + 4) 4) where
            mark-other : (y ≡ extended_signature → ⊥) → 14 ≡ extended_front s
            unfolding order
            mark-other h = rw (listed, le-ltb _ _ a, eq-eqb _ _ (sym count ∙ one), le-ltb _ _ b, ne-differ _ _ (λ z. h (mark ∙ z)))

            done : y ≡ extended_signature → 0 ≡ extended_front s
            unfolding order
            done h = rw (listed, le-ltb _ _ a, eq-eqb _ _ (sym count ∙ one), le-ltb _ _ b, eq-differ _ _ (sym mark ∙ h))

pub returns-then-read_u32-ne-EXTENDED_SIGNATURE : goal.returns-then-read_u32-ne-EXTENDED_SIGNATURE
returns-then-read_u32-ne-EXTENDED_SIGNATURE c = search unsigned

pub returns-in_err-front_answer : goal.returns-in_err-front_answer
returns-in_err-front_answer c =
    let e = c.in_err-front_answer.ensures in
    let bad = refusal-not-0 c.in_err-front_answer.field-0.0 in
    let r : c.from_residual.result ≡ Err c.in_err-front_answer.field-0.0 = search rules in
    rw r (search list-refused)

pub overflow_add-end : goal.overflow_add-end
overflow_add-end c = omega (arith, c.list_end-end.ensures.1)

pub returns-then-s-end : goal.returns-then-s-end
returns-then-s-end c =
    let e = c.in_ok-front_answer.ensures in
    search count-short

pub returns-then-read_u32-ne1 : goal.returns-then-read_u32-ne1
returns-then-read_u32-ne1 c =
    let e = c.in_ok-front_answer.ensures in
    search count-other

pub returns-then-s-end-2 : goal.returns-then-s-end-2
returns-then-s-end-2 c =
    let e = c.in_ok-front_answer.ensures in
    search mark-short

pub returns-then-read_u32-ne-EXTENDED_SIGNATURE-2 : goal.returns-then-read_u32-ne-EXTENDED_SIGNATURE-2
returns-then-read_u32-ne-EXTENDED_SIGNATURE-2 c =
    let e = c.in_ok-front_answer.ensures in
    search mark-other

pub returns : goal.returns
returns c =
    let e = c.in_ok-front_answer.ensures in
    search done
