-- `plain_answer`: object data, or a list.
use Prim.Native.Nat.{ℕ, ◌-◌, ◌≤◌}
use mathlib.Core.Path.{◌≡◌, sym, ◌∙◌}
use mathlib.Core.List.{List}
use borrow.Author.Tests.{ne_eqb}
use lib.ListN.{length, take, drop}
use Rattle.kinds.specs.declared.Guid.{Guid}
use Rattle.fields.specs.Fields.{field, guid_at}
use Rattle.fields.proofs.Fields.{take_rest}
use Rattle.bindings.specs.Bindings.{list_answer}
use Rattle.references.specs.References.{fixed_size, head_answer, object_answer, plain_answer}
use Rattle.references.proofs.Forms.{headed, custom-room}
use Rattle.references.proofs.plain_answer.Goals as goal

module _ (s : List ℕ) (f : ℕ) (flags : f ≡ field s 4 4) where
  custom : f ≡ 4 → (g : Guid) → g ≡ guid_at s 24 → (r : ℕ) → r ≡ object_answer g (take (length s - 48) (drop 48 s)) → r ≡ plain_answer s
  unfolding plain_answer
  custom h g clsid r e = rw (sym flags ∙ h) (rw (clsid, take_rest s 48) at e)

  listed : (f ≡ 4 → ⊥) → (n : ℕ) → n ≡ fixed_size f → (r : ℕ) → r ≡ list_answer (take (length s - n) (drop n s)) → r ≡ plain_answer s
  unfolding plain_answer
  listed h n size r e = rw (ne_eqb (field s 4 4) 4 (λ z. h (flags ∙ z))) (rw (take_rest s n, size, flags) at e)

  module _ (done : head_answer s ≡ 0) where
    object-within : f ≡ 4 → 48 ≤ length s
    object-within h = custom-room _ (sym flags ∙ h) (headed s done).fixed

    list-within : (n : ℕ) → n ≡ fixed_size f → n ≤ length s
    list-within n size = rw (size, flags) (headed s done).fixed

pub slice_bounds-object_answer-count : goal.slice_bounds-object_answer-count
slice_bounds-object_answer-count c = search object-within

pub slice_bounds-object_answer-start : goal.slice_bounds-object_answer-start
slice_bounds-object_answer-start c = search object-within

pub returns-then-f-eq-CUSTOM : goal.returns-then-f-eq-CUSTOM
returns-then-f-eq-CUSTOM c = search custom

pub slice_bounds-list_answer-count : goal.slice_bounds-list_answer-count
slice_bounds-list_answer-count c = search list-within

pub slice_bounds-list_answer-start : goal.slice_bounds-list_answer-start
slice_bounds-list_answer-start c = search list-within

pub returns : goal.returns
returns c = search listed
