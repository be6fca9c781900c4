-- What the writer refuses where the reader of its bytes could not tell.
use Prim.Native.Nat.{ℕ, ◌<◌}
use mathlib.Core.Path.{◌≡◌, refl}
use mathlib.Core.Bool.{false}
use mathlib.Core.List.{List}
use borrow.Author.Tests.{lt-ltb}
use lib.Dec.{eqb}
use lib.ListN.{length}
use Rattle.kinds.specs.Refusals.{order}
use Rattle.kinds.proofs.Refusing.{by-test, ne-differ}
use Rattle.kinds.specs.declared.Guid.{Guid}
use Rattle.fields.specs.Fields.{longest}
use Rattle.bindings.specs.Bindings.{list_answer}
use Rattle.elements.specs.Elements.{is_nil, given_answer}
use Rattle.references.specs.References.{is_form}
use Rattle.references.specs.declared.Reference.{Reference}
use Rattle.reference_writer.specs.Writing.{tail_answer, value_answer}
use Rattle.reference_writer.specs.RoundTrips.{WriterRefuses}

other-flags : (r : Reference) (t x : List ℕ) → is_form r.flags ≡ false → value_answer r t x ≡ 14
unfolding value_answer order
other-flags r t x h = rw h

broken-list : (r : Reference) (t x : List ℕ) → r.flags ≡ 8 → (list_answer t ≡ 0 → ⊥) → value_answer r t x ≡ list_answer t
unfolding value_answer tail_answer order
broken-list r t x e z = rw (e, ne-differ (list_answer t) 0 z)

-- each of the three rows gives 14
long-given : (g : List ℕ → ℕ) (id : Guid) (x : List ℕ) → longest < length x → given_answer g id x ≡ 14
unfolding given_answer order
long-given g id x l =
    by-test (λ (n : ℕ). n ≡ 14) (is_nil id) _ _ (λ a. refl)
    (λ a. by-test (λ (n : ℕ). n ≡ 14) (eqb (length x) 0) _ _ (λ b. refl) (λ b. rw (lt-ltb longest (length x) l)))

too_long_lem : (r : Reference) (t x : List ℕ) → r.flags ≡ 8 → list_answer t ≡ 0 → longest < length x → value_answer r t x ≡ 14
unfolding value_answer tail_answer order
too_long_lem r t x e z l = rw (e, z, long-given _ r.element x l)

pub writer-refuses : WriterRefuses
writer-refuses = record { flags = other-flags; list = broken-list; too_long = too_long_lem }
