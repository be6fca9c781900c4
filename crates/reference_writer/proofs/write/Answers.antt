-- `write`: the header, the body, the tail and the elements are a run of writes from the front.
use Prim.Native.Nat.{ℕ, ◌+◌, ◌-◌, ◌<◌, ◌≤◌}
use mathlib.Core.Path.{◌≡◌, refl, sym, ap, ◌∙◌}
use mathlib.Core.List.{List}
use native.Mathlib.Omega.{arith}
use borrow.Author.Tests.{ne_eqb}
use lib.ListN.{length}
use borrow.Rule.Slice.PartMut.{put_mid, mid_len}
use native.Mathlib.Nat.{add-sub_cancel_left}
use Rattle.std.specs.Prelude.{Err}
use Rattle.kinds.proofs.Answering.{refusal-some, refusal-eqb}
use Rattle.fields.specs.Fields.{written}
use Rattle.fields.specs.declared.Written.{Written}
use Rattle.fields.proofs.Fields.{first-bytes, then-bytes}
use Rattle.reference_writer.specs.Writing.{header_bytes, body_bytes, elements_bytes, reference_bytes, value_answer, written_length}
use Rattle.references.proofs.Forms.{size-most}
use Rattle.reference_writer.proofs.Writable.{length-header, length-body, Valued, valued, write-refused, write-short, write-fits, written-part}
use Rattle.reference_writer.proofs.RoundTrip.{length-elements}
use borrow.Author.Rules.{rules}
use Rattle.reference_writer.proofs.write.Goals as goal

from_place : (s y z : List ℕ) (a b : ℕ) → a ≡ b → z ≡ written s a y → z ≡ written s b y
from_place s y z a b e h = h ∙ ap (λ (k : ℕ). written s k y) e

pub returns-in_err-value_answer : goal.returns-in_err-value_answer
returns-in_err-value_answer c =
    let number = c.in_err-value_answer.ensures in
    let refused : ℕ → Written = λ n. record { answer = n; length = 0 } in
    let r : c.from_residual.result ≡ Err c.in_err-value_answer.field-0.0 = search rules in
    rw r (ap refused number ∙ sym (write-refused _ _ _ _ (refusal-some _ number)), simp (refusal-eqb c.in_err-value_answer.field-0.0))

pub overflow_add-at : goal.overflow_add-at
overflow_add-at c = omega (arith, size-most c.args.reference.flags, c.fixed_size-start.ensures)

pub overflow_add-length : goal.overflow_add-length
overflow_add-length c = omega (arith, size-most c.args.reference.flags, c.fixed_size-start.ensures, c.elements_length.ensures.1)

pub returns-then-buf-length : goal.returns-then-buf-length
returns-then-buf-length c =
    let done : let a = c.args in value_answer a.reference a.tail.now a.x.now ≡ 0 = sym c.in_ok-value_answer.ensures in
    let size = c.fixed_size-start.ensures in
    let more = c.elements_length.ensures.0 in
    let short : length c.args.buf.now < written_length c.args.reference c.args.tail.now c.args.x.now = omega arith in
    (sym (write-short _ _ _ _ (done) short), refl)

pub slice_bounds-write_elements-end : goal.slice_bounds-write_elements-end
slice_bounds-write_elements-end c = search rules

pub write_elements-requires : goal.write_elements-requires
write_elements-requires c =
    let done : let a = c.args in value_answer a.reference a.tail.now a.x.now ≡ 0 = sym c.in_ok-value_answer.ensures in
    let ok : let a = c.args in Valued a.reference a.tail.now a.x.now = valued _ _ _ (done) in
    let tail = c.args.tail.now in
    let size = add-sub_cancel_left (c.fixed_size-start.result + length tail) c.elements_length.result ∙ c.elements_length.ensures.0 in
    ((ok).given, mid_len _ _ _ (search rules) ∙ size)

pub returns : goal.returns
unfolding reference_bytes
returns c =
    let done : let a = c.args in value_answer a.reference a.tail.now a.x.now ≡ 0 = sym c.in_ok-value_answer.ensures in
    let ok : let a = c.args in Valued a.reference a.tail.now a.x.now = valued _ _ _ (done) in
    let room : let a = c.args in written_length a.reference a.tail.now a.x.now ≤ length a.buf.now = omega (arith, c.if-buf-length.false, c.elements_length.ensures.0, c.fixed_size-start.ensures) in
    let r = c.args.reference in
    let t = c.args.tail.now in
    let x = c.args.x.now in
    let h = ok in
    let fits = room in
    let size = c.fixed_size-start.ensures in
    let more = c.elements_length.ensures.0 in
    let all = length-body r h.form in
    let y = elements_bytes r x in
    let last = length-elements r x in
    let a = c.fixed_size-start.result + length t in
    let e = a + c.elements_length.result in
    let at : c.fixed_size-start.result ≡ 0 + (24 + length (body_bytes r)) = omega arith in
    let past : a ≡ 0 + (24 + length (body_bytes r) + length t) = omega arith in
    let run = first-bytes (header_bytes r) 24 (length-header r) c.write_header.ensures in
    let run2 = then-bytes (body_bytes r) (length (body_bytes r)) run refl (omega arith) c.write_body.ensures in
    let run3 = then-bytes t (length t) run2 refl (omega arith) (rw at at c.copy.ensures) in
    let part = ap (put_mid a (e - a) _) c.write_elements.ensures ∙ written-part _ y a e (omega arith) (search rules) (omega arith) in
    let run4 = then-bytes y (length y) run3 refl (omega arith) (from_place _ y _ a _ past part) in
    let total : e ≡ written_length r t x = omega arith in
    let made : ℕ → Written = λ n. record { answer = 0; length = n } in
    (ap made total ∙ sym (write-fits _ _ _ _ (done) fits), run4.holds)

pub elements_length-requires : goal.elements_length-requires
elements_length-requires c =
    let done : let a = c.args in value_answer a.reference a.tail.now a.x.now ≡ 0 = sym c.in_ok-value_answer.ensures in
    let ok : let a = c.args in Valued a.reference a.tail.now a.x.now = valued _ _ _ (done) in
    (ok).given

pub write_header-requires : goal.write_header-requires
write_header-requires c =
    let done : let a = c.args in value_answer a.reference a.tail.now a.x.now ≡ 0 = sym c.in_ok-value_answer.ensures in
    let ok : let a = c.args in Valued a.reference a.tail.now a.x.now = valued _ _ _ (done) in
    let room : let a = c.args in written_length a.reference a.tail.now a.x.now ≤ length a.buf.now = omega (arith, c.if-buf-length.false, c.elements_length.ensures.0, c.fixed_size-start.ensures) in
    let h = ok in omega (arith, h.least, room)
