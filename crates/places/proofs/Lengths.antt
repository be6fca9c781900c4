-- Each length is 0, or was held to the room before.
use Prim.Native.Nat.{ℕ, ◌+◌, ◌≤◌, min}
use mathlib.Core.Path.{◌≡◌}
use mathlib.Core.Bool.{not, cond, ◌||◌}
use mathlib.Core.List.{List}
use native.Mathlib.Omega.{arith}
use borrow.Author.Tests.{eqb-true, ltb-false}
use lib.Dec.{eqb, ltb}
use lib.ListN.{length}
use Rattle.kinds.proofs.Refusing.{by-test, or-false, passed, passed_on}
use Rattle.fields.specs.declared.Written.{Written}
use Rattle.bindings.specs.Bindings.{front_answer, list_length}
use Rattle.list_writer.specs.Writing.{fits, made_list, write_list_answer, write_list}
use Rattle.contexts.specs.Contexts.{is_property_flags, properties_answer, write_property_answer, write_property, write_context_answer, write_context}
use Rattle.contexts.specs.declared.Context.{Context}
use Rattle.contexts.specs.declared.Property.{Property}
use Rattle.references.specs.References.{reference_at}
use Rattle.references.specs.declared.Reference.{Reference}
use Rattle.reference_writer.specs.Writing.{value_answer, written_length, write_answer, write_reference}
use Rattle.fragments.specs.Fragments.{Reading, read_end, is_nil_reference, end_answer, finished}
use Rattle.fragments.specs.declared.Finished.{Finished}
use Rattle.extensions.specs.Extensions.{array_bytes}
use Rattle.extensions.specs.declared.Walked.{Walked}
use Rattle.extension_writer.specs.Writing as extents
use Rattle.headers.specs.Headers.{highest_minor, this_written, this_writing, that_writing}
use Rattle.headers.specs.declared.OrpcThis.{OrpcThis}
use Rattle.places.specs.Lengths.{LengthsInside}

front_length_lem : (s : List ℕ) → cond (eqb (front_answer s) 0) (list_length s) 0 ≤ length s
unfolding front_answer
front_length_lem s =
    by-test (λ (x : ℕ). x ≤ length s) (eqb (front_answer s) 0) _ _
    (λ t.
    let a = passed (ltb (length s) 4) 13 _ (omega arith) (eqb-true _ _ t) in
    let b = passed (ltb (length s) (list_length s)) 13 _ (omega arith) a.1 in
    ltb-false _ _ b.0)
    (λ f. omega arith)

list_length_lem : (a b : List ℕ) (n : ℕ) → (write_list a b n).length ≤ n
unfolding write_list write_list_answer
list_length_lem a b n =
    by-test (λ (x : Written). x.length ≤ n) (eqb (write_list_answer a b n) 0) _ _
    (λ t.
    let c = passed (not (fits a b)) 14 _ (omega arith) (eqb-true _ _ t) in
    let d = passed (ltb n (length (made_list a b))) 15 _ (omega arith) c.1 in
    ltb-false _ _ d.0)
    (λ f. omega arith)

property-length : (p : Property) (x : List ℕ) (n : ℕ) → (write_property p x n).length ≤ n
unfolding write_property write_property_answer
property-length p x n =
    by-test (λ (r : Written). r.length ≤ n) (eqb (write_property_answer p x n) 0) _ _
    (λ t.
    let a = passed (not (is_property_flags p.flags)) 14 _ (omega arith) (eqb-true _ _ t) in
    let b = passed (ltb 0xFFFFFFFF (length x)) 14 _ (omega arith) a.1 in
    let c = passed (ltb n (40 + length x)) 15 _ (omega arith) b.1 in
    ltb-false _ _ c.0)
    (λ f. omega arith)

context-length : (c : Context) (ps : List ℕ) (n : ℕ) → (write_context c ps n).length ≤ n
unfolding write_context write_context_answer
context-length c ps n =
    by-test (λ (r : Written). r.length ≤ n) (eqb (write_context_answer c ps n) 0) _ _
    (λ t.
    let a = passed_on (properties_answer c.count ps) _ (eqb-true _ _ t) in
    let b = passed (ltb n (48 + length ps)) 15 _ (omega arith) a.1 in
    ltb-false _ _ b.0)
    (λ f. omega arith)

reference-length : (r : Reference) (t x : List ℕ) (n : ℕ) → (write_reference r t x n).length ≤ n
unfolding write_reference write_answer
reference-length r t x n =
    by-test (λ (w : Written). w.length ≤ n) (eqb (write_answer r t x n) 0) _ _
    (λ q.
    let a = passed_on (value_answer r t x) _ (eqb-true _ _ q) in
    let b = passed (ltb n (written_length r t x)) 15 _ (omega arith) a.1 in
    ltb-false _ _ b.0)
    (λ f. omega arith)

-- of an accepted array
array-length : (header pointer : ℕ) (ws d : List ℕ) (at n : ℕ) → extents.write_answer header pointer ws d at n ≡ 0 → at + length (array_bytes (extents.given header pointer ws d)) ≤ n
unfolding extents.write_answer
array-length header pointer ws d at n e =
    let a = passed (not (extents.takes header pointer ws d)) 14 _ (omega arith) e in
    let b = passed (ltb n (at + length (array_bytes (extents.given header pointer ws d)))) 15 _ (omega arith) a.1 in
    ltb-false _ _ b.0

call_length : (h : OrpcThis) (header pointer : ℕ) (ws d : List ℕ) (n : ℕ) → (this_writing h header pointer ws d n).to ≤ n
unfolding this_writing this_written
call_length h header pointer ws d n =
    by-test (λ (w : Walked). w.to ≤ n) (eqb (this_written h header pointer ws d n) 0) _ _
    (λ t.
    let a = passed (ltb highest_minor h.minor) 16 _ (omega arith) (eqb-true _ _ t) in
    let b = passed_on (extents.write_answer header pointer ws d 28 n) _ a.1 in
    array-length header pointer ws d 28 n b.0)
    (λ f. omega arith)

reply-length : (header pointer : ℕ) (ws d : List ℕ) (n : ℕ) → (that_writing header pointer ws d n).to ≤ n
unfolding extents.write_walk
reply-length header pointer ws d n =
    by-test (λ (w : Walked). w.to ≤ n) (eqb (extents.write_answer header pointer ws d 4 n) 0) _ _
    (λ t. array-length header pointer ws d 4 n (eqb-true _ _ t))
    (λ f. omega arith)

fragments-length : (r : Reading) (n : ℕ) → (finished r n).length ≤ min (length r.waiting) n
unfolding finished end_answer
fragments-length r n =
    by-test (λ (x : Finished). x.length ≤ min (length r.waiting) n) (eqb (end_answer r.state (length r.waiting) n) 0) _ _
    (λ t.
    let a = passed_on (read_end r.state.head r.state.seen r.state.mode) _ (eqb-true _ _ t) in
    let b = passed (is_nil_reference (reference_at r.state.head)) 22 _ (omega arith) a.1 in
    let c = passed (r.state.over || ltb (min (length r.waiting) n) r.state.kept) 15 _ (omega arith) b.1 in
    ltb-false _ _ (or-false r.state.over _ c.0).1)
    (λ f. omega arith)

pub lengths-inside : LengthsInside
lengths-inside =
    record {
      front = front_length_lem;
      list = list_length_lem;
      property = property-length;
      context = context-length;
      reference = reference-length;
      call = call_length;
      reply = reply-length;
      fragments = fragments-length;
    }
