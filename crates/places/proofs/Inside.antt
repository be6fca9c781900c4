-- Each place lies inside the bytes, by the laws of the crates that answer them.
use Prim.Native.Nat.{ℕ, zero, suc, ◌+◌, ◌*◌, ◌≤◌}
use mathlib.Core.Path.{refl, sym, ap, ◌∙◌}
use mathlib.Core.List.{List}
use mathlib.Core.Logic.{⊎_elim}
use native.Mathlib.Omega.{arith}
use borrow.Author.Tests.{eqb-true, eqb-false, leb-true}
use lib.Dec.{eqb, leb}
use lib.ListN.{length, length-append}
use Rattle.kinds.proofs.Refusing.{by-test}
use Rattle.lists.proofs.Tests.{true-or-false}
use Rattle.fields.specs.Fields.{field}
use Rattle.bindings.specs.Bindings.{words, first_binding, bindings_of, place, binding_from}
use Rattle.bindings.specs.declared.Part.{Part}
use Rattle.bindings.specs.declared.Place.{Place}
use Rattle.bindings.specs.Bindings.{Within}
use Rattle.bindings.proofs.ListAnswers.{within-binding}
use Rattle.bindings.proofs.Parts.{length-words, after, binding-front, find_none, find-end, find-here}
use Rattle.contexts.proofs.Properties.{property-within}
use Rattle.references.proofs.Forms.{tail_within, within-reference, context-within}
use Rattle.references.proofs.Nested.{element-within}
use Rattle.extensions.specs.Extensions.{place_of}
use Rattle.extensions.specs.declared.Extension.{Extension}
use Rattle.extensions.proofs.ArrayWalk.{Lies, lies}
use Rattle.extensions.proofs.Back.{end-within}
use Rattle.headers.specs.Headers.{this_answer, read_this, that_answer, read_that}
use Rattle.headers.specs.declared.ReadThis.{ReadThis}
use Rattle.headers.specs.declared.ReadThat.{ReadThat}
use Rattle.headers.proofs.HeaderAnswers.{this-lies}
use Rattle.headers.proofs.ThisTrip.{version}
use Rattle.places.specs.Places.{Inside, EveryPlaceInside}

inside : (s : List ℕ) (x : Place) → Within (length s) x → Inside s x
inside s x w = record { order = w.0; end = w.1 }

lying : (s : List ℕ) (x : Extension) → Lies (length s) x → Inside s (place_of x)
lying s x l = record { order = l.order; end = l.end }

-- ---- the binding that begins words

-- it has no more words than there are
first-words : (p : Part) (s : List ℕ) (at n : ℕ) → length (first_binding p (words s at n)) ≤ n
first-words p s at n =
    let e = sym (length-append (first_binding p (words s at n)) (after p (words s at n))) ∙ ap length (binding-front p (words s at n)) ∙ length-words s at n in
    omega arith

here-within : (p : Part) (s : List ℕ) (at n : ℕ) → at + 2 * n ≤ length s → Within (length s) (place (bindings_of p (words s at n)) 0 at)
here-within p s at zero l = rw (find_none p s at 0 refl 0) (omega arith)
here-within p s at (suc n) l =
    let b = first-words p s at (suc n) in
    ⊎_elim
    (λ t. rw (find-end p s at (suc n) (omega arith) (eqb-true (field s at 2) 0 t) 0) (omega arith))
    (λ f. rw (find-here p s at (suc n) (omega arith) (eqb-false (field s at 2) 0 f) (length (first_binding p (words s at (suc n)))) refl b) (omega arith))
    (true-or-false (eqb (field s at 2) 0))

next-within : (p : Part) (s : List ℕ) (at n : ℕ) → Within (length s) (binding_from s p at n)
unfolding binding_from
next-within p s at n =
    by-test (Within (length s)) (leb (at + 2 * n) (length s)) _ _
    (λ e. here-within p s at n (leb-true _ _ e))
    (λ e. omega arith)

-- ---- headers

call-end : (s : List ℕ) → (read_this s).length ≤ length s
unfolding read_this
call-end s =
    by-test (λ (r : ReadThis). r.length ≤ length s) (eqb (this_answer s) 0) _ _
    (λ e. end-within s 28 (version s (eqb-true _ _ e)).1)
    (λ e. omega arith)

reply-end : (s : List ℕ) → (read_that s).length ≤ length s
unfolding read_that
reply-end s =
    by-test (λ (r : ReadThat). r.length ≤ length s) (eqb (that_answer s) 0) _ _
    (λ e. end-within s 4 (eqb-true _ _ e))
    (λ e. omega arith)

pub places-inside : EveryPlaceInside
places-inside s =
    record {
      tail = inside s _ (tail_within s);
      binding = λ p k. inside s _ (within-reference s p k);
      element = λ k. inside s _ (element-within s k);
      property = λ k. inside s _ (context-within s k);
      list_binding = λ p k. inside s _ (within-binding s p k);
      next_binding = λ p at n. inside s _ (next-within p s at n);
      context_property = λ k. inside s _ (property-within s k);
      call_extension = λ k. lying s _ (this-lies s k);
      reply_extension = λ k. lying s _ (lies s 4 k);
      call_header = call-end s;
      reply_header = reply-end s;
    }
