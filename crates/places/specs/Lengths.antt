-- The lengths that are answered: no more than the bytes that were lent, whatever these and the other arguments are. A refused one is 0.
use Rattle.std.specs.Prelude.{ℕ, ◌≤◌, min, cond, List, length, eqb}
use Rattle.bindings.specs.Bindings.{front_answer, list_length}
use Rattle.list_writer.specs.Writing.{write_list}
use Rattle.contexts.specs.Contexts.{write_property, write_context}
use Rattle.contexts.specs.declared.Context.{Context}
use Rattle.contexts.specs.declared.Property.{Property}
use Rattle.references.specs.declared.Reference.{Reference}
use Rattle.reference_writer.specs.Writing.{write_reference}
use Rattle.fragments.specs.Fragments.{Reading, finished}
use Rattle.headers.specs.Headers.{this_writing, that_writing}
use Rattle.headers.specs.declared.OrpcThis.{OrpcThis}

pub record LengthsInside : Type 0 where
  -- of the list at the front of bytes
  pub front : (s : List ℕ) → cond (eqb (front_answer s) 0) (list_length s) 0 ≤ length s
  -- of what a writer put into a buffer of n bytes
  pub list : (a b : List ℕ) (n : ℕ) → (write_list a b n).length ≤ n
  pub property : (p : Property) (x : List ℕ) (n : ℕ) → (write_property p x n).length ≤ n
  pub context : (c : Context) (ps : List ℕ) (n : ℕ) → (write_context c ps n).length ≤ n
  pub reference : (r : Reference) (t x : List ℕ) (n : ℕ) → (write_reference r t x n).length ≤ n
  pub call : (h : OrpcThis) (header pointer : ℕ) (ws d : List ℕ) (n : ℕ) → (this_writing h header pointer ws d n).to ≤ n
  pub reply : (header pointer : ℕ) (ws d : List ℕ) (n : ℕ) → (that_writing header pointer ws d n).to ≤ n
  -- of a reference's list or object data that came in fragments: of both buffers, for any state
  pub fragments : (r : Reading) (n : ℕ) → (finished r n).length ≤ min (length r.waiting) n
