-- Laws of the headers' readers and writers.
use Prim.Native.Nat.{ℕ, ◌+◌, ◌≤◌}
use mathlib.Core.Path.{◌≡◌, refl, sym, ap, ◌∙◌}
use mathlib.Core.Bool.{true, not, ◌&&◌}
use mathlib.Core.List.{List, [], ◌∷◌, ◌++◌, append_assoc, append-nil}
use native.Mathlib.Omega.{arith}
use borrow.Author.Tests.{le-ltb, ltb-false, not-false}
use lib.Dec.{eqb, ltb}
use lib.ListN.{length, take, drop, length-append}
use lib.Seq.{length-take-le, drop-append_seam}
use Rattle.kinds.specs.Refusals.{◌gives◌, order}
use Rattle.kinds.proofs.Refusing.{by-test, passed, last_row}
use Rattle.fields.specs.Fields.{encode, written}
use Rattle.fields.proofs.Fields.{length-written, written_in_lem, written-front}
use Rattle.extensions.specs.declared.Walked.{Walked}
use Rattle.extensions.specs.declared.Extension.{Extension}
use Rattle.extensions.specs.Extensions.{array_bytes, extensions_answer, walk, extensions_end}
use Rattle.extension_writer.specs.Writing.{given, described, takes, agree, sizes, writable, write_answer, write_walk}
use Rattle.extensions.proofs.ArrayWalk.{both_true, walked-answer, walked_to_lem, Lies, lies}
use Rattle.headers.specs.Headers.{this_front, none, this_answer, this_walk, this_extension, this_written, this_writing}
use Rattle.headers.specs.declared.OrpcThis.{OrpcThis}

pub length_front : (r : ℕ) (h : OrpcThis) → length (this_front r h) ≡ 28
unfolding this_front encode
length_front r h = refl

pub plain : array_bytes none ≡ encode 4 0
unfolding array_bytes given described
plain = append-nil (encode 4 0)

-- the writer's answer with no extensions
pub plain-answer : (at n : ℕ) → write_answer 0 0 [] [] at n ≡ order (ltb n (at + 4) gives 15 ∷ [])
unfolding write_answer takes agree sizes writable given described order array_bytes encode
plain-answer at n = refl

-- the data lies within the bytes
pub this-lies : (s : List ℕ) (k : ℕ) → Lies (length s) (this_extension s k)
unfolding this_extension
this-lies s k = by-test (λ (x : Extension). Lies (length s) x) (eqb (this_answer s) 0) _ _ (λ e. lies s 28 k) (λ e. record { order = omega arith; end = omega arith })

-- bytes written before others
pub written-before : (s a b : List ℕ) (n : ℕ) → length a ≡ n → n + length b ≤ length s → written (written s n b) 0 a ≡ written s 0 (a ++ b)
written-before s a b n e l =
    let m = length-append a b in
    let room : length a ≤ length (written s n b) = rw (length-written s n b) (omega arith) in
    let x = b ++ drop (n + length b) s in
    let q : length (take n s) ≡ n = length-take-le n s (omega arith) in
    let rest : drop (length a) (written s n b) ≡ x = rw (e, written_in_lem s n b l) (ap (λ (j : ℕ). drop j (take n s ++ x)) (sym q) ∙ drop-append_seam (take n s) x) in
    let all : length (a ++ b) ≤ length s = omega arith in
    written-front (written s n b) a room ∙ ap (λ (y : List ℕ). a ++ y) rest ∙ sym (written-front s (a ++ b) all ∙ (rw (m, e) (append_assoc a b (drop (n + length b) s))))

pub this-number : (s : List ℕ) (r : Walked) → r ≡ this_walk s → r.answer ≡ this_answer s
unfolding this_walk
this-number s r e = ap (λ (x : Walked). x.answer) e ∙ walked-answer _ _

pub this-end : (s : List ℕ) (r : Walked) → r ≡ this_walk s → this_answer s ≡ 0 → r.to ≡ extensions_end s 28
unfolding this_walk
this-end s r e z = ap (λ (x : Walked). x.to) e ∙ walked_to_lem _ _ z

pub that-number : (s : List ℕ) (r : Walked) → r ≡ walk s 4 → r.answer ≡ extensions_answer s 4
unfolding walk
that-number s r e = ap (λ (x : Walked). x.answer) e ∙ walked-answer _ _

pub that-end : (s : List ℕ) (r : Walked) → r ≡ walk s 4 → extensions_answer s 4 ≡ 0 → r.to ≡ extensions_end s 4
unfolding walk
that-end s r e z = ap (λ (x : Walked). x.to) e ∙ walked_to_lem _ _ z

-- what an answer 0 of the writer says
pub able : (header pointer : ℕ) (ws d : List ℕ) (at n : ℕ) → write_answer header pointer ws d at n ≡ 0
    → (writable (given header pointer ws d) ≡ true) × (at + length (array_bytes (given header pointer ws d)) ≤ n)
unfolding write_answer takes
able header pointer ws d at n w =
    let a = passed (not (agree ws d && writable (given header pointer ws d))) 14 _ (omega arith) w in
    let b = passed (ltb n (at + length (array_bytes (given header pointer ws d)))) 15 _ (omega arith) a.1 in
    ((both_true (agree ws d) (writable (given header pointer ws d)) (not-false _ a.0)).1, ltb-false _ _ b.0)

module _ (header pointer : ℕ) (ws d : List ℕ) (at n : ℕ) where
  pub write-answer : (write_walk header pointer ws d at n).answer ≡ write_answer header pointer ws d at n
  unfolding write_walk
  write-answer = walked-answer _ _

  module _ (r : Walked) (e : r ≡ write_walk header pointer ws d at n) where
    pub number : r.answer ≡ write_answer header pointer ws d at n
    number = ap (λ (x : Walked). x.answer) e ∙ write-answer

    pub room : r.answer ≡ 0 → at + length (array_bytes (given header pointer ws d)) ≤ n
    room z = (able header pointer ws d at n (sym number ∙ z)).1

-- a version that is understood leaves the extensions' answer
pub this-writing : (h : OrpcThis) (header pointer : ℕ) (ws d : List ℕ) (n : ℕ) → h.minor ≤ 7 → write_walk header pointer ws d 28 n ≡ this_writing h header pointer ws d n
unfolding this_writing this_written write_walk order
this-writing h header pointer ws d n known = rw (le-ltb 7 h.minor known, last_row (write_answer header pointer ws d 28 n))
