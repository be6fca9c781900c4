-- Round trips of the call headers over their layouts. Reading what was written gives the header with its extensions; writing what was
-- read gives the same bytes, but for the reserved field of ORPCTHIS, which is ignored when read and written as zero.
use Prim.Native.Nat.{ℕ, ◌+◌, ◌≤◌}
use mathlib.Core.Path.{◌≡◌, refl, sym, ap, ◌∙◌}
use mathlib.Core.Bool.{true}
use mathlib.Core.List.{List, ◌++◌, append_assoc}
use native.Mathlib.Omega.{arith}
use borrow.Author.Tests.{le-ltb}
use lib.ListN.{length, take, drop, length-append, length-drop}
use lib.Seq.{take-append_seam}
use Rattle.kinds.specs.Refusals.{order}
use Rattle.fields.specs.Fields.{field, encode, stored, Bytes}
use Rattle.fields.proofs.Fields.{length-encode, number-encode, field_in, field-then, written-front}
use Rattle.extensions.specs.Extensions.{Array, array_bytes, extensions_at, extensions_end}
use Rattle.extension_writer.specs.Writing.{given, agree, takes, writable, write_answer}
use Rattle.extensions.proofs.Back.{bytes_back, end-length, end-within}
use Rattle.extension_writer.specs.Statements.{Fits}
use Rattle.extension_writer.proofs.Forward.{read_back}
use Rattle.extension_writer.proofs.Same.{read-is-writable}
use Rattle.headers.specs.Statements.{ThatFits}
use Rattle.headers.specs.Headers.{that_bytes, that_answer, that_at}
use Rattle.headers.specs.declared.OrpcThat.{OrpcThat}
use Rattle.headers.proofs.HeaderAnswers.{able}

-- what the definitions of reading say of s: accepted, the header h, the extensions a, n bytes long
pub record ThatParts (s : List ℕ) (h : OrpcThat) (a : Array) (n : ℕ) : Type 0 where
  pub answer : that_answer s ≡ 0
  pub header : that_at s ≡ h
  pub extensions : extensions_at s 4 ≡ a
  pub size : extensions_end s 4 ≡ n

pub length-that : (h : OrpcThat) (a : Array) → length (that_bytes h a) ≡ 4 + length (array_bytes a)
unfolding that_bytes
length-that h a = length-append (encode 4 h.flags) (array_bytes a) ∙ (rw (length-encode 4 h.flags))

pub that-read-back : (h : OrpcThat) (a : Array) (rest : List ℕ) → ThatFits h → Fits a → writable a ≡ true → ThatParts (that_bytes h a ++ rest) h a (4 + length (array_bytes a))
unfolding that_bytes encode that_at
that-read-back h a rest fits f w =
    let s = that_bytes h a ++ rest in
    let r = read_back s 4 a rest (omega arith) f w refl in
    let l = end-within s 4 r.answer in
    let next = ap length r.next in
    let k = length-drop (extensions_end s 4) s in
    let m = length-append (that_bytes h a) rest in
    let o = length-that h a in
    record {
      answer = r.answer;
      header = λ i. record { flags = (field_in s 0 4 (omega arith) ∙ number-encode 4 h.flags fits) i };
      extensions = r.same;
      size = omega arith;
    }

pub that-bytes-back : (s : List ℕ) (h : OrpcThat) (a : Array) (n : ℕ) → Bytes s → ThatParts s h a n → s ≡ that_bytes h a ++ drop n s
unfolding that_bytes that_at
that-bytes-back s h a n b r =
    let e = end-length s 4 b r.answer in
    let w = end-within s 4 r.answer in
    let flags : field s 0 4 ≡ h.flags = ap (λ (x : OrpcThat). x.flags) r.header in
    let whole : s ≡ encode 4 (field s 0 4) ++ (array_bytes (extensions_at s 4) ++ drop (extensions_end s 4) s) = field-then s 0 4 _ b (omega arith) (bytes_back s 4 b r.answer) in
    whole ∙ (rw (flags, r.extensions, r.size) (sym (append_assoc (encode 4 h.flags) (array_bytes a) (drop n s))))

pub that-write-then-read : (h : OrpcThat) (header pointer : ℕ) (ws d b : List ℕ) → ThatFits h → Fits (given header pointer ws d) → write_answer header pointer ws d 4 (length b) ≡ 0
    → ThatParts (stored 0 (that_bytes h (given header pointer ws d)) b) h (given header pointer ws d) (4 + length (array_bytes (given header pointer ws d)))
that-write-then-read h header pointer ws d b fits f done =
    let a = given header pointer ws d in
    let w = able header pointer ws d 4 (length b) done in
    let room : length (that_bytes h a) ≤ length b = rw (length-that h a) w.1 in
    rw (written-front b (that_bytes h a) room) (that-read-back h a _ fits f w.0)

pub that-read-then-write : (s b : List ℕ) (h : OrpcThat) (n header pointer : ℕ) (ws d : List ℕ) → Bytes s → ThatParts s h (given header pointer ws d) n → agree ws d ≡ true → n ≤ length b
    → (write_answer header pointer ws d 4 (length b) ≡ 0) × (stored 0 (that_bytes h (given header pointer ws d)) b ≡ take n s ++ drop n b)
unfolding write_answer takes order
that-read-then-write s b h n header pointer ws d bytes r same room =
    let a = given header pointer ws d in
    let w : writable a ≡ true = rw r.extensions at (read-is-writable s 4 bytes r.answer) in
    let size : n ≡ 4 + length (array_bytes a) = sym r.size ∙ end-length s 4 bytes r.answer ∙ ap (λ (x : Array). 4 + length (array_bytes x)) r.extensions in
    let fit : 4 + length (array_bytes a) ≤ length b = omega arith in
    let long : length (that_bytes h a) ≡ n = length-that h a ∙ sym size in
    let front : take n s ≡ that_bytes h a =
    ap (take n) (that-bytes-back s h a n bytes r) ∙ ap (λ (j : ℕ). take j (that_bytes h a ++ drop n s)) (sym long) ∙ take-append_seam (that_bytes h a) (drop n s) in
    (rw (same, w, le-ltb _ _ fit), written-front b (that_bytes h a) (omega arith) ∙ (rw (long, front)))
