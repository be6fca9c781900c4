-- Round trips of ORPCTHIS with its extensions; its reserved field is the one that need not return.
use Prim.Native.Nat.{ℕ, ◌+◌, ◌≤◌}
use mathlib.Core.Path.{◌≡◌, refl, sym, ap, ◌∙◌}
use mathlib.Core.Bool.{true, ◌||◌}
use mathlib.Core.List.{List, ◌++◌}
use native.Mathlib.Omega.{arith}
use borrow.Author.Tests.{le-ltb, ltb-false}
use lib.Dec.{ltb}
use lib.ListN.{length, take, drop, length-append, length-drop}
use lib.Seq.{take-append_seam}
use Rattle.kinds.specs.Refusals.{differ, order}
use Rattle.kinds.proofs.Refusing.{passed, passed_on, eq-differ, differ-false, or-false}
use Rattle.fields.specs.Fields.{field, encode, written, stored, Bytes}
use Rattle.fields.proofs.Fields.{number-encode, field_in, field-then, written-front, written_in_lem}
use Rattle.extensions.specs.Extensions.{Array, array_bytes, extensions_answer, extensions_at, extensions_end}
use Rattle.extension_writer.specs.Writing.{given, agree, takes, writable, write_answer}
use Rattle.extensions.proofs.ArrayWalk.{accepted}
use Rattle.extensions.proofs.Back.{bytes_back, end-length, end-within}
use Rattle.extension_writer.specs.Statements.{Fits}
use Rattle.extension_writer.proofs.Forward.{read_back}
use Rattle.extension_writer.proofs.Same.{read-is-writable}
use Rattle.headers.specs.Statements.{ThisFits}
use Rattle.headers.specs.Headers.{this_front, this_bytes, this_answer, this_at, this_written}
use Rattle.headers.specs.declared.OrpcThis.{OrpcThis}
use Rattle.headers.proofs.HeaderAnswers.{length_front, able}

-- what the definitions of reading say of s: accepted, the header h, the extensions a, n bytes long
pub record ThisParts (s : List ℕ) (h : OrpcThis) (a : Array) (n : ℕ) : Type 0 where
  pub answer : this_answer s ≡ 0
  pub header : this_at s ≡ h
  pub extensions : extensions_at s 28 ≡ a
  pub size : extensions_end s 28 ≡ n

pub length-this : (r : ℕ) (h : OrpcThis) (a : Array) → length (this_bytes r h a) ≡ 28 + length (array_bytes a)
unfolding this_bytes
length-this r h a = length-append (this_front r h) (array_bytes a) ∙ (rw (length_front r h))

pub this-read-back : (r : ℕ) (h : OrpcThis) (a : Array) (rest : List ℕ) → ThisFits h → h.minor ≤ 7 → Fits a → writable a ≡ true → ThisParts (this_bytes r h a ++ rest) h a (28 + length (array_bytes a))
unfolding this_bytes this_front encode this_at this_answer order
this-read-back r h a rest p known f w =
    let s = this_bytes r h a ++ rest in
    let x = read_back s 28 a rest (omega arith) f w refl in
    let l = end-within s 28 x.answer in
    let next = ap length x.next in
    let k = length-drop (extensions_end s 28) s in
    let m = length-append (this_bytes r h a) rest in
    let o = length-this r h a in
    let long : 32 ≤ length s = (accepted s 28 x.answer).room in
    let major : field s 0 2 ≡ 5 = field_in s 0 2 (omega arith) ∙ number-encode 2 5 (omega arith) in
    let minor : field s 2 2 ≡ h.minor = field_in s 2 2 (omega arith) ∙ number-encode 2 h.minor p.minor in
    let flags : field s 4 4 ≡ h.flags = field_in s 4 4 (omega arith) ∙ number-encode 4 h.flags p.flags in
    let low : field s 12 8 ≡ h.causality.low = field_in s 12 8 (omega arith) ∙ number-encode 8 h.causality.low p.low in
    let high : field s 20 8 ≡ h.causality.high = field_in s 20 8 (omega arith) ∙ number-encode 8 h.causality.high p.high in
    record {
      answer = simp (le-ltb _ _ long, eq-differ _ _ major, minor, le-ltb _ _ known, x.answer);
      header = λ i. record { minor = minor i; flags = flags i; causality = record { low = low i; high = high i } };
      extensions = x.same;
      size = omega arith;
    }

-- what an accepted header's version says, and its extensions' answer
pub version : (s : List ℕ) → this_answer s ≡ 0 → (field s 0 2 ≡ 5) × (extensions_answer s 28 ≡ 0)
unfolding this_answer
version s e =
    let long = passed (ltb (length s) 32) 13 _ (omega arith) e in
    let v = passed (differ (field s 0 2) 5 || ltb 7 (field s 2 2)) 16 _ (omega arith) long.1 in
    (differ-false _ _ (or-false (differ (field s 0 2) 5) (ltb 7 (field s 2 2)) v.0).0, (passed_on _ _ v.1).0)

pub this-bytes-back : (s : List ℕ) (h : OrpcThis) (a : Array) (n : ℕ) → Bytes s → ThisParts s h a n → s ≡ this_bytes (field s 8 4) h a ++ drop n s
unfolding this_bytes this_front encode this_at
this-bytes-back s h a n b r =
    let v = version s r.answer in
    let room : 32 ≤ length s = (accepted s 28 v.1).room in
    let minor : field s 2 2 ≡ h.minor = ap (λ (x : OrpcThis). x.minor) r.header in
    let flags : field s 4 4 ≡ h.flags = ap (λ (x : OrpcThis). x.flags) r.header in
    let low : field s 12 8 ≡ h.causality.low = ap (λ (x : OrpcThis). x.causality.low) r.header in
    let high : field s 20 8 ≡ h.causality.high = ap (λ (x : OrpcThis). x.causality.high) r.header in
    let whole = field-then s 0 2 _ b (omega arith) (field-then s 2 2 _ b (omega arith) (field-then s 4 4 _ b (omega arith)
    (field-then s 8 4 _ b (omega arith) (field-then s 12 8 _ b (omega arith) (field-then s 20 8 _ b (omega arith) (bytes_back s 28 b v.1)))))) in
    rw (← minor, ← flags, ← low, ← high, ← r.extensions, ← r.size) (rw v.0 at whole)

pub this-write-then-read : (h : OrpcThis) (header pointer : ℕ) (ws d b : List ℕ) → ThisFits h → Fits (given header pointer ws d) → this_written h header pointer ws d (length b) ≡ 0
    → ThisParts (stored 0 (this_bytes 0 h (given header pointer ws d)) b) h (given header pointer ws d) (28 + length (array_bytes (given header pointer ws d)))
unfolding this_written
this-write-then-read h header pointer ws d b fits f done =
    let a = given header pointer ws d in
    let v = passed (ltb 7 h.minor) 16 _ (omega arith) done in
    let w = able header pointer ws d 28 (length b) (passed_on _ _ v.1).0 in
    let room : length (this_bytes 0 h a) ≤ length b = rw (length-this 0 h a) w.1 in
    rw (written-front b (this_bytes 0 h a) room) (this-read-back 0 h a _ fits (ltb-false _ _ v.0) f w.0)

known : (s : List ℕ) → this_answer s ≡ 0 → field s 2 2 ≤ 7
unfolding this_answer
known s e =
    let long = passed (ltb (length s) 32) 13 _ (omega arith) e in
    let v = passed (differ (field s 0 2) 5 || ltb 7 (field s 2 2)) 16 _ (omega arith) long.1 in
    ltb-false _ _ (or-false (differ (field s 0 2) 5) (ltb 7 (field s 2 2)) v.0).1

zeroed : (r : ℕ) (h : OrpcThis) (a : Array) → written (this_bytes r h a) 8 (encode 4 0) ≡ this_bytes 0 h a
unfolding this_bytes this_front encode
zeroed r h a = written_in_lem (this_bytes r h a) 8 (encode 4 0) (omega arith)

accepts : (h : OrpcThis) (header pointer : ℕ) (ws d : List ℕ) (n : ℕ) → h.minor ≤ 7 → agree ws d ≡ true → writable (given header pointer ws d) ≡ true
    → 28 + length (array_bytes (given header pointer ws d)) ≤ n
    → this_written h header pointer ws d n ≡ 0
unfolding this_written write_answer takes order
accepts h header pointer ws d n k same w fit = rw (le-ltb _ _ k, same, w, le-ltb _ _ fit)

pub this-read-then-write : (s b : List ℕ) (h : OrpcThis) (n header pointer : ℕ) (ws d : List ℕ) → Bytes s → ThisParts s h (given header pointer ws d) n → agree ws d ≡ true → n ≤ length b
    → (this_written h header pointer ws d (length b) ≡ 0) × (stored 0 (this_bytes 0 h (given header pointer ws d)) b ≡ written (take n s) 8 (encode 4 0) ++ drop n b)
unfolding this_at
this-read-then-write s b h n header pointer ws d bytes r same room =
    let a = given header pointer ws d in
    let q = field s 8 4 in
    let v = version s r.answer in
    let minor : field s 2 2 ≡ h.minor = ap (λ (x : OrpcThis). x.minor) r.header in
    let k : h.minor ≤ 7 = rw minor at (known s r.answer) in
    let w : writable a ≡ true = rw r.extensions at (read-is-writable s 28 bytes v.1) in
    let size : n ≡ 28 + length (array_bytes a) = sym r.size ∙ end-length s 28 bytes v.1 ∙ ap (λ (x : Array). 28 + length (array_bytes x)) r.extensions in
    let fit : 28 + length (array_bytes a) ≤ length b = omega arith in
    let long : length (this_bytes q h a) ≡ n = length-this q h a ∙ sym size in
    let plain : length (this_bytes 0 h a) ≡ n = length-this 0 h a ∙ sym size in
    let front : take n s ≡ this_bytes q h a =
    ap (take n) (this-bytes-back s h a n bytes r) ∙ ap (λ (j : ℕ). take j (this_bytes q h a ++ drop n s)) (sym long) ∙ take-append_seam (this_bytes q h a) (drop n s) in
    (accepts h header pointer ws d (length b) k same w fit, written-front b (this_bytes 0 h a) (omega arith) ∙ (rw (plain, front, zeroed q h a)))
