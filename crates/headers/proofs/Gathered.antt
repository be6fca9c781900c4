-- `HeadersBack`: what the readers answer says what the definitions say of the bytes, and back.
use Prim.Native.Nat.{ℕ, ◌+◌, ◌<◌}
use mathlib.Core.Path.{◌≡◌, refl, sym, ap, ◌∙◌}
use mathlib.Core.List.{List, []}
use lib.ListN.{length, get_or}
use lib.Seq.{ext_get_or}
use Rattle.kinds.proofs.Refusing.{accepted-by}
use Rattle.extensions.specs.Extensions.{Extent, Array, extents_start, extensions_answer, extensions_at, extensions_count, extensions_end, read_extensions, extension_at}
use Rattle.extensions.specs.Statements.{Shows}
use Rattle.extensions.specs.declared.Extensions.{Extensions}
use Rattle.extensions.specs.declared.Extension.{Extension}
use Rattle.extensions.proofs.Back.{count-extents, extension-k}
use Rattle.extension_writer.proofs.Words.{words-fit, agree-words, given-words}
use Rattle.headers.specs.Headers.{this_answer, this_at, read_this, no_this, this_extension, that_answer, that_at, read_that, no_that}
use Rattle.headers.specs.Statements.{reported, ThisRead, ThatRead, HeadersBack}
use Rattle.headers.specs.declared.OrpcThis.{OrpcThis}
use Rattle.headers.specs.declared.ReadThis.{ReadThis}
use Rattle.headers.specs.declared.OrpcThat.{OrpcThat}
use Rattle.headers.specs.declared.ReadThat.{ReadThat}
use Rattle.headers.proofs.RoundTrip.{ThatParts, length-that, that-read-back, that-bytes-back, that-write-then-read, that-read-then-write}
use Rattle.headers.proofs.ThisTrip.{ThisParts, length-this, version, this-read-back, this-bytes-back, this-write-then-read, this-read-then-write}

-- ---- the extensions, by what is reported and shown of them

-- one extension is shown in one way
one-shown : (s : List ℕ) (x : Extension) (e f : Extent) → Shows s x e → Shows s x f → e ≡ f
one-shown s x e f p q =
    λ i. record { pointer = (sym p.pointer ∙ q.pointer) i; id = (sym p.id ∙ q.id) i; content = (sym p.content ∙ q.content) i }

module _ (s : List ℕ) (at : ℕ) (done : extensions_answer s at ≡ 0) where
  count_at_lem : length (extensions_at s at).extents ≡ extensions_count s at
  unfolding extensions_at
  count_at_lem = count-extents s (at + 20) (extents_start s at) (extensions_count s at)

  read-reported : read_extensions s at ≡ reported (extensions_at s at)
  unfolding read_extensions extensions_at
  read-reported = rw (done, count_at_lem)

  -- what is reported and shown is what is there
  same-array : (a : Array) → read_extensions s at ≡ reported a → ((k : ℕ) (e : Extent) → k < length a.extents → Shows s (extension_at s at k) (get_or a.extents k e)) → extensions_at s at ≡ a
  same-array a r shown =
      let all = sym read-reported ∙ r in
      let none : Extent = record { pointer = 0; id = record { low = 0; high = 0 }; content = [] } in
      let count : length (extensions_at s at).extents ≡ length a.extents = ap (λ (x : Extensions). x.count) all in
      let each : (i : ℕ) → i < length (extensions_at s at).extents → get_or (extensions_at s at).extents i none ≡ get_or a.extents i none =
      λ i l. one-shown s (extension_at s at i) _ _ ((extension-k s at done).shown i none l) (shown i none (rw count at l)) in
      let extents = ext_get_or none (extensions_at s at).extents a.extents count each in
      λ i. record { header = ap (λ (x : Extensions). x.pointer) all i; pointer = ap (λ (x : Extensions). x.array) all i; extents = extents i }

-- ---- ORPCTHIS

this-shown : (s : List ℕ) → this_answer s ≡ 0 → (k : ℕ) → this_extension s k ≡ extension_at s 28 k
unfolding this_extension
this-shown s done k = rw done

this-parts : (s : List ℕ) (h : OrpcThis) (a : Array) (n : ℕ) → ThisRead s h a n → ThisParts s h a n
unfolding read_this
this-parts s h a n r =
    let whole : ReadThis = record { answer = 0; header = this_at s; extensions = read_extensions s 28; length = extensions_end s 28 } in
    let x = accepted-by (λ (x : ReadThis). x.answer) (this_answer s) whole (no_this (this_answer s)) (record { answer = 0; header = h; extensions = reported a; length = n }) refl refl r.read in
    record {
      answer = x.0;
      header = ap (λ (y : ReadThis). y.header) x.1;
      extensions = same-array s 28 (version s x.0).1 a (ap (λ (y : ReadThis). y.extensions) x.1) (λ k e l. rw (this-shown s x.0 k) at (r.shown k e l));
      size = ap (λ (y : ReadThis). y.length) x.1;
    }

this-read : (s : List ℕ) (h : OrpcThis) (a : Array) (n : ℕ) → ThisParts s h a n → ThisRead s h a n
unfolding read_this
this-read s h a n p =
    let done = (version s p.answer).1 in
    record {
      read = rw (p.answer, p.header, read-reported s 28 done, p.extensions, p.size);
      shown = λ k e l. rw (this-shown s p.answer k, ← p.extensions) ((extension-k s 28 done).shown k e (rw (← p.extensions) at l));
    }

-- ---- ORPCTHAT

that-parts : (s : List ℕ) (h : OrpcThat) (a : Array) (n : ℕ) → ThatRead s h a n → ThatParts s h a n
unfolding read_that
that-parts s h a n r =
    let whole : ReadThat = record { answer = 0; header = that_at s; extensions = read_extensions s 4; length = extensions_end s 4 } in
    let x = accepted-by (λ (x : ReadThat). x.answer) (that_answer s) whole (no_that (that_answer s)) (record { answer = 0; header = h; extensions = reported a; length = n }) refl refl r.read in
    record {
      answer = x.0;
      header = ap (λ (y : ReadThat). y.header) x.1;
      extensions = same-array s 4 x.0 a (ap (λ (y : ReadThat). y.extensions) x.1) r.shown;
      size = ap (λ (y : ReadThat). y.length) x.1;
    }

that-read : (s : List ℕ) (h : OrpcThat) (a : Array) (n : ℕ) → ThatParts s h a n → ThatRead s h a n
unfolding read_that
that-read s h a n p =
    record {
      read = rw (p.answer, p.header, read-reported s 4 p.answer, p.extensions, p.size);
      shown = λ k e l. rw (← p.extensions) ((extension-k s 4 p.answer).shown k e (rw (← p.extensions) at l));
    }

-- ---- all eight

pub headers-back : HeadersBack
headers-back =
    record {
      this_read_back = λ r h a rest f k g w. rw (length-this r h a) (this-read _ h a _ (this-read-back r h a rest f k g w));
      that_read_back = λ h a rest f g w. rw (length-that h a) (that-read _ h a _ (that-read-back h a rest f g w));
      this_bytes_back = λ s h a n b r. this-bytes-back s h a n b (this-parts s h a n r);
      that_bytes_back = λ s h a n b r. that-bytes-back s h a n b (that-parts s h a n r);
      this_write_then_read = λ h header pointer ws d b f l m w done.
          rw (length-this 0 h _) (this-read _ h _ _ (this-write-then-read h header pointer ws d b f (words-fit header pointer ws d l m w) done));
      that_write_then_read = λ h header pointer ws d b f l m w done.
          rw (length-that h _) (that-read _ h _ _ (that-write-then-read h header pointer ws d b f (words-fit header pointer ws d l m w) done));
      this_read_then_write = λ s b h a n bytes r room.
          this-read-then-write s b h n a.header a.pointer _ _ bytes (rw (given-words a) (this-parts s h a n r)) (agree-words a.extents) room;
      that_read_then_write = λ s b h a n bytes r room.
          that-read-then-write s b h n a.header a.pointer _ _ bytes (rw (given-words a) (that-parts s h a n r)) (agree-words a.extents) room;
    }
