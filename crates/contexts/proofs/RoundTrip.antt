-- Round trips of contexts over their layout.
use Prim.Native.Nat.{ℕ, suc, zero, ◌+◌, ◌-◌, ◌<◌, ◌≤◌}
use mathlib.Core.Path.{◌≡◌, refl, sym, ap, ◌∙◌}
use mathlib.Core.Bool.{cond}
use mathlib.Core.List.{List, [], ◌∷◌, ◌++◌, append_assoc}
use native.Mathlib.Omega.{arith}
use borrow.Author.Tests.{ltb-false, le-ltb, eq-eqb}
use lib.Dec.{ltb}
use lib.ListN.{length, take, drop, get_or, length-append, length-drop, take-append-drop}
use lib.Seq.{take_at, drop_at, drop-drop, length-take-le}
use Rattle.kinds.specs.Refusals.{order}
use Rattle.kinds.proofs.Refusing.{eq-differ, passed, passed_on, last_row}
use Rattle.fields.specs.Fields.{field, encode, guid_bytes, Bytes}
use Rattle.fields.proofs.Fields.{drop-bytes, field-part, guid-part, field-then, guid-then}
use Rattle.contexts.specs.Contexts.{Held, property_bytes, head_bytes, properties_bytes, context_bytes, context_at, property_at, property_length, property_content, properties_at}
use Rattle.contexts.specs.Contexts.{property_answer, properties_answer, head_answer, context_answer, is_property_flags, content_place, property_place, read_property}
use Rattle.bindings.specs.declared.Place.{Place}
use Rattle.bindings.specs.Bindings.{refusal, bytes_at}
use Rattle.bindings.proofs.ListBytes.{by_bool}
use Rattle.contexts.specs.RoundTrips.{Fits, Narrow, AllProper, none, more, ContextWriteThenRead, ContextReadThenWrite, ContextWriterAsReader, PropertyK}
use Rattle.contexts.specs.declared.Context.{Context}
use Rattle.contexts.proofs.Properties.{Accepted, accepted, accept, Headed, headed, head-accept}

-- ---- a property that can be written, before other bytes

record Laid (t : List ℕ) (h : Held) (rest : List ℕ) : Type 0 where
  property : property_at t ≡ h.property
  flags : field t 32 4 ≡ h.property.flags
  size : field t 36 4 ≡ length h.content
  content : property_content t ≡ h.content
  after : drop (property_length t) t ≡ rest
  room : property_length t ≤ length t

module _ (h : Held) (rest : List ℕ) (f : Narrow h) where
  fixed : List ℕ
  fixed = guid_bytes h.property.clsid ++ guid_bytes h.property.policy ++ encode 4 h.property.flags ++ encode 4 (length h.content)

  length-fixed : length fixed ≡ 40
  unfolding fixed encode
  length-fixed = refl

  split : property_bytes h.property h.content ++ rest ≡ fixed ++ (h.content ++ rest)
  unfolding property_bytes fixed
  split = append_assoc (guid_bytes h.property.clsid ++ guid_bytes h.property.policy ++ encode 4 h.property.flags ++ encode 4 (length h.content)) h.content rest

  property-laid : Laid (property_bytes h.property h.content ++ rest) h rest
  unfolding fixed encode
  property-laid =
      let t = property_bytes h.property h.content ++ rest in
      let y = h.content in
      let front : take 40 t ≡ fixed = rw split (take_at fixed (y ++ rest) 40 length-fixed) in
      let tail : drop 40 t ≡ y ++ rest = rw split (drop_at fixed (y ++ rest) 40 length-fixed) in
      let a = ap length split in
      let b = length-append fixed (y ++ rest) in
      let d = length-append y rest in
      let n = length-fixed in
      let l : 40 ≤ length t = omega arith in
      let flags = field-part t fixed 0 40 front l 32 4 h.property.flags (omega arith) refl f.flags in
      let size = field-part t fixed 0 40 front l 36 4 (length y) (omega arith) refl f.size in
      let clsid = guid-part t fixed 0 40 front l 0 h.property.clsid (omega arith) refl f.clsid in
      let policy = guid-part t fixed 0 40 front l 16 h.property.policy (omega arith) refl f.policy in
      record {
        property = rw (clsid, policy, flags);
        flags = flags;
        size = size;
        content = rw (size, tail) (take_at y rest (length y) refl);
        after = rw size (sym (drop-drop (length y) 40 t) ∙ (rw tail (drop_at y rest (length y) refl)));
        room = rw size (omega arith);
      }

-- ---- properties in a row

next : (n : ℕ) (t : List ℕ) → property_answer t ≡ 0 → properties_answer (suc n) t ≡ properties_answer n (drop (property_length t) t)
unfolding properties_answer order
next n t e = simp (eq-differ _ _ e) (last_row _)

none_done : properties_answer 0 [] ≡ 0
unfolding properties_answer order
none_done = refl

length_none : (t : List ℕ) → length t ≤ 0 → t ≡ []
length_none [] h = refl
length_none (x ∷ t) h = absurd (omega arith)

all_read : (t : List ℕ) → properties_answer 0 t ≡ 0 → t ≡ []
unfolding properties_answer
all_read t done = length_none t (ltb-false _ _ (passed (ltb 0 (length t)) 14 _ (omega arith) done).0)

properties-split : (n : ℕ) (t : List ℕ) → properties_answer (suc n) t ≡ 0 → (property_answer t ≡ 0) × (properties_answer n (drop (property_length t) t) ≡ 0)
unfolding properties_answer
properties-split n t done =
    let a = passed_on (property_answer t) _ done in
    let b = passed_on (properties_answer n (drop (property_length t) t)) _ a.1 in
    (a.0, b.0)

pub properties-read-back : (hs : List Held) → AllProper hs → (properties_answer (length hs) (properties_bytes hs) ≡ 0) × (properties_at (length hs) (properties_bytes hs) ≡ hs)
unfolding properties_bytes properties_at
properties-read-back [] none = (none_done, refl)
properties-read-back (h ∷ hs) (more f fs) =
    let l = property-laid h (properties_bytes hs) f.narrow in
    let t = property_bytes h.property h.content ++ properties_bytes hs in
    let i = properties-read-back hs fs in
    let ok : property_answer t ≡ 0 = accept t (rw l.flags f.flags) l.room in
    (next (length hs) t ok ∙ (rw l.after i.0), rw (l.property, l.content, l.after, i.1))

property-then : (t : List ℕ) → Bytes t → Accepted t → t ≡ property_bytes (property_at t) (property_content t) ++ drop (property_length t) t
unfolding property_bytes
property-then t b a =
    let fixed = a.fixed in
    let whole = a.whole in
    let n = field t 36 4 in
    let len : length (property_content t) ≡ n = length-take-le n (drop 40 t) (rw length-drop (omega arith)) in
    let last : drop 40 t ≡ property_content t ++ drop (40 + n) t = sym (take-append-drop n (drop 40 t)) ∙ (rw (drop-drop n 40 t)) in
    let fourth = field-then t 36 4 _ b (omega arith) last in
    let third = field-then t 32 4 _ b (omega arith) fourth in
    let second = guid-then t 16 _ b (omega arith) third in
    let first = guid-then t 0 _ b (omega arith) second in
    rw len (first ∙ simp append_assoc)

pub properties-bytes-back : (n : ℕ) (t : List ℕ) → Bytes t → properties_answer n t ≡ 0 → t ≡ properties_bytes (properties_at n t)
unfolding properties_bytes properties_at
properties-bytes-back zero t b done = all_read t done
properties-bytes-back (suc n) t b done =
    let d = properties-split n t done in
    let i = properties-bytes-back n (drop (property_length t) t) (drop-bytes t (property_length t) b) d.1 in
    property-then t b (accepted t d.0) ∙ ap (λ (l : List ℕ). property_bytes (property_at t) (property_content t) ++ l) i

-- ---- a context

length-head : (c : Context) → length (head_bytes c) ≡ 48
unfolding head_bytes encode
length-head c = refl

module _ (c : Context) (ps : List ℕ) (f : Fits c) where
  head-front : take 48 (head_bytes c ++ ps) ≡ head_bytes c
  head-front = take_at (head_bytes c) ps 48 (length-head c)

  head-room : 48 ≤ length (head_bytes c ++ ps)
  head-room = let a = length-append (head_bytes c) ps in let n = length-head c in omega arith

  context-value : context_at (context_bytes c ps) ≡ c
  unfolding context_bytes head_bytes encode
  context-value =
      let s = head_bytes c ++ ps in
      let h = head_bytes c in
      let e = head-front in
      let l = head-room in
      rw (
        guid-part s h 0 48 e l 4 c.id (omega arith) refl f.id,
        field-part s h 0 48 e l 24 4 c.reserved (omega arith) refl f.reserved,
        field-part s h 0 48 e l 36 4 c.marshal (omega arith) refl f.marshal,
        field-part s h 0 48 e l 40 4 c.count (omega arith) refl f.count,
        field-part s h 0 48 e l 44 4 c.frozen (omega arith) refl f.frozen,
      )

  context-headed : Headed (context_bytes c ps)
  unfolding context_bytes head_bytes encode
  context-headed =
      let s = head_bytes c ++ ps in
      let h = head_bytes c in
      let e = head-front in
      let l = head-room in
      record {
        major = field-part s h 0 48 e l 0 2 1 (omega arith) refl (omega arith);
        minor = field-part s h 0 48 e l 2 2 1 (omega arith) refl (omega arith);
        flags = field-part s h 0 48 e l 20 4 2 (omega arith) refl (omega arith);
        extents = field-part s h 0 48 e l 28 4 0 (omega arith) refl (omega arith);
        sizes = field-part s h 0 48 e l 32 4 0 (omega arith) refl (omega arith);
        fixed = l;
      }

  context-rest : drop 48 (context_bytes c ps) ≡ ps
  unfolding context_bytes
  context-rest = drop_at (head_bytes c) ps 48 (length-head c)

  -- a context's bytes are judged as the bytes of its properties
  pub context-given : context_answer (context_bytes c ps) ≡ properties_answer c.count ps
  unfolding context_answer order
  context-given =
      let n : field (context_bytes c ps) 40 4 ≡ c.count = ap (λ (k : Context). k.count) context-value in
      rw (eq-differ _ _ (head-accept (context_bytes c ps) context-headed), n, context-rest) (last_row (properties_answer c.count ps))

-- what is written of a context and its properties is read as them
pub context-write-then-read : ContextWriteThenRead
context-write-then-read c hs f fs n =
    let ps = properties_bytes hs in
    let i = properties-read-back hs fs in
    (context-given c ps f ∙ (rw n i.0), record { context = context-value c ps f; properties = rw (context-rest c ps f, n) i.1 })

-- bytes that are read as a context are its bytes
pub context-read-then-write : ContextReadThenWrite
unfolding context_answer context_bytes head_bytes
context-read-then-write s b done =
    let a = passed_on (head_answer s) _ done in
    let p = (passed_on (properties_answer (field s 40 4) (drop 48 s)) _ a.1).0 in
    let h = headed s a.0 in
    let l = h.fixed in
    let ps = properties-bytes-back (field s 40 4) (drop 48 s) (drop-bytes s 48 b) p in
    rw (← ps)
    ((rw (h.major, h.minor, h.flags, h.extents, h.sizes) at
    (field-then s 0 2 _ b (omega arith) (field-then s 2 2 _ b (omega arith) (guid-then s 4 _ b (omega arith)
    (field-then s 20 4 _ b (omega arith) (field-then s 24 4 _ b (omega arith) (field-then s 28 4 _ b (omega arith)
    (field-then s 32 4 _ b (omega arith) (field-then s 36 4 _ b (omega arith) (field-then s 40 4 _ b (omega arith)
    (field-then s 44 4 _ b (omega arith) refl)))))))))))
    ∙ simp append_assoc)

-- ---- the writers as the reader

property-given : (h : Held) (rest : List ℕ) → Narrow h → property_answer (property_bytes h.property h.content ++ rest) ≡ cond (is_property_flags h.property.flags) 0 14
unfolding property_answer order
property-given h rest f =
    let l = property-laid h rest f in
    let room = l.room in
    let t = property_bytes h.property h.content ++ rest in
    let a : 36 ≤ length t = omega arith in
    let b : 40 ≤ length t = omega arith in
    by_bool (is_property_flags h.property.flags)
    (λ e. rw e (accept t (rw l.flags e) room))
    (λ e. simp (le-ltb _ _ a, l.flags, e))

pub context-writer-as-reader : ContextWriterAsReader
context-writer-as-reader = record { property = property-given; context = context-given }

-- ---- property k is number k of those that are read

record ShownAt (s : List ℕ) (x : Place) (h : Held) : Type 0 where
  answer : x.answer ≡ 0
  fields : property_at (drop (x.from - 40) s) ≡ h.property
  content : bytes_at s x ≡ h.content

shown-at : (n : ℕ) (s : List ℕ) (k at : ℕ) (h : Held) → k < n → ShownAt s (content_place n (drop at s) k at) (get_or (properties_at n (drop at s)) k h)
unfolding content_place properties_at
shown-at zero s k at h l = absurd (omega arith)
shown-at (suc n) s zero at h l =
    let from : at + 40 - 40 ≡ at = omega arith in
    let size : at + property_length (drop at s) - (at + 40) ≡ field (drop at s) 36 4 = omega arith in
    record { answer = refl; fields = rw from; content = rw (size, drop-drop 40 at s) }
shown-at (suc n) s (suc k) at h l =
    rw (drop-drop (property_length (drop at s)) at s) (shown-at n s k (at + property_length (drop at s)) h (omega arith))

none-at : (n : ℕ) (t : List ℕ) (k at : ℕ) → n ≤ k → content_place n t k at ≡ refusal 24
unfolding content_place
none-at zero t k at l = refl
none-at (suc n) t zero at l = absurd (omega arith)
none-at (suc n) t (suc k) at l = none-at n (drop (property_length t) t) k (at + property_length t) (omega arith)

pub property-k : PropertyK
unfolding property_place read_property
property-k s done =
    record {
      shown = λ k h l.
          let x = shown-at (field s 40 4) s k 48 h l in
          record {
            fields = rw (eq-eqb _ _ done, eq-eqb _ _ x.answer, x.fields);
            answer = rw (eq-eqb _ _ done) x.answer;
            content = rw (eq-eqb _ _ done) x.content;
          };
      none = λ k l. rw (eq-eqb _ _ done) (none-at (field s 40 4) (drop 48 s) k 48 l);
    }
