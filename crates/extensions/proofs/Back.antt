-- Bytes that are accepted are the layout of what is read of them: one array with the same pointer numbers has one form.
use Prim.Native.Nat.{ℕ, suc, zero, ◌+◌, ◌-◌, ◌*◌, ◌<◌, ◌≤◌}
use mathlib.Core.Path.{◌≡◌, refl, sym, ap, ◌∙◌}
use mathlib.Core.Bool.{true}
use mathlib.Core.List.{List, ◌++◌, append_assoc, append-nil}
use native.Mathlib.Omega.{arith}
use borrow.Author.Tests.{eqb-false, lt-ltb, le-ltb}
use lib.Dec.{eqb}
use lib.ListN.{length, get_or, take, drop, length-append, length-drop, take-append-drop}
use lib.Seq.{length-take-le, drop-drop, take-append_seam}
use Rattle.kinds.proofs.Refusing.{by-test}
use Rattle.fields.specs.Fields.{field, encode, guid_at, guid_bytes, Bytes, all_zero, rounded, zeros}
use Rattle.fields.proofs.Fields.{field_next, guid-then, zero-zeros}
use Rattle.bindings.proofs.ListBytes.{by_bool}
use Rattle.extensions.specs.Extensions.{pairs, Extent, extent_bytes, extents_bytes, pointers_bytes, pointed_bytes, array_bytes, size_at, next_at, extents_answer, start_of}
use Rattle.extensions.specs.Extensions.{count_at, array_at, extents_start, array_end, extensions_answer, extensions_end, extensions_count, extents_at, extensions_at, extension_from, extension_at}
use Rattle.extensions.specs.Statements.{BytesBack, OneForm, Shows, ExtensionK}
use Rattle.extensions.proofs.ArrayWalk.{Held, held, Accepted, accepted, extents-first}

-- w zeros, and the bytes after them
zeros-then : (s : List ℕ) (at w next : ℕ) → at + w ≡ next → next ≤ length s → all_zero (take w (drop at s)) ≡ true → drop at s ≡ zeros w ++ drop next s
zeros-then s at w next e l z =
    let n : length (take w (drop at s)) ≡ w = length-take-le w (drop at s) (rw (length-drop at s) (omega arith)) in
    let t : take w (drop at s) ≡ zeros w = rw n at (zero-zeros (take w (drop at s)) z) in
    sym (take-append-drop w (drop at s)) ∙ (rw (t, drop-drop, e))

-- any w bytes
bytes-then : (s : List ℕ) (at w : ℕ) → drop at s ≡ take w (drop at s) ++ drop (at + w) s
bytes-then s at w = sym (take-append-drop w (drop at s)) ∙ (rw drop-drop)

-- ---- extensions

abbrev extent_at : List ℕ → ℕ → ℕ → Extent
extent_at s p at = record { pointer = field s p 4; id = guid_at s (at + 4); content = take (size_at s at) (drop (at + 24) s) }

extent-back : (s : List ℕ) (p at : ℕ) → Bytes s → Held s at → drop at s ≡ extent_bytes (extent_at s p at) ++ drop (next_at s at) s
unfolding extent_bytes
extent-back s p at b h =
    let room = h.room in
    let fixed = h.fixed in
    let n : length (take (size_at s at) (drop (at + 24) s)) ≡ size_at s at = length-take-le (size_at s at) (drop (at + 24) s) (rw (length-drop (at + 24) s) (omega arith)) in
    let pad = zeros-then s (at + 24 + size_at s at) (rounded (size_at s at) - size_at s at) (next_at s at) (omega arith) room h.clear in
    let body : drop (at + 24) s ≡ take (size_at s at) (drop (at + 24) s) ++ (zeros (rounded (size_at s at) - size_at s at) ++ drop (next_at s at) s) = bytes-then s (at + 24) (size_at s at) ∙ (rw pad) in
    let i : at + 4 + 16 ≡ at + 20 = omega arith in
    let tail : List ℕ = take (size_at s at) (drop (at + 24) s) ++ (zeros (rounded (size_at s at) - size_at s at) ++ drop (next_at s at) s) in
    let size : drop (at + 4 + 16) s ≡ encode 4 (size_at s at) ++ tail = rw i (field_next s (at + 20) 4 (at + 24) tail b (omega arith) (omega arith) body) in
    let id : drop (at + 4) s ≡ guid_bytes (guid_at s (at + 4)) ++ (encode 4 (size_at s at) ++ tail) = guid-then s (at + 4) _ b (omega arith) size in
    let whole : drop at s ≡ encode 4 (field s at 4) ++ (guid_bytes (guid_at s (at + 4)) ++ (encode 4 (size_at s at) ++ tail)) = field_next s at 4 (at + 4) _ b refl (omega arith) id in
    rw n (rw h.sizes at whole ∙ simp append_assoc)

extents-back : (s : List ℕ) (p at n : ℕ) → Bytes s → extents_answer s at n ≡ 0 → drop at s ≡ extents_bytes (extents_at s p at n) ++ drop (start_of s at n) s
unfolding extents_bytes extents_at start_of
extents-back s p at zero b e = refl
extents-back s p at (suc n) b e =
    let f = extents-first s at (suc n) (omega arith) e in
    let i : suc n - 1 ≡ n = omega arith in
    let r = extents-back s (p + 4) (next_at s at) n b (rw i at f.1) in
    extent-back s p at b (held s at f.0) ∙ (rw r (sym (append_assoc (extent_bytes (extent_at s p at)) (extents_bytes (extents_at s (p + 4) (next_at s at) n)) (drop (start_of s (next_at s at) n) s))))

pointers-back : (s : List ℕ) (p at n : ℕ) → Bytes s → p + 4 * n ≤ length s → drop p s ≡ pointers_bytes (extents_at s p at n) ++ drop (p + 4 * n) s
unfolding pointers_bytes extents_at
pointers-back s p at zero b h = let e : p + 4 * 0 ≡ p = omega arith in rw e
pointers-back s p at (suc n) b h =
    let e : p + 4 * suc n ≡ p + 4 + 4 * n = omega arith in
    let r = pointers-back s (p + 4) (next_at s at) n b (omega arith) in
    rw e
    (field_next s p 4 (p + 4) _ b refl (omega arith) r
    ∙ sym (append_assoc (encode 4 (field s p 4)) (pointers_bytes (extents_at s (p + 4) (next_at s at) n)) (drop (p + 4 + 4 * n) s)))

pub count-extents : (s : List ℕ) (p at n : ℕ) → length (extents_at s p at n) ≡ n
unfolding extents_at
count-extents s p at zero = refl
count-extents s p at (suc n) = ap suc (count-extents s (p + 4) (next_at s at) n)

-- ---- the array

module _ (s : List ℕ) (at : ℕ) (b : Bytes s) (done : extensions_answer s at ≡ 0) where
  ok : Accepted s at
  ok = accepted s at done

  pointed-back : (field s at 4 ≡ 0 → ⊥) → (array_at s at ≡ 0 → ⊥)
      → drop (at + 16) s ≡ pointed_bytes (extents_at s (at + 20) (extents_start s at) (count_at s at)) ++ drop (start_of s (extents_start s at) (count_at s at)) s
  unfolding pointed_bytes
  pointed-back z y =
      let c = ok.counted z y in
      let n = count_at s at in
      let es = extents_at s (at + 20) (extents_start s at) n in
      let end = drop (start_of s (extents_start s at) n) s in
      let room = c.room in
      let len = count-extents s (at + 20) (extents_start s at) n in
      let i : at + 16 + 4 ≡ at + 20 = omega arith in
      let last : drop (extents_start s at) s ≡ extents_bytes es ++ end = extents-back s (at + 20) (extents_start s at) n b (ok.extents z y) in
      let clear = rw i at c.clear in
      let pad : drop (at + 20 + 4 * n) s ≡ zeros (4 * (pairs n - n)) ++ (extents_bytes es ++ end) =
      zeros-then s (at + 20 + 4 * n) (4 * (pairs n - n)) (extents_start s at) (omega arith) (omega arith) clear ∙ (rw last) in
      let ps : drop (at + 20) s ≡ pointers_bytes es ++ (zeros (4 * (pairs n - n)) ++ (extents_bytes es ++ end)) = pointers-back s (at + 20) (extents_start s at) n b (omega arith) ∙ (rw pad) in
      let whole : drop (at + 16) s ≡ encode 4 (field s (at + 16) 4) ++ (pointers_bytes es ++ (zeros (4 * (pairs n - n)) ++ (extents_bytes es ++ end))) =
      field_next s (at + 16) 4 (at + 20) _ b i (omega arith) ps in
      rw len (rw c.same at whole ∙ simp append_assoc)

  -- the array's own fields before what its pointer points to
  own_back : (field s at 4 ≡ 0 → ⊥) → (rest : List ℕ) → drop (at + 16) s ≡ rest
      → drop at s ≡ encode 4 (field s at 4) ++ (encode 4 (count_at s at) ++ (encode 4 0 ++ (encode 4 (array_at s at) ++ rest)))
  own_back z rest e =
      let f = ok.front z in
      let room = f.room in
      let p : drop (at + 12) s ≡ encode 4 (array_at s at) ++ rest = field_next s (at + 12) 4 (at + 16) rest b (omega arith) room e in
      let r : drop (at + 8) s ≡ encode 4 (field s (at + 8) 4) ++ (encode 4 (array_at s at) ++ rest) = field_next s (at + 8) 4 (at + 12) _ b (omega arith) (omega arith) p in
      let c : drop (at + 4) s ≡ encode 4 (count_at s at) ++ (encode 4 (field s (at + 8) 4) ++ (encode 4 (array_at s at) ++ rest)) = field_next s (at + 4) 4 (at + 8) _ b (omega arith) (omega arith) r in
      rw f.reserved at (field_next s at 4 (at + 4) _ b refl (omega arith) c)

  layout-back : drop at s ≡ array_bytes (extensions_at s at) ++ drop (extensions_end s at) s
  unfolding array_bytes extensions_at extensions_end array_end extensions_count
  layout-back =
      let l = ok.room in
      by_bool (eqb (field s at 4) 0)
      (λ e. rw e (field_next s at 4 (at + 4) _ b refl l refl ∙ (rw append-nil)))
      (λ e.
      let z = eqb-false _ _ e in
      let f = ok.front z in
      by_bool (eqb (array_at s at) 0)
      (λ t.
      let len = count-extents s (at + 20) (extents_start s at) (count_at s at) in
      rw (e, t, len) (own_back z _ refl ∙ simp (append_assoc, append-nil)))
      (λ t.
      let len = count-extents s (at + 20) (extents_start s at) (count_at s at) in
      rw (e, t, len) (own_back z _ (pointed-back z (eqb-false _ _ t)) ∙ simp append_assoc)))

pub bytes_back : BytesBack
bytes_back s at b done = layout-back s at b done

-- ---- one form

start-within : (s : List ℕ) (at n : ℕ) → at ≤ length s → extents_answer s at n ≡ 0 → start_of s at n ≤ length s
unfolding start_of
start-within s at zero h e = h
start-within s at (suc n) h e =
    let f = extents-first s at (suc n) (omega arith) e in
    let i : suc n - 1 ≡ n = omega arith in
    start-within s (next_at s at) n (held s at f.0).room (rw i at f.1)

pub end-within : (s : List ℕ) (at : ℕ) → extensions_answer s at ≡ 0 → extensions_end s at ≤ length s
unfolding extensions_end array_end
end-within s at done =
    let a = accepted s at done in
    by-test (λ (x : ℕ). x ≤ length s) (eqb (field s at 4) 0) _ _
    (λ e. a.room)
    (λ e.
    let z = eqb-false _ _ e in
    by-test (λ (x : ℕ). x ≤ length s) (eqb (array_at s at) 0) _ _
    (λ t. (a.front z).room)
    (λ t.
    let y = eqb-false _ _ t in
    let r = (a.counted z y).room in
    let h : extents_start s at ≤ length s = omega arith in
    start-within s (extents_start s at) (count_at s at) h (a.extents z y)))

module _ (s : List ℕ) (at : ℕ) (b : Bytes s) (done : extensions_answer s at ≡ 0) where
  -- the header's length is that of its layout
  pub end-length : extensions_end s at ≡ at + length (array_bytes (extensions_at s at))
  end-length =
      let e = ap length (bytes_back s at b done) in
      let x = length-drop at s in
      let y = length-drop (extensions_end s at) s in
      let w = end-within s at done in
      let r = (accepted s at done).room in
      let l = length-append (array_bytes (extensions_at s at)) (drop (extensions_end s at) s) in
      omega arith

  pub array-front : take (length (array_bytes (extensions_at s at))) (drop at s) ≡ array_bytes (extensions_at s at)
  array-front = ap (take (length (array_bytes (extensions_at s at)))) (bytes_back s at b done) ∙ take-append_seam (array_bytes (extensions_at s at)) (drop (extensions_end s at) s)

pub one_form : OneForm
one_form s t at bs bt ds dt e =
    let es = end-length s at bs ds in
    let et = end-length t at bt dt in
    let ns : extensions_end s at - at ≡ length (array_bytes (extensions_at s at)) = omega arith in
    let nt : extensions_end t at - at ≡ length (array_bytes (extensions_at t at)) = omega arith in
    (es ∙ (rw e) ∙ sym et, rw (ns, nt, array-front s at bs ds, array-front t at bt dt) (ap array_bytes e))

-- ---- extension k is number k of what is read, and stands where it is shown

extents-k : (s : List ℕ) (p at n k : ℕ) (d : Extent) → k < n
    → get_or (extents_at s p at n) k d ≡ record { pointer = field s (p + 4 * k) 4; id = guid_at s (start_of s at k + 4); content = take (size_at s (start_of s at k)) (drop (start_of s at k + 24) s) }
unfolding extents_at start_of
extents-k s p at zero k d h = absurd (omega arith)
extents-k s p at (suc n) zero d h = let e : p + 4 * 0 ≡ p = omega arith in rw e
extents-k s p at (suc n) (suc k) d h =
    let e : p + 4 * suc k ≡ p + 4 + 4 * k = omega arith in
    rw e (extents-k s (p + 4) (next_at s at) n k d (omega arith))

from-shows : (s : List ℕ) (p at n k : ℕ) (e : Extent) → k < n → Shows s (extension_from s p at k) (get_or (extents_at s p at n) k e)
unfolding extension_from
from-shows s p at n k e h =
    let size : start_of s at k + 24 + size_at s (start_of s at k) - (start_of s at k + 24) ≡ size_at s (start_of s at k) = omega arith in
    rw (extents-k s p at n k e h) (record { answer = refl; pointer = refl; id = refl; content = rw size })

pub extension-k : ExtensionK
unfolding extension_at extensions_at
extension-k s at done =
    let count = count-extents s (at + 20) (extents_start s at) (extensions_count s at) in
    record {
      shown = λ k e h.
          let l : k < extensions_count s at = rw count at h in
          rw (done, lt-ltb k (extensions_count s at) l) (from-shows s (at + 20) (extents_start s at) (extensions_count s at) k e l);
      none = λ k h.
          let l : extensions_count s at ≤ k = rw count at h in
          rw (done, le-ltb k (extensions_count s at) l);
    }
