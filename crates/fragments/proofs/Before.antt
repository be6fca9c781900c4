-- Bytes before the list or the object data at once do what they do one by one.
use Prim.Native.Nat.{ℕ, suc, zero, ◌+◌, ◌-◌, ◌<◌, ◌≤◌}
use mathlib.Core.Path.{◌≡◌, refl, sym, ap, ◌∙◌}
use mathlib.Core.Logic.{◌⊎◌, inl, inr}
use mathlib.Core.Bool.{false, and-false, or-false}
use mathlib.Core.List.{List, [], ◌∷◌, ◌++◌}
use native.Mathlib.Omega.{arith}
use native.Mathlib.Nat.{add-zero}
use borrow.Author.Tests.{lt-ltb, le-ltb, ltb-true, ltb-false, le-leb, lt-leb}
use lib.Dec.{ltb}
use lib.ListN.{length, take, drop, set, length-set, length-drop, take-append-drop}
use lib.Seq.{set_split, length-take-le, drop-drop}
use Rattle.kinds.specs.Refusals.{differ}
use Rattle.kinds.proofs.Refusing.{by-test}
use Rattle.fields.specs.Fields.{field}
use Rattle.fields.proofs.Fields.{field-front, written-more, written_none, take_rest}
use Rattle.bindings.proofs.ListBytes.{by_bool}
use Rattle.references.specs.References.{fixed_size}
use Rattle.references.proofs.Forms.{size-most}
use Rattle.list_walk.specs.Walk.{limit}
use Rattle.fragments.specs.Fragments.{Reading, form_of, in_tail, step, step_in, step_head, pushed}
use Rattle.fragments.specs.declared.Fragments.{Fragments}
use Rattle.fragments.specs.Rest.{quiet_end, Quiet, quiet_after}
use Rattle.fragments.proofs.Rest.{low-more, push-parts}

-- a byte behind a field leaves it
field-set : (l : List ℕ) (i b at w : ℕ) → i < length l → at + w ≤ i → field (set l i b) at w ≡ field l at w
field-set l i b at w h f =
    let t : length (take i l) ≡ i = length-take-le i l (omega arith) in
    let g : at + w ≤ length (take i l) = omega arith in
    let front : (rest : List ℕ) → field (take i l ++ rest) at w ≡ field (take i l) at w = λ rest. field-front (take i l) rest at w g in
    ap (λ (x : List ℕ). field x at w) (set_split l i b h) ∙ front (b ∷ drop (suc i) l)
    ∙ sym (ap (λ (x : List ℕ). field x at w) (sym (take-append-drop i l)) ∙ front (drop i l))

end-most : (h : List ℕ) (seen : ℕ) → quiet_end h seen ≤ 80
unfolding quiet_end
end-most h seen = by-test (λ (n : ℕ). n ≤ 80) (ltb seen 24) 24 _ (λ _. omega arith) (λ _. size-most (form_of h seen))

module _ (h : List ℕ) (seen n : ℕ) (q : Quiet h seen (suc n)) where
  below : seen + suc n ≤ 80
  below = let e = q (omega arith) in let m = end-most h seen in omega arith

  outside : in_tail (form_of h seen) seen ≡ false
  unfolding in_tail form_of quiet_end
  outside =
      by_bool (ltb seen 24)
      (λ e. let l = ltb-true seen 24 e in rw (lt-leb _ _ l))
      (λ e.
      let g : seen + suc n ≤ fixed_size (form_of h seen) = rw e at (q (omega arith)) in
      let l : seen < fixed_size (form_of h seen) = omega arith in
      rw (lt-leb _ _ l) (and-false (differ (form_of h seen) 0)))

  module _ (b : ℕ) (size : length h ≡ 84) where
    form-set : 24 ≤ seen → form_of (set h seen b) (seen + 1) ≡ form_of h seen
    unfolding form_of
    form-set l =
        let m = below in
        let p : 24 ≤ seen + 1 = omega arith in
        rw (field-set h seen b 0 4 (omega arith) (omega arith), field-set h seen b 4 4 (omega arith) (omega arith), le-leb _ _ l, le-leb _ _ p)

    quiet_next : Quiet (set h seen b) (seen + 1) n
    unfolding quiet_end
    quiet_next p =
        by_bool (ltb seen 24)
        (λ e.
        let g : seen + suc n ≤ 24 = rw e at (q (omega arith)) in
        let l : seen + 1 < 24 = omega arith in
        rw (lt-ltb _ _ l) (omega arith))
        (λ e.
        let k = ltb-false seen 24 e in
        let g : seen + suc n ≤ fixed_size (form_of h seen) = rw e at (q (omega arith)) in
        let l : 24 ≤ seen + 1 = omega arith in
        rw (le-ltb (seen + 1) 24 l, form-set k) (omega arith))

pub quiet-count : (h : List ℕ) (seen n : ℕ) → Quiet h seen n → (n ≡ 0) ⊎ (seen + n ≤ 80)
quiet-count h seen zero q = inl refl
quiet-count h seen (suc n) q = inr (below h seen n q)

-- one byte
abbrev quiet_step : Reading → ℕ → Reading
quiet_step r b =
    let f = r.state in
    record {
      state = record { head = set f.head f.seen b; kept = f.kept; seen = f.seen + 1; low = b; mode = f.mode; over = f.over };
      waiting = r.waiting;
    }

quiet_step_lem : (r : Reading) (b n : ℕ) → Quiet r.state.head r.state.seen (suc n) → step r b ≡ quiet_step r b
unfolding step step_in step_head
quiet_step_lem r b n q =
    let m = below r.state.head r.state.seen n q in
    let k : r.state.seen < 84 = omega arith in
    let l : r.state.seen < limit = omega arith in
    rw (outside r.state.head r.state.seen n q, lt-ltb _ _ k, lt-ltb _ _ l, or-false r.state.over)

quiet-pushed : (bs : List ℕ) (r : Reading) → length r.state.head ≡ 84 → Quiet r.state.head r.state.seen (length bs)
    → pushed r bs ≡ record { state = quiet_after r.state bs; waiting = r.waiting }
unfolding pushed quiet_after
quiet-pushed [] r size q = rw (written_none r.state.head r.state.seen, add-zero r.state.seen)
quiet-pushed (b ∷ bs) r size q =
    let h = r.state.head in
    let seen = r.state.seen in
    let m = below h seen (length bs) q in
    let room : seen + 0 + suc (length bs) ≤ length h = omega arith in
    let p : seen + (0 + 1) ≡ seen + 1 = omega arith in
    let head = rw (add-zero seen, p) at (written-more h seen 0 b bs room) in
    let count : seen + 1 + length bs ≡ seen + suc (length bs) = omega arith in
    rw (quiet_step_lem r b (length bs) q)
    (quiet-pushed bs (quiet_step r b) (length-set h seen b ∙ size) (quiet_next h seen (length bs) q b size)
    ∙ (rw (head, count, low-more r.state.low b bs)))

-- ---- for the code: f is the state after the bytes before at
pub record Left (r : Reading) (bs : List ℕ) (f : Fragments) (at : ℕ) : Type 0 where
  pub within : at ≤ length bs
  pub size : length f.head ≡ 84
  pub same : pushed (record { state = f; waiting = r.waiting }) (drop at bs) ≡ pushed r bs

module _ (r : Reading) (bs : List ℕ) (f : Fragments) (at : ℕ) (l : Left r bs f at) where
  -- such bytes
  module _ (m : ℕ) (q : (m ≤ length bs - at) × Quiet f.head f.seen m) where
    abbrev part : List ℕ
    part = take (at + m - at) (drop at bs)

    pub left-room : Quiet f.head f.seen (length part)
    left-room =
        let k : at + m - at ≡ m = omega arith in
        rw (k, length-take-le m (drop at bs) (rw (length-drop at bs) q.0)) q.1

    pub left-quiet : (g : Fragments) → length g.head ≡ 84 → g ≡ quiet_after f part → Left r bs g (at + m)
    left-quiet g size e =
        let within = l.within in
        let k : at + m - at ≡ m = omega arith in
        let p = sym (quiet-pushed part (record { state = f; waiting = r.waiting }) l.size left-room) in
        let t = push-parts (record { state = f; waiting = r.waiting }) (drop at bs) (at + m - at) g r.waiting (e ∙ ap (λ (x : Reading). x.state) p) (ap (λ (x : Reading). x.waiting) p) in
        record { within = omega (arith, q.0); size = size; same = (rw (k, drop-drop m at bs) at t) ∙ l.same }

  -- the others
  pub left-last : (h : Fragments) (w : List ℕ)
      → (h ≡ (pushed (record { state = f; waiting = r.waiting }) (take (length bs - at) (drop at bs))).state)
      × (w ≡ (pushed (record { state = f; waiting = r.waiting }) (take (length bs - at) (drop at bs))).waiting)
      → (h ≡ (pushed r bs).state) × (w ≡ (pushed r bs).waiting)
  left-last h w late = rw (take_rest bs at, l.same) at late
