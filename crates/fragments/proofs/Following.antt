-- The state and the waiting buffer follow the bytes that have come, byte by byte.
use Prim.Native.Nat.{ℕ, suc, ◌+◌, ◌-◌, ◌*◌, ◌/◌, ◌%◌, ◌<◌, ◌≤◌, min}
use mathlib.Core.Path.{◌≡◌, refl, sym, ◌∙◌}
use mathlib.Core.Bool.{true, false, cond, not, ◌&&◌, ◌||◌, and-false, or-true, or-false}
use mathlib.Core.List.{List, [], ◌∷◌, ◌++◌, append_assoc, append-nil}
use native.Mathlib.Omega.{arith}
use native.Mathlib.Numerals.{add-one}
use borrow.Author.Tests.{ne_eqb, eqb-true, eqb-false, lt-ltb, le-ltb, ltb-true, ltb-false, le-leb, lt-leb, leb-true, leb-false}
use lib.Dec.{eqb, ltb, leb}
use lib.ListN.{length, get_or, take, set, length-append, length-drop, length-set, get_or-append}
use lib.Seq.{get_or-set_same, get_or-set_other, get_or-append_seam, take-suc-set, take-append-le, take_all, get_or-drop}
use Rattle.kinds.proofs.Refusing.{by-test, same_test}
use Rattle.fields.specs.Fields.{field, Bytes}
use Rattle.fields.proofs.Fields.{drop-bytes, field-drop}
use Rattle.bindings.specs.Bindings.{joined, count, split}
use Rattle.bindings.proofs.ListBytes.{by_bool, field_bound}
use Rattle.references.specs.References.{is_custom}
use Rattle.references.proofs.Forms.{size-most}
use Rattle.list_walk.specs.Walk.{limit, next_mode}
use Rattle.fragments.specs.Fragments.{Reading, none, form_of, in_tail, step_head, step, step_in, pushed, pushed_all}
use Rattle.fragments.specs.declared.Fragments.{Fragments}
use Rattle.fragments.proofs.Bytewise.{front_bytes, length_more, field-agree, form, form-short, start, tail, tail_length, Within, within, tail-in}
use Rattle.fragments.proofs.Bytewise.{same-form, tail_more, tail-length-more, outside, come, walk_of, walk-early, same_count, walk_same, walk-word}

-- where the walk over the list's words stands; 0 where there is no list
abbrev pub mode_of : List ℕ → ℕ
mode_of s = cond (eqb (form s) 0 || is_custom (form s)) 0 (walk_of (tail s))

-- r stands where the bytes s have come, with a waiting buffer of l bytes
pub record Follows (l : ℕ) (s : List ℕ) (r : Reading) : Type 0 where
  pub seen : r.state.seen ≡ min (length s) limit
  pub size : length r.state.head ≡ 84
  pub same : (i : ℕ) → i < 84 → i < length s → get_or r.state.head i 0 ≡ get_or s i 0
  pub low : 0 < length s → r.state.low ≡ get_or s (length s - 1) 0
  pub mode : r.state.mode ≡ mode_of s
  pub kept : r.state.kept ≡ min (tail_length s) l
  pub over : r.state.over ≡ ltb l (tail_length s)
  pub wide : length r.waiting ≡ l
  pub held : take r.state.kept r.waiting ≡ take r.state.kept (tail s)

-- ---- what the head and the count tell

module _ (l : ℕ) (s : List ℕ) (r : Reading) (f : Follows l s r) where
  pub head-field : (at w : ℕ) → at + w ≤ 84 → at + w ≤ length s → field r.state.head at w ≡ field s at w
  head-field at w h k =
      let n = f.size in
      let a : at + w ≤ length r.state.head = omega arith in
      let e : at + w ≤ at + w = omega arith in
      field-agree r.state.head s (at + w) at w (λ i q. f.same i (omega arith) (omega arith)) a k e

  pub head-form : form_of r.state.head r.state.seen ≡ form s
  unfolding form_of
  head-form =
      let n = f.seen in
      by_bool (leb 24 (length s))
      (λ e.
      let k : 24 ≤ length s = leb-true _ _ e in
      let j : 24 ≤ r.state.seen = omega arith in
      rw (le-leb _ _ j, le-leb _ _ k, head-field 0 4 (omega arith) (omega arith), head-field 4 4 (omega arith) (omega arith)))
      (λ e.
      let k : length s < 24 = leb-false _ _ e in
      let j : r.state.seen < 24 = omega arith in
      rw (lt-leb _ _ j, lt-leb _ _ k))

  pub head_tail : in_tail (form_of r.state.head r.state.seen) r.state.seen ≡ in_tail (form s) (length s)
  unfolding in_tail
  head_tail =
      let n = f.seen in
      let m = size-most (form s) in
      let e : leb (start s) r.state.seen ≡ leb (start s) (length s) =
      same_test _ _ (λ t. let q = leb-true (start s) r.state.seen t in le-leb (start s) (length s) (omega arith))
      (λ t. let q = leb-true (start s) (length s) t in le-leb (start s) r.state.seen (omega arith)) in
      rw (head-form, e)

-- ---- before the first byte

pub at_first : (w : List ℕ) → Follows (length w) [] (record { state = none; waiting = w })
at_first w =
    let z : form [] ≡ 0 = form-short [] (omega arith) in
    record {
      seen = refl;
      size = refl;
      same = λ i a b. absurd (omega arith);
      low = λ h. absurd (omega arith);
      mode = rw z;
      kept = rw z (omega arith);
      over = rw z (sym (le-ltb (length w) 0 (omega arith)));
      wide = refl;
      held = refl;
    }

-- ---- one byte more

-- the byte's place in the tail, by the count: true, or past every list
place-cases : {P : Type 0} (n k m seen : ℕ) → seen ≡ min n 131155 → k ≤ 80 → k ≤ n → m ≡ n - k → (seen - k ≡ m → P) → (131075 ≤ seen - k → 131075 ≤ m → P) → P
place-cases n k m seen e h l d f g =
    by_bool (ltb n 131155)
    (λ t. let q = ltb-true n 131155 t in let x : seen ≡ n = omega arith in f (omega arith))
    (λ t. let q = ltb-false n 131155 t in let x : seen ≡ 131155 = omega arith in g (omega arith) (omega arith))

odd-length : (m : ℕ) → 5 ≤ m → m % 2 ≡ 1 → m ≡ 5 + 2 * ((m - 5) / 2)
odd-length m h o = omega arith

some-length : (m : ℕ) → 5 ≤ m → 0 < m
some-length m h = omega arith

far-count : (n m : ℕ) → n < 65536 → 131075 ≤ m → n ≤ (m - 5) / 2
far-count n m h l = omega arith

come-even : (n m m' : ℕ) → m' ≡ m + 1 → 5 ≤ m → (m % 2 ≡ 1 → ⊥) → min n ((m' - 4) / 2) ≡ min n ((m - 4) / 2)
come-even n m m' e h o = let x : (m' - 4) / 2 ≡ (m - 4) / 2 = omega arith in rw x

come-past : (n m m' : ℕ) → m' ≡ m + 1 → 5 ≤ m → n ≤ (m - 5) / 2 → min n ((m' - 4) / 2) ≡ min n ((m - 4) / 2)
come-past n m m' e h l =
    let a : n ≤ (m - 4) / 2 = omega arith in
    let b : n ≤ (m' - 4) / 2 = omega arith in
    omega arith

mode-none : (s : List ℕ) → tail_length s ≡ 0 → mode_of s ≡ 0
mode-none s h =
    by_bool (eqb (form s) 0)
    (λ e. rw e)
    (λ e.
    let n = eqb-false _ _ e in
    let k = sym (tail-in s n) ∙ h in
    let q : length (tail s) ≤ 5 = rw (length-drop (start s) s) (omega arith) in
    rw (e, walk-early (tail s) q) (by-test (λ (x : ℕ). x ≡ 0) (is_custom (form s)) 0 0 (λ z. refl) (λ z. refl)))

module _ (l : ℕ) (s : List ℕ) (r : Reading) (b : ℕ) (f : Follows l s r) where
  s' : List ℕ
  s' = s ++ (b ∷ [])

  next-seen : cond (ltb r.state.seen limit) (r.state.seen + 1) r.state.seen ≡ min (length (s ++ (b ∷ []))) limit
  next-seen =
      let n = f.seen in
      let m = length_more s b in
      by-test (λ (x : ℕ). x ≡ min (length (s ++ (b ∷ []))) limit) (ltb r.state.seen limit) _ _
      (λ e. let q = ltb-true r.state.seen limit e in omega arith)
      (λ e. let q = ltb-false r.state.seen limit e in omega arith)

  next-size : length (step_head r.state.head r.state.seen b) ≡ 84
  unfolding step_head
  next-size =
      by-test (λ (x : List ℕ). length x ≡ 84) (ltb r.state.seen 84) _ _
      (λ e. length-set r.state.head r.state.seen b ∙ f.size)
      (λ e. f.size)

  next-same : (i : ℕ) → i < 84 → i < length (s ++ (b ∷ [])) → get_or (step_head r.state.head r.state.seen b) i 0 ≡ get_or (s ++ (b ∷ [])) i 0
  unfolding step_head
  next-same i h k =
      let n = f.seen in
      let z = f.size in
      let m = length_more s b in
      by-test (λ (x : List ℕ). get_or x i 0 ≡ get_or (s ++ (b ∷ [])) i 0) (ltb r.state.seen 84) _ _
      (λ e.
      let q = ltb-true r.state.seen 84 e in
      let a : r.state.seen ≡ length s = omega arith in
      by_bool (eqb i (length s))
      (λ t.
      let u = eqb-true i (length s) t in
      let v : length s < length r.state.head = omega arith in
      rw (u, a) (get_or-set_same r.state.head (length s) b 0 v ∙ sym (get_or-append_seam s b [] 0)))
      (λ t.
      let u = eqb-false i (length s) t in
      let v : i < length s = omega arith in
      get_or-set_other r.state.head r.state.seen i b 0 (λ y. u (y ∙ a)) ∙ f.same i h v ∙ sym (get_or-append s (b ∷ []) 0 i v)))
      (λ e.
      let q = ltb-false r.state.seen 84 e in
      let v : i < length s = omega arith in
      f.same i h v ∙ sym (get_or-append s (b ∷ []) 0 i v))

  next_low : 0 < length (s ++ (b ∷ [])) → b ≡ get_or (s ++ (b ∷ [])) (length (s ++ (b ∷ [])) - 1) 0
  next_low h =
      let m = length_more s b in
      let a : length (s ++ (b ∷ [])) - 1 ≡ length s = omega arith in
      rw a (sym (get_or-append_seam s b [] 0))

  -- a byte that is not of the tail
  module _ (out : in_tail (form s) (length s) ≡ false) where
    no-tail : (tail_length s ≡ 0) × (tail_length (s ++ (b ∷ [])) ≡ 0)
    no-tail = outside s out b

    out-mode : r.state.mode ≡ mode_of (s ++ (b ∷ []))
    out-mode = f.mode ∙ mode-none s no-tail.0 ∙ sym (mode-none (s ++ (b ∷ [])) no-tail.1)

    out-kept : r.state.kept ≡ 0
    out-kept = let k = f.kept in let z = no-tail.0 in omega arith

    out-follows : Follows l (s ++ (b ∷ [])) (step r b)
    unfolding step step_in
    out-follows =
        let o = head_tail l s r f ∙ out in
        let k = out-kept in
        let z = no-tail.1 in
        let y = no-tail.0 in
        let zero≤ : 0 ≤ l = omega arith in
        rw o
        record {
          seen = next-seen;
          size = next-size;
          same = next-same;
          low = next_low;
          mode = out-mode;
          kept = rw z (k ∙ omega arith);
          over = or-false r.state.over ∙ f.over ∙ (rw (y, z));
          wide = f.wide;
          held = rw k;
        }

  -- a byte of the tail
  module _ (inner : in_tail (form s) (length s) ≡ true) where
    w : Within s
    w = within s inner

    long-tail : length (tail s) ≡ tail_length s
    long-tail = length-drop (start s) s ∙ sym (tail-in s w.some)

    in_kept : cond (ltb r.state.kept (length r.waiting)) (r.state.kept + 1) r.state.kept ≡ min (tail_length (s ++ (b ∷ []))) l
    in_kept =
        let k = f.kept in
        let m = tail-length-more s b w in
        let d = f.wide in
        by-test (λ (x : ℕ). x ≡ min (tail_length (s ++ (b ∷ []))) l) (ltb r.state.kept (length r.waiting)) _ _
        (λ e. let q = ltb-true r.state.kept (length r.waiting) e in omega arith)
        (λ e. let q = ltb-false r.state.kept (length r.waiting) e in omega arith)

    in-over : (r.state.over || leb (length r.waiting) r.state.kept) ≡ ltb l (tail_length (s ++ (b ∷ [])))
    in-over =
        let k = f.kept in
        let m = tail-length-more s b w in
        let d = f.wide in
        by_bool (leb (length r.waiting) r.state.kept)
        (λ e.
        let q = leb-true (length r.waiting) r.state.kept e in
        let z : l < tail_length (s ++ (b ∷ [])) = omega arith in
        rw (e, or-true r.state.over, lt-ltb _ _ z))
        (λ e.
        let q = leb-false (length r.waiting) r.state.kept e in
        let y : tail_length s ≤ l = omega arith in
        let z : tail_length (s ++ (b ∷ [])) ≤ l = omega arith in
        rw (e, f.over, le-ltb _ _ y, le-ltb _ _ z))

    abbrev kept' : ℕ
    kept' = cond (ltb r.state.kept (length r.waiting)) (r.state.kept + 1) r.state.kept

    abbrev waiting' : List ℕ
    waiting' = cond (ltb r.state.kept (length r.waiting)) (set r.waiting r.state.kept b) r.waiting

    in_held : take kept' waiting' ≡ take kept' (tail s ++ (b ∷ []))
    in_held =
        let k = f.kept in
        let d = f.wide in
        let n = long-tail in
        by_bool (ltb r.state.kept (length r.waiting))
        (λ e.
        let q : r.state.kept < length r.waiting = ltb-true _ _ e in
        let a : r.state.kept ≡ length (tail s) = omega arith in
        let u : length (tail s ++ (b ∷ [])) ≤ suc r.state.kept = omega (arith, length-append (tail s) (b ∷ [])) in
        let v : length (tail s) ≤ r.state.kept = omega arith in
        rw (e, add-one r.state.kept, take-suc-set r.waiting r.state.kept b q, f.held, take_all r.state.kept (tail s) v, take_all (suc r.state.kept) (tail s ++ (b ∷ [])) u))
        (λ e.
        let q : length r.waiting ≤ r.state.kept = ltb-false _ _ e in
        let u : r.state.kept ≤ length (tail s) = omega arith in
        rw (e, take-append-le r.state.kept (tail s) (b ∷ []) u) f.held)

    in-wide : length waiting' ≡ l
    in-wide =
        by-test (λ (x : List ℕ). length x ≡ l) (ltb r.state.kept (length r.waiting)) _ _
        (λ e. length-set r.waiting r.state.kept b ∙ f.wide)
        (λ e. f.wide)

    -- the fields of the list's head, and the last byte
    head-word : (at : ℕ) → at + 2 ≤ 4 → at + 2 ≤ length (tail s) → field r.state.head (start s + at) 2 ≡ field (tail s) at 2
    head-word at h k =
        let m = size-most (form s) in
        let q = length-drop (start s) s in
        let g = w.begun in
        let x : start s + at + 2 ≤ length s = omega arith in
        head-field l s r f (start s + at) 2 (omega arith) x ∙ sym (field-drop s (start s) at 2 (omega arith))

    last_byte : 0 < length (tail s) → r.state.low ≡ get_or (tail s) (length (tail s) - 1) 0
    last_byte h =
        let q = length-drop (start s) s in
        let g = w.begun in
        let e : start s + (length (tail s) - 1) ≡ length s - 1 = omega arith in
        f.low (omega arith) ∙ (rw (← e) (sym (get_or-drop (start s) s (length (tail s) - 1) 0)))

    abbrev place : ℕ
    place = r.state.seen - start s

    in-walk : Bytes (tail s) → next_mode (field r.state.head (start s) 2) (field r.state.head (start s + 2) 2) place r.state.low (walk_of (tail s)) b ≡ walk_of (tail s ++ (b ∷ []))
    unfolding next_mode
    in-walk bytes =
        let n = f.seen in
        let g = w.begun in
        let m = size-most (form s) in
        let q = length-drop (start s) s in
        let c = field_bound (tail s) 0 bytes in
        let more = length_more (tail s) b in
        by_bool (leb 5 (length (tail s)))
        (λ e.
        let long : 5 ≤ length (tail s) = leb-true _ _ e in
        let five : 5 ≤ place = omega arith in
        let z : start s + 0 ≡ start s = omega arith in
        let N : field r.state.head (start s) 2 ≡ count (tail s) = rw z at (head-word 0 (omega arith) (omega arith)) in
        let S : field r.state.head (start s + 2) 2 ≡ split (tail s) = head-word 2 (omega arith) (omega arith) in
        let same = same_count (tail s) b long in
        rw (le-leb _ _ five, N, S)
        (place-cases (length s) (start s) (length (tail s)) r.state.seen n m g q
        (λ at.
        rw at
        (by_bool (eqb (length (tail s) % 2) 1)
        (λ odd.
        let o = eqb-true (length (tail s) % 2) 1 odd in
        by_bool (ltb ((length (tail s) - 5) / 2) (count (tail s)))
        (λ t.
        let u = ltb-true ((length (tail s) - 5) / 2) (count (tail s)) t in
        let x = odd-length (length (tail s)) long o in
        rw (odd, t, last_byte (some-length (length (tail s)) long)) (sym (walk-word (tail s) b long ((length (tail s) - 5) / 2) x u)))
        (λ t.
        let u = ltb-false ((length (tail s) - 5) / 2) (count (tail s)) t in
        let x : come (tail s ++ (b ∷ [])) ≡ come (tail s) = rw same (come-past (count (tail s)) (length (tail s)) (length (tail s ++ (b ∷ []))) more long u) in
        rw (odd, t) (sym (walk_same (tail s) b long x))))
        (λ even.
        let o = eqb-false (length (tail s) % 2) 1 even in
        let x : come (tail s ++ (b ∷ [])) ≡ come (tail s) = rw same (come-even (count (tail s)) (length (tail s)) (length (tail s ++ (b ∷ []))) more long o) in
        rw even (sym (walk_same (tail s) b long x)))))
        (λ far past.
        let u : count (tail s) ≤ (place - 5) / 2 = far-count (count (tail s)) place c far in
        let v : count (tail s) ≤ (length (tail s) - 5) / 2 = far-count (count (tail s)) (length (tail s)) c past in
        let x : come (tail s ++ (b ∷ [])) ≡ come (tail s) = rw same (come-past (count (tail s)) (length (tail s)) (length (tail s ++ (b ∷ []))) more long v) in
        rw (le-ltb _ _ u, and-false (eqb (place % 2) 1)) (sym (walk_same (tail s) b long x)))))
        (λ e.
        let short : length (tail s) < 5 = leb-false _ _ e in
        let five : place < 5 = omega arith in
        let a : length (tail s) ≤ 5 = omega arith in
        let d : length (tail s ++ (b ∷ [])) ≤ 5 = omega arith in
        rw (lt-leb _ _ five, walk-early (tail s) a, walk-early (tail s ++ (b ∷ [])) d))

    in-mode : Bytes (tail s)
        → let h = r.state.head in
        cond (not (is_custom (form s))) (next_mode (field h (start s) 2) (field h (start s + 2) 2) (r.state.seen - start s) r.state.low r.state.mode b) r.state.mode
        ≡ mode_of (s ++ (b ∷ []))
    in-mode bytes =
        let n = ne_eqb _ _ w.some in
        let e : mode_of (s ++ (b ∷ [])) ≡ cond (is_custom (form s)) 0 (walk_of (tail s ++ (b ∷ []))) = rw (tail_more s b w, same-form s b w, n) in
        let m : r.state.mode ≡ cond (is_custom (form s)) 0 (walk_of (tail s)) = f.mode ∙ (rw n) in
        by_bool (is_custom (form s))
        (λ t. rw (e, m, t))
        (λ t. rw (e, m, t) (in-walk bytes))

    in-follows : Bytes (tail s) → Follows l (s ++ (b ∷ [])) (step r b)
    unfolding step step_in
    in-follows bytes =
        let F = head-form l s r f in
        let o : in_tail (form_of r.state.head r.state.seen) r.state.seen ≡ true = head_tail l s r f ∙ inner in
        rw o
        record {
          seen = next-seen;
          size = next-size;
          same = next-same;
          low = next_low;
          mode = rw F (in-mode bytes);
          kept = in_kept;
          over = in-over;
          wide = in-wide;
          held = rw (tail_more s b w) in_held;
        }

-- every byte
pub follows-step : (l : ℕ) (s : List ℕ) (r : Reading) (b : ℕ) → Bytes s → Follows l s r → Follows l (s ++ (b ∷ [])) (step r b)
follows-step l s r b h f =
    by_bool (in_tail (form s) (length s))
    (λ e. in-follows l s r b f e (drop-bytes s (start s) h))
    (λ e. out-follows l s r b f e)

-- a fragment
pub follows-push : (l : ℕ) (s t : List ℕ) (r : Reading) → Bytes (s ++ t) → Follows l s r → Follows l (s ++ t) (pushed r t)
unfolding pushed
follows-push l s [] r h f = rw (append-nil s) f
follows-push l s (b ∷ t) r h f =
    let e : (s ++ (b ∷ [])) ++ t ≡ s ++ (b ∷ t) = append_assoc s (b ∷ []) t in
    rw (← e) (follows-push l (s ++ (b ∷ [])) t (step r b) (rw (← e) at h) (follows-step l s r b (front_bytes s (b ∷ t) h) f))

-- all of them
pub follows-all : (l : ℕ) (s : List ℕ) (fs : List (List ℕ)) (r : Reading) → Bytes (s ++ joined fs) → Follows l s r → Follows l (s ++ joined fs) (pushed_all r fs)
unfolding pushed_all joined
follows-all l s [] r h f = rw (append-nil s) f
follows-all l s (t ∷ fs) r h f =
    let e : (s ++ t) ++ joined fs ≡ s ++ (t ++ joined fs) = append_assoc s t (joined fs) in
    let g : Bytes ((s ++ t) ++ joined fs) = rw (← e) at h in
    rw (← e) (follows-all l (s ++ t) fs (pushed r t) g (follows-push l s t r (front_bytes (s ++ t) (joined fs) g) f))

-- ---- for the code

pub push-more : (r : Reading) (st : Fragments) (w : List ℕ) (b : ℕ) (bs : List ℕ) → st ≡ (step r b).state → w ≡ (step r b).waiting
    → pushed (record { state = st; waiting = w }) bs ≡ pushed r (b ∷ bs)
unfolding pushed
push-more r st w b bs p q = rw (p, q)

pub waiting-length : (r : Reading) (b : ℕ) → length (step r b).waiting ≡ length r.waiting
unfolding step step_in
waiting-length r b =
    by-test (λ (x : List ℕ). length x ≡ length r.waiting) (in_tail (form_of r.state.head r.state.seen) r.state.seen && ltb r.state.kept (length r.waiting)) _ _
    (λ e. length-set r.waiting r.state.kept b)
    (λ e. refl)
