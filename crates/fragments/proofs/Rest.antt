-- A fragment at once does what its bytes one by one do, where the first 84 bytes have come.
use Prim.Native.Nat.{ℕ, suc, zero, ◌+◌, ◌-◌, ◌<◌, ◌≤◌, min}
use mathlib.Core.Path.{◌≡◌, refl, sym, ap, ◌∙◌}
use mathlib.Core.Bool.{Bool, true, false, cond, not, ◌&&◌, ◌||◌, and-true, and-false, or-false}
use mathlib.Core.List.{List, [], ◌∷◌, ◌++◌}
use native.Mathlib.Omega.{arith}
use native.Mathlib.Nat.{add-zero, sub-zero}
use borrow.Author.Tests.{lt-ltb, le-ltb, ltb-true, ltb-false, le-leb, lt-leb}
use lib.Dec.{ltb, leb, eqb-suc-zero}
use lib.ListN.{length, take, drop, set, length-set, length-take, take-append-drop}
use lib.Seq.{take_all}
use Rattle.kinds.specs.Refusals.{differ}
use Rattle.kinds.proofs.Refusing.{by-test}
use Rattle.fields.specs.Fields.{field, written}
use Rattle.fields.proofs.Fields.{written-more, written_none, take_rest}
use Rattle.bindings.proofs.ListBytes.{by_bool}
use Rattle.references.specs.References.{is_custom, fixed_size}
use Rattle.references.proofs.Forms.{size-most}
use Rattle.list_walk.specs.Walk.{limit, next_mode, next_seen, mode_after}
use Rattle.fragments.specs.Fragments.{Reading, form_of, in_tail, step_head, step, step_in, pushed}
use Rattle.fragments.specs.declared.Fragments.{Fragments}
use Rattle.fragments.specs.Rest.{seen_after, low_after, kept_after, over_after, waiting_after, walk_after}
use Rattle.fragments.proofs.Following.{waiting-length}

abbrev form_in : Reading → ℕ
form_in r = form_of r.state.head r.state.seen

-- all of it, where f is the form
unfoldable pub rest_in : ℕ → Reading → List ℕ → Reading
rest_in f r bs =
    record {
      state =
          record {
            head = r.state.head;
            seen = seen_after r.state.seen (length bs);
            low = low_after r.state.low bs;
            mode = walk_after r.state.head f r.state.seen r.state.low r.state.mode bs;
            kept = kept_after (differ f 0) r.state.kept (length r.waiting) (length bs);
            over = over_after r.state.over (differ f 0) r.state.kept (length r.waiting) (length bs);
          };
      waiting = waiting_after (differ f 0) r.waiting r.state.kept bs;
    }

unfoldable pub rest_after : Reading → List ℕ → Reading
rest_after r bs = rest_in (form_of r.state.head r.state.seen) r bs

-- ---- one byte

module _ (r : Reading) (b : ℕ) (late : 84 ≤ r.state.seen) where
  head-kept : (step r b).state.head ≡ r.state.head
  unfolding step step_in step_head
  head-kept = rw (le-ltb _ _ late)

  still-late : 84 ≤ (step r b).state.seen
  unfolding step step_in
  still-late = by-test (λ (n : ℕ). 84 ≤ n) (ltb r.state.seen limit) _ _ (λ e. omega arith) (λ e. late)

  form-kept : form_in (step r b) ≡ form_in r
  unfolding form_of
  form-kept =
      let l = still-late in
      let p : 24 ≤ (step r b).state.seen = omega arith in
      let q : 24 ≤ r.state.seen = omega arith in
      rw (head-kept, le-leb _ _ p, le-leb _ _ q)

  in-late : in_tail (form_of r.state.head r.state.seen) r.state.seen ≡ differ (form_in r) 0
  unfolding in_tail
  in-late =
      let m = size-most (form_in r) in
      let l : fixed_size (form_in r) ≤ r.state.seen = omega arith in
      rw (le-leb _ _ l) (and-true (differ (form_in r) 0))

  step-mode : let f = form_in r in
      let h = r.state.head in
      (step r b).state.mode
      ≡ cond (differ f 0 && not (is_custom f))
      (next_mode (field h (fixed_size f) 2) (field h (fixed_size f + 2) 2) (r.state.seen - fixed_size f) r.state.low r.state.mode b)
      r.state.mode
  unfolding step step_in
  step-mode = rw in-late

  step_kept : (step r b).state.kept ≡ cond (differ (form_in r) 0 && ltb r.state.kept (length r.waiting)) (r.state.kept + 1) r.state.kept
  unfolding step step_in
  step_kept = rw in-late

  step-over : (step r b).state.over ≡ (r.state.over || (differ (form_in r) 0 && leb (length r.waiting) r.state.kept))
  unfolding step step_in
  step-over = rw in-late

  step-waiting : (step r b).waiting ≡ cond (differ (form_in r) 0 && ltb r.state.kept (length r.waiting)) (set r.waiting r.state.kept b) r.waiting
  unfolding step step_in
  step-waiting = rw in-late

-- ---- all bytes, part by part

seen_more : (seen m : ℕ) → seen_after (next_seen seen) m ≡ seen_after seen (suc m)
seen_more seen m =
    by_bool (ltb seen limit)
    (λ e.
    let l = ltb-true seen limit e in
    rw e
    (by-test (λ (n : ℕ). n ≡ min (seen + suc m) limit) (ltb (seen + 1) limit) (min (seen + 1 + m) limit) (seen + 1)
    (λ _. omega arith)
    (λ f. let q = ltb-false (seen + 1) limit f in omega arith)))
    (λ e. rw (e, e))

seen_none : (seen : ℕ) → seen ≡ seen_after seen 0
seen_none seen = by-test (λ (n : ℕ). seen ≡ n) (ltb seen limit) (min (seen + 0) limit) seen (λ e. let l = ltb-true seen limit e in omega arith) (λ e. refl)

pub low-more : (low b : ℕ) (bs : List ℕ) → low_after b bs ≡ low_after low (b ∷ bs)
low-more low b [] = refl
low-more low b (c ∷ bs) =
    let p : suc (length bs) - 1 ≡ length bs = omega arith in
    let q : suc (suc (length bs)) - 1 ≡ suc (length bs) = omega arith in
    rw (eqb-suc-zero (length bs), eqb-suc-zero (suc (length bs)), p, q)

kept_more : (inside : Bool) (kept size m : ℕ) → kept_after inside (cond (inside && ltb kept size) (kept + 1) kept) size m ≡ kept_after inside kept size (suc m)
kept_more false kept size m = refl
kept_more true kept size m =
    by-test (λ (n : ℕ). n + min m (size - n) ≡ kept + min (suc m) (size - kept)) (ltb kept size) (kept + 1) kept
    (λ e. let l = ltb-true kept size e in omega arith)
    (λ e. let l = ltb-false kept size e in omega arith)

over-more : (over inside : Bool) (kept size m : ℕ)
    → over_after (over || (inside && leb size kept)) inside (cond (inside && ltb kept size) (kept + 1) kept) size m ≡ over_after over inside kept size (suc m)
over-more true inside kept size m = refl
over-more false false kept size m = refl
over-more false true kept size m =
    by_bool (ltb kept size)
    (λ e.
    let l = ltb-true kept size e in
    let n : size ≤ kept → ⊥ = λ h. omega arith in
    by_bool (ltb (size - (kept + 1)) m)
    (λ f. let k = ltb-true (size - (kept + 1)) m f in let j : size - kept < suc m = omega arith in rw (e, lt-leb _ _ l, f, lt-ltb _ _ j))
    (λ f. let k = ltb-false (size - (kept + 1)) m f in let j : suc m ≤ size - kept = omega arith in rw (e, lt-leb _ _ l, f, le-ltb _ _ j)))
    (λ e.
    let l = ltb-false kept size e in
    let j : size - kept < suc m = omega arith in
    rw (le-leb _ _ l, lt-ltb _ _ j))

take_none : (n : ℕ) → take {A = ℕ} n [] ≡ []
take_none zero = refl
take_none (suc n) = refl

waiting-more : (inside : Bool) (w : List ℕ) (kept b : ℕ) (bs : List ℕ)
    → waiting_after inside (cond (inside && ltb kept (length w)) (set w kept b) w) (cond (inside && ltb kept (length w)) (kept + 1) kept) bs ≡ waiting_after inside w kept (b ∷ bs)
waiting-more false w kept b bs = refl
waiting-more true w kept b bs =
    by_bool (ltb kept (length w))
    (λ e.
    let l = ltb-true kept (length w) e in
    let k : length w - kept ≡ suc (length w - (kept + 1)) = omega arith in
    let x = take (length w - (kept + 1)) bs in
    let room : kept + 0 + suc (length x) ≤ length w = omega (arith, length-take (length w - (kept + 1)) bs) in
    let p : kept + (0 + 1) ≡ kept + 1 = omega arith in
    rw (e, length-set w kept b, k) (rw (add-zero kept, p) at (written-more w kept 0 b x room)))
    (λ e.
    let l = ltb-false kept (length w) e in
    let z : length w - kept ≡ 0 = omega arith in
    rw (e, z))

abbrev Late : Reading → Type 0
Late r = 84 ≤ r.state.seen

module _ {A : Type 0} (part : Reading → A) (after : Reading → List ℕ → A)
    (none : (r : Reading) → part r ≡ after r [])
    (more : (r : Reading) (b : ℕ) (bs : List ℕ) → Late r → after (step r b) bs ≡ after r (b ∷ bs)) where
  by_bytes : (bs : List ℕ) (r : Reading) → Late r → part (pushed r bs) ≡ after r bs
  unfolding pushed
  by_bytes [] r l = none r
  by_bytes (b ∷ bs) r l = by_bytes bs (step r b) (still-late r b l) ∙ more r b bs l

mode-none : (r : Reading) → r.state.mode ≡ walk_after r.state.head (form_in r) r.state.seen r.state.low r.state.mode []
unfolding mode_after
mode-none r = by-test (λ (n : ℕ). r.state.mode ≡ n) (differ (form_in r) 0 && not (is_custom (form_in r))) _ _ (λ _. refl) (λ _. refl)

mode-more : (r : Reading) (b : ℕ) (bs : List ℕ) → Late r
    → walk_after (step r b).state.head (form_in (step r b)) (step r b).state.seen (step r b).state.low (step r b).state.mode bs
    ≡ walk_after r.state.head (form_in r) r.state.seen r.state.low r.state.mode (b ∷ bs)
unfolding step step_in mode_after
mode-more r b bs l =
    rw (form-kept r b l, head-kept r b l, step-mode r b l)
    (by_bool (differ (form_in r) 0 && not (is_custom (form_in r))) (λ e. rw e) (λ e. rw e))

over_none : (r : Reading) → r.state.over ≡ over_after r.state.over (differ (form_in r) 0) r.state.kept (length r.waiting) 0
over_none r =
    let z : 0 ≤ length r.waiting - r.state.kept = omega arith in
    sym (rw (le-ltb _ _ z, and-false (differ (form_in r) 0)) (or-false r.state.over))

waiting_none : (r : Reading) → r.waiting ≡ waiting_after (differ (form_in r) 0) r.waiting r.state.kept []
waiting_none r =
    by-test (λ (w : List ℕ). r.waiting ≡ w) (differ (form_in r) 0) _ _
    (λ _. sym (ap (written r.waiting r.state.kept) (take_none (length r.waiting - r.state.kept)) ∙ written_none r.waiting r.state.kept))
    (λ _. refl)

module _ (bs : List ℕ) (r : Reading) (late : Late r) where
  rest-head : (pushed r bs).state.head ≡ r.state.head
  rest-head = by_bytes (λ r. r.state.head) (λ r _. r.state.head) (λ r. refl) (λ r b bs l. head-kept r b l) bs r late

  rest-seen : (pushed r bs).state.seen ≡ seen_after r.state.seen (length bs)
  unfolding step step_in
  rest-seen =
      by_bytes (λ r. r.state.seen) (λ r bs. seen_after r.state.seen (length bs))
      (λ r. seen_none r.state.seen)
      (λ r b bs l. seen_more r.state.seen (length bs))
      bs r late

  rest-low : (pushed r bs).state.low ≡ low_after r.state.low bs
  unfolding step step_in
  rest-low =
      by_bytes (λ r. r.state.low) (λ r bs. low_after r.state.low bs)
      (λ r. refl)
      (λ r b bs l. low-more r.state.low b bs)
      bs r late

  rest-mode : (pushed r bs).state.mode ≡ walk_after r.state.head (form_in r) r.state.seen r.state.low r.state.mode bs
  rest-mode =
      by_bytes (λ r. r.state.mode) (λ r bs. walk_after r.state.head (form_in r) r.state.seen r.state.low r.state.mode bs)
      mode-none mode-more bs r late

  rest-kept : (pushed r bs).state.kept ≡ kept_after (differ (form_in r) 0) r.state.kept (length r.waiting) (length bs)
  rest-kept =
      by_bytes (λ r. r.state.kept) (λ r bs. kept_after (differ (form_in r) 0) r.state.kept (length r.waiting) (length bs))
      (λ r. by-test (λ (n : ℕ). r.state.kept ≡ n) (differ (form_in r) 0) _ _ (λ _. omega arith) (λ _. refl))
      (λ r b bs l. rw (form-kept r b l, waiting-length r b, step_kept r b l) (kept_more (differ (form_in r) 0) r.state.kept (length r.waiting) (length bs)))
      bs r late

  rest_over : (pushed r bs).state.over ≡ over_after r.state.over (differ (form_in r) 0) r.state.kept (length r.waiting) (length bs)
  rest_over =
      by_bytes (λ r. r.state.over) (λ r bs. over_after r.state.over (differ (form_in r) 0) r.state.kept (length r.waiting) (length bs))
      over_none
      (λ r b bs l. rw (form-kept r b l, waiting-length r b, step_kept r b l, step-over r b l) (over-more r.state.over (differ (form_in r) 0) r.state.kept (length r.waiting) (length bs)))
      bs r late

  rest-waiting : (pushed r bs).waiting ≡ waiting_after (differ (form_in r) 0) r.waiting r.state.kept bs
  rest-waiting =
      by_bytes (λ r. r.waiting) (λ r bs. waiting_after (differ (form_in r) 0) r.waiting r.state.kept bs)
      waiting_none
      (λ r b bs l. rw (form-kept r b l, step_kept r b l, step-waiting r b l) (waiting-more (differ (form_in r) 0) r.waiting r.state.kept b bs))
      bs r late

  pub rest-pushed : pushed r bs ≡ rest_after r bs
  unfolding rest_after rest_in
  rest-pushed = λ u. record {
    state = record { head = rest-head u; seen = rest-seen u; low = rest-low u; mode = rest-mode u; kept = rest-kept u; over = rest_over u };
    waiting = rest-waiting u;
  }

-- a fragment in two
pub pushed-append : (r : Reading) (a b : List ℕ) → pushed r (a ++ b) ≡ pushed (pushed r a) b
unfolding pushed
pushed-append r [] b = refl
pushed-append r (x ∷ a) b = pushed-append (step r x) a b

-- ---- for the code

pub take-least : (k : ℕ) (bs : List ℕ) → take (min k (length bs)) bs ≡ take k bs
take-least k bs =
    by_bool (ltb k (length bs))
    (λ e. let l = ltb-true k (length bs) e in let m : min k (length bs) ≡ k = omega arith in rw m)
    (λ e.
    let l = ltb-false k (length bs) e in
    let m : min k (length bs) ≡ length bs = omega arith in
    let n : length bs ≤ length bs = omega arith in
    rw m (take_all (length bs) bs n ∙ sym (take_all k bs l)))

pub push-parts : (r : Reading) (bs : List ℕ) (m : ℕ) (st : Fragments) (w : List ℕ) → st ≡ (pushed r (take m bs)).state → w ≡ (pushed r (take m bs)).waiting
    → pushed (record { state = st; waiting = w }) (drop m bs) ≡ pushed r bs
push-parts r bs m st w p q = rw (p, q) (sym (pushed-append r (take m bs) (drop m bs)) ∙ ap (pushed r) (take-append-drop m bs))

-- the same for the code, which takes the m bytes as a part
pub push-then : (r : Reading) (g h : Fragments) (w w' bs : List ℕ) (m : ℕ)
    → (g ≡ (pushed r (take (m - 0) bs)).state) × (w ≡ (pushed r (take (m - 0) bs)).waiting)
    → (h ≡ (pushed (record { state = g; waiting = w }) (take (length bs - m) (drop m bs))).state)
    × (w' ≡ (pushed (record { state = g; waiting = w }) (take (length bs - m) (drop m bs))).waiting)
    → (h ≡ (pushed r bs).state) × (w' ≡ (pushed r bs).waiting)
push-then r g h w w' bs m first late =
    let e = rw (sub-zero m) at first in
    rw (take_rest bs m, push-parts r bs m g w e.0 e.1) at late
