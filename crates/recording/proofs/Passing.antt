-- The whole records that were passed, and those that are left.
use Prim.Native.Nat.{ℕ, suc, ◌+◌, ◌-◌, ◌<◌, ◌≤◌}
use mathlib.Core.Path.{◌≡◌, refl, sym, ap, ◌∙◌, subst}
use mathlib.Core.Bool.{Bool, true, false, cond, not, ◌||◌, or-true}
use mathlib.Core.List.{List}
use native.Mathlib.Omega.{arith}
use lib.ListN.{length, drop}
use Rattle.recording.specs.Recording.{behind_sections, behind_records, short_sections, sections_at, well_formed}
use Rattle.recording.specs.Places.{ends_from, record_ends, RecordAt}
use Rattle.recording.specs.Whole.{whole_records, Passes, Found}
use Rattle.recording.specs.declared.Ends.{Ends}
use Rattle.recording.specs.declared.Prefix.{Prefix}
use Rattle.recording.proofs.Places.{rows_short, rows-ended, records-after, records-inside}

pub record Going (s : List ℕ) (at n : ℕ) : Type 0 where
  pub from : 8 ≤ at
  pub inside : at ≤ length s
  pub few : n ≤ 16384
  pub count : n + whole_records (16384 - n) (drop at s) ≡ whole_records 16384 (drop 8 s)
  pub behind : behind_records (whole_records (16384 - n) (drop at s)) (drop at s) ≡ behind_records (whole_records 16384 (drop 8 s)) (drop 8 s)

pub going_start : (s : List ℕ) → 8 ≤ length s → Going s 8 0
going_start s h =
    let z : 16384 - 0 ≡ 16384 = omega arith in
    let w : whole_records (16384 - 0) (drop 8 s) ≡ whole_records 16384 (drop 8 s) = ap (λ (k : ℕ). whole_records k (drop 8 s)) z in
    record { from = omega arith; inside = h; few = omega arith; count = omega arith; behind = ap (λ (k : ℕ). behind_records k (drop 8 s)) w }

past-zero : (at : ℕ) → 8 ≤ at → at ≡ 0 → ⊥
past-zero at h z = omega arith

-- no record is whole at the front
pub none-whole : (k : ℕ) (s : List ℕ) → (short_sections 5 s || not (well_formed (sections_at s))) ≡ true → whole_records (suc k) s ≡ 0
unfolding whole_records
none-whole k s h = ap (λ (b : Bool). cond b 0 (suc (whole_records k (behind_sections 5 s)))) h

-- one is
pub one-whole : (k : ℕ) (s : List ℕ) → (short_sections 5 s || not (well_formed (sections_at s))) ≡ false → whole_records (suc k) s ≡ suc (whole_records k (behind_sections 5 s))
unfolding whole_records
one-whole k s h = ap (λ (b : Bool). cond b 0 (suc (whole_records k (behind_sections 5 s)))) h

behind-none : (s : List ℕ) → behind_records 0 s ≡ s
unfolding behind_records
behind-none s = refl

behind_more : (k : ℕ) (s : List ℕ) → behind_records (suc k) s ≡ behind_records k (behind_sections 5 s)
unfolding behind_records
behind_more k s = refl

module _ (s : List ℕ) (at n : ℕ) (g : Going s at n) where
  pub record-at : (e : Ends) → e ≡ record_ends s at → (e.shown ≡ 0 → ⊥) → RecordAt s at e
  record-at e q h = record { past = past-zero at g.from; ends = q; whole = h }

  one_more : n < 16384 → 16384 - n ≡ suc (16384 - suc n)
  one_more h = omega arith

  -- nothing whole is left
  stopped : whole_records (16384 - n) (drop at s) ≡ 0 → Passes s (record { count = n; end = at })
  stopped z =
      let c = g.count in
      let q : n ≡ whole_records 16384 (drop 8 s) = omega arith in
      record {
        count = q;
        behind = ap (λ (k : ℕ). behind_records k (drop 8 s)) q ∙ sym g.behind ∙ ap (λ (k : ℕ). behind_records k (drop at s)) z ∙ behind-none (drop at s);
        from = g.from;
        inside = g.inside;
      }

  pub going-short : n < 16384 → (e : Ends) → e ≡ record_ends s at → e.shown ≡ 0 → Passes s (record { count = n; end = at })
  going-short h e q y =
      let z : ends_from 5 s at ≡ 0 = sym (ap (λ (x : Ends). x.shown) q) ∙ y in
      stopped
      (ap (λ (k : ℕ). whole_records k (drop at s)) (one_more h)
      ∙ none-whole (16384 - suc n) (drop at s)
      (ap (λ (b : Bool). b || not (well_formed (sections_at (drop at s)))) (rows_short 5 s at (past-zero at g.from) z)))

  pub going-broken : n < 16384 → (f : Bool) → f ≡ well_formed (sections_at (drop at s)) → not f ≡ true → Passes s (record { count = n; end = at })
  going-broken h f w b =
      stopped
      (ap (λ (k : ℕ). whole_records k (drop at s)) (one_more h)
      ∙ none-whole (16384 - suc n) (drop at s)
      (ap (λ (x : Bool). short_sections 5 (drop at s) || not x) (sym w)
      ∙ ap (λ (x : Bool). short_sections 5 (drop at s) || x) b
      ∙ or-true (short_sections 5 (drop at s))))

  pub going_end : 16384 ≤ n → Passes s (record { count = 16384; end = at })
  unfolding whole_records
  going_end h =
      let f = g.few in
      let z : 16384 - n ≡ 0 = omega arith in
      let e : n ≡ 16384 = omega arith in
      subst (λ (k : ℕ). Passes s (record { count = k; end = at })) e (stopped (ap (λ (k : ℕ). whole_records k (drop at s)) z))

  pub going_step : n < 16384 → (e : Ends) → e ≡ record_ends s at → (e.shown ≡ 0 → ⊥) → (f : Bool) → f ≡ well_formed (sections_at (drop at s)) → not f ≡ false
      → Going s e.shown (n + 1)
  going_step h e p z f w b =
      let to : ℕ = e.shown in
      let m : ℕ = n + 1 in
      let q : to ≡ ends_from 5 s at = ap (λ (x : Ends). x.shown) p in
      let y : ends_from 5 s at ≡ 0 → ⊥ = λ x. z (q ∙ x) in
      let r = rows-ended 5 s at y in
      let a = records-after s at 0 y in
      let i = records-inside s at 0 y in
      let fr = g.from in
      let c = g.count in
      let k : ℕ = 16384 - suc n in
      let t : 16384 - m ≡ k = omega arith in
      let whole : (short_sections 5 (drop at s) || not (well_formed (sections_at (drop at s)))) ≡ false =
      (λ u. r.whole u || not (sym w u)) ∙ b in
      let d : behind_sections 5 (drop at s) ≡ drop to s = r.behind ∙ ap (λ (x : ℕ). drop x s) (sym q) in
      let more : whole_records (16384 - n) (drop at s) ≡ suc (whole_records (16384 - m) (drop to s)) =
      ap (λ (x : ℕ). whole_records x (drop at s)) (one_more h) ∙ one-whole k (drop at s) whole ∙ (λ u. suc (whole_records (sym t u) (d u))) in
      record {
        from = omega arith;
        inside = omega arith;
        few = omega arith;
        count = omega arith;
        behind =
            ap (λ (l : List ℕ). behind_records (whole_records (16384 - m) (drop to s)) l) (sym d)
            ∙ sym (behind_more (whole_records (16384 - m) (drop to s)) (drop at s))
            ∙ ap (λ (x : ℕ). behind_records x (drop at s)) (sym more)
            ∙ g.behind;
      }

-- ---- of any bytes

pub found_none : (s : List ℕ) → length s < 8 → Found s (record { count = 0; end = 0 })
found_none s h = record { none = λ k. refl; some = λ k. absurd (omega arith) }

pub found_some : (s : List ℕ) (r : Prefix) → 8 ≤ length s → Passes s r → Found s r
found_some s r h p = record { none = λ k. absurd (omega arith); some = λ k. p }
