-- The loop over the records: what holds before each turn.
use Prim.Native.Nat.{ℕ, zero, suc, ◌+◌, ◌-◌, ◌<◌, ◌≤◌, ◌^◌}
use mathlib.Core.Path.{◌≡◌, refl, sym, ap, ◌∙◌, subst}
use mathlib.Core.Bool.{Bool, true, false, cond, not, ◌&&◌, true≢false}
use mathlib.Core.List.Memᴰ
use mathlib.Core.List.{List, [], ◌∷◌, map}
use native.Mathlib.Omega.{arith}
use borrow.Author.Tests.{ltb-false, not-false}
use lib.ListN.{length, drop, length-map}
use lib.Dec.{ltb}
use Rattle.kinds.specs.Refusals.{◌gives◌, order}
use Rattle.kinds.proofs.Refusing.{passed, or-false, by-test}
use Rattle.fields.specs.Fields.{Bytes}
use Rattle.lists.specs.Lists.{every}
use Rattle.lists.proofs.Tests.{and_left, and_right}
use Rattle.lists.proofs.Elements.{map-in}
use Rattle.rules.specs.Entries.{Entries, fresh}
use Rattle.rules.specs.Calls.{Call, starting, reset, Reply}
use Rattle.rules.specs.Rules.{next}
use Rattle.rules.specs.Contract.{Memory, right_lengths}
use Rattle.rules.specs.Swapping.{Each}
use Rattle.rules.specs.OneByOne.{calls_done}
use Rattle.table_view.specs.View.{view, Performed}
use Rattle.tally.specs.declared.Tally.{Tally}
use Rattle.tally.specs.Tallies.{wrapped}
use Rattle.tally.proofs.Tallies.{kept_small}
use Rattle.balance.specs.Balance.{counts_held, held_in, no_tally, after, tally_over}
use Rattle.balance.specs.Sides.{side_of}
use Rattle.recording.specs.Recording.{Recorded, Sections, sections_at, records_in, behind_sections, sections_of, count_of}
use Rattle.recording.specs.Recording.{recorded_of, records_of, well_formed, short_records, is_short, is_broken, most_records, recording_answer}
use Rattle.recording.specs.Places.{ends_from, record_ends, RecordAt}
use Rattle.recording.specs.Statements.{Given}
use Rattle.recording.proofs.Places.{rows-ended, records-short, records-past, records-fit, records-after}
use Rattle.recording.proofs.Givens.{given-read}
use Rattle.replay_step.specs.Answers.{answer_to, same_answer}
use Rattle.replay_rules.specs.Replay.{done, calls_in, replay_answer, Replayed}
use Rattle.replaying.specs.Turns.{step_tally, recorded_at, TurnDone}
use Rattle.replaying.specs.declared.shift.Turn.{Turn}
use Rattle.replaying.proofs.Going.{Going, Stopped, going_start, going_on, going-stop, going_end, replayed-made}
use Rattle.replay_rules.proofs.Bounds.{tallies-fit}
use Rattle.replay_rules.proofs.Running.{reset-done}
use Rattle.replay_tally.proofs.Wrapping.{moved_on}

-- Before a turn: records left from at, the first of them by its number; the table's sum; the tally as 64 bits hold it.
pub record Before (s : List ℕ) (m₀ m : Memory) (left at number held : ℕ) (tally : Tally) : Type 0 where
  pub exact : Tally
  pub going : Going (records_of s) (map recorded_of (records_in left (drop at s))) m₀ m number exact
  pub wraps : tally ≡ wrapped exact
  pub sum : held ≡ held_in (view m)
  pub past : 8 ≤ at
  pub whole : short_records left (drop at s) ≡ false
  pub fit : every well_formed (records_in left (drop at s)) ≡ true
  pub few : number + left ≤ 16385

-- ---- a recording that is not refused

start-entries : (m₀ m : Memory) (r : Reply) → Performed (starting (reset 0)) m₀ r m → right_lengths m₀ ≡ true → view m ≡ fresh 0
unfolding next
start-entries m₀ m r p h = p.became (reset-done 0 m₀ m r p h)

module _ (s : List ℕ) (z : recording_answer s ≡ 0) where
  rows : (is_short s ≡ false) × (is_broken s ≡ false) × (count_of s ≤ most_records)
  unfolding recording_answer
  rows =
      let a = passed (is_short s) 13 (is_broken s gives 14 ∷ ltb most_records (count_of s) gives 10 ∷ []) (omega arith) z in
      let b = passed (is_broken s) 14 (ltb most_records (count_of s) gives 10 ∷ []) (omega arith) a.1 in
      let c = passed (ltb most_records (count_of s)) 10 [] (omega arith) b.1 in
      (a.0, b.0, ltb-false most_records (count_of s) c.0)

  not_short : short_records (count_of s) (drop 8 s) ≡ false
  unfolding is_short
  not_short = (or-false (ltb (length s) 8) (short_records (count_of s) (drop 8 s)) rows.0).1

  all_fit : every well_formed (sections_of s) ≡ true
  unfolding is_broken
  all_fit = not-false (every well_formed (sections_of s)) (or-false (not (every well_formed (sections_of s))) _ rows.1).0

  first-turn : (m₀ m : Memory) (r : Reply) → Performed (starting (reset 0)) m₀ r m → right_lengths m₀ ≡ true → Before s m₀ m (count_of s) 8 1 0 no_tally
  unfolding counts_held calls_done
  first-turn m₀ m r p h =
      let g = going_start (records_of s) m₀ m r p h in
      record {
        exact = no_tally;
        going = g;
        wraps = refl;
        sum = sym (ap held_in (start-entries m₀ m r p h));
        past = omega arith;
        whole = not_short;
        fit = all_fit;
        few = (let f = rows.2 in omega arith);
      }

  pub before-start : (n : ℕ) → n ≡ count_of s → (m₀ m : Memory) (r : Reply) → Performed (starting (reset 0)) m₀ r m → right_lengths m₀ ≡ true
      → Before s m₀ m n 8 1 0 no_tally
  before-start n e m₀ m r p h = subst (λ (j : ℕ). Before s m₀ m j 8 1 0 no_tally) (sym e) (first-turn m₀ m r p h)

-- ---- a turn

module _ (s : List ℕ) (m₀ m : Memory) (left at number held : ℕ) (tally : Tally) (b : Before s m₀ m left at number held tally) (h : 0 < left) where
  one_more : left ≡ suc (left - 1)
  one_more = omega arith

  not-zero : at ≡ 0 → ⊥
  not-zero e = let p = b.past in omega arith

  pub there : ends_from 5 s at ≡ 0 → ⊥
  there e =
      true≢false (sym (records-short s at (left - 1) not-zero e) ∙ ap (λ (k : ℕ). short_records k (drop at s)) (sym one_more) ∙ b.whole)

  pub record-there : RecordAt s at (record_ends s at)
  record-there = record { past = not-zero; ends = refl; whole = there }

  fits_both : (well_formed (sections_at (drop at s)) && every well_formed (records_in (left - 1) (drop (ends_from 5 s at) s))) ≡ true
  fits_both = sym (records-fit s at (left - 1) there) ∙ ap (λ (k : ℕ). every well_formed (records_in k (drop at s))) (sym one_more) ∙ b.fit

  pub fits-here : well_formed (sections_at (drop at s)) ≡ true
  fits-here = and_left (well_formed (sections_at (drop at s))) (every well_formed (records_in (left - 1) (drop (ends_from 5 s at) s))) fits_both

  -- those behind the next
  abbrev behind : List Sections
  behind = records_in (left - 1) (drop (ends_from 5 s at) s)

  -- the records that are left
  rest : records_in left (drop at s) ≡ sections_at (drop at s) ∷ behind
  unfolding records_in
  rest = ap (λ (k : ℕ). records_in k (drop at s)) one_more ∙ ap (λ (l : List ℕ). sections_at (drop at s) ∷ records_in (left - 1) l) (rows-ended 5 s at there).behind

  here : Going (records_of s) (recorded_at s at ∷ map recorded_of behind) m₀ m number b.exact
  here = subst (λ (l : List Sections). Going (records_of s) (map recorded_of l) m₀ m number b.exact) rest b.going

  module _ (m' : Memory) (r : Turn) (t : TurnDone s at m tally r m') where
    abbrev exactly : Tally
    exactly = step_tally (recorded_at s at) m t.step m' b.exact

    pub tally-here : r.tally ≡ wrapped exactly
    tally-here =
        t.tally
        ∙ ap (λ (y : Tally). wrapped (step_tally (recorded_at s at) m t.step m' y)) b.wraps
        ∙ moved_on (side_of (recorded_at s at).call) t.step.accepted (held_in (view m)) (held_in (view m')) b.exact

    pub before-next : r.agrees ≡ true → Before s m₀ m' (left - 1) r.end (number + 1) r.held r.tally
    before-next a =
        let q : suc number ≡ number + 1 = omega arith in
        let to = t.end in
        let g = going_on (records_of s) (map recorded_of behind) (recorded_at s at) m₀ m m' number b.exact here t.step t.done (sym t.agrees ∙ a) in
        record {
          exact = exactly;
          going =
              subst (λ (e : ℕ). Going (records_of s) (map recorded_of (records_in (left - 1) (drop e s))) m₀ m' (number + 1) exactly)
              (sym to) (subst (λ (k : ℕ). Going (records_of s) (map recorded_of behind) m₀ m' k exactly) q g);
          wraps = tally-here;
          sum = t.held;
          past = (let p = b.past in let l = records-after s at (left - 1) there in omega arith);
          whole =
              ap (λ (e : ℕ). short_records (left - 1) (drop e s)) to
              ∙ sym (records-past s at (left - 1) there)
              ∙ ap (λ (k : ℕ). short_records k (drop at s)) (sym one_more)
              ∙ b.whole;
          fit =
              ap (λ (e : ℕ). every well_formed (records_in (left - 1) (drop e s))) to
              ∙ and_right (well_formed (sections_at (drop at s))) (every well_formed behind) fits_both;
          few = (let f = b.few in omega arith);
        }

    pub stopped-here : r.agrees ≡ false → Stopped (records_of s) m₀ m' number exactly
    stopped-here a = going-stop (records_of s) (map recorded_of behind) (recorded_at s at) m₀ m m' number b.exact here t.step t.done (sym t.agrees ∙ a)

-- none is left
pub stopped-end : (s : List ℕ) (m₀ m : Memory) (left at number held : ℕ) (tally : Tally) (b : Before s m₀ m left at number held tally)
    → left ≤ 0 → Stopped (records_of s) m₀ m 0 b.exact
unfolding records_in
stopped-end s m₀ m left at number held tally b h =
    let z : left ≡ 0 = omega arith in
    going_end (records_of s) m₀ m number b.exact (subst (λ (k : ℕ). Going (records_of s) (map recorded_of (records_in k (drop at s))) m₀ m number b.exact) z b.going)

-- ---- the tally is exact

-- the records through the first that differs are some of them
done-each : (P : Recorded → Type 0) (rs : List Recorded) (e : Entries) → Each P rs → Each P (done rs e)
unfolding done
done-each P [] e h x i = h x i
done-each P (r ∷ rs) e h x (Memᴰ.head q) = h x (Memᴰ.head q)
done-each P (r ∷ rs) e h x (Memᴰ.tail i) =
    by-test (λ (l : List Recorded). Each P l) (same_answer r.answer (answer_to r.call e)) (done rs (after r.call e)) []
    (λ t. done-each P rs (after r.call e) (λ y n. h y (Memᴰ.tail n))) (λ f y n. absurd (Memᴰ.not-nil n)) x i

done-few : (rs : List Recorded) (e : Entries) → length (done rs e) ≤ length rs
unfolding done
done-few [] e = omega arith
done-few (r ∷ rs) e =
    let d = by-test (λ (l : List Recorded). length l ≤ length rs) (same_answer r.answer (answer_to r.call e)) (done rs (after r.call e)) []
    (λ t. done-few rs (after r.call e)) (λ f. omega arith) in
    omega arith

-- as many records as the count says
count-in : (n : ℕ) (s : List ℕ) → length (records_in n s) ≡ n
unfolding records_in
count-in zero s = refl
count-in (suc n) s = ap suc (count-in n (behind_sections 5 s))

module _ (m₀ m : Memory) (s : List ℕ) (k : ℕ) (y exact : Tally) (p : Bytes s) (l : length s < 2 ^ 64) (z : recording_answer s ≡ 0) (h : right_lengths m₀ ≡ true) (w : y ≡ wrapped exact)
    (e : Stopped (records_of s) m₀ m k exact) where
  same : y ≡ exact
  same =
      let cs : List Call = calls_in (done (records_of s) (fresh 0)) in
      let g : Each Given cs = λ x i.
      let r = map-in (λ (y : Recorded). y.call) (done (records_of s) (fresh 0)) i in
      subst Given (sym r.2) (done-each (λ (y : Recorded). Given y.call) (records_of s) (fresh 0) (given-read s p l) r.0 r.1) in
      let c = length-map (done (records_of s) (fresh 0)) (λ (y : Recorded). y.call) in
      let a = length-map (sections_of s) recorded_of in
      let n = count-in (count_of s) (drop 8 s) in
      let d = done-few (records_of s) (fresh 0) in
      let b = (rows s z).2 in
      let f = tallies-fit cs g (omega arith) in
      let t = e.tally in
      w ∙ ap wrapped t ∙ kept_small (tally_over cs (fresh 0) no_tally) f.granted f.taken f.rundown ∙ sym t

  accepts : replay_answer m₀ s ≡ 0
  unfolding replay_answer recording_answer order
  accepts = ap (λ (b : Bool). cond (not b) 1 (recording_answer s)) h ∙ z

  pub replayed-stopped : Replayed m₀ s (record { answer = 0; differs = k; tally = y }) m
  replayed-stopped = subst (λ (t : Tally). Replayed m₀ s (record { answer = 0; differs = k; tally = t }) m) (sym same) (replayed-made m₀ m s k exact accepts e)
