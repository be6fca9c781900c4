-- A replay on its way: the records that are left differ, are done and are tallied as all are.
use Prim.Native.Nat.{ℕ, suc}
use mathlib.Core.Path.{◌≡◌, refl, sym, ap, ◌∙◌, subst}
use mathlib.Core.Bool.{Bool, true, false, cond}
use mathlib.Core.List.{List, [], ◌∷◌, ◌++◌, append_assoc, append-nil}
use native.Mathlib.Omega.{arith}
use borrow.Author.Tests.{eqb-true, eqb-false}
use lib.ListN.{length, length-append}
use lib.Dec.{eqb}
use Rattle.kinds.proofs.Refusing.{by-test}
use Rattle.rules.specs.Entries.{Entries, fresh}
use Rattle.rules.specs.Calls.{Call, starting, reset, Reply}
use Rattle.rules.specs.Rules.{next}
use Rattle.rules.specs.Contract.{Memory, right_lengths}
use Rattle.rules.specs.OneByOne.{calls_done}
use Rattle.rules.proofs.SoundLaws.{table-fields}
use Rattle.table_view.specs.View.{view, sound_memory, Performed}
use Rattle.table_view.proofs.Counts.{nine-each}
use Rattle.history.specs.Runs.{Run, none, call}
use Rattle.tally.specs.declared.Tally.{Tally}
use Rattle.balance.specs.Balance.{held_in, no_tally, after, tallied, tally_over, Balanced}
use Rattle.balance.specs.Sides.{side_of, moved}
use Rattle.balance.proofs.Balanced.{run-balanced}
use Rattle.balance.proofs.Sides.{by-sums}
use Rattle.recording.specs.Recording.{Recorded, records_of}
use Rattle.replay_rules.specs.Replay.{first_differing, done, calls_in, replayed_calls, replay_answer, outcome_of, Replayed}
use Rattle.replay_step.specs.Steps.{StepDone}
use Rattle.replaying.specs.Turns.{step_tally}
use Rattle.replay_step.specs.declared.Step.{Step}
use Rattle.replay_rules.specs.declared.Outcome.{Outcome}
use Rattle.replay_rules.proofs.Running.{append, after_call, reset-done}

-- the tally of calls in two parts
tally-append : (cs ds : List Call) (e : Entries) (y : Tally) → tally_over (cs ++ ds) e y ≡ tally_over ds (calls_done cs e) (tally_over cs e y)
unfolding tally_over calls_done
tally-append [] ds e y = refl
tally-append (c ∷ cs) ds e y = tally-append cs ds (after c e) (tallied c e y)

-- Records left, of which the first is number k, on the memory m with the tally y; before them the calls `calls` were done from m₀.
pub record Going (all left : List Recorded) (m₀ m : Memory) (k : ℕ) (y : Tally) : Type 0 where
  pub calls : List Call
  pub replies : List Reply
  pub run : Run (starting (reset 0) ∷ calls) replies m₀ m
  pub sound : sound_memory m ≡ true
  pub entries : view m ≡ calls_done calls (fresh 0)
  pub number : suc (length calls) ≡ k
  pub tally : y ≡ tally_over calls (fresh 0) no_tally
  pub differs : first_differing left (view m) k ≡ first_differing all (fresh 0) 1
  pub rest : calls ++ calls_in (done left (view m)) ≡ calls_in (done all (fresh 0))

-- What a replay answers and leaves, once it stops.
pub record Stopped (all : List Recorded) (m₀ m : Memory) (k : ℕ) (y : Tally) : Type 0 where
  pub replies : List Reply
  pub run : Run (starting (reset 0) ∷ calls_in (done all (fresh 0))) replies m₀ m
  pub differs : k ≡ first_differing all (fresh 0) 1
  pub tally : y ≡ tally_over (calls_in (done all (fresh 0))) (fresh 0) no_tally

-- ---- it begins

pub going_start : (all : List Recorded) (m₀ m : Memory) (r : Reply) → Performed (starting (reset 0)) m₀ r m → right_lengths m₀ ≡ true → Going all all m₀ m 1 no_tally
unfolding next tally_over calls_done
going_start all m₀ m r p h =
    let z = reset-done 0 m₀ m r p h in
    let e : view m ≡ fresh 0 = p.became z in
    record {
      calls = [];
      replies = r ∷ [];
      run = call p none;
      sound = p.sound_after z;
      entries = e;
      number = omega arith;
      tally = refl;
      differs = ap (λ (x : Entries). first_differing all x 1) e;
      rest = ap (λ (x : Entries). calls_in (done all x)) e;
    }

-- ---- a record

-- calls in two parts
done-append : (cs ds : List Call) (e : Entries) → calls_done (cs ++ ds) e ≡ calls_done ds (calls_done cs e)
unfolding calls_done
done-append [] ds e = refl
done-append (c ∷ cs) ds e = done-append cs ds (after c e)

module _ (all left : List Recorded) (r : Recorded) (m₀ m m' : Memory) (k : ℕ) (y : Tally) (g : Going all (r ∷ left) m₀ m k y) (d : Step) (s : StepDone r m d m') where
  abbrev calls : List Call
  calls = g.calls ++ (r.call ∷ [])

  abbrev here : (view m' ≡ after r.call (view m)) × (sound_memory m' ≡ true)
  here = after_call r.call m m' s.reply s.performed g.sound

  -- the run with it
  longer : Run (starting (reset 0) ∷ calls) (g.replies ++ (s.reply ∷ [])) m₀ m'
  longer = append g.run (call s.performed none)

  -- the tally so far balances
  balanced : Balanced y (view m)
  balanced = subst (λ (z : Tally). Balanced z (view m)) (sym g.tally) (subst (λ (e : Entries). Balanced (tally_over g.calls (fresh 0) no_tally) e) (sym g.entries) (run-balanced g.calls 0))

  -- the tally with it
  tally-longer : step_tally r m d m' y ≡ tally_over calls (fresh 0) no_tally
  unfolding tally_over
  tally-longer =
      (λ u. moved (side_of r.call) (s.accepted u) (held_in (view m)) (held_in (here.0 u)) y)
      ∙ sym (by-sums r.call (view m) y (table-fields view m g.sound).entries (nine-each m.words) balanced)
      ∙ (λ u. tallied r.call (g.entries u) (g.tally u))
      ∙ sym (tally-append g.calls (r.call ∷ []) (fresh 0) no_tally)

  -- its answer is ours: the replay goes on
  pub going_on : d.agrees ≡ true → Going all left m₀ m' (suc k) (step_tally r m d m' y)
  unfolding first_differing done calls_done
  going_on t =
      let a = sym s.agrees ∙ t in
      record {
        calls = calls;
        replies = g.replies ++ (s.reply ∷ []);
        run = longer;
        sound = here.1;
        entries = here.0 ∙ ap (after r.call) g.entries ∙ sym (done-append g.calls (r.call ∷ []) (fresh 0));
        number = (let l = length-append g.calls (r.call ∷ []) in let n = g.number in omega arith);
        tally = tally-longer;
        differs =
            ap (λ (x : Entries). first_differing left x (suc k)) here.0
            ∙ sym (ap (λ (b : Bool). cond b (first_differing left (after r.call (view m)) (suc k)) k) a)
            ∙ g.differs;
        rest =
            append_assoc g.calls (r.call ∷ []) (calls_in (done left (view m')))
            ∙ ap (λ (x : Entries). g.calls ++ (r.call ∷ calls_in (done left x))) here.0
            ∙ sym (ap (λ (b : Bool). g.calls ++ calls_in (r ∷ cond b (done left (after r.call (view m))) [])) a)
            ∙ g.rest;
      }

  -- it is another: the replay stops there, that call done
  pub going-stop : d.agrees ≡ false → Stopped all m₀ m' k (step_tally r m d m' y)
  unfolding first_differing done
  going-stop f =
      let a = sym s.agrees ∙ f in
      let c : calls ≡ calls_in (done all (fresh 0)) =
      sym (ap (λ (b : Bool). g.calls ++ calls_in (r ∷ cond b (done left (after r.call (view m))) [])) a) ∙ g.rest in
      record {
        replies = g.replies ++ (s.reply ∷ []);
        run = subst (λ (l : List Call). Run (starting (reset 0) ∷ l) (g.replies ++ (s.reply ∷ [])) m₀ m') c longer;
        differs = sym (ap (λ (b : Bool). cond b (first_differing left (after r.call (view m)) (suc k)) k) a) ∙ g.differs;
        tally = tally-longer ∙ ap (λ (l : List Call). tally_over l (fresh 0) no_tally) c;
      }

-- ---- none is left

pub going_end : (all : List Recorded) (m₀ m : Memory) (k : ℕ) (y : Tally) → Going all [] m₀ m k y → Stopped all m₀ m 0 y
unfolding first_differing done
going_end all m₀ m k y g =
    let c : g.calls ≡ calls_in (done all (fresh 0)) = sym (append-nil g.calls) ∙ g.rest in
    record {
      replies = g.replies;
      run = subst (λ (l : List Call). Run (starting (reset 0) ∷ l) g.replies m₀ m) c g.run;
      differs = g.differs;
      tally = g.tally ∙ ap (λ (l : List Call). tally_over l (fresh 0) no_tally) c;
    }

-- ---- the contract

pub replayed-made : (m₀ m : Memory) (s : List ℕ) (k : ℕ) (y : Tally) → replay_answer m₀ s ≡ 0 → Stopped (records_of s) m₀ m k y
    → Replayed m₀ s (record { answer = 0; differs = k; tally = y }) m
unfolding outcome_of
replayed-made m₀ m s k y z e =
    record {
      answered =
          (λ u. record { answer = 0; differs = e.differs u; tally = e.tally u })
          ∙ sym (by-test (λ (o : Outcome). o ≡ record { answer = 0; differs = first_differing (records_of s) (fresh 0) 1; tally = tally_over (replayed_calls s) (fresh 0) no_tally })
          (eqb (replay_answer m₀ s) 0) _ _ (λ t. refl) (λ f. absurd (eqb-false (replay_answer m₀ s) 0 f z)));
      kept = λ n. absurd (n refl);
      ran = λ a. (e.replies, e.run);
    }

pub replayed-refused : (m₀ : Memory) (s : List ℕ) (n : ℕ) → n ≡ replay_answer m₀ s → (n ≡ 0 → ⊥)
    → Replayed m₀ s (record { answer = n; differs = 0; tally = no_tally }) m₀
unfolding outcome_of
replayed-refused m₀ s n q d =
    record {
      answered =
          (λ u. record { answer = q u; differs = 0; tally = no_tally })
          ∙ sym (by-test (λ (o : Outcome). o ≡ record { answer = replay_answer m₀ s; differs = 0; tally = no_tally })
          (eqb (replay_answer m₀ s) 0) _ _ (λ t. absurd (d (q ∙ eqb-true (replay_answer m₀ s) 0 t))) (λ f. refl));
      kept = λ a. refl;
      ran = λ a. absurd (d a);
    }
