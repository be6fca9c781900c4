-- A snapshot that is written from one table and loaded into another.
use Prim.Native.Nat.{ℕ}
use mathlib.Core.Path.{◌≡◌, refl, sym, ap, ◌∙◌}
use mathlib.Core.Bool.{Bool, true, false, cond}
use mathlib.Core.List.{List}
use mathlib.Core.Logic.{inl, inr, ⊎_elim}
use native.Mathlib.Omega.{arith}
use lib.ListN.{length, drop}
use lib.Seq.{take_at}
use Rattle.kinds.specs.Refusals.{order}
use Rattle.lists.proofs.Tests.{true-or-false}
use Rattle.rules.specs.Entries.{Entries}
use Rattle.rules.specs.Calls.{starting, looking, Reply, write_snapshot, load_snapshot}
use Rattle.rules.specs.Snapshot.{snapshot_bytes, entries_of, is_snapshot}
use Rattle.rules.specs.Rules.{number, refusals, next, results, accepted_reply, reply, refused_reply}
use Rattle.rules.specs.Contract.{Memory, Whole}
use Rattle.rules.proofs.SoundLaws.{table-fields}
use Rattle.rules.proofs.Performing.{fit-sound, fit-lengths}
use Rattle.rules.proofs.Stepping.{reply-number}
use Rattle.rules.proofs.Swapping.{snapshot-fields, swaps, loads}
use Rattle.table_view.specs.View.{view, sound_memory, Performed}
use Rattle.table_view.proofs.Fitting.{view-fits}
use Rattle.history.specs.Swapping.{LoadsExactly, written_in, BoxesSwap}
use Rattle.history.proofs.Runs.{fit-reply, accepted-fits, accepted-reply, replied}

-- the number of a load, by whether the bytes are a snapshot
abbrev number_by : Bool → ℕ
number_by b = cond b 0 23

load-number : (s : List ℕ) (e : Entries) → number (starting (load_snapshot s)) e ≡ number_by (is_snapshot s)
unfolding number refusals order
load-number s e = ⊎_elim (λ t. rw t refl) (λ f. rw f refl) (true-or-false (is_snapshot s))

module _ (s : List ℕ) (m m' : Memory) (r : Reply) (w : Whole m.words) (b : Whole m.store) (p : Performed (starting (load_snapshot s)) m r m') where
  answered-number : r.number ≡ number_by (is_snapshot s)
  answered-number =
      cc (p.answered, fit-reply (starting (load_snapshot s)) m (fit-lengths view (starting (load_snapshot s)) m refl w b), reply-number (starting (load_snapshot s)) (view m), load-number s (view m))

  -- the entries that an accepted load leaves
  left : r.number ≡ 0 → view m' ≡ entries_of s
  unfolding next
  left z = p.became z

pub loads-exactly : LoadsExactly
loads-exactly s m m' r w b p =
    let a = answered-number s m m' r w b p in
    record {
      answer = ⊎_elim (λ t. inl (a ∙ ap number_by t)) (λ f. inr (a ∙ ap number_by f)) (true-or-false (is_snapshot s));
      accepted = λ z.
          let t = taken (is_snapshot s) refl (sym a ∙ z) in
          (p.sound_after z, ap snapshot_bytes (left s m m' r w b p z) ∙ (snapshot-fields s t).own);
      refused = λ n t l h q.
          let y = (loads s).1 (record { entries = view t; sound = (table-fields view t h).entries; fits = view-fits t l; bytes = q }) in
          absurd (omega (arith, sym (ap number_by y) ∙ sym a ∙ n));
    }
  where
    taken : (x : Bool) → is_snapshot s ≡ x → number_by x ≡ 0 → is_snapshot s ≡ true
    taken true e n = e
    taken false e n = absurd (omega (arith, n))

-- ---- what is written

-- what a write answers depends on the snapshot alone
write-alike : (b : List ℕ) (e f : Entries) → snapshot_bytes e ≡ snapshot_bytes f → reply (looking (write_snapshot b)) e ≡ reply (looking (write_snapshot b)) f
unfolding reply number refusals results accepted_reply refused_reply
write-alike b e f q = rw q

-- an accepted write is of the snapshot
written-front : (b : List ℕ) (e : Entries) (w : Reply) → w ≡ reply (looking (write_snapshot b)) e → w.number ≡ 0 → written_in w ≡ snapshot_bytes e
unfolding reply results accepted_reply
written-front b e w a z =
    let n : number (looking (write_snapshot b)) e ≡ 0 = sym (reply-number (looking (write_snapshot b)) e) ∙ sym (ap (λ (q : Reply). q.number) a) ∙ z in
    let d : w ≡ accepted_reply (looking (write_snapshot b)) e = a ∙ rw n in
    ap written_in d ∙ take_at (snapshot_bytes e) (drop (length (snapshot_bytes e)) b) (length (snapshot_bytes e)) refl

pub boxes-swap : BoxesSwap
boxes-swap b m m' n n' w r l p z ww ws q =
    let t : sound_memory m ≡ true = sym (fit-sound view (looking (write_snapshot b)) m refl) ∙ accepted-fits (looking (write_snapshot b)) m m' w p z in
    let a = accepted-reply (looking (write_snapshot b)) m m' w p z in
    let x = written-front b (view m) w a z in
    let c = swaps (view m) (table-fields view m t).entries (view-fits m l) in
    let y = answered-number (written_in w) n n' r ww ws q ∙ ap (λ (s : List ℕ). number_by (is_snapshot s)) x ∙ ap number_by c.accepted in
    let v = left (written_in w) n n' r ww ws q y ∙ ap entries_of x ∙ c.entries in
    record {
      loaded = y;
      entries = v;
      again = λ w' k g.
          g.answered
          ∙ replied (looking (write_snapshot b)) n' (q.sound_after y)
          ∙ write-alike b (view n') (view m) (ap snapshot_bytes v ∙ c.again)
          ∙ sym a;
    }
