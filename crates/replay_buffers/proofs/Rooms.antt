-- A buffer as long as any answer stands in for a longer one.
use Prim.Native.Nat.{ℕ, ◌≤◌, min}
use mathlib.Core.Path.{◌≡◌, refl, sym, ◌∙◌}
use mathlib.Core.Bool.{true, ◌&&◌}
use mathlib.Core.List.{List}
use mathlib.Core.Logic.{⊎_elim}
use native.Mathlib.Omega.{arith}
use borrow.Author.Tests.{lt-ltb, le-ltb, ltb-true, ltb-false, leb-true, eqb-true}
use lib.Dec.{eqb, ltb, leb}
use lib.ListN.{length, get_or, take, length-replicate}
use lib.Seq.{length-take-le}
use Rattle.kinds.specs.Refusals.{order}
use Rattle.fields.specs.Fields.{zeros}
use Rattle.bindings.specs.Bindings.{list_answer}
use Rattle.bindings.specs.Filter.{filtered}
use Rattle.bindings.proofs.ListBytes.{by_bool}
use Rattle.bindings.proofs.Filtering.{filtered-shorter}
use Rattle.lists.proofs.Tests.{below_or_not, and_left, and_right}
use Rattle.lists.proofs.Lists.{tabulate-get_or}
use Rattle.lists.proofs.Elements.{In, every_in, in-tabulate}
use Rattle.rules.specs.Entries.{Exporter, Entries, exporter_row}
use Rattle.rules.specs.Calls.{Counting, looking, count_list, resolve, resolve_filtered, write_snapshot}
use Rattle.rules.specs.Items.{item_count}
use Rattle.rules.specs.Sound.{sound, longest_list}
use Rattle.rules.specs.Swapping.{Fits, longest_snapshot}
use Rattle.rules.specs.Rules.{no_exporter, is_live_exporter, exporter_of, most_listed, number, refusals, results, next}
use Rattle.rules.proofs.ByRow.{exporter-live, exporter-row}
use Rattle.rules.proofs.SoundLaws.{sound-fields}
use Rattle.rules.proofs.SnapshotSizes.{snapshot-inside}
use Rattle.rules.specs.Snapshot.{snapshot_bytes}
use Rattle.rules.specs.Contract.{Memory}
use Rattle.table_view.specs.View.{view, SoundTable}
use Rattle.table_view.specs.Fitting.{Lent}
use Rattle.table_view.proofs.Fitting.{view-fits}
use Rattle.replay_step.specs.declared.Step.{Step}
use Rattle.replay_step.specs.Steps.{CallDone}
use Rattle.replay_step.proofs.Alike.{Alike}
use Rattle.replay_buffers.proofs.Showing.{alike-done}

-- it has room where the longer one has
same-room : (l l' most k : ℕ) → l ≡ min l' most → k ≤ most → ltb l k ≡ ltb l' k
same-room l l' most k e h =
    ⊎_elim
    (λ b. lt-ltb l k (omega arith) ∙ sym (lt-ltb l' k b))
    (λ b. le-ltb l k (omega arith) ∙ sym (le-ltb l' k b))
    (below_or_not l' k)

-- ---- the list of a live exporter

module _ (e : Entries) (s : sound e ≡ true) (f : Fits e) (x : ℕ) (live : is_live_exporter e x ≡ true) where
  exporter-in : In (exporter_of e x) e.exporters
  exporter-in =
      rw (exporter-row e x)
      (rw (tabulate-get_or e.exporters no_exporter) at
      (in-tabulate (length e.exporters) (λ j. get_or e.exporters j no_exporter) (exporter_row e x) (ltb-true _ _ (sym (exporter-live e x) ∙ live))))

  kept : (eqb (list_answer (exporter_of e x).bindings) 0 && leb (length (exporter_of e x).bindings) longest_list) ≡ true
  kept = every_in (λ (p : Exporter). eqb (list_answer p.bindings) 0 && leb (length p.bindings) longest_list) exporter-in (sound-fields e s).lists_kept

  list-short : length (exporter_of e x).bindings ≤ longest_list
  list-short = leb-true _ _ (and_right (eqb (list_answer (exporter_of e x).bindings) 0) (leb (length (exporter_of e x).bindings) longest_list) kept)

  filtered-short : (ps : List ℕ) → length (filtered ps (exporter_of e x).bindings) ≤ longest_list
  filtered-short ps =
      let good = eqb-true _ _ (and_left (eqb (list_answer (exporter_of e x).bindings) 0) (leb (length (exporter_of e x).bindings) longest_list) kept) in
      let short = list-short in
      let less = filtered-shorter ps (exporter_of e x).bindings (f.exporters _ exporter-in).bytes good in
      omega arith

-- ---- calls with a buffer of another length

module _ (b b' : List ℕ) (e : Entries) where
  -- one with room for every item of a list that is not refused
  list-alike : (w : Counting) (c : ℕ) (s : List ℕ) (most : ℕ) → (item_count s ≤ most_listed → item_count s ≤ most) → length b ≡ min (length b') most
      → Alike (count_list w c s b) (count_list w c s b') e
  unfolding number refusals results next order
  list-alike w c s most fits l =
      record {
        number =
            by_bool (ltb most_listed (item_count s))
            (λ many. rw many)
            (λ few. rw (same-room (length b) (length b') most (item_count s) l (fits (ltb-false most_listed (item_count s) few))));
        count = refl;
        values = refl;
        part = refl;
        front = refl;
        next = refl;
      }

  module _ (s : sound e ≡ true) (f : Fits e) where
    -- no list has more than 2,048 bytes
    resolve-alike : (x : ℕ) → length b ≡ min (length b') longest_list → Alike (looking (resolve x b)) (looking (resolve x b')) e
    unfolding number refusals results next order
    resolve-alike x l =
        record {
          number =
              by_bool (is_live_exporter e x)
              (λ live. rw (same-room (length b) (length b') longest_list (length (exporter_of e x).bindings) l (list-short e s f x live)))
              (λ gone. rw gone);
          count = refl;
          values = refl;
          part = refl;
          front = refl;
          next = refl;
        }

    filtered-alike : (x : ℕ) (ps : List ℕ) → length b ≡ min (length b') longest_list → Alike (looking (resolve_filtered x ps b)) (looking (resolve_filtered x ps b')) e
    unfolding number refusals results next order
    filtered-alike x ps l =
        record {
          number =
              by_bool (is_live_exporter e x)
              (λ live. rw (same-room (length b) (length b') longest_list (length (filtered ps (exporter_of e x).bindings)) l (filtered-short e s f x live ps)))
              (λ gone. rw gone);
          count = refl;
          values = refl;
          part = refl;
          front = refl;
          next = refl;
        }

    -- no snapshot has more than 64,698 bytes
    snapshot-alike : length b ≡ min (length b') longest_snapshot → Alike (looking (write_snapshot b)) (looking (write_snapshot b')) e
    unfolding number refusals results next order
    snapshot-alike l =
        record {
          number = rw (same-room (length b) (length b') longest_snapshot (length (snapshot_bytes e)) l (snapshot-inside e s f));
          count = refl;
          values = refl;
          part = refl;
          front = refl;
          next = refl;
        }

-- ---- the front of a local buffer stands in for the recorded one

pub front_length_lem : {n : ℕ} (most : ℕ) → n ≤ most → n ≡ length (take n (zeros most))
front_length_lem {n} most h = let w = length-replicate {A = ℕ} most 0 in sym (length-take-le n (zeros most) (omega arith))

-- l is the length that is read, k the recorded one
recorded : {n l k : ℕ} (most : ℕ) → n ≡ min l most → l ≡ k → length (take n (zeros most)) ≡ min (length (zeros k)) most
recorded {n} {l} {k} most h e = sym (front_length_lem most (omega arith)) ∙ h ∙ (λ u. min ((e ∙ sym (length-replicate {A = ℕ} k 0)) u) most)

module _ {n l k : ℕ} {s shown : List ℕ} {m m' : Memory} {r : Step} (t : SoundTable m) where
  pub list_done : {items : List ℕ} (b : List ℕ) → (item_count items ≤ most_listed → item_count items ≤ length b) → n ≡ min l (length b) → l ≡ k → {w : Counting} {x x' : ℕ} → x ≡ x'
      → CallDone (count_list w x items (take n b)) s shown m r m' → CallDone (count_list w x' items (zeros k)) s shown m r m'
  list_done {items} b fits h i {w} {x} {x'} e d =
      let z : length (take n b) ≡ min (length (zeros k)) (length b) =
      length-take-le n b (omega arith) ∙ h ∙ (λ u. min ((i ∙ sym (length-replicate {A = ℕ} k 0)) u) (length b)) in
      rw (← e)
      (alike-done (count_list w x items (take n b)) (count_list w x items (zeros k)) m m' s shown t refl refl
      (list-alike (take n b) (zeros k) (view m) w x items (length b) fits z) d)

  module _ (f : Lent m) where
    pub resolve-done : n ≡ min l longest_list → l ≡ k → {x x' : ℕ} → x ≡ x'
        → CallDone (looking (resolve x (take n (zeros longest_list)))) s shown m r m' → CallDone (looking (resolve x' (zeros k))) s shown m r m'
    resolve-done h i {x} {x'} e d =
        rw (← e)
        (alike-done (looking (resolve x (take n (zeros longest_list)))) (looking (resolve x (zeros k))) m m' s shown t refl refl
        (resolve-alike (take n (zeros longest_list)) (zeros k) (view m) t.entries (view-fits m f) x (recorded longest_list h i)) d)

    pub filtered-done : n ≡ min l longest_list → l ≡ k → {x x' : ℕ} {ps : List ℕ} → x ≡ x'
        → CallDone (looking (resolve_filtered x ps (take n (zeros longest_list)))) s shown m r m' → CallDone (looking (resolve_filtered x' ps (zeros k))) s shown m r m'
    filtered-done h i {x} {x'} {ps} e d =
        rw (← e)
        (alike-done (looking (resolve_filtered x ps (take n (zeros longest_list)))) (looking (resolve_filtered x ps (zeros k))) m m' s shown t refl refl
        (filtered-alike (take n (zeros longest_list)) (zeros k) (view m) t.entries (view-fits m f) x ps (recorded longest_list h i)) d)

    pub snapshot-done : n ≡ min l longest_snapshot → l ≡ k
        → CallDone (looking (write_snapshot (take n (zeros longest_snapshot)))) s shown m r m' → CallDone (looking (write_snapshot (zeros k))) s shown m r m'
    snapshot-done h i d =
        alike-done (looking (write_snapshot (take n (zeros longest_snapshot)))) (looking (write_snapshot (zeros k))) m m' s shown t refl refl
        (snapshot-alike (take n (zeros longest_snapshot)) (zeros k) (view m) t.entries (view-fits m f) (recorded longest_snapshot h i)) d
