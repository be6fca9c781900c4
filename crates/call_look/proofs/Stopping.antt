-- The next stop: the reference's number and OXID, the bytes of an exporter's list, and the place that each outcome gives.
use Prim.Native.Nat.{ℕ, ◌+◌, ◌-◌, ◌<◌, ◌≤◌}
use mathlib.Core.Path.{◌≡◌, refl, sym, ap, ◌∙◌}
use mathlib.Core.Bool.{Bool, true, false, cond}
use mathlib.Core.List.{List, [], ◌∷◌}
use native.Mathlib.Omega.{arith}
use native.Mathlib.Nat.{add-sub_cancel_left}
use borrow.Author.Tests.{eqb-true, eqb-false, eq-eqb, ne_eqb, lt-ltb, le-ltb}
use lib.Dec.{eqb, ltb}
use lib.ListN.{length, take, get_or}
use Rattle.kinds.specs.Refusals.{order, ◌gives◌, differ}
use Rattle.kinds.proofs.Refusing.{eq-differ, ne-differ}
use Rattle.bindings.specs.Bindings.{list_length}
use Rattle.bindings.specs.declared.Place.{Place}
use Rattle.references.specs.References.{is_custom, reference_at, reference_answer, tail_place}
use Rattle.references.specs.declared.Reference.{Reference}
use Rattle.references.proofs.Forms.{accepted, flags-at, tail-number, tail_within, tail-bytes}
use Rattle.lists.specs.Lists.{first_index}
use Rattle.rules.specs.Entries.{Entries, oxids, exporter_row}
use Rattle.rules.specs.Calls.{Call, Look, Reply}
use Rattle.rules.specs.Sound.{lists_kept}
use Rattle.rules.specs.Rules.{is_live_exporter, no_exporter, oxid_of, refusals, number, next, results, refused_reply, accepted_reply}
use Rattle.rules.specs.Contract.{Memory, Whole, reply_to}
use Rattle.rules.proofs.Performing.{unsound}
use Rattle.rules.proofs.SoundLaws.{table-fields}
use Rattle.table_view.specs.View.{exporter_count, list_start, list_from, exporters_of, memory, view, Holds, sound_memory, SoundTable, Performed}
use Rattle.table_view.proofs.StoredLists.{start-next}
use Rattle.table_view.proofs.KeptLists.{list-size, list-ends}
use Rattle.table_view.proofs.LiveRows.{exporter-at}
use Rattle.call_look.specs.NextStop.{refused_stop, stop_in_store, stop_in_reference, stop_place, stop_start, stop_reply, place_reply, StopFound, StopPart, OneCall}
use Rattle.call_look.specs.declared.routing.StopPlace.{StopPlace}
use Rattle.call_look.proofs.Taking.{lists-kept}
use Rattle.table_view.proofs.Steps.{refused-step, accepted-step, step_call, row_gives, row-passes, rows_end, exporter-tested, exporter-in-row}

-- ---- the reference, by the place of its list

module _ (reference : List ℕ) {x : Place} (own : x ≡ tail_place reference) where
  own-number : x.answer ≡ reference_answer reference
  own-number = ap (λ (p : Place). p.answer) own ∙ tail-number reference

  -- its refusal is passed on
  reference-refused : (e : Entries) → (x.answer ≡ 0 → ⊥) → x.answer ≡ number (Call.looking (Look.next_stop reference)) e
  unfolding number refusals
  reference-refused e bad =
      let n : ℕ = reference_answer reference in
      own-number ∙ row_gives (differ n 0) n _ refl (ne-differ n 0 (λ z. bad (own-number ∙ z)))

  module _ (good : x.answer ≡ 0) where
    -- it is accepted
    good-reference : reference_answer reference ≡ 0
    good-reference = sym own-number ∙ good

    -- the row of the form that is read is left
    form-left : (e : Entries) {r : Reference} → r ≡ reference_at reference → number (Call.looking (Look.next_stop reference)) e ≡ order (is_custom r.flags gives 14 ∷ [])
    unfolding number refusals
    form-left e {r} read =
        let n : ℕ = reference_answer reference in
        row-passes (differ n 0) n _ refl (eq-differ n 0 good-reference)
        ∙ rw (ap (λ (r : Reference). r.flags) read ∙ flags-at reference (accepted reference good-reference).form)

-- ---- the list of a live exporter, in the store

module _ (ws s : List ℕ) (i : ℕ) (live : i < exporter_count ws) (kept : lists_kept (view (memory ws s)) ≡ true) where
  bindings-size : length (get_or (exporters_of ws s) i no_exporter).bindings ≡ list_length (list_from s i)
  bindings-size = rw (exporter-at ws s i no_exporter live) (list-size ws s kept i live)

  -- it lies in the store
  list-within : list_start s i + length (get_or (exporters_of ws s) i no_exporter).bindings ≤ length s
  list-within = rw (bindings-size, ← start-next s i) (list-ends ws s kept i live)

  pub start-within : list_start s i ≤ length s
  start-within = let l = list-within in omega arith

  pub end_fits : Whole s → (from : ℕ) (list : List ℕ) → from ≡ list_start s i → list ≡ (get_or (exporters_of ws s) i no_exporter).bindings → from + length list < 18446744073709551616
  end_fits whole from list starts held = let l = list-within in rw (starts, held) (omega arith)

  list-bytes : take (list_start s i + length (get_or (exporters_of ws s) i no_exporter).bindings - list_start s i) (list_from s i) ≡ (get_or (exporters_of ws s) i no_exporter).bindings
  list-bytes = rw (add-sub_cancel_left, bindings-size, exporter-at ws s i no_exporter live)

-- ---- the place

module _ (ws s reference : List ℕ) where
  -- a refusal
  pub refused-stop : (n : ℕ) → (n ≡ 0 → ⊥)
      → Performed (Call.looking (Look.next_stop reference)) (memory ws s) (refused_reply n (Call.looking (Look.next_stop reference)) (view (memory ws s))) (memory ws s)
      → StopFound (memory ws s) reference (refused_stop n)
  unfolding refused_reply results stop_place
  refused-stop n z h =
      let e : (reply_to view (Call.looking (Look.next_stop reference)) (memory ws s)).number ≡ n = sym (ap (λ (r : Reply). r.number) h.answered) in
      record { performed = h; place = rw (e, ne_eqb n 0 z); within = (omega arith, omega arith) }

  module _ (h : Performed (Call.looking (Look.next_stop reference)) (memory ws s) (accepted_reply (Call.looking (Look.next_stop reference)) (view (memory ws s))) (memory ws s)) where
    accepted-number : (reply_to view (Call.looking (Look.next_stop reference)) (memory ws s)).number ≡ 0
    unfolding accepted_reply
    accepted-number = sym (ap (λ (r : Reply). r.number) h.answered)

    -- the OXID is live: its exporter's list
    store-stop : {i : ℕ} → i ≡ exporter_row (view (memory ws s)) (oxid_of reference) → is_live_exporter (view (memory ws s)) (oxid_of reference) ≡ true
        → i < exporter_count ws → lists_kept (view (memory ws s)) ≡ true → StopFound (memory ws s) reference (stop_in_store (memory ws s) i)
    unfolding accepted_reply results stop_place
    store-stop {i} row live l kept =
        record {
          performed = rw (list-bytes ws s i l kept, exporter-in-row ws s (oxid_of reference) row) (rw live at h);
          place = rw (accepted-number, live, ← row);
          within = (omega arith, list-within ws s i l kept);
        }

    -- it is not: the reference's own list
    reference-stop : reference_answer reference ≡ 0 → is_live_exporter (view (memory ws s)) (oxid_of reference) ≡ false
        → StopFound (memory ws s) reference (stop_in_reference (tail_place reference))
    unfolding accepted_reply results stop_place
    reference-stop good gone =
        record {
          performed = rw (tail-number reference ∙ good, tail-bytes reference) (rw gone at h);
          place = rw (accepted-number, gone);
          within = tail_within reference;
        }

-- ---- the step, by what was read and found

module _ (ws s reference : List ℕ) (t : SoundTable (memory ws s)) (x : Place) (own : x ≡ tail_place reference) where
  pub bad-reference : (x.answer ≡ 0 → ⊥) → StopFound (memory ws s) reference (refused_stop x.answer)
  bad-reference bad = refused-stop ws s reference _ bad (step_call refl t (refused-step _ (reference-refused reference own _ bad) bad))

  module _ (good : x.answer ≡ 0) (r : Reference) (read : r ≡ reference_at reference) where
    pub custom-form : r.flags ≡ 4 → StopFound (memory ws s) reference (refused_stop 14)
    custom-form h =
        refused-stop ws s reference 14 (λ z. omega arith)
        (step_call refl t (refused-step 14 (row_gives _ _ _ (form-left reference own good _ read) (eq-eqb _ _ h)) (λ z. omega arith)))

    module _ (other : r.flags ≡ 4 → ⊥) (n i : ℕ) (counted : n ≡ exporter_count ws) where
      done : Performed (Call.looking (Look.next_stop reference)) (memory ws s) (accepted_reply (Call.looking (Look.next_stop reference)) (view (memory ws s))) (memory ws s)
      unfolding next
      done = step_call refl t (accepted-step 0 (rows_end (row-passes _ _ _ (form-left reference own good _ read) (ne_eqb _ _ other))) refl _ refl)

      module _ (row : Holds (λ e. i ≡ exporter_row e r.block.oxid.0) ws) where
        found : i ≡ exporter_row (view (memory ws s)) (oxid_of reference)
        found = row s ∙ ap (λ (r : Reference). exporter_row (view (memory ws s)) r.block.oxid.0) read

        tested : is_live_exporter (view (memory ws s)) (oxid_of reference) ≡ ltb i n
        tested = exporter-tested ws s _ found counted

      pub live-exporter : i < n → Holds (λ e. i ≡ exporter_row e r.block.oxid.0) ws → StopFound (memory ws s) reference (stop_in_store (memory ws s) i)
      live-exporter l row = store-stop ws s reference done (found row) (tested row ∙ lt-ltb _ _ l) (omega arith) (lists-kept ws s t)

      pub no-exporter : n ≤ i → Holds (λ e. i ≡ exporter_row e r.block.oxid.0) ws → StopFound (memory ws s) reference (stop_in_reference x)
      no-exporter l row = rw own (reference-stop ws s reference done (good-reference reference own good) (tested row ∙ le-ltb _ _ l))

-- the part of a place that is answered
pub found_part : {m : Memory} {reference : List ℕ} {p : StopPlace} → StopFound m reference p → (store bytes : ℕ × ℕ)
    → StopPart m reference store bytes (stop_start p store bytes) (place_reply p m.store reference).part
found_part found store bytes =
    record { bytes = ap (λ (r : Reply). r.part) found.performed.answered; begins = ap (λ (q : StopPlace). stop_start q store bytes) found.place }

-- ---- the number and the part, as one call

-- a place is in the store where nothing is refused and the OXID is live
in-store : (m : Memory) (reference : List ℕ) (k : ℕ) → k ≡ (reply_to view (Call.looking (Look.next_stop reference)) m).number
    → (stop_place m reference).in_store ≡ cond (eqb k 0) (is_live_exporter (view m) (oxid_of reference)) false
unfolding stop_place
in-store m reference k e = rw (sym e) (picked (eqb k 0) (is_live_exporter (view m) (oxid_of reference)))
  where
    picked : (a b : Bool) → (cond a (cond b (stop_in_store m (first_index (eqb (oxid_of reference)) (oxids (view m)))) (stop_in_reference (tail_place reference))) (refused_stop k)).in_store ≡ cond a b false
    picked true true = refl
    picked true false = refl
    picked false b = refl

module _ (m : Memory) (reference : List ℕ) {n : ℕ} {part : List ℕ} (e : n ≡ (reply_to view (Call.looking (Look.next_stop reference)) m).number)
    (f : part ≡ (reply_to view (Call.looking (Look.next_stop reference)) m).part) where
  -- they are those of the reply with which the call is performed, and so is the slice
  as-performed : {k : ℕ} {i : Bool} {b : List ℕ} → Performed (Call.looking (Look.next_stop reference)) m (stop_reply k i b) m → (stop_place m reference).in_store ≡ i
      → Performed (Call.looking (Look.next_stop reference)) m (stop_reply n (stop_place m reference).in_store part) m
  as-performed h p = rw (p, e, f, ← h.answered) h

  by-outcome : (sound accepted : Bool) → sound_memory m ≡ sound → eqb (number (Call.looking (Look.next_stop reference)) (view m)) 0 ≡ accepted
      → Performed (Call.looking (Look.next_stop reference)) m (stop_reply n (stop_place m reference).in_store part) m
  unfolding next refused_reply accepted_reply results
  by-outcome false a s t =
      let h = unsound view (Call.looking (Look.next_stop reference)) m refl s in
      as-performed {i = false} h (in-store m reference 1 (ap (λ (r : Reply). r.number) h.answered))
  by-outcome true false s t =
      let h : Performed (Call.looking (Look.next_stop reference)) m (refused_reply (number (Call.looking (Look.next_stop reference)) (view m)) (Call.looking (Look.next_stop reference)) (view m)) m =
      step_call refl (table-fields view m s) (refused-step _ refl (eqb-false _ _ t)) in
      as-performed {i = false} h (in-store m reference _ (ap (λ (r : Reply). r.number) h.answered) ∙ rw t)
  by-outcome true true s t =
      let h : Performed (Call.looking (Look.next_stop reference)) m (accepted_reply (Call.looking (Look.next_stop reference)) (view m)) m =
      step_call refl (table-fields view m s) (accepted-step _ refl (eqb-true _ _ t) m refl) in
      as-performed h (in-store m reference 0 (ap (λ (r : Reply). r.number) h.answered))

pub one-call : OneCall
one-call m reference n part e f = by-outcome m reference e f (sound_memory m) (eqb (number (Call.looking (Look.next_stop reference)) (view m)) 0) refl refl
