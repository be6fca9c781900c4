-- The resolve with requested protocols: too many, a resolve of what the filter leaves, and the marked towers in the place of the protocols.
use Prim.Native.Nat.{ℕ, ◌/◌, ◌<◌, ◌≤◌}
use mathlib.Core.Path.{◌≡◌, refl, sym, ap, ◌∙◌}
use mathlib.Core.Bool.{false}
use mathlib.Core.List.{List}
use mathlib.Core.Logic.{⊎_elim}
use native.Mathlib.Omega.{arith}
use borrow.Author.Tests.{leb-true, lt-ltb, le-ltb, eq-eqb, ne_eqb}
use lib.Dec.{eqb}
use lib.ListN.{length, take, get_or, length-take}
use Rattle.kinds.specs.declared.Guid.{Guid}
use Rattle.fields.specs.Fields.{stored}
use Rattle.bindings.specs.Bindings.{words, list_length, list_answer, split}
use Rattle.bindings.specs.Filter.{filtered, write_filtered, words_in, towers_of, Marks}
use Rattle.fields.specs.declared.Written.{Written}
use Rattle.bindings.proofs.ListAnswers.{accepted, front-list}
use Rattle.bindings.proofs.FilterTowers.{filtered-by-towers}
use Rattle.bindings.proofs.Marks.{words-length}
use Rattle.bindings.proofs.FilterWriting.{answer-room, answer-done, write-refused, write_done}
use Rattle.lists.proofs.Tests.{below_or_not, and_right}
use Rattle.lists.proofs.Lists.{every-at}
use Rattle.rules.specs.Entries.{Entries, Exporter, exporter_row}
use Rattle.rules.specs.Calls.{Call, Look, Reply}
use Rattle.rules.specs.Contract.{Memory}
use Rattle.rules.specs.Rules.{no_exporter, exporter_of, too_many, refusals, number, next, results, accepted_reply, refused_reply, reply}
use Rattle.table_view.specs.View.{exporter_count, list_from, exporters_of, memory, view, Holds, SoundTable, Stepped}
use Rattle.table_view.proofs.KeptLists.{front_kept}
use Rattle.table_view.proofs.LiveRows.{exporter-at, exporters-length}
use Rattle.call_look.specs.Replies.{resolve_reply}
use Rattle.table_view.proofs.Steps.{refused-step, row_gives, row-passes, exporter-in-row}
use Rattle.call_look.proofs.Taking.{lists-kept}
use Rattle.call_look.proofs.resolving.Resolving.{none, Resolves, gone, no_room, copied}

-- the list of an exporter that was found
module _ (ws s : List ℕ) (t : SoundTable (memory ws s)) (n r : ℕ) (counted : n ≡ exporter_count ws) (live : r < n)
    (list : List ℕ) (held : list ≡ (get_or (exporters_of ws s) r no_exporter).bindings) where
  -- it is accepted
  pub good-list : list_answer list ≡ 0
  good-list =
      let l : r < exporter_count ws = omega arith in
      rw (held, exporter-at ws s r no_exporter l) (front-list (list_from s r) (front_kept ws s (lists-kept ws s t) r l))

  -- and not longer than any may be
  short-list : length list ≤ 2048
  short-list =
      let n = exporters-length ws s in
      let x : Exporter = get_or (exporters_of ws s) r no_exporter in
      rw held (leb-true _ _ (and_right (eqb (list_answer x.bindings) 0) _ (every-at _ (exporters_of ws s) no_exporter r (omega arith) (lists-kept ws s t))))

  -- the words before its security part are at most as many as a list may have
  pub towers-fit : split list ≤ 1024
  unfolding list_length
  towers-fit =
      let h = accepted list good-list in
      let l = short-list in
      omega arith

-- the filter's answer for an accepted list: 0 where there is room
module _ (protocols list : List ℕ) (n : ℕ) {w : Written} (e : w ≡ write_filtered protocols list n) (good : list_answer list ≡ 0) where
  filter-room : w.answer ≡ 0 → length (filtered protocols list) ≤ n
  filter-room z =
      ⊎_elim
      (λ l.
      let q : w.answer ≡ 15 = ap (λ (x : Written). x.answer) (e ∙ sym (write-refused protocols list n 15 (answer-room protocols list n good l) (λ y. omega arith))) in
      absurd (omega arith))
      (λ l. l)
      (below_or_not n (length (filtered protocols list)))

  filter-short : (w.answer ≡ 0 → ⊥) → n < length (filtered protocols list)
  filter-short bad =
      ⊎_elim (λ l. l)
      (λ l. absurd (bad (ap (λ (x : Written). x.answer) (e ∙ sym (write_done protocols list n (answer-done protocols list n good l))))))
      (below_or_not n (length (filtered protocols list)))

  -- a list that keeps the rules is refused by 15
  filter-number : (w.answer ≡ 0 → ⊥) → w.answer ≡ 15
  filter-number bad =
      ap (λ (x : Written). x.answer) (e ∙ sym (write-refused protocols list n 15 (answer-room protocols list n good (filter-short bad)) (λ y. omega arith)))

  filter-length : w.answer ≡ 0 → w.length ≡ length (filtered protocols list)
  filter-length z = ap (λ (x : Written). x.length) (e ∙ sym (write_done protocols list n (answer-done protocols list n good (filter-room z))))

-- within the limit it is a resolve of what the filter leaves
filtering : (protocols : List ℕ) → too_many protocols ≡ false → (x : ℕ) (buffer : List ℕ) (e : Entries)
    → Resolves (Call.looking (Look.resolve_filtered x protocols buffer)) x (filtered protocols) buffer e
unfolding number refusals refused_reply accepted_reply results next
filtering protocols few x buffer e = record { rows = row-passes (too_many protocols) 10 _ refl few; refused = λ k. refl; accepted = refl; looks = refl }

module _ (ws s protocols buffer : List ℕ) (x : ℕ) where
  -- more protocols than the limit
  pub too_many_lem : 65535 < length protocols → Stepped (Call.looking (Look.resolve_filtered x protocols buffer)) (memory ws s) (resolve_reply (none 10) buffer) (memory ws s)
  unfolding number refusals refused_reply results
  too_many_lem h = refused-step 10 (row_gives (too_many protocols) 10 _ refl (lt-ltb _ _ h)) (λ z. omega arith)

  module _ (few : too_many protocols ≡ false) (n r : ℕ) (counted : n ≡ exporter_count ws) where
    pub filtered-gone : n ≤ r → Holds (λ e. r ≡ exporter_row e x) ws → Stepped (Call.looking (Look.resolve_filtered x protocols buffer)) (memory ws s) (resolve_reply (none 4) buffer) (memory ws s)
    filtered-gone = gone (filtering protocols few) ws s buffer x n r counted

    -- by the filter's answer
    module _ (live : r < n) (row : Holds (λ e. r ≡ exporter_row e x) ws) (t : SoundTable (memory ws s))
        (list : List ℕ) (held : list ≡ (get_or (exporters_of ws s) r no_exporter).bindings) (w : Written) (e : w ≡ write_filtered protocols list (length buffer))
        (after : List ℕ) (put : after ≡ stored w.answer (filtered protocols list) buffer) where
      good : list_answer list ≡ 0
      good = good-list ws s t n r counted live list held

      pub filter-refuses : (w.answer ≡ 0 → ⊥) → Stepped (Call.looking (Look.resolve_filtered x protocols buffer)) (memory ws s) (resolve_reply (none w.answer) after) (memory ws s)
      filter-refuses bad = rw (filter-number protocols list (length buffer) e good bad, put, ne_eqb _ 0 bad) (no_room (filtering protocols few) ws s buffer x n r counted live row list held (filter-short protocols list (length buffer) e good bad))

      pub filter-writes : w.answer ≡ 0 → (u : Guid) → ((s : List ℕ) → u ≡ (get_or (exporters_of ws s) r no_exporter).unknown)
          → Stepped (Call.looking (Look.resolve_filtered x protocols buffer)) (memory ws s) (resolve_reply (record { answer = 0; length = w.length; unknown = u }) after) (memory ws s)
      filter-writes ok u unknown =
          rw (filter-length protocols list (length buffer) e good ok)
          (copied (filtering protocols few) ws s buffer x n r counted live row list held (filter-room protocols list (length buffer) e good ok) after u (put ∙ rw (eq-eqb _ 0 ok)) unknown)

-- two requests within the limit that keep the same of the list have one reply
alike-step : (m m' : Memory) (x : ℕ) (p q buffer : List ℕ) {r : Reply} → too_many p ≡ false → too_many q ≡ false
    → filtered p (exporter_of (view m) x).bindings ≡ filtered q (exporter_of (view m) x).bindings
    → Stepped (Call.looking (Look.resolve_filtered x p buffer)) m r m' → Stepped (Call.looking (Look.resolve_filtered x q buffer)) m r m'
unfolding reply number refusals accepted_reply refused_reply results next
alike-step m m' x p q buffer few few' same s = record { answered = s.answered ∙ replies; kept = s.kept; became = s.became }
  where
    replies : reply (Call.looking (Look.resolve_filtered x p buffer)) (view m) ≡ reply (Call.looking (Look.resolve_filtered x q buffer)) (view m)
    replies = rw (few, few', same)

-- the requested towers of the list that was found, in the place of the protocols that are marked
pub towers-alike : (ws s buffer protocols towers : List ℕ) (x k : ℕ) (q : Reply)
    → Stepped (Call.looking (Look.resolve_filtered x (take k towers) buffer)) (memory ws s) q (memory ws s)
    → (n r : ℕ) → n ≡ exporter_count ws → r < n → Holds (λ e. r ≡ exporter_row e x) ws
    → (list marks : List ℕ) → list ≡ (get_or (exporters_of ws s) r no_exporter).bindings → too_many protocols ≡ false → Marks marks protocols
    → ((ps : List ℕ) → Marks marks ps → take k towers ≡ towers_of ps (words list 4 (split list))) → k ≤ length towers → length towers ≡ 1024
    → Stepped (Call.looking (Look.resolve_filtered x protocols buffer)) (memory ws s) q (memory ws s)
towers-alike ws s buffer protocols towers x k q searched n r counted live row list marks held few marked taken fits room =
    let size = length-take k towers in
    let found : list ≡ (exporter_of (view (memory ws s)) x).bindings = held ∙ ap (λ (p : Exporter). p.bindings) (exporter-in-row ws s x (row s)) in
    alike-step (memory ws s) (memory ws s) x (take k towers) protocols buffer (le-ltb 65535 (length (take k towers)) (omega arith)) few
    (rw (← found) (ap (λ (ps : List ℕ). filtered ps list) (taken protocols marked) ∙ filtered-by-towers protocols list)) searched

-- protocols in bytes
module _ (bytes : List ℕ) where
  pub few_words : length bytes / 2 ≤ 65535 → too_many (words_in bytes) ≡ false
  few_words l = le-ltb 65535 (length (words_in bytes)) (rw (words-length bytes) l)

  pub too-many-words : (ws s buffer : List ℕ) (x : ℕ) → 65535 < length bytes / 2
      → Stepped (Call.looking (Look.resolve_filtered x (words_in bytes) buffer)) (memory ws s) (resolve_reply (none 10) buffer) (memory ws s)
  too-many-words ws s buffer x l = too_many_lem ws s (words_in bytes) buffer x (rw (words-length bytes) l)
