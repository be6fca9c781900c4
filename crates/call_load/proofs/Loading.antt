-- Loading a snapshot: loops over bytes and words, the snapshot of the table that was read, and the call.
use Prim.Native.Nat.{ℕ, ◌^◌, ◌<◌, ◌≤◌}
use mathlib.Core.Path.{◌≡◌, refl, sym, ap, ◌∙◌}
use mathlib.Core.Bool.{Bool, true, false, ◌&&◌}
use mathlib.Core.List.{List, [], ◌∷◌}
use native.Mathlib.Omega.{arith}
use borrow.Author.Tests.{le-ltb, lt-ltb}
use lib.Dec.{eqb, ltb}
use lib.Pointwise.{pointwise}
use lib.ListN.{length, get_or, take, drop, length-append}
use lib.Seq.{take_at}
use Rattle.kinds.specs.Refusals.{order}
use Rattle.kinds.proofs.Refusing.{true-false, same_test}
use Rattle.fields.specs.Fields.{Bytes}
use Rattle.fields.specs.declared.Written.{Written}
use Rattle.bindings.specs.Bindings.{same_words}
use Rattle.bindings.proofs.Filtering.{same_lists}
use Rattle.lists.proofs.Lists.{every-from-at}
use Rattle.rules.specs.Entries.{Entries}
use Rattle.rules.specs.Calls.{Call, Start, Look, Reply}
use Rattle.rules.specs.Sound.{sound}
use Rattle.rules.specs.Rules.{refusals, number, next, results, refused_reply, accepted_reply, reply, fronted}
use Rattle.rules.specs.Contract.{Memory, Whole, reply_to}
use Rattle.rules.specs.Snapshot.{snapshot_bytes, entries_of, placed, is_snapshot}
use Rattle.rules.specs.Swapping.{longest_snapshot}
use Rattle.rules.proofs.SoundLaws.{clause-at, table-made}
use Rattle.rules.proofs.Performing.{refused-number, accepted, fit-lengths}
use Rattle.rules.proofs.Stepping.{refused-step}
use Rattle.rules.proofs.Swapping.{snapshot-fields, snapshot-made}
use Rattle.rules.proofs.SnapshotSizes.{snapshot-inside}
use Rattle.table_view.specs.View.{memory, view, sound_memory, SoundTable, Stepped, Performed}
use Rattle.table_view.specs.Fitting.{Lent}
use Rattle.table_view.proofs.Fitting.{view-fits}
use Rattle.call_save.specs.Replies.{written_reply}
use Rattle.snapshot_reader.specs.ReadSections.{TableRead}
use Rattle.snapshot_reader.proofs.sections.Refused.{fails}
use Rattle.call_load.specs.Loading.{SnapshotRead}

-- ---- the same bytes

pub by-places : (a b : List ℕ) → pointwise eqb a b ≡ same_words a b
unfolding same_words
by-places [] [] = refl
by-places [] (y ∷ ys) = refl
by-places (x ∷ xs) [] = refl
by-places (x ∷ xs) (y ∷ ys) = ap (λ (t : Bool). eqb x y && t) (by-places xs ys)

-- ---- the snapshot of the table that was read

-- what is lent to a function: lists of the machine's words and bytes
pub lent : (ws store : List ℕ) → SoundTable (memory ws store) → ((i : ℕ) → get_or ws i 0 < 2 ^ 64) → Bytes store → Lent (memory ws store)
lent ws store t w b =
    record {
      words = t.words;
      store = t.store;
      words_fit = every-from-at (λ (x : ℕ). ltb x (2 ^ 64)) 0 ws (λ j h. lt-ltb (get_or ws j 0) (2 ^ 64) (w j));
      bytes = b;
    }

-- a buffer that is long enough holds it at the front
module _ (m : Memory) (t : SoundTable m) (l : Lent m) (b b' : List ℕ) (r : Written) (size : length b ≡ longest_snapshot)
    (w : Stepped (Call.looking (Look.write_snapshot b)) m (written_reply r b') m) where
  abbrev bytes : List ℕ
  bytes = snapshot_bytes (view m)

  fits_in : length bytes ≤ length b
  fits_in = let i = snapshot-inside (view m) t.entries (view-fits m l) in omega arith

  answered : written_reply r b' ≡ accepted_reply (Call.looking (Look.write_snapshot b)) (view m)
  unfolding reply number refusals order
  answered = w.answered ∙ rw (le-ltb (length b) (length bytes) fits_in)

  pub written-done : r.answer ≡ 0
  unfolding accepted_reply
  written-done = ap (λ (x : Reply). x.number) answered

  pub written-length : r.length ≡ length bytes
  unfolding accepted_reply results
  written-length = ap (λ (x : Reply). get_or x.values 0 0) answered

  written-buffer : b' ≡ fronted bytes b
  unfolding accepted_reply results
  written-buffer = ap (λ (x : Reply). x.buffer) answered

  pub written-inside : r.length ≤ length b'
  written-inside =
      let e = ap length written-buffer ∙ length-append bytes (drop (length bytes) b) in
      let n = written-length in
      omega arith

  pub written-own : take r.length b' ≡ bytes
  written-own = rw (written-length, written-buffer) (take_at bytes (drop (length bytes) b) (length bytes) refl)

-- ---- what is accepted

-- the table was not read
pub not-read : (s : List ℕ) (e : Entries) (r : Bool) → TableRead s r e → r ≡ false → SnapshotRead s false e
not-read s e r h f = record { accepted = sym (h.refused f); entries = λ t. absurd (true-false (sym t)) }

module _ (s ws store : List ℕ) (read : Bool) (h : TableRead s read (view (memory ws store))) (y : read ≡ true) where
  abbrev e : Entries
  e = view (memory ws store)

  same : e ≡ entries_of s
  same = h.entries y

  -- it is not sound
  pub not_sound : Whole ws → Whole store → sound_memory (memory ws store) ≡ false → SnapshotRead s false e
  not_sound w b f =
      record {
        accepted =
            sym
            (fails (is_snapshot s)
            (λ t.
            let z = ap sound same ∙ (snapshot-fields s t).sound in
            true-false (sym (table-made view (memory ws store) (record { words = w; store = b; entries = z })) ∙ f)));
        entries = λ t. absurd (true-false (sym t));
      }

  -- it is: whether the bytes are its snapshot decides
  pub read-sound : SoundTable (memory ws store) → Lent (memory ws store) → Bytes s → (r : Bool) → r ≡ same_words (snapshot_bytes e) s → SnapshotRead s r e
  unfolding is_snapshot
  read-sound t l b r q =
      record {
        accepted =
            q
            ∙ same_test (same_words (snapshot_bytes e) s) (is_snapshot s)
            (λ z.
            snapshot-made s
            (record {
              bytes = b;
              places = ap placed (sym same) ∙ (view-fits (memory ws store) l).places;
              sound = ap sound (sym same) ∙ t.entries;
              own = ap snapshot_bytes (sym same) ∙ same_lists (snapshot_bytes e) s z;
            }))
            (λ z. ap (λ (x : Entries). same_words (snapshot_bytes x) s) same ∙ clause-at _ 3 z);
        entries = λ z. same;
      }

-- ---- the call

module _ (s : List ℕ) (m : Memory) (w : Whole m.words) (b : Whole m.store) where
  -- no snapshot
  pub load-refused : is_snapshot s ≡ false → Performed (Call.starting (Start.load_snapshot s)) m (refused_reply 23 (Call.starting (Start.load_snapshot s)) (view m)) m
  unfolding reply_to number refusals order
  load-refused f =
      let st = refused-step view (Call.starting (Start.load_snapshot s)) m 23 (rw f) (omega arith) in
      record {
        answered = st.answered ∙ rw (fit-lengths view (Call.starting (Start.load_snapshot s)) m refl w b);
        kept = st.kept;
        sound_after = λ z. absurd (omega (arith, sym (refused-number 23 (Call.starting (Start.load_snapshot s)) (view m)) ∙ z));
        became = st.became;
      }

  -- a snapshot, and the words and bytes of a table that it was read into
  pub load-accepted : (ws store : List ℕ) → is_snapshot s ≡ true → Whole ws → Whole store → view (memory ws store) ≡ entries_of s
      → Performed (Call.starting (Start.load_snapshot s)) m (accepted_reply (Call.starting (Start.load_snapshot s)) (view m)) (memory ws store)
  unfolding number refusals order next
  load-accepted ws store t x y v =
      accepted view (Call.starting (Start.load_snapshot s)) m (memory ws store) (fit-lengths view (Call.starting (Start.load_snapshot s)) m refl w b) (rw t)
      (table-made view (memory ws store) (record { words = x; store = y; entries = ap sound v ∙ (snapshot-fields s t).sound }))
      v
