-- A resolve, plain or with requested protocols: refused where the exporter is not live, then where what is wanted of its list does not fit; else that is written.
use Prim.Native.Nat.{ℕ, ◌<◌, ◌≤◌}
use mathlib.Core.Path.{◌≡◌, refl, sym, ap, ◌∙◌}
use mathlib.Core.Bool.{not}
use mathlib.Core.List.{List, [], ◌∷◌}
use native.Mathlib.Omega.{arith}
use borrow.Author.Tests.{lt-ltb, le-ltb}
use lib.Dec.{ltb}
use lib.ListN.{length, get_or}
use Rattle.kinds.specs.Refusals.{order, ◌gives◌}
use Rattle.kinds.specs.declared.Guid.{Guid}
use Rattle.fields.specs.Fields.{written}
use Rattle.fields.proofs.Fields.{written-front}
use Rattle.rules.specs.Entries.{Entries, Exporter, exporter_row}
use Rattle.rules.specs.Calls.{Call, Look}
use Rattle.rules.specs.Rules.{no_exporter, is_live_exporter, exporter_of, fronted, refusals, number, next, results, refused_reply, accepted_reply}
use Rattle.table_view.specs.View.{exporter_count, exporters_of, memory, view, Holds, Stepped}
use Rattle.table_view.proofs.Steps.{refused-step, accepted-step, row_gives, row-passes, gone-gives, live-passes, rows_end, exporter-tested, exporter-in-row}
use Rattle.call_look.specs.Replies.{resolve_reply}
use Rattle.call_look.specs.declared.resolving.Resolved.{Resolved}

abbrev pub none : ℕ → Resolved
none k = record { answer = k; length = 0; unknown = record { low = 0; high = 0 } }

-- the call c answers what `wanted` leaves of the list of exporter x, and its IPID
pub record Resolves (c : Call) (x : ℕ) (wanted : List ℕ → List ℕ) (buffer : List ℕ) (e : Entries) : Type 0 where
  pub rows : number c e ≡ order (not (is_live_exporter e x) gives 4 ∷ ltb (length buffer) (length (wanted (exporter_of e x).bindings)) gives 15 ∷ [])
  pub refused : (k : ℕ) → resolve_reply (none k) buffer ≡ refused_reply k c e
  pub accepted :
      let p = exporter_of e x in
      resolve_reply (record { answer = 0; length = length (wanted p.bindings); unknown = p.unknown }) (fronted (wanted p.bindings) buffer) ≡ accepted_reply c e
  pub looks : e ≡ next c e

pub plain : (x : ℕ) (buffer : List ℕ) (e : Entries) → Resolves (Call.looking (Look.resolve x buffer)) x (λ l. l) buffer e
unfolding number refusals refused_reply accepted_reply results next
plain x buffer e = record { rows = refl; refused = λ k. refl; accepted = refl; looks = refl }

-- by the row that was found, of as many as were counted
module _ {call : ℕ → List ℕ → Call} {wanted : List ℕ → List ℕ} (kind : (x : ℕ) (buffer : List ℕ) (e : Entries) → Resolves (call x buffer) x wanted buffer e)
    (ws s buffer : List ℕ) (x n r : ℕ) (counted : n ≡ exporter_count ws) where
  h : Resolves (call x buffer) x wanted buffer (view (memory ws s))
  h = kind x buffer (view (memory ws s))

  refuse : (k : ℕ) → k ≡ number (call x buffer) (view (memory ws s)) → (k ≡ 0 → ⊥) → Stepped (call x buffer) (memory ws s) (resolve_reply (none k) buffer) (memory ws s)
  refuse k e z = rw (h.refused k) (refused-step k e z)

  pub gone : n ≤ r → Holds (λ e. r ≡ exporter_row e x) ws → Stepped (call x buffer) (memory ws s) (resolve_reply (none 4) buffer) (memory ws s)
  gone l row = refuse 4 (gone-gives (exporter-tested ws s x (row s) counted) 4 _ h.rows l) (λ z. omega arith)

  module _ (live : r < n) (row : Holds (λ e. r ≡ exporter_row e x) ws) (list : List ℕ) (held : list ≡ (get_or (exporters_of ws s) r no_exporter).bindings) where
    -- the row of the length is left
    length-left : number (call x buffer) (view (memory ws s)) ≡ order (ltb (length buffer) (length (wanted list)) gives 15 ∷ [])
    length-left =
        live-passes (exporter-tested ws s x (row s) counted) 4 _ h.rows live
        ∙ ap (λ (l : List ℕ). order (ltb (length buffer) (length (wanted l)) gives 15 ∷ [])) (sym (held ∙ ap (λ (p : Exporter). p.bindings) (exporter-in-row ws s x (row s))))

    pub no_room : length buffer < length (wanted list) → Stepped (call x buffer) (memory ws s) (resolve_reply (none 15) buffer) (memory ws s)
    no_room l = refuse 15 (row_gives _ _ _ length-left (lt-ltb _ _ l)) (λ z. omega arith)

    -- it fits, and was written
    pub copied : length (wanted list) ≤ length buffer → (after : List ℕ) (u : Guid) → after ≡ written buffer 0 (wanted list) → ((s : List ℕ) → u ≡ (get_or (exporters_of ws s) r no_exporter).unknown)
        → Stepped (call x buffer) (memory ws s) (resolve_reply (record { answer = 0; length = length (wanted list); unknown = u }) after) (memory ws s)
    copied fits after u put unknown =
        let reply : resolve_reply (record { answer = 0; length = length (wanted list); unknown = u }) after ≡ accepted_reply (call x buffer) (view (memory ws s)) =
        rw (put, written-front buffer (wanted list) fits, held, unknown s, exporter-in-row ws s x (row s)) h.accepted in
        rw reply (accepted-step 0 (rows_end (row-passes _ _ _ length-left (le-ltb _ _ fits))) refl (memory ws s) h.looks)
