-- `call_references::add_at`: a client that is none is refused, a row that is not live, then a sum that is too large; else the counts are stored.
use Prim.Native.Nat.{ℕ, ◌+◌, ◌^◌, ◌<◌, ◌≤◌}
use mathlib.Core.Path.{◌≡◌, refl, sym, ap, ◌∙◌}
use mathlib.Core.Bool.{true, false}
use mathlib.Core.List.{List, [], ◌∷◌}
use native.Mathlib.Omega.{arith}
use borrow.Author.Tests.{lt-ltb, le-ltb, le-leb, lt-leb}
use lib.ListN.{length, get_or, set}
use Rattle.kinds.specs.Refusals.{order, ◌gives◌}
use Rattle.kinds.specs.declared.Guid.{Guid}
use Rattle.rules.specs.Entries.{Interface, Entries, public_of, private_of, with_interfaces, at_counts, interface_row}
use Rattle.rules.specs.Calls.{Call, Edit, numbered}
use Rattle.rules.specs.Rules.{no_interface, interface_of, passes_count, refusals, number, next, results, refused_reply, accepted_reply}
use Rattle.rules.proofs.ByRow.{interface-row}
use Rattle.rules.proofs.CountRows.{add_row}
use Rattle.table_view.specs.View.{interface_count, interfaces_of, memory, view, Holds, SoundTable, Stepped}
use Rattle.table_view.specs.Counts.{counts_at}
use Rattle.table_edit.specs.Edits.{Became, change_interface}
use Rattle.table_view.specs.declared.find.InterfaceCounts.{InterfaceCounts}
use Rattle.table_view.proofs.LiveRows.{interfaces-length}
use Rattle.table_view.proofs.Steps.{refused-step, accepted-step, row_gives, row-passes, gone-gives, live-passes, rows_end, two-rows, interface-tested}
use Rattle.call_references.proofs.TwoCounts.{counts-as}
use Rattle.call_references.proofs.add_at.Goals as goal

-- a count that passes 4,294,967,295, and one that does not
passes_count_lem : (n : ℕ) → 4294967295 < n → passes_count n ≡ true
passes_count_lem n h = le-leb (2 ^ 32) n (omega arith)

within_count : (n : ℕ) → n ≤ 4294967295 → passes_count n ≡ false
within_count n h = lt-leb (2 ^ 32) n (omega arith)

module _ (ws s : List ℕ) (c : ℕ) (i : Guid) (p q : ℕ) where
  abbrev call : Call
  call = Call.editing (Edit.add c i p q)

  abbrev e : Entries
  e = view (memory ws s)

  abbrev Refused : ℕ → Type 0
  Refused n = Stepped call (memory ws s) (numbered n) (memory ws s)

  no-client : 7 < c → Refused 20
  unfolding refused_reply results number refusals
  no-client h = refused-step 20 (row_gives _ _ _ refl (lt-ltb 7 c h)) (λ z. omega arith)

  -- the client, and the row that was found, of as many as were counted
  module _ (client : c ≤ 7) (n : ℕ) (counted : n ≡ interface_count ws) (r : ℕ) where
    no-interface : n ≤ r → Holds (λ f. r ≡ interface_row f i) ws → Refused 6
    unfolding refused_reply results number refusals
    no-interface h found =
        refused-step 6 (gone-gives (interface-tested ws s i (found s) counted) _ _ (row-passes _ _ _ refl (le-ltb 7 c client)) h) (λ z. omega arith)

    -- what it holds
    module _ (live : r < n) (found : Holds (λ f. r ≡ interface_row f i) ws) (h : InterfaceCounts) (held : h ≡ counts_at ws r c) where
      -- the rows of the sums are left
      sums : number call e ≡ order (passes_count (h.public + p) gives 8 ∷ passes_count (h.private + q) gives 8 ∷ [])
      unfolding number refusals
      sums =
          live-passes (interface-tested ws s i (found s) counted) _ _ (row-passes _ _ _ refl (le-ltb 7 c client)) live
          ∙ two-rows (passes_count (public_of (interface_of e i) + p)) (passes_count (private_of c (interface_of e i) + q)) 8 []
          ∙ rw (interface-row e i, ← found s, held)

      -- the sums in the row are the entries that the rules say
      stored : SoundTable (memory ws s) → change_interface r (at_counts c (λ (m : ℕ). h.public + p) (λ (m : ℕ). h.private + q)) e ≡ next call e
      stored t =
          let l = interfaces-length ws in
          let f = found s in
          let b : interface_row e i < length (interfaces_of ws) = omega arith in
          let z = counts-as c (h.public + p) (h.private + q) (get_or (interfaces_of ws) r no_interface) (λ (m : ℕ). m + p) (λ (m : ℕ). m + q) (rw held) (rw held) in
          ap (λ (x : Interface). with_interfaces (set (interfaces_of ws) r x) e) z ∙ rw f (sym (add_row e t.entries c i p q b))

      public-passes : 4294967295 < h.public + p → Refused 8
      unfolding refused_reply results
      public-passes a = refused-step 8 (row_gives _ _ _ sums (passes_count_lem _ a)) (λ z. omega arith)

      module _ (within : h.public + p ≤ 4294967295) where
        private-passes : 4294967295 < h.private + q → Refused 8
        unfolding refused_reply results
        private-passes a = refused-step 8 (row_gives _ _ _ (row-passes _ _ _ sums (within_count _ within)) (passes_count_lem _ a)) (λ z. omega arith)

        added : h.private + q ≤ 4294967295 → SoundTable (memory ws s) → (ws' : List ℕ)
            → Became (change_interface r (at_counts c (λ (m : ℕ). h.public + p) (λ (m : ℕ). h.private + q))) ws ws'
            → Stepped call (memory ws s) (numbered 0) (memory ws' s)
        unfolding accepted_reply results
        added a t ws' b =
            accepted-step 0 (rows_end (row-passes _ _ _ (row-passes _ _ _ sums (within_count _ within)) (within_count _ a))) refl _ (b s ∙ stored t)

pub returns-then-client-gt-LAST_CLIENT : goal.returns-then-client-gt-LAST_CLIENT
returns-then-client-gt-LAST_CLIENT c = search no-client

pub returns-then-interface_count-i : goal.returns-then-interface_count-i
returns-then-interface_count-i c = search no-interface

pub returns-in_default : goal.returns-in_default
returns-in_default c =
    let h : InterfaceCounts = c.interface_counts-counts.result in
    let passes = c.in_default.ensures in
    let over : 4294967295 < h.public + c.args.public = omega arith in
    search public-passes

pub returns-in_default-checked_add : goal.returns-in_default-checked_add
returns-in_default-checked_add c =
    let h : InterfaceCounts = c.interface_counts-counts.result in
    let fits = c.in-Some.ensures.0 in
    let within : h.public + c.args.public ≤ 4294967295 = omega arith in
    let passes = c.in_default-checked_add.ensures in
    let over : 4294967295 < h.private + c.args.private = omega arith in
    search private-passes

pub returns : goal.returns
returns c =
    let h : InterfaceCounts = c.interface_counts-counts.result in
    let p = c.in-Some.ensures in
    let q = c.in-Some-checked_add.ensures in
    let within : h.public + c.args.public ≤ 4294967295 = omega arith in
    let within₂ : h.private + c.args.private ≤ 4294967295 = omega arith in
    let stored = rw (p.1, q.1) at c.set_counts.ensures in
    search added
