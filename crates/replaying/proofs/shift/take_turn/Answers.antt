-- `replaying::shift::take_turn`: the record done, and the tally by the table's sums.
use mathlib.Core.Path.{◌≡◌, refl, sym, ap, ◌∙◌, subst}
use native.Mathlib.Omega.{arith}
use lib.ListN.{length, drop}
use Rattle.tally.specs.Tallies.{wrapped}
use Rattle.table_view.specs.View.{memory}
use Rattle.balance.specs.Sides.{side_of, moved}
use Rattle.recording.specs.Recording.{Sections, code_of, call_of, well_formed, sections_at}
use Rattle.recording.specs.declared.Ends.{Ends}
use Rattle.recording.proofs.Places.{Parts, parts}
use Rattle.replay_tally.specs.Sums.{side_as}
use Rattle.replay_groups.specs.Records.{InOrder, RecordDone}
use Rattle.replay_groups.proofs.Coded.{side-as, in_order_lem, by-places}
use Rattle.replaying.proofs.Telling.{sum_told}
use Rattle.replaying.proofs.shift.take_turn.Goals as goal

pub perform-d-requires : goal.perform-d-requires
perform-d-requires c =
    let placed-there : Parts c.args.s.now c.args.at c.record_ends-e.result = subst (λ (e : Ends). Parts c.args.s.now c.args.at e) (sym c.record_ends-e.ensures) (parts c.requires.1) in
    let p = placed-there in
    (c.requires.0, in_order_lem _ _ _ p, ap well_formed (by-places _ _ _ p) ∙ c.requires.2)

pub overflow_add-from : goal.overflow_add-from
overflow_add-from c =
    let placed-there : Parts c.args.s.now c.args.at c.record_ends-e.result = subst (λ (e : Ends). Parts c.args.s.now c.args.at e) (sym c.record_ends-e.ensures) (parts c.requires.1) in
    let order : InOrder (length c.args.s.now) c.args.at c.record_ends-e.result = in_order_lem _ _ _ (placed-there) in
    let o = order in omega arith

pub slice_bounds-call-count : goal.slice_bounds-call-count
slice_bounds-call-count c =
    let placed-there : Parts c.args.s.now c.args.at c.record_ends-e.result = subst (λ (e : Ends). Parts c.args.s.now c.args.at e) (sym c.record_ends-e.ensures) (parts c.requires.1) in
    let order : InOrder (length c.args.s.now) c.args.at c.record_ends-e.result = in_order_lem _ _ _ (placed-there) in
    let o = order in omega arith

pub slice_bounds-call-start : goal.slice_bounds-call-start
slice_bounds-call-start c =
    let placed-there : Parts c.args.s.now c.args.at c.record_ends-e.result = subst (λ (e : Ends). Parts c.args.s.now c.args.at e) (sym c.record_ends-e.ensures) (parts c.requires.1) in
    let order : InOrder (length c.args.s.now) c.args.at c.record_ends-e.result = in_order_lem _ _ _ (placed-there) in
    let o = order in omega arith

pub slice_bounds-call-end : goal.slice_bounds-call-end
slice_bounds-call-end c =
    let placed-there : Parts c.args.s.now c.args.at c.record_ends-e.result = subst (λ (e : Ends). Parts c.args.s.now c.args.at e) (sym c.record_ends-e.ensures) (parts c.requires.1) in
    let order : InOrder (length c.args.s.now) c.args.at c.record_ends-e.result = in_order_lem _ _ _ (placed-there) in
    let o = order in omega arith

pub overflow_add-answer : goal.overflow_add-answer
overflow_add-answer c =
    let placed-there : Parts c.args.s.now c.args.at c.record_ends-e.result = subst (λ (e : Ends). Parts c.args.s.now c.args.at e) (sym c.record_ends-e.ensures) (parts c.requires.1) in
    let order : InOrder (length c.args.s.now) c.args.at c.record_ends-e.result = in_order_lem _ _ _ (placed-there) in
    let o = order in omega arith

pub slice_bounds-sum_after-count : goal.slice_bounds-sum_after-count
slice_bounds-sum_after-count c =
    let placed-there : Parts c.args.s.now c.args.at c.record_ends-e.result = subst (λ (e : Ends). Parts c.args.s.now c.args.at e) (sym c.record_ends-e.ensures) (parts c.requires.1) in
    let order : InOrder (length c.args.s.now) c.args.at c.record_ends-e.result = in_order_lem _ _ _ (placed-there) in
    let o = order in omega arith

pub slice_bounds-sum_after-start : goal.slice_bounds-sum_after-start
slice_bounds-sum_after-start c =
    let placed-there : Parts c.args.s.now c.args.at c.record_ends-e.result = subst (λ (e : Ends). Parts c.args.s.now c.args.at e) (sym c.record_ends-e.ensures) (parts c.requires.1) in
    let order : InOrder (length c.args.s.now) c.args.at c.record_ends-e.result = in_order_lem _ _ _ (placed-there) in
    let o = order in omega arith

pub slice_bounds-sum_after-end : goal.slice_bounds-sum_after-end
slice_bounds-sum_after-end c =
    let placed-there : Parts c.args.s.now c.args.at c.record_ends-e.result = subst (λ (e : Ends). Parts c.args.s.now c.args.at e) (sym c.record_ends-e.ensures) (parts c.requires.1) in
    let order : InOrder (length c.args.s.now) c.args.at c.record_ends-e.result = in_order_lem _ _ _ (placed-there) in
    let o = order in omega arith

pub sum_after-sum-requires : goal.sum_after-sum-requires
sum_after-sum-requires c =
    let placed-there : Parts c.args.s.now c.args.at c.record_ends-e.result = subst (λ (e : Ends). Parts c.args.s.now c.args.at e) (sym c.record_ends-e.ensures) (parts c.requires.1) in
    let did = c.perform-d in
    let p = c.requires in
    let fits = ap well_formed (by-places _ _ _ (placed-there)) ∙ p.2 in
    (did.ensures.words, rw c.byte-code.ensures (sum_told _ _ _ _ _ p.0 fits did.ensures p.3))

pub returns : goal.returns
returns c =
    let placed-there : Parts c.args.s.now c.args.at c.record_ends-e.result = subst (λ (e : Ends). Parts c.args.s.now c.args.at e) (sym c.record_ends-e.ensures) (parts c.requires.1) in
    let a = c.args in
    let p = by-places _ _ _ (placed-there) in
    let did = c.perform-d in
    let code = c.byte-code in
    let done =
    subst
    (λ (x : Sections). RecordDone x (memory a.words.now a.store.now) did.result (memory did.new.words did.new.store))
    p did.ensures in
    let sum = c.sum_after-sum.ensures in
    let side : side_as code.result ≡ side_of (call_of (sections_at (drop a.at a.s.now))) =
    ap side_as (code.ensures ∙ ap code_of p) ∙ sym (side-as _ c.requires.2) in
    record {
      step = did.result;
      done = done.done;
      words = done.words;
      store = done.store;
      agrees = refl;
      end = ap (λ (x : Ends). x.shown) c.record_ends-e.ensures;
      held = sum;
      tally = c.tally_after-next.ensures ∙ (λ u. wrapped (moved (side u) did.result.accepted (c.requires.3 u) (sum u) a.tally));
    }
