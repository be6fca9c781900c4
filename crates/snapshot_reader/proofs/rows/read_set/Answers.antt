-- `rows::read_set`: a set is added where there is a place and its members stand in the order of the objects.
use mathlib.Core.Path.{◌∙◌}
use native.Mathlib.Omega.{arith}
use Rattle.table_view.specs.View.{memory, view}
use Rattle.snapshot_reader.proofs.rows.Reading.{set_full, set-judged, set_entered, set_after}
use Rattle.snapshot_reader.proofs.rows.read_set.Goals as goal

pub returns-then-set_count-ge-SET_PLACES : goal.returns-then-set_count-ge-SET_PLACES
returns-then-set_count-ge-SET_PLACES c t =
    let ws = c.args.words.now in
    let n = c.set_count in
    set_full ws c.args.s.now t (c.requires.1 t) n.result n.ensures.0 c.if-set_count-ge-SET_PLACES.true

pub returns-in_err-members : goal.returns-in_err-members
returns-in_err-members c t =
    let ws = c.args.words.now in
    let n = c.set_count in
    rw c.from_residual.ensures
    (set-judged ws c.args.s.now t (c.requires.1 t) n.result n.ensures.0 c.if-set_count-ge-SET_PLACES.false _ c.read_u16-n.ensures ∙ c.in_err-members.ensures)

pub returns : goal.returns
returns c t =
    let ws = c.args.words.now in
    let s = c.args.s.now in
    let n = c.set_count in
    let found = c.in_ok-members.ensures in
    let k = c.read_u16-n.ensures in
    let e = c.within.ensures in
    record {
      fit = set-judged ws s t (c.requires.1 t) n.result n.ensures.0 c.if-set_count-ge-SET_PLACES.false _ k ∙ found.0;
      entries =
          c.add_set.ensures t
          ∙ set_entered s _ k _ _ _ _ c.read_u64.ensures c.read_u16-sequence.ensures
          c.read_u64-pinged.ensures found.1 (view (memory ws t));
      rest = set_after s _ k c.within.result e;
      inside = omega arith;
    }
