-- `rows::find_members`: the walk over the rows of the objects (`Walked`).
use Prim.Native.Nat.{◌+◌, ◌*◌}
use Rattle.fields.specs.Fields.{field}
use mathlib.Core.Path.{◌≡◌, refl, sym, ◌∙◌}
use mathlib.Core.Bool.{true, false}
use native.Mathlib.Omega.{arith}
use lib.ListN.{length, get_or}
use Rattle.lists.proofs.Lists.{length-tabulate}
use Rattle.table_view.specs.View.{oids_of}
use Rattle.table_view.proofs.MemberRows.{oids-length}
use Rattle.snapshot_reader.specs.ReadRows.{members_in}
use Rattle.snapshot_reader.proofs.rows.Walk.{put-again, walk-begun, walk_step, walk-found, walk-missed, member-tested}
use Rattle.snapshot_reader.proofs.rows.find_members.Goals as goal
use Rattle.snapshot_reader.proofs.rows.find_members.Goals.{then-is_member, else-is_member}

pub loop-j-init : goal.loop-j-init
loop-j-init c =
    let a = c.args in
    ((omega arith, omega arith), walk-begun (oids_of a.words.now) (members_in a.s.now a.n) _ refl refl)

pub loop-j-preserved : goal.loop-j-preserved
loop-j-preserved c =
    let ws = c.args.words.now in
    let s = c.args.s.now in
    let l = c.loop-j in
    let ids = oids-length ws in
    let e = c.object_count-j-end.ensures in
    let m = c.is_member in
    let ms = members_in s c.args.n in
    let tested = m.ensures ∙ member-tested s c.args.n l.k (get_or (oids_of ws) l.j 0) in
    elim c.if-is_member.branch [
      | then-is_member w ↦
          rw (w.members-is, w.k-is) (
            w.put-members.ensures.words,
            walk_step (oids_of ws) ms l.j l.k l.members w.put-members.result true (omega arith) (omega arith) l.invariant.1 (sym w.if-is_member.true ∙ tested) w.put-members.ensures,
          )
      | else-is_member w ↦
          let same = put-again l.j l.members l.invariant.0 (l.invariant.1.none l.j (omega arith)) in
          rw (w.members-is, w.k-is) (
            l.invariant.0,
            walk_step (oids_of ws) ms l.j l.k l.members l.members false (omega arith) (omega arith) l.invariant.1 (sym w.if-is_member.false ∙ tested) same,
          )
    ]

pub returns-then-k-n : goal.returns-then-k-n
returns-then-k-n c =
    let ws = c.args.words.now in
    let s = c.args.s.now in
    let l = c.loop-j in
    let ids = oids-length ws in
    let e = c.object_count-j-end.ensures in
    let n = length-tabulate c.args.n (λ k. field s (20 + 8 * k) 8) in
    let j : l.j ≡ length (oids_of ws) = omega arith in
    walk-found (oids_of ws) (members_in s c.args.n) l.j l.k l.members j (omega arith) l.invariant.1 (omega arith)

pub returns-else-k-n : goal.returns-else-k-n
returns-else-k-n c =
    let ws = c.args.words.now in
    let s = c.args.s.now in
    let l = c.loop-j in
    let ids = oids-length ws in
    let e = c.object_count-j-end.ensures in
    let n = length-tabulate c.args.n (λ k. field s (20 + 8 * k) 8) in
    let j : l.j ≡ length (oids_of ws) = omega arith in
    walk-missed (oids_of ws) (members_in s c.args.n) l.j l.k l.members j (omega arith) l.invariant.1 (λ z. c.if-k-n.false (z ∙ n))
