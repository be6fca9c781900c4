-- `extension_writer::write`: 14, then 15, then the array.
use Prim.Native.Nat.{◌+◌, ◌≤◌, ◌<◌}
use mathlib.Core.Path.{◌≡◌, refl, sym, ◌∙◌}
use mathlib.Core.Bool.{true}
use native.Mathlib.Omega.{arith}
use borrow.Author.Tests.{leb-true, leb-false}
use lib.ListN.{length}
use Rattle.extension_writer.specs.Writing.{takes, array_length}
use Rattle.extension_writer.proofs.Writes.{Good, good, writing-refused, writing-short, writing-done}
use Rattle.extension_writer.proofs.write.Goals as goal
use Rattle.extension_writer.proofs.write.Goals.{Else-not-takes, Else-not-inside}

-- the extensions can be written, and what that says of them
able : (c : Else-not-takes) → takes c.args.pointer c.args.array c.args.entries.now c.args.contents.now ≡ true
able c = sym c.takes.ensures ∙ c.if-not-takes.false

fine : (c : Else-not-takes) → Good c.args.entries.now c.args.contents.now
fine c = good _ _ _ _ (able c)

-- they have room
room : (c : Else-not-inside) → c.args.at + array_length c.args.pointer c.args.array c.args.entries.now ≤ length c.args.buf.now
room c = rw c.array_length-n.ensures at (leb-true _ _ (sym c.inside.ensures ∙ c.if-not-inside.false))

pub returns-then-not-takes : goal.returns-then-not-takes
returns-then-not-takes c =
    let a = c.args in
    let no = sym c.takes.ensures ∙ c.if-not-takes.true in
    (sym (writing-refused a.pointer a.array a.entries.now a.contents.now a.at (length a.buf.now) no), refl)

pub array_length-n-requires : goal.array_length-n-requires
array_length-n-requires c = let g = fine (goal.at.array_length-n-requires c).Else-not-takes in (g.few, g.words)

pub returns-then-not-inside : goal.returns-then-not-inside
returns-then-not-inside c =
    let a = c.args in
    let l : length a.buf.now < a.at + c.array_length-n.result = leb-false _ _ (sym c.inside.ensures ∙ c.if-not-inside.true) in
    let n = c.array_length-n.ensures in
    (sym (writing-short a.pointer a.array a.entries.now a.contents.now a.at (length a.buf.now) (able (goal.at.returns-then-not-inside c).Else-not-takes) (rw n at l)), refl)

pub put_array-requires : goal.put_array-requires
put_array-requires c =
    let g = fine (goal.at.put_array-requires c).Else-not-takes in
    (g.few, omega (arith, g.sum), g.words, room (goal.at.put_array-requires c).Else-not-inside)

pub overflow_add-result : goal.overflow_add-result
overflow_add-result c = omega (arith, room (goal.at.overflow_add-result c).Else-not-inside, c.array_length-n.ensures)

pub returns : goal.returns
returns c =
    let p = goal.at.returns c in
    let n = c.array_length-n.ensures in
    (rw n (sym (writing-done _ _ _ _ c.args.at (length c.args.buf.now) (able p.Else-not-takes) (room p.Else-not-inside))), c.put_array.ensures)
