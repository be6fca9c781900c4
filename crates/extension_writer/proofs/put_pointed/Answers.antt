-- `extensions::put_pointed`: the count, the pointers, the zeros and the extensions are a run of writes.
use Prim.Native.Nat.{ℕ, ◌+◌, ◌-◌, ◌*◌, ◌/◌}
use mathlib.Core.Path.{◌≡◌, ap, ◌∙◌}
use mathlib.Core.List.{[], append_assoc}
use native.Mathlib.Omega.{arith}
use lib.ListN.{length, length-replicate}
use Rattle.fields.proofs.Fields.{first_field, then-bytes}
use Rattle.extensions.specs.Extensions.{pairs, pointers_bytes, extents_bytes, pointed_bytes}
use Rattle.extension_writer.specs.Writing.{described, extents_length}
use Rattle.extension_writer.proofs.Writes.{length-described, length-pointers, length-extents, pointers-described}
use Rattle.fields.specs.Fields.{zeros}
use Rattle.extension_writer.proofs.put_pointed.Goals as goal

pub returns : goal.returns
unfolding pointed_bytes
returns c =
    let a = c.args in
    let ws = a.entries.now in
    let d = a.contents.now in
    let n = length ws / 4 in
    let all = c.paired-all.result in
    let same : all ≡ pairs n = c.paired-all.ensures in
    let p = c.requires in
    let room = p.3 in
    let ps = pointers_bytes (described ws [] 0 n) in
    let es = extents_bytes (described ws d 0 n) in
    let many : length ps ≡ 4 * n = length-pointers (described ws [] 0 n) ∙ ap (λ (x : ℕ). 4 * x) (length-described ws [] 0 n) in
    let long : length es ≡ extents_length ws 0 n = length-extents ws d 0 n p.1 in
    let run = first_field 4 all c.write_u32.ensures in
    let run2 = then-bytes ps (4 * n) run many (omega arith) c.put_pointers.ensures in
    let place : a.at + 4 + 4 * n ≡ a.at + (4 + 4 * n) = omega arith in
    let zeroed = rw place at c.fill.ensures in
    let run3 = then-bytes (zeros (4 * (all - n))) (4 * (all - n)) run2 (length-replicate {A = ℕ} (4 * (all - n)) 0) (omega arith) zeroed in
    let last : a.at + 4 + 4 * all ≡ a.at + (4 + 4 * n + 4 * (all - n)) = omega arith in
    let run4 = then-bytes es (extents_length ws 0 n) run3 long (omega arith) (rw last at c.put_extents.ensures) in
    run4.holds ∙ (rw (length-described ws d 0 n, pointers-described ws d [] 0 n, same) (simp append_assoc))
