-- `content_place`: the place is read off the list's end.
use Prim.Native.Nat.{ℕ, ◌+◌, ◌-◌}
use mathlib.Core.Path.{◌≡◌, ap, ◌∙◌}
use native.Mathlib.Omega.{arith}
use Rattle.fields.specs.Fields.{field}
use Rattle.references.specs.References.{element_start, content_start, content_length}
use Rattle.references.proofs.content_place.Goals as goal

pub returns : goal.returns
returns c =
    let s = c.args.s.now in
    let e = c.list_end-from.ensures.0 in
    let a : c.list_end-from.result + 32 - 8 ≡ element_start s + 16 = omega arith in
    let from : c.list_end-from.result + 32 ≡ content_start s = omega arith in
    let size : c.read_u32.result ≡ content_length s = c.read_u32.ensures ∙ ap (λ (k : ℕ). field s k 4) a in
    rw (from, size)
