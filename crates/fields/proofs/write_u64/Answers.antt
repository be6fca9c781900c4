-- `fields::write_u64`: the library's bytes of the number.
use Prim.Native.Nat.{ℕ}
use mathlib.Core.Path.{ap, ◌∙◌}
use mathlib.Core.List.{List}
use Rattle.fields.specs.Fields.{written}
use Rattle.fields.proofs.Fields.{le-bytes_8}
use Rattle.fields.proofs.write_u64.Goals as goal

pub returns : goal.returns
returns c = let a = c.args in c.copy.ensures ∙ ap (λ (l : List ℕ). written a.buf.now a.at l) (c.to_le_bytes.ensures ∙ le-bytes_8 a.n)
