-- `table_words::column`: a part that ends n after its start has n words.
use Prim.Native.Nat.{◌+◌, ◌-◌}
use mathlib.Core.Path.{◌≡◌}
use native.Mathlib.Omega.{arith}
use Rattle.table_words.proofs.column.Goals as goal

pub returns : goal.returns
returns c = let st = c.args in let e : st.first + st.n - st.first ≡ st.n = omega arith in rw e
