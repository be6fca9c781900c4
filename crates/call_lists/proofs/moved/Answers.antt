-- `call_lists::moved`: the number that falls is above one that is not 0.
use Prim.Native.Nat.{ℕ, ◌-◌, ◌<◌}
use mathlib.Core.Path.{◌≡◌}
use native.Mathlib.Omega.{arith}
use borrow.Author.Tests.{ne_eqb}
use lib.Dec.{eqb}
use Rattle.call_lists.proofs.moved.Goals as goal

falls : (n g : ℕ) → 0 < g → g < n → eqb (n - 1) 0 ≡ eqb n 0
falls n g h l = rw (ne_eqb n 0 (λ z. omega arith), ne_eqb (n - 1) 0 (λ z. omega arith))

pub returns-then-gone-number : goal.returns-then-gone-number
returns-then-gone-number c = search falls
