-- `table_settle::is_among`: a row that holds the identifier is one.
use mathlib.Core.Path.{◌≡◌, sym, ◌∙◌}
use mathlib.Core.Bool.{true}
use mathlib.Core.List.{List}
use Prim.Native.Nat.{ℕ}
use borrow.Author.Tests.{eqb-true, eq-eqb, ltb-true}
use denote.Ref.{Bor}
use lib.Dec.{eqb, ltb}
use lib.ListN.{length, get_or}
use Rattle.std.proofs.Common.{Option, Some, None}
use Rattle.std.specs.Option.{option_eq, is_some, IfSome}
use Rattle.kinds.proofs.Refusing.{true-false}
use Rattle.lists.specs.Lists.{among}
use Rattle.lists.proofs.Lists.{some_at}
use Rattle.table_settle.proofs.is_among.Goals as goal

-- an identifier that stands at a row, as `get` gives it
found : (o : Option (Bor ℕ)) (id : Bor ℕ) (ids : List ℕ) (row : ℕ) → option_eq (λ x y. eqb x.now y.now) o (Some id) ≡ true
    → is_some o ≡ ltb row (length ids) → IfSome o (λ x. x.now ≡ get_or ids row x.now) → true ≡ among ids id.now
found None id ids row e l g = absurd (true-false (sym e))
found (Some x) id ids row e l g = sym (some_at (eqb id.now) ids x.now row (ltb-true row (length ids) (sym l)) (eq-eqb _ _ (sym (eqb-true x.now id.now e) ∙ g)))

pub returns-then-eq : goal.returns-then-eq
returns-then-eq c =
    let l = c.get-in-Some.ensures.lookup in
    found _ _ c.args.ids.now c.in-Some.row.now (sym c.eq.ensures ∙ c.if-eq.true) l.0 l.1
