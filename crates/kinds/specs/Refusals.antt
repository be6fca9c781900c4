-- Refusals in their order: rows of a test and the number that it gives, read from the top.
use Rattle.std.specs.Prelude.{ℕ, Bool, cond, not, List, [], ◌∷◌, eqb}

pub record Row : Type 0 where
  pub holds : Bool
  pub number : ℕ

infix 70 ◌gives◌
abbrev pub ◌gives◌ : Bool → ℕ → Row
◌gives◌ b n = record { holds = b; number = n }

-- the test that two numbers differ
abbrev pub differ : ℕ → ℕ → Bool
differ a b = not (eqb a b)

-- an answer that is passed on where it is a refusal
abbrev pub passes : ℕ → Row
passes n = differ n 0 gives n

-- the number of the first row whose test holds, and 0 where none does
unfoldable pub order : List Row → ℕ
order [] = 0
order (r ∷ rs) = cond r.holds r.number (order rs)
