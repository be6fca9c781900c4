-- Where parts of a reference stand.
use Rattle.std.specs.Prelude.{ℕ, ◌≤◌, ◌≡◌, List, length}
use Rattle.bindings.specs.declared.Place.{Place}
use Rattle.references.specs.References.{element_place}

-- p is where the data of element k stands, and lies in the bytes
pub record ElementFound (s : List ℕ) (k : ℕ) (p : Place) : Type 0 where
  pub place : p ≡ element_place s k
  pub within : (p.from ≤ p.to) × (p.to ≤ length s)
