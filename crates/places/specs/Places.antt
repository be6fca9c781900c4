-- Where the parts that are answered lie (document 01, "Reference bytes"; document 02, requests 5 and 14): inside the caller's bytes,
-- whatever these are. A refused place is 0, 0. A next stop's place is in its own promise (`StopFound`), since it is one of two slices.
use Rattle.std.specs.Prelude.{ℕ, ◌≤◌, List, length}
use Rattle.bindings.specs.Bindings.{binding_at, binding_from}
use Rattle.bindings.specs.declared.Part.{Part}
use Rattle.bindings.specs.declared.Place.{Place}
use Rattle.contexts.specs.Contexts.{property_place}
use Rattle.references.specs.References.{tail_place, reference_binding, element_place, context_place}
use Rattle.extensions.specs.Extensions.{place_of}
use Rattle.headers.specs.Headers.{read_this, this_extension, read_that, that_extension}

-- x is a place of s
pub record Inside (s : List ℕ) (x : Place) : Type 0 where
  pub order : x.from ≤ x.to
  pub end : x.to ≤ length s

pub record PlacesInside (s : List ℕ) : Type 0 where
  -- of a reference: its list or object data, binding k of either part, the data of element k and of its context's property k
  pub tail : Inside s (tail_place s)
  pub binding : (p : Part) (k : ℕ) → Inside s (reference_binding s p k)
  pub element : (k : ℕ) → Inside s (element_place s k)
  pub property : (k : ℕ) → Inside s (context_place s k)
  -- of a list: binding k, and the binding that begins the n words from at; of a context: the data of property k
  pub list_binding : (p : Part) (k : ℕ) → Inside s (binding_at s p k)
  pub next_binding : (p : Part) (at n : ℕ) → Inside s (binding_from s p at n)
  pub context_property : (k : ℕ) → Inside s (property_place s k)
  -- of a call header: the data of extension k, and the header itself
  pub call_extension : (k : ℕ) → Inside s (place_of (this_extension s k))
  pub reply_extension : (k : ℕ) → Inside s (place_of (that_extension s k))
  pub call_header : (read_this s).length ≤ length s
  pub reply_header : (read_that s).length ≤ length s

abbrev pub EveryPlaceInside : Type 0
EveryPlaceInside = (s : List ℕ) → PlacesInside s
