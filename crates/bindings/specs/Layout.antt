-- The words of a part, made of its bindings.
use Rattle.std.specs.Prelude.{ℕ, ◌<◌, ◌≡◌, true, List, [], ◌∷◌, ◌++◌, map}
use Rattle.bindings.specs.Bindings.{joined, is_part}
use Rattle.bindings.specs.declared.Part.{Part}
use Rattle.bindings.specs.declared.Part.TheVariants.{Strings, Security}

-- a tower or service word, the word after a service word, and the words of an address or a name
pub record Binding : Type 0 where
  pub head : ℕ
  pub second : ℕ
  pub name : List ℕ

pub data Nonzero : List ℕ → Type 0 where
  none : Nonzero []
  more : {w : ℕ} {ws : List ℕ} → 0 < w → Nonzero ws → Nonzero (w ∷ ws)

pub record Proper (b : Binding) : Type 0 where
  pub head : 0 < b.head
  pub name : Nonzero b.name

pub data AllProper : List Binding → Type 0 where
  none : AllProper []
  more : {b : Binding} {bs : List Binding} → Proper b → AllProper bs → AllProper (b ∷ bs)

-- the words between a binding's first word and its address or name
abbrev pub second_words : Part → ℕ → List ℕ
second_words Strings v = []
second_words Security v = v ∷ []

unfoldable pub binding_words : Part → Binding → List ℕ
binding_words p b = b.head ∷ (second_words p b.second ++ (b.name ++ (0 ∷ [])))

-- bindings in a row, and one zero word
unfoldable pub part_layout : Part → List Binding → List ℕ
part_layout p bs = joined (map (binding_words p) bs) ++ (0 ∷ [])

-- words that are the layout of proper bindings
pub record IsLayout (p : Part) (ws : List ℕ) : Type 0 where
  pub bindings : List Binding
  pub proper : AllProper bindings
  pub same : ws ≡ part_layout p bindings

-- ---- a part is exactly such a layout

abbrev pub LayoutPart : Type 0
LayoutPart = (p : Part) (bs : List Binding) → AllProper bs → is_part p (part_layout p bs) ≡ true

abbrev pub PartLayout : Type 0
PartLayout = (p : Part) (ws : List ℕ) → is_part p ws ≡ true → IsLayout p ws
