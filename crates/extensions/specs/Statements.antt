-- What is proved of the extensions of a header, wherever its pointer stands.
use Rattle.std.specs.Prelude.{ℕ, ◌-◌, ◌<◌, ◌≤◌, ◌≡◌, List, ◌++◌, length, get_or, take, drop}
use Rattle.fields.specs.Fields.{Bytes}
use Rattle.bindings.specs.Bindings.{bytes_at}
use Rattle.extensions.specs.Extensions.{Extent, array_bytes, extensions_answer, extensions_at, extensions_end, extension_at, no_extension, place_of}
use Rattle.extensions.specs.declared.Extension.{Extension}

-- accepted bytes are the layout of what is read of them, up to the header's length
abbrev pub BytesBack : Type 0
BytesBack = (s : List ℕ) (at : ℕ) → Bytes s → extensions_answer s at ≡ 0 → drop at s ≡ array_bytes (extensions_at s at) ++ drop (extensions_end s at) s

-- one array with the same pointer numbers has one form
abbrev pub OneForm : Type 0
OneForm =
    (s t : List ℕ) (at : ℕ) → Bytes s → Bytes t → extensions_answer s at ≡ 0 → extensions_answer t at ≡ 0 → extensions_at s at ≡ extensions_at t at
    → (extensions_end s at ≡ extensions_end t at) × (take (extensions_end s at - at) (drop at s) ≡ take (extensions_end t at - at) (drop at t))

-- the extension e is shown as x, its data as a part of s
pub record Shows (s : List ℕ) (x : Extension) (e : Extent) : Type 0 where
  pub answer : x.answer ≡ 0
  pub pointer : x.pointer ≡ e.pointer
  pub id : x.id ≡ e.id
  pub content : bytes_at s (place_of x) ≡ e.content

-- extension k of an accepted header is number k of those that are read; there is no other
pub record KShown (s : List ℕ) (at : ℕ) : Type 0 where
  pub shown : (k : ℕ) (e : Extent) → k < length (extensions_at s at).extents → Shows s (extension_at s at k) (get_or (extensions_at s at).extents k e)
  pub none : (k : ℕ) → length (extensions_at s at).extents ≤ k → extension_at s at k ≡ no_extension 24

abbrev pub ExtensionK : Type 0
ExtensionK = (s : List ℕ) (at : ℕ) → extensions_answer s at ≡ 0 → KShown s at
