-- Writing a binding list (000, section 2.2.19; document 01, "Reference bytes") from the words of its bindings.
use Rattle.std.specs.Prelude.{ℕ, ◌+◌, ◌≡◌, Bool, true, not, cond, ◌&&◌, List, [], ◌∷◌, ◌++◌, map, length, eqb, ltb, leb}
use Rattle.kinds.specs.Refusals.{◌gives◌, order}
use Rattle.fields.specs.declared.Written.{Written}
use Rattle.bindings.specs.Bindings.{joined, is_part, list_answer}
use Rattle.bindings.specs.Layout.{Binding, binding_words}
use Rattle.bindings.specs.ListBytes.{Words16, parts_bytes, list_bytes, Listable}
use Rattle.bindings.specs.declared.Part.{Part}
use Rattle.bindings.specs.declared.Part.TheVariants.{Strings, Security}

-- the words of a part: its bindings, and the zero word that ends it
abbrev pub ended : List ℕ → List ℕ
ended ws = ws ++ (0 ∷ [])

-- both parts are bindings in a row, and N, which counts the two words that end them, has 16 bits
unfoldable pub fits : List ℕ → List ℕ → Bool
fits a b = leb (length a + length b) 65533 && (is_part Strings (ended a) && is_part Security (ended b))

-- the list: N, S and both parts
unfoldable pub made_list : List ℕ → List ℕ → List ℕ
made_list a b = parts_bytes (ended a) (ended b)

-- the answer for a buffer of n bytes
unfoldable pub write_list_answer : List ℕ → List ℕ → ℕ → ℕ
write_list_answer a b n = order (not (fits a b) gives 14 ∷ ltb n (length (made_list a b)) gives 15 ∷ [])

-- and the number of bytes written
unfoldable pub write_list : List ℕ → List ℕ → ℕ → Written
write_list a b n =
    cond (eqb (write_list_answer a b n) 0)
    (record { answer = 0; length = length (made_list a b) })
    (record { answer = write_list_answer a b n; length = 0 })

-- ---- statements

-- the words of bindings, one after the other
abbrev pub words_of : Part → List Binding → List ℕ
words_of p bs = joined (map (binding_words p) bs)

-- words that are those of bindings that a list can hold
pub record OfBindings (a b : List ℕ) : Type 0 where
  pub strings : List Binding
  pub security : List Binding
  pub listable : Listable strings security
  pub string_words : a ≡ words_of Strings strings
  pub security_words : b ≡ words_of Security security

-- what is written is accepted, and is the list of the bindings whose words were given; the words of any bindings that a list can hold are
-- written so
pub record ListsWritten : Type 0 where
  pub accepted : (a b : List ℕ) → Words16 a → Words16 b → fits a b ≡ true → list_answer (made_list a b) ≡ 0
  pub bindings : (a b : List ℕ) → Words16 a → Words16 b → fits a b ≡ true → OfBindings a b
  pub fitting : (strings security : List Binding) → Listable strings security → fits (words_of Strings strings) (words_of Security security) ≡ true
  pub same : (strings security : List Binding) → made_list (words_of Strings strings) (words_of Security security) ≡ list_bytes strings security
