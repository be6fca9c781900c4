-- A binding list with only the string bindings of the requested protocols (document 02, request 6).
use Rattle.std.specs.Prelude.{ℕ, ◌*◌, ◌/◌, ◌%◌, ◌^◌, ◌≡◌, Bool, true, cond, List, [], ◌∷◌, ◌++◌, map, length, get_or, eqb, ltb}
use Rattle.kinds.specs.Refusals.{◌gives◌, passes, order}
use Rattle.fields.specs.Fields.{field, Bytes}
use Rattle.lists.specs.Lists.{keep, every, tabulate, among}
use Rattle.bindings.specs.Bindings.{bindings_of, joined, part_words, is_bare, list_answer}
use Rattle.bindings.specs.ListBytes.{parts_bytes}
use Rattle.fields.specs.declared.Written.{Written}
use Rattle.bindings.specs.declared.Part.TheVariants.{Strings, Security}

-- a string binding is requested: its tower, which is its first word, is among the protocols
abbrev pub is_requested : List ℕ → List ℕ → Bool
is_requested protocols b = among protocols (get_or b 0 0)

-- the requested bindings of a string part, in stored order
unfoldable pub requested : List ℕ → List ℕ → List (List ℕ)
requested protocols ws = keep (is_requested protocols) (bindings_of Strings ws)

-- the list with only these string bindings, and the whole security part; the list without words stays as it is
unfoldable pub filtered : List ℕ → List ℕ → List ℕ
filtered protocols s =
    cond (is_bare s) s (parts_bytes (joined (requested protocols (part_words s Strings)) ++ (0 ∷ [])) (part_words s Security))

-- words in bytes, two for each
abbrev pub words_in : List ℕ → List ℕ
words_in s = tabulate (length s / 2) (λ k. field s (2 * k) 2)

-- the towers of a string part's bindings that are requested
abbrev pub towers_of : List ℕ → List ℕ → List ℕ
towers_of protocols ws = keep (among protocols) (map (λ (b : List ℕ). get_or b 0 0) (bindings_of Strings ws))

-- marks of numbers, a bit for each in words of 64 bits
unfoldable pub is_marked : List ℕ → ℕ → Bool
is_marked ms x = eqb (get_or ms (x / 64) 0 / 2 ^ (x % 64) % 2) 1

-- the numbers of a list are marked, and no others
pub record Marks (ms xs : List ℕ) : Type 0 where
  pub size : length ms ≡ 1024
  pub each : (x : ℕ) → is_marked ms x ≡ among xs x

-- ---- writing it into a buffer of n bytes

-- the list's refusals; 15, by the length of the filtered list
unfoldable pub filter_answer : List ℕ → List ℕ → ℕ → ℕ
filter_answer protocols s n = order (passes (list_answer s) ∷ ltb n (length (filtered protocols s)) gives 15 ∷ [])

-- the answer, and the number of bytes written
unfoldable pub write_filtered : List ℕ → List ℕ → ℕ → Written
write_filtered protocols s n =
    cond (eqb (filter_answer protocols s n) 0)
    (record { answer = 0; length = length (filtered protocols s) })
    (record { answer = filter_answer protocols s n; length = 0 })

-- x where it is wanted, else nothing
abbrev pub chosen : Bool → List ℕ → List ℕ
chosen b x = cond b x []

-- ---- statements

-- the list that is made keeps the list rules; its string bindings are the requested ones, its security part is the stored one
pub record FilteredOf (protocols s : List ℕ) : Type 0 where
  pub rules : list_answer (filtered protocols s) ≡ 0
  pub strings : bindings_of Strings (part_words (filtered protocols s) Strings) ≡ requested protocols (part_words s Strings)
  pub security : part_words (filtered protocols s) Security ≡ part_words s Security

abbrev pub FilteredKeeps : Type 0
FilteredKeeps = (protocols s : List ℕ) → Bytes s → list_answer s ≡ 0 → FilteredOf protocols s

-- every string binding is requested
abbrev pub all_requested : List ℕ → List ℕ → Bool
all_requested protocols s = every (is_requested protocols) (bindings_of Strings (part_words s Strings))

-- where nothing is dropped it is the stored bytes, the list without words included
abbrev pub FilteredSame : Type 0
FilteredSame = (protocols s : List ℕ) → Bytes s → list_answer s ≡ 0 → all_requested protocols s ≡ true → filtered protocols s ≡ s

-- an empty request gives an empty string part
abbrev pub FilteredNone : Type 0
FilteredNone = (s : List ℕ) → Bytes s → list_answer s ≡ 0 → bindings_of Strings (part_words (filtered [] s) Strings) ≡ []

-- of the protocols only the towers that the list has matter
abbrev pub FilteredByTowers : Type 0
FilteredByTowers = (protocols s : List ℕ) → filtered (towers_of protocols (part_words s Strings)) s ≡ filtered protocols s
