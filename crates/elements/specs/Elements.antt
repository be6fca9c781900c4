-- The element of an extended reference, DATAELEMENT (000, section 2.2.18.8). Its data may be a reference again: the judge of that one is
-- an argument here, so that no two definitions need each other.
use Rattle.std.specs.Prelude.{ℕ, ◌+◌, ◌-◌, Bool, cond, not, ◌&&◌, List, [], ◌∷◌, ◌++◌, length, take, drop, eqb, ltb}
use Rattle.kinds.specs.Refusals.{◌gives◌, passes, differ, order}
use Rattle.kinds.specs.declared.Guid.{Guid}
use Rattle.fields.specs.Fields.{field, encode, guid_at, guid_bytes, zeros, all_zero, rounded, longest}

-- "MEOW"
abbrev pub signature : ℕ
signature = 0x574F454D

abbrev pub is_nil : Guid → Bool
is_nil g = eqb g.low 0 && eqb g.high 0

-- bytes are a reference exactly if they begin with the four signature bytes (fewer bytes read as 0)
abbrev pub is_reference : List ℕ → Bool
is_reference x = eqb (field x 0 4) signature

-- ---- layout

-- identifier (16), size of the data (4), rounded size (4), the data, zeros up to the rounded size
unfoldable pub element_bytes : Guid → List ℕ → List ℕ
element_bytes g x =
    guid_bytes g ++ encode 4 (length x) ++ encode 4 (rounded (length x)) ++ x ++ zeros (rounded (length x) - length x)

-- ---- the element at the front of t

abbrev pub content_size : List ℕ → ℕ
content_size t = field t 16 4

abbrev pub element_length : List ℕ → ℕ
element_length t = 24 + field t 20 4

abbrev pub element_content : List ℕ → List ℕ
element_content t = take (content_size t) (drop 24 t)

abbrev pub padding : List ℕ → List ℕ
padding t = take (field t 20 4 - content_size t) (drop (24 + content_size t) t)

-- ---- its refusals, in byte order

-- identifier short 13, nil 14; size short 13, zero 14; rounded size short 13, another number 14; data and padding short 13
unfoldable pub element_front : List ℕ → ℕ
element_front t =
    order
    (ltb (length t) 16 gives 13
    ∷ is_nil (guid_at t 0) gives 14
    ∷ ltb (length t) 20 gives 13
    ∷ eqb (content_size t) 0 gives 14
    ∷ ltb (length t) 24 gives 13
    ∷ differ (field t 20 4) (rounded (content_size t)) gives 14
    ∷ ltb (length t) (element_length t) gives 13
    ∷ [])

-- padding other than zero 14; bytes left over 14
unfoldable pub element_end : List ℕ → ℕ
element_end t = order (not (all_zero (padding t)) gives 14 ∷ ltb (element_length t) (length t) gives 14 ∷ [])

-- the refusals inside, by the judge g of a reference; other data has none
abbrev pub content_answer : (List ℕ → ℕ) → List ℕ → ℕ
content_answer g x = cond (is_reference x) (g x) 0

-- the last element of a reference
unfoldable pub element_answer : (List ℕ → ℕ) → List ℕ → ℕ
element_answer g t = order (passes (element_front t) ∷ passes (content_answer g (element_content t)) ∷ passes (element_end t) ∷ [])

-- what a writer refuses of an identifier and data: nil 14; no data 14; data too long for its size fields 14; the refusals inside
unfoldable pub given_answer : (List ℕ → ℕ) → Guid → List ℕ → ℕ
given_answer g id x =
    order
    (is_nil id gives 14
    ∷ eqb (length x) 0 gives 14
    ∷ ltb longest (length x) gives 14
    ∷ passes (content_answer g x)
    ∷ [])
