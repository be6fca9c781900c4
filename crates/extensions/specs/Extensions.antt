-- The extensions of a call header, ORPC_EXTENT_ARRAY in NDR (document 02, request 14; 000, sections 2.2.13.1 and 2.2.13.2; 001, section
-- 3.2, for the rounding of counts and sizes). They begin with the header's pointer, its last field: byte 28 of ORPCTHIS, byte 4 of
-- ORPCTHAT. Every item stands at a multiple of 4 from the header's start, so C706's alignment adds no bytes.
use Rattle.std.specs.Prelude.{ℕ, suc, zero, ◌+◌, ◌-◌, ◌*◌, ◌/◌, Bool, cond, not, ◌&&◌, List, [], ◌∷◌, ◌++◌, length, take, drop, eqb, ltb, leb}
use Rattle.std.specs.Prelude.{Result, Ok, Err}
use Rattle.kinds.specs.Answers.{refusal_number}
use Rattle.kinds.specs.declared.refusal.Refusal.{Refusal}
use Rattle.kinds.specs.Refusals.{◌gives◌, passes, differ, order}
use Rattle.kinds.specs.declared.Guid.{Guid}
use Rattle.fields.specs.Fields.{field, encode, guid_at, guid_bytes, zeros, all_zero, rounded}
use Rattle.bindings.specs.declared.Place.{Place}
use Rattle.extensions.specs.declared.Extensions.{Extensions}
use Rattle.extensions.specs.declared.Walked.{Walked}
use Rattle.extensions.specs.declared.Extension.{Extension}
use Rattle.extensions.specs.declared.Found.{Found}

-- a count of pointers, rounded up to a multiple of 2
abbrev pub pairs : ℕ → ℕ
pairs n = (n + 1) / 2 * 2

-- the most extensions of an array
abbrev pub most : ℕ
most = 32

-- ---- layout

-- an extension: its pointer number, its id and its data
pub record Extent : Type 0 where
  pub pointer : ℕ
  pub id : Guid
  pub content : List ℕ

-- what a header has: its pointer to the array, the array's pointer to its pointers, and the extensions
pub record Array : Type 0 where
  pub header : ℕ
  pub pointer : ℕ
  pub extents : List Extent

-- an extension: rounded size (4), id (16), size (4), data, and zeros up to the rounded size
unfoldable pub extent_bytes : Extent → List ℕ
extent_bytes e =
    encode 4 (rounded (length e.content))
    ++ guid_bytes e.id
    ++ encode 4 (length e.content)
    ++ e.content
    ++ zeros (rounded (length e.content) - length e.content)

unfoldable pub extents_bytes : List Extent → List ℕ
extents_bytes [] = []
extents_bytes (e ∷ es) = extent_bytes e ++ extents_bytes es

unfoldable pub pointers_bytes : List Extent → List ℕ
pointers_bytes [] = []
pointers_bytes (e ∷ es) = encode 4 e.pointer ++ pointers_bytes es

-- what an array's pointer points to: the rounded count (4), the pointers (4 each), a zero pointer where their number is odd, the extensions
unfoldable pub pointed_bytes : List Extent → List ℕ
pointed_bytes es =
    encode 4 (pairs (length es)) ++ pointers_bytes es ++ zeros (4 * (pairs (length es) - length es)) ++ extents_bytes es

-- the header's pointer (4); where it is not null the array: count (4), reserved (4), pointer (4); where that is not null what it points to
unfoldable pub array_bytes : Array → List ℕ
array_bytes a =
    encode 4 a.header
    ++ cond (eqb a.header 0) []
    (encode 4 (length a.extents) ++ encode 4 0 ++ encode 4 a.pointer ++ cond (eqb a.pointer 0) [] (pointed_bytes a.extents))

-- ---- reading at the header's pointer, the four bytes from at; in byte order, and in one field 13 first

-- s ends before the w bytes from at do
abbrev pub lacks : List ℕ → ℕ → ℕ → Bool
lacks s at w = not (leb (at + w) (length s))

-- w bytes of padding
unfoldable pub padding_answer : List ℕ → ℕ → ℕ → ℕ
padding_answer s at w = order (lacks s at w gives 13 ∷ not (all_zero (take w (drop at s))) gives 14 ∷ [])

-- n pointers, none of them null
unfoldable pub pointers_answer : List ℕ → ℕ → ℕ → ℕ
pointers_answer s at zero = 0
pointers_answer s at (suc n) = order (lacks s at 4 gives 13 ∷ eqb (field s at 4) 0 gives 14 ∷ passes (pointers_answer s (at + 4) n) ∷ [])

-- the size of the extension at at
abbrev pub size_at : List ℕ → ℕ → ℕ
size_at s at = field s (at + 20) 4

-- one extension: the two sizes agree, judged once both are read; its data; its padding
unfoldable pub extent_answer : List ℕ → ℕ → ℕ
extent_answer s at =
    order
    (lacks s at 24 gives 13
    ∷ differ (field s at 4) (rounded (size_at s at)) gives 14
    ∷ lacks s (at + 24) (size_at s at) gives 13
    ∷ passes (padding_answer s (at + 24 + size_at s at) (rounded (size_at s at) - size_at s at))
    ∷ [])

-- the first byte after it
abbrev pub next_at : List ℕ → ℕ → ℕ
next_at s at = at + 24 + rounded (size_at s at)

-- n extensions
unfoldable pub extents_answer : List ℕ → ℕ → ℕ → ℕ
extents_answer s at zero = 0
extents_answer s at (suc n) = order (passes (extent_answer s at) ∷ passes (extents_answer s (next_at s at) n) ∷ [])

-- where extension k of those from at begins
unfoldable pub start_of : List ℕ → ℕ → ℕ → ℕ
start_of s at zero = at
start_of s at (suc k) = start_of s (next_at s at) k

-- the array's fields, by the place of the header's pointer
abbrev pub count_at : List ℕ → ℕ → ℕ
count_at s at = field s (at + 4) 4

abbrev pub array_at : List ℕ → ℕ → ℕ
array_at s at = field s (at + 12) 4

-- where the extensions begin
abbrev pub extents_start : List ℕ → ℕ → ℕ
extents_start s at = at + 20 + 4 * pairs (count_at s at)

-- the rounded count at at, for n extensions: the two counts agree, judged once both are read; the pointers; the one that rounds an odd count
unfoldable pub counted_answer : List ℕ → ℕ → ℕ → ℕ
counted_answer s at n =
    order
    (lacks s at 4 gives 13
    ∷ differ (field s at 4) (pairs n) gives 14
    ∷ passes (pointers_answer s (at + 4) n)
    ∷ passes (padding_answer s (at + 4 + 4 * n) (4 * (pairs n - n)))
    ∷ [])

-- what the array's pointer points to
unfoldable pub pointed_answer : List ℕ → ℕ → ℕ
pointed_answer s at =
    order (passes (counted_answer s (at + 16) (count_at s at)) ∷ passes (extents_answer s (extents_start s at) (count_at s at)) ∷ [])

-- the array's own fields: more than 32; reserved; a null pointer to the array where the count is not 0
unfoldable pub front_answer : List ℕ → ℕ → ℕ
front_answer s at =
    order
    (lacks s at 8 gives 13
    ∷ ltb most (count_at s at) gives 14
    ∷ lacks s at 12 gives 13
    ∷ differ (field s (at + 8) 4) 0 gives 14
    ∷ lacks s at 16 gives 13
    ∷ (eqb (array_at s at) 0 && differ (count_at s at) 0) gives 14
    ∷ [])

unfoldable pub array_answer : List ℕ → ℕ → ℕ
array_answer s at = order (passes (front_answer s at) ∷ passes (cond (eqb (array_at s at) 0) 0 (pointed_answer s at)) ∷ [])

-- of a header's pointer and all that it points to
unfoldable pub extensions_answer : List ℕ → ℕ → ℕ
extensions_answer s at = order (lacks s at 4 gives 13 ∷ passes (cond (eqb (field s at 4) 0) 0 (array_answer s at)) ∷ [])

-- the first byte after the array
unfoldable pub array_end : List ℕ → ℕ → ℕ
array_end s at = cond (eqb (array_at s at) 0) (at + 16) (start_of s (extents_start s at) (count_at s at))

-- the header's length: the first byte after its extensions
unfoldable pub extensions_end : List ℕ → ℕ → ℕ
extensions_end s at = cond (eqb (field s at 4) 0) (at + 4) (array_end s at)

-- how many there are: none under a null pointer
unfoldable pub extensions_count : List ℕ → ℕ → ℕ
extensions_count s at = cond (eqb (field s at 4) 0) 0 (count_at s at)

-- ---- the fields

unfoldable pub extents_at : List ℕ → ℕ → ℕ → ℕ → List Extent
extents_at s p at zero = []
extents_at s p at (suc n) =
    record { pointer = field s p 4; id = guid_at s (at + 4); content = take (size_at s at) (drop (at + 24) s) }
    ∷ extents_at s (p + 4) (next_at s at) n

-- the extensions of an accepted header
unfoldable pub extensions_at : List ℕ → ℕ → Array
extensions_at s at =
    record {
      header = field s at 4;
      pointer = cond (eqb (field s at 4) 0) 0 (array_at s at);
      extents = extents_at s (at + 20) (extents_start s at) (extensions_count s at);
    }

-- what the reader reports of them: the two pointers and the count; zeros where they are refused
unfoldable pub read_extensions : List ℕ → ℕ → Extensions
read_extensions s at =
    cond (eqb (extensions_answer s at) 0)
    (record { pointer = field s at 4; array = cond (eqb (field s at 4) 0) 0 (array_at s at); count = extensions_count s at })
    (record { pointer = 0; array = 0; count = 0 })

-- an answer, and where what it accepts ends
abbrev pub walked_to : ℕ → ℕ → Walked
walked_to n to = cond (eqb n 0) (record { answer = 0; to = to }) (record { answer = n; to = 0 })

-- where what was judged ends, or a refusal, as C takes it
abbrev pub reached : Result ℕ Refusal → Walked
reached (Ok to) = record { answer = 0; to = to }
reached (Err why) = record { answer = refusal_number why; to = 0 }

-- the answer, and the header's length
unfoldable pub walk : List ℕ → ℕ → Walked
walk s at = walked_to (extensions_answer s at) (extensions_end s at)

-- extension k: its refusals first, then 24; its pointer number, its id, and where its data stands, without padding
abbrev pub no_extension : ℕ → Extension
no_extension n = record { answer = n; pointer = 0; id = record { low = 0; high = 0 }; from = 0; to = 0 }

-- an extension that was found, or a refusal, as C takes it
abbrev pub extension_of : Result Found Refusal → Extension
extension_of (Ok x) = record { answer = 0; pointer = x.pointer; id = x.id; from = x.place.start; to = x.place.end }
extension_of (Err why) = no_extension (refusal_number why)

unfoldable pub extension_from : List ℕ → ℕ → ℕ → ℕ → Extension
extension_from s p at k =
    record {
      answer = 0;
      pointer = field s (p + 4 * k) 4;
      id = guid_at s (start_of s at k + 4);
      from = start_of s at k + 24;
      to = start_of s at k + 24 + size_at s (start_of s at k);
    }

unfoldable pub extension_at : List ℕ → ℕ → ℕ → Extension
extension_at s at k =
    cond (eqb (extensions_answer s at) 0)
    (cond (ltb k (extensions_count s at)) (extension_from s (at + 20) (extents_start s at) k) (no_extension 24))
    (no_extension (extensions_answer s at))

-- where its data stands
abbrev pub place_of : Extension → Place
place_of x = record { answer = x.answer; from = x.from; to = x.to }
