-- Writing extensions. A writer is lent the two pointers, four words for each extension (the two halves of its id, its pointer number,
-- the size of its data), and all data end to end.
use Rattle.std.specs.Prelude.{ℕ, suc, zero, ◌+◌, ◌*◌, ◌/◌, ◌%◌, ◌^◌, Bool, true, cond, not, ◌&&◌, ◌||◌, List, [], ◌∷◌, ◌++◌, length, get_or, take, drop, eqb, ltb, leb}
use Rattle.kinds.specs.Refusals.{◌gives◌, order}
use Rattle.extensions.specs.Extensions.{pairs, Extent, Array, array_bytes, most, walked_to}
use Rattle.extensions.specs.declared.Walked.{Walked}
use Rattle.fields.specs.Fields.{longest, rounded}

-- n extensions from word i on, their data from the front of d on
unfoldable pub described : List ℕ → List ℕ → ℕ → ℕ → List Extent
described ws d i zero = []
described ws d i (suc n) =
    record { pointer = get_or ws (i + 2) 0; id = record { low = get_or ws i 0; high = get_or ws (i + 1) 0 }; content = take (get_or ws (i + 3) 0) d }
    ∷ described ws (drop (get_or ws (i + 3) 0) d) (i + 4) n

unfoldable pub given : ℕ → ℕ → List ℕ → List ℕ → Array
given header pointer ws d = record { header = header; pointer = pointer; extents = described ws d 0 (length ws / 4) }

-- the words and the data of extensions
unfoldable pub words_of : List Extent → List ℕ
words_of [] = []
words_of (e ∷ es) = e.id.low ∷ e.id.high ∷ e.pointer ∷ length e.content ∷ words_of es

unfoldable pub contents_of : List Extent → List ℕ
contents_of [] = []
contents_of (e ∷ es) = e.content ++ contents_of es

-- the sizes of n extensions from word i on, in all
unfoldable pub sizes : List ℕ → ℕ → ℕ → ℕ
sizes ws i zero = 0
sizes ws i (suc n) = get_or ws (i + 3) 0 + sizes ws (i + 4) n

-- the words are four for each extension, and the data are as long as they say
unfoldable pub agree : List ℕ → List ℕ → Bool
agree ws d = eqb (length ws % 4) 0 && eqb (sizes ws 0 (length ws / 4)) (length d)

-- an extension has a pointer of 32 bits that is not null, and data whose sizes fit 32 bits
unfoldable pub entry_writable : ℕ → ℕ → Bool
entry_writable pointer size = not (eqb pointer 0) && (ltb pointer (2 ^ 32) && leb size longest)

abbrev pub extent_writable : Extent → Bool
extent_writable e = entry_writable e.pointer (length e.content)

unfoldable pub extents_writable : List Extent → Bool
extents_writable [] = true
extents_writable (e ∷ es) = extent_writable e && extents_writable es

-- nothing under a null header pointer; at most 32; a null pointer to the array only where there are none
unfoldable pub writable : Array → Bool
writable a =
    cond (eqb a.header 0)
    (eqb a.pointer 0 && eqb (length a.extents) 0)
    (leb (length a.extents) most && ((not (eqb a.pointer 0) || eqb (length a.extents) 0) && extents_writable a.extents))

-- the same by the words: n extensions from word i on, and how many bytes they take
unfoldable pub words_writable : List ℕ → ℕ → ℕ → Bool
words_writable ws i zero = true
words_writable ws i (suc n) = entry_writable (get_or ws (i + 2) 0) (get_or ws (i + 3) 0) && words_writable ws (i + 4) n

unfoldable pub extents_length : List ℕ → ℕ → ℕ → ℕ
extents_length ws i zero = 0
extents_length ws i (suc n) = 24 + rounded (get_or ws (i + 3) 0) + extents_length ws (i + 4) n

unfoldable pub array_length : ℕ → ℕ → List ℕ → ℕ
array_length header pointer ws =
    cond (eqb header 0) 4 (cond (eqb pointer 0) 16 (20 + 4 * pairs (length ws / 4) + extents_length ws 0 (length ws / 4)))

-- what can be written
unfoldable pub takes : ℕ → ℕ → List ℕ → List ℕ → Bool
takes header pointer ws d = agree ws d && writable (given header pointer ws d)

-- the writer's answer for a header whose pointer stands at at, in a buffer of n bytes: 14, then 15
unfoldable pub write_answer : ℕ → ℕ → List ℕ → List ℕ → ℕ → ℕ → ℕ
write_answer header pointer ws d at n =
    order
    (not (takes header pointer ws d) gives 14
    ∷ ltb n (at + length (array_bytes (given header pointer ws d))) gives 15
    ∷ [])

-- the answer, and the header's length
unfoldable pub write_walk : ℕ → ℕ → List ℕ → List ℕ → ℕ → ℕ → Walked
write_walk header pointer ws d at n = walked_to (write_answer header pointer ws d at n) (at + length (array_bytes (given header pointer ws d)))
