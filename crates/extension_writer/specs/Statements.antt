-- What is proved of writing an array, wherever the header's pointer stands.
use Rattle.std.specs.Prelude.{ℕ, ◌^◌, ◌<◌, ◌≤◌, ◌≡◌, true, cond, List, [], ◌∷◌, ◌++◌, length, get_or, drop}
use Rattle.fields.specs.Fields.{Bytes, longest}
use Rattle.extensions.specs.Extensions.{Extent, Array, array_bytes, extensions_answer, extensions_at, extensions_end}
use Rattle.extension_writer.specs.Writing.{given, writable, takes, words_of, contents_of}

-- ---- numbers that fit their fields, as the machine's do

pub data AllFit : List Extent → Type 0 where
  none : AllFit []
  more : {e : Extent} {es : List Extent} → e.id.low < 2 ^ 64 → e.id.high < 2 ^ 64 → AllFit es → AllFit (e ∷ es)

pub record Fits (a : Array) : Type 0 where
  pub header : a.header < 2 ^ 32
  pub pointer : a.pointer < 2 ^ 32
  pub ids : AllFit a.extents

-- each word has 64 bits
abbrev pub Words : List ℕ → Type 0
Words ws = (i : ℕ) → get_or ws i 0 < 2 ^ 64

-- ---- the statements

-- s is read at at as the array a, and rest follows it
pub record ReadAs (s : List ℕ) (at : ℕ) (a : Array) (rest : List ℕ) : Type 0 where
  pub answer : extensions_answer s at ≡ 0
  pub same : extensions_at s at ≡ a
  pub next : drop (extensions_end s at) s ≡ rest

-- the layout of an array that can be written, whatever stands before and after it, is accepted and read as the array
abbrev pub ReadBack : Type 0
ReadBack =
    (s : List ℕ) (at : ℕ) (a : Array) (rest : List ℕ) → at ≤ length s → Fits a → writable a ≡ true → drop at s ≡ array_bytes a ++ rest → ReadAs s at a rest

-- what the reader accepts the writer does not refuse by 14
abbrev pub ReadIsWritable : Type 0
ReadIsWritable = (s : List ℕ) (at : ℕ) → Bytes s → extensions_answer s at ≡ 0 → writable (extensions_at s at) ≡ true

-- the words and data of an array describe it, and those of an array that is read are taken
pub record Described (a : Array) : Type 0 where
  pub same : given a.header a.pointer (words_of a.extents) (contents_of a.extents) ≡ a
  pub taken : writable a ≡ true → takes a.header a.pointer (words_of a.extents) (contents_of a.extents) ≡ true

abbrev pub ReadIsTaken : Type 0
ReadIsTaken = (a : Array) → Described a

-- words of 64 bits describe an array whose numbers fit
abbrev pub WordsFit : Type 0
WordsFit = (header pointer : ℕ) (ws d : List ℕ) → header < 2 ^ 32 → pointer < 2 ^ 32 → Words ws → Fits (given header pointer ws d)

-- pointers and sizes that fit their fields
pub data AllNarrow : List Extent → Type 0 where
  none : AllNarrow []
  more : {e : Extent} {es : List Extent} → e.pointer < 2 ^ 32 → length e.content ≤ longest → AllNarrow es → AllNarrow (e ∷ es)

-- of an array behind a header's pointer, whose numbers fit: what the writer refuses by 14 is what the reader would refuse of what it would
-- write, by the same number
abbrev pub WriterAsReader : Type 0
WriterAsReader =
    (s : List ℕ) (at : ℕ) (a : Array) (rest : List ℕ) → at ≤ length s → Fits a → AllNarrow a.extents → length a.extents < 2 ^ 32
    → (a.header ≡ 0 → ⊥) → drop at s ≡ array_bytes a ++ rest → extensions_answer s at ≡ cond (writable a) 0 14
