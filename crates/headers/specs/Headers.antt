-- The call headers ORPCTHIS and ORPCTHAT with their extensions (document 01, "Call headers"; document 02, request 14; 000, section 2.2.13).
use Rattle.std.specs.Prelude.{ℕ, ◌+◌, cond, ◌||◌, List, [], ◌∷◌, ◌++◌, length, eqb, ltb, Result, Ok, Err}
use Rattle.kinds.specs.Answers.{refusal_number}
use Rattle.kinds.specs.declared.refusal.Refusal.{Refusal}
use Rattle.kinds.specs.Refusals.{◌gives◌, passes, differ, order}
use Rattle.fields.specs.Fields.{field, encode, guid_at, guid_bytes}
use Rattle.extensions.specs.Extensions.{Array, array_bytes, extensions_answer, extensions_end, read_extensions, extension_at, no_extension, walked_to}
use Rattle.extension_writer.specs.Writing.{write_answer, write_walk, given}
use Rattle.extensions.specs.declared.Extension.{Extension}
use Rattle.extensions.specs.declared.Walked.{Walked}
use Rattle.headers.specs.declared.Whole.{Whole}
use Rattle.headers.specs.declared.OrpcThis.{OrpcThis}
use Rattle.headers.specs.declared.ReadThis.{ReadThis}
use Rattle.headers.specs.declared.OrpcThat.{OrpcThat}
use Rattle.headers.specs.declared.ReadThat.{ReadThat}

-- the major version that is spoken, and the highest minor version that is understood
abbrev pub major : ℕ
major = 5

abbrev pub highest_minor : ℕ
highest_minor = 7

-- ---- ORPCTHIS: major (2), minor (2), flags (4), reserved (4), causality id (16), extensions from byte 28

-- the 28 bytes before the extensions, with r in the reserved field
unfoldable pub this_front : ℕ → OrpcThis → List ℕ
this_front r h = encode 2 major ++ encode 2 h.minor ++ encode 4 h.flags ++ encode 4 r ++ guid_bytes h.causality

-- the bytes of a header
unfoldable pub this_bytes : ℕ → OrpcThis → Array → List ℕ
this_bytes r h a = this_front r h ++ array_bytes a

-- under 32 bytes 13; major not 5, or minor above 7, 16; then the extensions
unfoldable pub this_answer : List ℕ → ℕ
this_answer s =
    order
    (ltb (length s) 32 gives 13
    ∷ (differ (field s 0 2) major || ltb highest_minor (field s 2 2)) gives 16
    ∷ passes (extensions_answer s 28)
    ∷ [])

-- the fields of the header at the front of s
unfoldable pub this_at : List ℕ → OrpcThis
this_at s = record { minor = field s 2 2; flags = field s 4 4; causality = guid_at s 12 }

-- the answer, and the header's length
unfoldable pub this_walk : List ℕ → Walked
this_walk s = walked_to (this_answer s) (extensions_end s 28)

-- a refusal's number, with zeros
abbrev pub no_this : ℕ → ReadThis
no_this n =
    record {
      answer = n;
      header = record { minor = 0; flags = 0; causality = record { low = 0; high = 0 } };
      extensions = record { pointer = 0; array = 0; count = 0 };
      length = 0;
    }

-- a header that was read, or a refusal, as C takes it
abbrev pub this_read : Result (Whole OrpcThis) Refusal → ReadThis
this_read (Ok x) = record { answer = 0; header = x.header; extensions = x.extensions; length = x.length }
this_read (Err why) = no_this (refusal_number why)

unfoldable pub read_this : List ℕ → ReadThis
read_this s =
    cond (eqb (this_answer s) 0)
    (record { answer = 0; header = this_at s; extensions = read_extensions s 28; length = extensions_end s 28 })
    (no_this (this_answer s))

-- extension k: the header's refusals first, then 24
unfoldable pub this_extension : List ℕ → ℕ → Extension
this_extension s k = cond (eqb (this_answer s) 0) (extension_at s 28 k) (no_extension (this_answer s))

-- the writer's answer for a buffer of n bytes: a minor above 7 is 16, then 14, then 15
unfoldable pub this_written : OrpcThis → ℕ → ℕ → List ℕ → List ℕ → ℕ → ℕ
this_written h header pointer ws d n = order (ltb highest_minor h.minor gives 16 ∷ passes (write_answer header pointer ws d 28 n) ∷ [])

-- the answer, and the header's length
unfoldable pub this_writing : OrpcThis → ℕ → ℕ → List ℕ → List ℕ → ℕ → Walked
this_writing h header pointer ws d n = walked_to (this_written h header pointer ws d n) (28 + length (array_bytes (given header pointer ws d)))

-- ---- ORPCTHAT: flags (4), extensions from byte 4

unfoldable pub that_bytes : OrpcThat → Array → List ℕ
that_bytes h a = encode 4 h.flags ++ array_bytes a

-- under 8 bytes 13; then the extensions
abbrev pub that_answer : List ℕ → ℕ
that_answer s = extensions_answer s 4

unfoldable pub that_at : List ℕ → OrpcThat
that_at s = record { flags = field s 0 4 }

abbrev pub no_that : ℕ → ReadThat
no_that n = record { answer = n; header = record { flags = 0 }; extensions = record { pointer = 0; array = 0; count = 0 }; length = 0 }

abbrev pub that_read : Result (Whole OrpcThat) Refusal → ReadThat
that_read (Ok x) = record { answer = 0; header = x.header; extensions = x.extensions; length = x.length }
that_read (Err why) = no_that (refusal_number why)

unfoldable pub read_that : List ℕ → ReadThat
read_that s =
    cond (eqb (that_answer s) 0)
    (record { answer = 0; header = that_at s; extensions = read_extensions s 4; length = extensions_end s 4 })
    (no_that (that_answer s))

-- extension k: the header's refusals first, then 24
abbrev pub that_extension : List ℕ → ℕ → Extension
that_extension s k = extension_at s 4 k

-- the writer's answer, and the header's length: 14, then 15
abbrev pub that_writing : ℕ → ℕ → List ℕ → List ℕ → ℕ → Walked
that_writing header pointer ws d n = write_walk header pointer ws d 4 n

-- no extensions
abbrev pub none : Array
none = given 0 0 [] []
