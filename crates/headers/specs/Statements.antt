-- The round trips of both call headers over their layouts, extensions included. The reserved field of ORPCTHIS is the one that need not
-- return: it is ignored when read and written as zero.
use Rattle.std.specs.Prelude.{ℕ, ◌^◌, ◌<◌, ◌≤◌, ◌≡◌, true, List, ◌++◌, length, get_or, take, drop}
use Rattle.fields.specs.Fields.{field, encode, written, stored, Bytes}
use Rattle.extensions.specs.Extensions.{Extent, Array}
use Rattle.extensions.specs.Statements.{Shows}
use Rattle.extensions.specs.declared.Extensions.{Extensions}
use Rattle.extension_writer.specs.Writing.{given, writable, write_answer, words_of, contents_of}
use Rattle.extension_writer.specs.Statements.{Fits, Words}
use Rattle.headers.specs.Headers.{highest_minor, this_bytes, read_this, this_extension, this_written, that_bytes, read_that, that_extension}
use Rattle.headers.specs.declared.OrpcThis.{OrpcThis}
use Rattle.headers.specs.declared.OrpcThat.{OrpcThat}

-- the fields fit their widths, as the machine's numbers do
pub record ThisFits (h : OrpcThis) : Type 0 where
  pub minor : h.minor < 2 ^ 16
  pub flags : h.flags < 2 ^ 32
  pub low : h.causality.low < 2 ^ 64
  pub high : h.causality.high < 2 ^ 64

abbrev pub ThatFits : OrpcThat → Type 0
ThatFits h = h.flags < 2 ^ 32

-- what a reader reports of the extensions a
abbrev pub reported : Array → Extensions
reported a = record { pointer = a.header; array = a.pointer; count = length a.extents }

-- s is read as the header h with the extensions a, n bytes long: what the reader answers, and how each extension is shown
pub record ThisRead (s : List ℕ) (h : OrpcThis) (a : Array) (n : ℕ) : Type 0 where
  pub read : read_this s ≡ record { answer = 0; header = h; extensions = reported a; length = n }
  pub shown : (k : ℕ) (e : Extent) → k < length a.extents → Shows s (this_extension s k) (get_or a.extents k e)

pub record ThatRead (s : List ℕ) (h : OrpcThat) (a : Array) (n : ℕ) : Type 0 where
  pub read : read_that s ≡ record { answer = 0; header = h; extensions = reported a; length = n }
  pub shown : (k : ℕ) (e : Extent) → k < length a.extents → Shows s (that_extension s k) (get_or a.extents k e)

-- what the writer is lent for the extensions a, as an array
abbrev pub lent : Array → Array
lent a = given a.header a.pointer (words_of a.extents) (contents_of a.extents)

-- the writer's answer to the header h with what it is lent for a, in a buffer of n bytes
abbrev pub this_taken : OrpcThis → Array → ℕ → ℕ
this_taken h a n = this_written h a.header a.pointer (words_of a.extents) (contents_of a.extents) n

abbrev pub that_taken : Array → ℕ → ℕ
that_taken a n = write_answer a.header a.pointer (words_of a.extents) (contents_of a.extents) 4 n

pub record HeadersBack : Type 0 where
  -- the layout of a header is read as that header, whatever follows it
  pub this_read_back : (r : ℕ) (h : OrpcThis) (a : Array) (rest : List ℕ) → ThisFits h → h.minor ≤ highest_minor → Fits a → writable a ≡ true
      → ThisRead (this_bytes r h a ++ rest) h a (length (this_bytes r h a))
  pub that_read_back : (h : OrpcThat) (a : Array) (rest : List ℕ) → ThatFits h → Fits a → writable a ≡ true
      → ThatRead (that_bytes h a ++ rest) h a (length (that_bytes h a))
  -- bytes that are read are the layout of what is read
  pub this_bytes_back : (s : List ℕ) (h : OrpcThis) (a : Array) (n : ℕ) → Bytes s → ThisRead s h a n → s ≡ this_bytes (field s 8 4) h a ++ drop n s
  pub that_bytes_back : (s : List ℕ) (h : OrpcThat) (a : Array) (n : ℕ) → Bytes s → ThatRead s h a n → s ≡ that_bytes h a ++ drop n s
  -- reading what was written gives the same header and extensions
  pub this_write_then_read : (h : OrpcThis) (header pointer : ℕ) (ws d b : List ℕ) → ThisFits h → header < 2 ^ 32 → pointer < 2 ^ 32 → Words ws
      → this_written h header pointer ws d (length b) ≡ 0
      → ThisRead (stored 0 (this_bytes 0 h (given header pointer ws d)) b) h (given header pointer ws d) (length (this_bytes 0 h (given header pointer ws d)))
  pub that_write_then_read : (h : OrpcThat) (header pointer : ℕ) (ws d b : List ℕ) → ThatFits h → header < 2 ^ 32 → pointer < 2 ^ 32 → Words ws
      → write_answer header pointer ws d 4 (length b) ≡ 0
      → ThatRead (stored 0 (that_bytes h (given header pointer ws d)) b) h (given header pointer ws d) (length (that_bytes h (given header pointer ws d)))
  -- what was read is taken by the writer, and written as the same bytes
  pub this_read_then_write : (s b : List ℕ) (h : OrpcThis) (a : Array) (n : ℕ) → Bytes s → ThisRead s h a n → n ≤ length b
      → (this_taken h a (length b) ≡ 0) × (stored 0 (this_bytes 0 h (lent a)) b ≡ written (take n s) 8 (encode 4 0) ++ drop n b)
  pub that_read_then_write : (s b : List ℕ) (h : OrpcThat) (a : Array) (n : ℕ) → Bytes s → ThatRead s h a n → n ≤ length b
      → (that_taken a (length b) ≡ 0) × (stored 0 (that_bytes h (lent a)) b ≡ take n s ++ drop n b)
