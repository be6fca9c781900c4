-- What is to hold of reading and writing references, over their layout: one pair of statements for the four forms, contexts included
-- (document 02, request 5).
use Rattle.std.specs.Prelude.{ℕ, ◌^◌, ◌<◌, ◌≤◌, ◌≡◌, true, false, cond, List, [], ◌++◌, length, take, drop}
use Rattle.fields.specs.Fields.{stored, Bytes, GuidFits, longest}
use Rattle.bindings.specs.Bindings.{list_answer}
use Rattle.contexts.specs.Contexts.{Held, is_marshaler, context_at, context_bytes, properties_at, properties_bytes}
use Rattle.contexts.specs.RoundTrips.{Fits as ContextFits, AllProper, HoldsContext}
use Rattle.contexts.specs.declared.Context.{Context}
use Rattle.references.specs.References.{is_form, is_extended, content_of, reference_answer, read_reference, tail_of}
use Rattle.reference_writer.specs.Writing.{formed, reference_bytes, value_answer, written_length, write_answer}
use Rattle.references.specs.declared.Block.{Block}
use Rattle.references.specs.declared.Reference.{Reference}

-- fields that fit their widths, as the machine's numbers do
pub record BlockFits (b : Block) : Type 0 where
  pub flags : b.flags < 2 ^ 32
  pub public : b.public < 2 ^ 32
  pub oxid : b.oxid.0 < 2 ^ 64
  pub oid : b.oid.0 < 2 ^ 64
  pub ipid : GuidFits b.ipid

pub record Fits (r : Reference) : Type 0 where
  pub iid : GuidFits r.iid
  pub block : BlockFits r.block
  pub clsid : GuidFits r.clsid
  pub extension : r.extension < 2 ^ 32
  pub size : r.size < 2 ^ 32
  pub element : GuidFits r.element

-- s is read as the reference r with its tail t and the data x of its element; a tail that is the bytes of a context is read as it
pub record ReadAs (s : List ℕ) (r : Reference) (t x : List ℕ) : Type 0 where
  pub fields : read_reference s ≡ record { answer = 0; reference = formed r }
  pub tail : tail_of s ≡ t
  pub content : content_of s ≡ cond (is_extended r.flags) x []
  pub context : (c : Context) (hs : List Held) → ContextFits c → AllProper hs → c.count ≡ length hs → t ≡ context_bytes c (properties_bytes hs)
      → HoldsContext (tail_of s) c hs

-- what the writer put at the front of a buffer b is read as it was written
abbrev pub WriteThenRead : Type 0
WriteThenRead = (r : Reference) (t x b : List ℕ) → Fits r → write_answer r t x (length b) ≡ 0
    → ReadAs (take (written_length r t x) (stored 0 (reference_bytes r t x) b)) r t x

-- the writer accepts r with the tail and the data of s, and puts s at the front of b; a context in s is laid out as one
pub record WrittenBack (s b : List ℕ) (r : Reference) : Type 0 where
  pub accepted : write_answer r (tail_of s) (content_of s) (length b) ≡ 0
  pub same : stored 0 (reference_bytes r (tail_of s) (content_of s)) b ≡ s ++ drop (length s) b
  pub context : r.flags ≡ 4 → is_marshaler r.clsid ≡ true
      → tail_of s ≡ context_bytes (context_at (tail_of s)) (properties_bytes (properties_at (context_at (tail_of s)).count (drop 48 (tail_of s))))

-- what was read is accepted by the writer, and written as the same bytes into any buffer that is long enough
abbrev pub ReadThenWrite : Type 0
ReadThenWrite = (s b : List ℕ) (r : Reference) → Bytes s → read_reference s ≡ record { answer = 0; reference = r } → length s ≤ length b
    → WrittenBack s b r

-- the round trip of all four forms, nested references and contexts included, in one statement
pub record RoundTrip : Type 0 where
  pub read_then_write : ReadThenWrite
  pub write_then_read : WriteThenRead

-- what has to hold of a list and an element's data besides, so that the reader sees where each ends
unfoldable pub Sized : Reference → List ℕ → List ℕ → Type 0
Sized r t x = r.flags ≡ 8 → (list_answer t ≡ 0) × (length x ≤ longest)

-- what the writer refuses before 15 is what the reader would refuse of what it would write
abbrev pub WriterAsReader : Type 0
WriterAsReader = (r : Reference) (t x : List ℕ) → Fits r → is_form r.flags ≡ true → Sized r t x
    → value_answer r t x ≡ reference_answer (reference_bytes r t x)

-- and what the reader could not see so: other flags, a broken list before elements, data too long for its size fields
pub record WriterRefuses : Type 0 where
  pub flags : (r : Reference) (t x : List ℕ) → is_form r.flags ≡ false → value_answer r t x ≡ 14
  pub list : (r : Reference) (t x : List ℕ) → r.flags ≡ 8 → (list_answer t ≡ 0 → ⊥) → value_answer r t x ≡ list_answer t
  pub too_long : (r : Reference) (t x : List ℕ) → r.flags ≡ 8 → list_answer t ≡ 0 → longest < length x → value_answer r t x ≡ 14
