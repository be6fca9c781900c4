-- Object references, OBJREF, in the standard, handler, custom and extended forms (document 01, "Reference bytes"; document 02, requests 5 and
-- 7; 000, sections 2.2.18 and 2.2.20).
use Rattle.std.specs.Prelude.{ℕ, suc, zero, ◌+◌, ◌/◌, ◌%◌, Bool, false, cond, not, ◌&&◌, ◌||◌, List, [], ◌∷◌, length, take, drop, eqb, ltb}
use Rattle.std.specs.Prelude.{Result, Ok, Err}
use Rattle.kinds.specs.Answers.{refusal_number}
use Rattle.kinds.specs.declared.refusal.Refusal.{Refusal}
use Rattle.kinds.specs.Refusals.{◌gives◌, passes, differ, order}
use Rattle.kinds.specs.declared.Guid.{Guid}
use Rattle.fields.specs.Fields.{field, guid_at}
use Rattle.bindings.specs.Bindings.{list_length, front_answer, list_answer, binding_at, refusal, bytes_at}
use Rattle.bindings.specs.declared.Part.{Part}
use Rattle.bindings.specs.declared.Place.{Place}
use Rattle.contexts.specs.Contexts.{is_marshaler, context_answer, property_place}
use Rattle.references.specs.declared.Block.{Block}
use Rattle.elements.specs.Elements.{signature, is_nil, is_reference, element_answer}
use Rattle.references.specs.declared.Reference.{Reference}
use Rattle.references.specs.declared.ReadReference.{ReadReference}

-- "VYSN", before the list and before the elements of an extended reference
abbrev pub extended_signature : ℕ
extended_signature = 0x4E535956

-- the number of elements that 000, section 2.2.18.7, allows
abbrev pub is_element_count : ℕ → Bool
is_element_count n = eqb n 1

-- references in references: the outermost is depth 1
abbrev pub most_depth : ℕ
most_depth = 8

-- ---- forms, by a reference's flags: a standard, b handler, c custom, d extended; e for any other flags

abbrev pub by_form : {A : Type 0} → ℕ → A → A → A → A → A → A
by_form f a b c d e = cond (eqb f 1) a (cond (eqb f 2) b (cond (eqb f 4) c (cond (eqb f 8) d e)))

abbrev pub is_form : ℕ → Bool
is_form f = eqb f 1 || (eqb f 2 || (eqb f 4 || eqb f 8))

abbrev pub is_custom : ℕ → Bool
is_custom f = eqb f 4

abbrev pub is_extended : ℕ → Bool
is_extended f = eqb f 8

-- the size of the fields before the list or the object data
unfoldable pub fixed_size : ℕ → ℕ
fixed_size f = by_form f 64 80 48 68 0

-- ---- places

-- where the list of an extended reference ends, and where its element begins
abbrev pub list_end : List ℕ → ℕ
list_end s = 68 + list_length (drop 68 s)

abbrev pub element_start : List ℕ → ℕ
element_start s = list_end s + 8

-- where the data of its element begins, and how long it is
abbrev pub content_start : List ℕ → ℕ
content_start s = element_start s + 24

abbrev pub content_length : List ℕ → ℕ
content_length s = field s (element_start s + 16) 4

abbrev pub content_of : List ℕ → List ℕ
content_of s = cond (is_extended (field s 4 4)) (take (content_length s) (drop (content_start s) s)) []

-- where the list or the object data ends
abbrev pub tail_end : List ℕ → ℕ
tail_end s = cond (is_extended (field s 4 4)) (list_end s) (length s)

-- ---- the fields

-- bit 0x1000 of a block's flags: no pinging
abbrev pub is_no_ping : Block → Bool
is_no_ping b = eqb (b.flags / 0x1000 % 2) 1

abbrev pub no_guid : Guid
no_guid = record { low = 0; high = 0 }

abbrev pub no_block : Block
no_block = record { flags = 0; public = 0; oxid = record { 0 = 0 }; oid = record { 0 = 0 }; ipid = no_guid }

abbrev pub no_reference : Reference
no_reference = record { flags = 0; iid = no_guid; block = no_block; clsid = no_guid; extension = 0; size = 0; element = no_guid }

abbrev pub standard : Guid → Block → Reference
standard iid b = record { flags = 1; iid = iid; block = b; clsid = no_guid; extension = 0; size = 0; element = no_guid }

abbrev pub handler : Guid → Block → Guid → Reference
handler iid b clsid = record { flags = 2; iid = iid; block = b; clsid = clsid; extension = 0; size = 0; element = no_guid }

abbrev pub custom : Guid → Guid → ℕ → ℕ → Reference
custom iid clsid extension size =
    record { flags = 4; iid = iid; block = no_block; clsid = clsid; extension = extension; size = size; element = no_guid }

abbrev pub extended : Guid → Block → Guid → Reference
extended iid b element = record { flags = 8; iid = iid; block = b; clsid = no_guid; extension = 0; size = 0; element = element }

abbrev pub block_at : List ℕ → ℕ → Block
block_at s at =
    record {
      flags = field s at 4;
      public = field s (at + 4) 4;
      oxid = record { 0 = field s (at + 8) 8 };
      oid = record { 0 = field s (at + 16) 8 };
      ipid = guid_at s (at + 24);
    }

unfoldable pub reference_at : List ℕ → Reference
reference_at s =
    by_form (field s 4 4)
    (standard (guid_at s 8) (block_at s 24))
    (handler (guid_at s 8) (block_at s 24) (guid_at s 64))
    (custom (guid_at s 8) (guid_at s 24) (field s 40 4) (field s 44 4))
    (extended (guid_at s 8) (block_at s 24) (guid_at s (element_start s)))
    no_reference

-- ---- reading

-- under 24 bytes 13; signature 14; flags 14; fixed fields short 13
unfoldable pub head_answer : List ℕ → ℕ
head_answer s =
    order
    (ltb (length s) 24 gives 13
    ∷ differ (field s 0 4) signature gives 14
    ∷ not (is_form (field s 4 4)) gives 14
    ∷ ltb (length s) (fixed_size (field s 4 4)) gives 13
    ∷ [])

-- object data: a context where the CLSID is the context marshaler's; other data has no refusals
unfoldable pub object_answer : Guid → List ℕ → ℕ
object_answer clsid t = cond (is_marshaler clsid) (context_answer t) 0

-- of an extended reference up to its element: signature 14; the list as in document 01, bytes left over being the elements; the number of
-- elements short 13, not 1 14; signature short 13, another number 14
unfoldable pub extended_front : List ℕ → ℕ
extended_front s =
    order
    (differ (field s 64 4) extended_signature gives 14
    ∷ passes (front_answer (drop 68 s))
    ∷ ltb (length s) (list_end s + 4) gives 13
    ∷ not (is_element_count (field s (list_end s) 4)) gives 14
    ∷ ltb (length s) (list_end s + 8) gives 13
    ∷ differ (field s (list_end s + 4) 4) extended_signature gives 14
    ∷ [])

unfoldable pub extended_answer : (List ℕ → ℕ) → List ℕ → ℕ
extended_answer g s = order (passes (extended_front s) ∷ passes (element_answer g (drop (element_start s) s)) ∷ [])

-- what follows the fixed fields of the standard, handler and custom forms
unfoldable pub plain_answer : List ℕ → ℕ
plain_answer s =
    cond (is_custom (field s 4 4)) (object_answer (guid_at s 24) (drop 48 s)) (list_answer (drop (fixed_size (field s 4 4)) s))

-- and of each form
unfoldable pub form_answer : (List ℕ → ℕ) → List ℕ → ℕ
form_answer g s = cond (is_extended (field s 4 4)) (extended_answer g s) (plain_answer s)

-- a reference, where g judges a reference in its element
unfoldable pub layout_by : (List ℕ → ℕ) → List ℕ → ℕ
layout_by g s = order (passes (head_answer s) ∷ passes (form_answer g s) ∷ [])

-- with d levels left, this one counted: 21 where none is
unfoldable pub layout_answer : ℕ → List ℕ → ℕ
layout_answer zero s = 21
layout_answer (suc d) s = layout_by (layout_answer d) s

-- ---- nil identifiers (document 02, request 7)

-- an OXID, OID or IPID of zero
abbrev pub has_nil : Block → Bool
has_nil b = eqb b.oxid.0 0 || (eqb b.oid.0 0 || is_nil b.ipid)

-- of a form with the block b, and the data x of its element, where g tells of a reference in it
abbrev pub nil_given : (List ℕ → Bool) → ℕ → Block → List ℕ → Bool
nil_given g f b x =
    by_form f (has_nil b) (has_nil b) false (has_nil b || (is_reference x && g x)) false

-- one of the three is zero, in the reference or in one inside it; d levels
unfoldable pub names_nil : ℕ → List ℕ → Bool
names_nil zero s = false
names_nil (suc d) s = nil_given (names_nil d) (field s 4 4) (block_at s 24) (content_of s)

-- with d levels left: all of 13, 14 and 21 in byte order; then 22
abbrev pub answer_within : ℕ → List ℕ → ℕ
answer_within d s = order (passes (layout_answer d s) ∷ names_nil d s gives 22 ∷ [])

unfoldable pub reference_answer : List ℕ → ℕ
reference_answer s = answer_within most_depth s

abbrev pub refused : ℕ → ReadReference
refused n = record { answer = n; reference = no_reference }

-- a reference that was found, or a refusal with zeros, as C takes it
abbrev pub reference_read : Result Reference Refusal → ReadReference
reference_read (Ok x) = record { answer = 0; reference = x }
reference_read (Err why) = refused (refusal_number why)

unfoldable pub read_reference : List ℕ → ReadReference
read_reference s = cond (eqb (reference_answer s) 0) (record { answer = 0; reference = reference_at s }) (refused (reference_answer s))

-- ---- parts of a reference: its refusals first

abbrev pub placed : List ℕ → Place → Place
placed s x = cond (eqb (reference_answer s) 0) x (refusal (reference_answer s))

-- the list or the object data
unfoldable pub tail_place : List ℕ → Place
tail_place s = placed s (record { answer = 0; from = fixed_size (field s 4 4); to = tail_end s })

abbrev pub tail_of : List ℕ → List ℕ
tail_of s = bytes_at s (tail_place s)

-- a place in the tail, as a place in the reference
abbrev pub moved : ℕ → Place → Place
moved n x = cond (eqb x.answer 0) (record { answer = 0; from = n + x.from; to = n + x.to }) x

-- binding k; a custom reference has no list: 24
unfoldable pub reference_binding : List ℕ → Part → ℕ → Place
reference_binding s p k =
    placed s (cond (is_custom (field s 4 4)) (refusal 24) (moved (fixed_size (field s 4 4)) (binding_at (tail_of s) p k)))

-- the data of element k: 24 where the form has no elements, and for k above 0
unfoldable pub element_place : List ℕ → ℕ → Place
element_place s k =
    placed s
    (cond (is_extended (field s 4 4) && eqb k 0)
    (record { answer = 0; from = content_start s; to = content_start s + content_length s })
    (refusal 24))

-- the data of context property k: 24 where the reference holds no context
unfoldable pub context_place : List ℕ → ℕ → Place
context_place s k =
    placed s
    (cond (is_custom (field s 4 4) && is_marshaler (guid_at s 24))
    (moved 48 (property_place (drop 48 s) k))
    (refusal 24))
