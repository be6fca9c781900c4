-- Writing object references: their layout, and what a writer refuses (document 01, "Reference bytes"; document 02, requests 5 and 7; 000,
-- sections 2.2.18 and 2.2.20).
use Rattle.std.specs.Prelude.{ℕ, ◌+◌, ◌-◌, cond, not, List, [], ◌∷◌, ◌++◌, length, eqb, ltb}
use Rattle.kinds.specs.Refusals.{◌gives◌, passes, order}
use Rattle.fields.specs.declared.Written.{Written}
use Rattle.fields.specs.Fields.{encode, guid_bytes, rounded}
use Rattle.bindings.specs.Bindings.{list_answer}
use Rattle.elements.specs.Elements.{signature, element_bytes, given_answer}
use Rattle.references.specs.References.{extended_signature, most_depth, by_form, is_form, is_extended, fixed_size, standard, handler}
use Rattle.references.specs.References.{custom, extended, no_reference, object_answer, layout_answer, names_nil, nil_given}
use Rattle.references.specs.declared.Block.{Block}
use Rattle.references.specs.declared.Reference.{Reference}

-- ---- layout

-- the standard object block: flags (4), public references (4), OXID (8), OID (8), IPID (16)
unfoldable pub block_bytes : Block → List ℕ
block_bytes b = encode 4 b.flags ++ encode 4 b.public ++ encode 8 b.oxid.0 ++ encode 8 b.oid.0 ++ guid_bytes b.ipid

-- the header: signature (4), flags (4), IID (16)
unfoldable pub header_bytes : Reference → List ℕ
header_bytes r = encode 4 signature ++ encode 4 r.flags ++ guid_bytes r.iid

-- the fields between the header and the list or object data: block; block, CLSID; CLSID, extension size, size; block, signature
unfoldable pub body_bytes : Reference → List ℕ
body_bytes r =
    by_form r.flags
    (block_bytes r.block)
    (block_bytes r.block ++ guid_bytes r.clsid)
    (guid_bytes r.clsid ++ encode 4 r.extension ++ encode 4 r.size)
    (block_bytes r.block ++ encode 4 extended_signature)
    []

-- what an extended reference has after its list: the number of elements, the signature again, and the element with the data x
unfoldable pub elements_bytes : Reference → List ℕ → List ℕ
elements_bytes r x = cond (is_extended r.flags) (encode 4 1 ++ encode 4 extended_signature ++ element_bytes r.element x) []

-- a reference with its tail t, the binding list or the object data of the custom form, and the data x of its element
unfoldable pub reference_bytes : Reference → List ℕ → List ℕ → List ℕ
reference_bytes r t x = header_bytes r ++ body_bytes r ++ t ++ elements_bytes r x

-- a reference without the fields that its form does not have
unfoldable pub formed : Reference → Reference
formed r =
    by_form r.flags
    (standard r.iid r.block)
    (handler r.iid r.block r.clsid)
    (custom r.iid r.clsid r.extension r.size)
    (extended r.iid r.block r.element)
    no_reference

-- ---- writing a reference, its tail t and the data x of its element into a buffer of n bytes

-- the levels that are left inside the outermost reference
abbrev pub inside_depth : ℕ
inside_depth = most_depth - 1

-- the tail by itself: the list's refusals, bytes left over being 14; or those of the object data
unfoldable pub tail_answer : Reference → List ℕ → ℕ
tail_answer r t = by_form r.flags (list_answer t) (list_answer t) (object_answer r.clsid t) (list_answer t) 0

-- the element's refusals; a form without elements has none
abbrev pub element_given : Reference → List ℕ → ℕ
element_given r x = cond (is_extended r.flags) (given_answer (layout_answer inside_depth) r.element x) 0

-- bad flags 14; the tail's refusals; the element's; 22
unfoldable pub value_answer : Reference → List ℕ → List ℕ → ℕ
value_answer r t x =
    order
    (not (is_form r.flags) gives 14
    ∷ passes (tail_answer r t)
    ∷ passes (element_given r x)
    ∷ nil_given (names_nil inside_depth) r.flags r.block x gives 22
    ∷ [])

abbrev pub written_length : Reference → List ℕ → List ℕ → ℕ
written_length r t x = fixed_size r.flags + length t + cond (is_extended r.flags) (32 + rounded (length x)) 0

-- then 15
unfoldable pub write_answer : Reference → List ℕ → List ℕ → ℕ → ℕ
write_answer r t x n = order (passes (value_answer r t x) ∷ ltb n (written_length r t x) gives 15 ∷ [])

unfoldable pub write_reference : Reference → List ℕ → List ℕ → ℕ → Written
write_reference r t x n =
    cond (eqb (write_answer r t x n) 0)
    (record { answer = 0; length = written_length r t x })
    (record { answer = write_answer r t x n; length = 0 })
