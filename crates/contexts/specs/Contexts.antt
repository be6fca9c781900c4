-- The context in the object data of a custom reference (000, section 2.2.20) and its properties (section 2.2.20.1).
use Rattle.std.specs.Prelude.{ℕ, suc, zero, ◌+◌, ◌-◌, Bool, cond, not, ◌&&◌, ◌||◌, List, [], ◌∷◌, ◌++◌, length, take, drop, eqb, ltb}
use Rattle.std.specs.Prelude.{Result, Ok, Err}
use Rattle.kinds.specs.Answers.{refusal_number}
use Rattle.kinds.specs.declared.refusal.Refusal.{Refusal}
use Rattle.kinds.specs.Refusals.{◌gives◌, passes, differ, order}
use Rattle.kinds.specs.declared.Guid.{Guid}
use Rattle.fields.specs.Fields.{field, encode, guid_at, guid_bytes}
use Rattle.fields.specs.declared.Written.{Written}
use Rattle.bindings.specs.Bindings.{refusal}
use Rattle.bindings.specs.declared.Place.{Place}
use Rattle.contexts.specs.declared.Context.{Context}
use Rattle.contexts.specs.declared.Property.{Property}
use Rattle.contexts.specs.declared.ReadContext.{ReadContext}
use Rattle.contexts.specs.declared.ReadProperty.{ReadProperty}

-- {0000033b-0000-0000-c000-000000000046}, the context marshaler (000, section 1.9)
abbrev pub context_marshaler : Guid
context_marshaler = record { low = 0x33B; high = 0x46000000000000C0 }

abbrev pub is_marshaler : Guid → Bool
is_marshaler g = eqb g.low context_marshaler.low && eqb g.high context_marshaler.high

-- CPFLAG_PROPAGATE, CPFLAG_EXPOSE or CPFLAG_ENVOY
abbrev pub is_property_flags : ℕ → Bool
is_property_flags f = eqb f 1 || (eqb f 2 || eqb f 4)

-- ---- layout

-- a property with its data: class (16), policy (16), flags (4), size of the data (4), the data; no rounding
unfoldable pub property_bytes : Property → List ℕ → List ℕ
property_bytes p x = guid_bytes p.clsid ++ guid_bytes p.policy ++ encode 4 p.flags ++ encode 4 (length x) ++ x

-- the 48 bytes before the properties: version 1.1 (2, 2), context id (16), flags 2 = by value (4), reserved (4), no extents (4, 4),
-- marshal flags (4), the number of properties (4), frozen (4)
unfoldable pub head_bytes : Context → List ℕ
head_bytes c =
    encode 2 1 ++ encode 2 1 ++ guid_bytes c.id ++ encode 4 2 ++ encode 4 c.reserved ++ encode 4 0 ++ encode 4 0
    ++ encode 4 c.marshal ++ encode 4 c.count ++ encode 4 c.frozen

-- a property and its data
pub record Held : Type 0 where
  pub property : Property
  pub content : List ℕ

unfoldable pub properties_bytes : List Held → List ℕ
properties_bytes [] = []
properties_bytes (h ∷ hs) = property_bytes h.property h.content ++ properties_bytes hs

-- a context with the bytes of its properties
unfoldable pub context_bytes : Context → List ℕ → List ℕ
context_bytes c ps = head_bytes c ++ ps

-- ---- the fields

abbrev pub no_context : Context
no_context = record { id = record { low = 0; high = 0 }; reserved = 0; marshal = 0; count = 0; frozen = 0 }

abbrev pub context_at : List ℕ → Context
context_at s =
    record {
      id = guid_at s 4;
      reserved = field s 24 4;
      marshal = field s 36 4;
      count = field s 40 4;
      frozen = field s 44 4;
    }

abbrev pub no_property : Property
no_property = record { clsid = record { low = 0; high = 0 }; policy = record { low = 0; high = 0 }; flags = 0 }

abbrev pub property_at : List ℕ → Property
property_at t = record { clsid = guid_at t 0; policy = guid_at t 16; flags = field t 32 4 }

-- the length of the property at the front of t, and its data
abbrev pub property_length : List ℕ → ℕ
property_length t = 40 + field t 36 4

abbrev pub property_content : List ℕ → List ℕ
property_content t = take (field t 36 4) (drop 40 t)

-- the n properties in a row at the front of t
unfoldable pub properties_at : ℕ → List ℕ → List Held
properties_at zero t = []
properties_at (suc n) t = record { property = property_at t; content = property_content t } ∷ properties_at n (drop (property_length t) t)

-- ---- reading: field by field, 13 where the field is not all there, then 14

-- of the property at the front of t; the bytes after it are the caller's matter
unfoldable pub property_answer : List ℕ → ℕ
property_answer t =
    order
    (ltb (length t) 36 gives 13
    ∷ not (is_property_flags (field t 32 4)) gives 14
    ∷ ltb (length t) 40 gives 13
    ∷ ltb (length t) (property_length t) gives 13
    ∷ [])

-- n properties in a row and nothing after them
unfoldable pub properties_answer : ℕ → List ℕ → ℕ
properties_answer zero t = order (ltb 0 (length t) gives 14 ∷ [])
properties_answer (suc n) t = order (passes (property_answer t) ∷ passes (properties_answer n (drop (property_length t) t)) ∷ [])

-- of the 48 bytes before the properties: version and flags, then extents; id, reserved, marshal flags and frozen may be anything
unfoldable pub extents_answer : List ℕ → ℕ
extents_answer s =
    order
    (ltb (length s) 32 gives 13
    ∷ differ (field s 28 4) 0 gives 14
    ∷ ltb (length s) 36 gives 13
    ∷ differ (field s 32 4) 0 gives 14
    ∷ ltb (length s) 48 gives 13
    ∷ [])

unfoldable pub head_answer : List ℕ → ℕ
head_answer s =
    order
    (ltb (length s) 2 gives 13
    ∷ differ (field s 0 2) 1 gives 14
    ∷ ltb (length s) 4 gives 13
    ∷ differ (field s 2 2) 1 gives 14
    ∷ ltb (length s) 24 gives 13
    ∷ differ (field s 20 4) 2 gives 14
    ∷ passes (extents_answer s)
    ∷ [])

unfoldable pub context_answer : List ℕ → ℕ
context_answer s = order (passes (head_answer s) ∷ passes (properties_answer (field s 40 4) (drop 48 s)) ∷ [])

-- a context or property that was found, or a refusal with zeros, as C takes it
abbrev pub context_read : Result Context Refusal → ReadContext
context_read (Ok x) = record { answer = 0; context = x }
context_read (Err why) = record { answer = refusal_number why; context = no_context }

abbrev pub property_read : Result Property Refusal → ReadProperty
property_read (Ok x) = record { answer = 0; property = x }
property_read (Err why) = record { answer = refusal_number why; property = no_property }

unfoldable pub read_context : List ℕ → ReadContext
read_context s =
    cond (eqb (context_answer s) 0)
    (record { answer = 0; context = context_at s })
    (record { answer = context_answer s; context = no_context })

-- ---- property k

-- where the data of property k stands among n properties that begin at the byte at of the whole
unfoldable pub content_place : ℕ → List ℕ → ℕ → ℕ → Place
content_place zero t k at = refusal 24
content_place (suc n) t zero at = record { answer = 0; from = at + 40; to = at + property_length t }
content_place (suc n) t (suc k) at = content_place n (drop (property_length t) t) k (at + property_length t)

-- of a context: its refusals first, then 24
unfoldable pub property_place : List ℕ → ℕ → Place
property_place s k =
    cond (eqb (context_answer s) 0) (content_place (field s 40 4) (drop 48 s) k 48) (refusal (context_answer s))

-- the fields of property k, which end where its data begins
unfoldable pub read_property : List ℕ → ℕ → ReadProperty
read_property s k =
    cond (eqb (property_place s k).answer 0)
    (record { answer = 0; property = property_at (drop ((property_place s k).from - 40) s) })
    (record { answer = (property_place s k).answer; property = no_property })

-- ---- writing into a buffer of n bytes

-- a property with its data: bad flags 14; data too long for its size 14; 15
unfoldable pub write_property_answer : Property → List ℕ → ℕ → ℕ
write_property_answer p x n =
    order
    (not (is_property_flags p.flags) gives 14
    ∷ ltb 0xFFFFFFFF (length x) gives 14
    ∷ ltb n (40 + length x) gives 15
    ∷ [])

-- the answer, and the number of bytes written
unfoldable pub write_property : Property → List ℕ → ℕ → Written
write_property p x n =
    cond (eqb (write_property_answer p x n) 0)
    (record { answer = 0; length = 40 + length x })
    (record { answer = write_property_answer p x n; length = 0 })

-- a context with the bytes of its properties: their refusals; 15
unfoldable pub write_context_answer : Context → List ℕ → ℕ → ℕ
write_context_answer c ps n = order (passes (properties_answer c.count ps) ∷ ltb n (48 + length ps) gives 15 ∷ [])

unfoldable pub write_context : Context → List ℕ → ℕ → Written
write_context c ps n =
    cond (eqb (write_context_answer c ps n) 0)
    (record { answer = 0; length = 48 + length ps })
    (record { answer = write_context_answer c ps n; length = 0 })
