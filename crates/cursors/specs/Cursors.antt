-- Bindings, properties and extensions in one pass: where a walk begins, what one step of it meets, and that step k is number k.
use Rattle.std.specs.Prelude.{ℕ, suc, zero, ◌+◌, ◌-◌, ◌/◌, ◌<◌, ◌≤◌, ◌≡◌, cond, List, [], ◌∷◌, length, eqb}
use Rattle.std.specs.Prelude.{Result, Ok, Err}
use Rattle.kinds.specs.Answers.{refusal_number}
use Rattle.kinds.specs.Refusals.{◌gives◌, order}
use Rattle.kinds.specs.declared.refusal.Refusal.{Refusal}
use Rattle.fields.specs.Fields.{field, guid_at, rounded}
use Rattle.bindings.specs.Bindings.{part_start, part_size, list_answer, binding_at, binding_from}
use Rattle.bindings.specs.declared.Part.{Part}
use Rattle.bindings.specs.declared.Place.{Place}
use Rattle.contexts.specs.Contexts.{no_property, context_answer, property_place, read_property}
use Rattle.contexts.specs.declared.Property.{Property}
use Rattle.contexts.specs.declared.ReadProperty.{ReadProperty}
use Rattle.extensions.specs.Extensions.{lacks, size_at, next_at, count_at, extents_start, extensions_answer, no_extension, extension_of, extension_at, place_of}
use Rattle.extensions.specs.declared.Found.{Found}
use Rattle.headers.specs.Headers.{this_answer, this_extension}
use Rattle.cursors.specs.declared.Cursor.{Cursor}
use Rattle.cursors.specs.declared.Met.{Met}
use Rattle.cursors.specs.declared.Walk.{Walk}
use Rattle.cursors.specs.declared.extents.ExtensionWalk.{ExtensionWalk}
use Rattle.cursors.specs.declared.extents.ExtensionCursor.{ExtensionCursor}
use Rattle.cursors.specs.declared.extents.ExtensionStep.{ExtensionStep}
use Rattle.cursors.specs.declared.parts.Step.{Step}
use Rattle.cursors.specs.declared.properties.PropertyStep.{PropertyStep}

abbrev pub no_cursor : ℕ → Cursor
no_cursor n = record { answer = n; at = 0; left = 0 }

-- where a walk begins, or a refusal, as C takes it
abbrev pub cursor_of : Result Walk Refusal → Cursor
cursor_of (Ok x) = record { answer = 0; at = x.at; left = x.left }
cursor_of (Err why) = no_cursor (refusal_number why)

-- step k of a walk: its caller goes on where a step ended, as long as it was accepted
unfoldable pub step_number : {C A : Type 0} → (C → A) → (A → ℕ) → (A → C) → C → ℕ → A
step_number step answer next c zero = step c
step_number step answer next c (suc k) = cond (eqb (answer (step c)) 0) (step_number step answer next (next (step c)) k) (step c)

-- ---- the bindings of a part of a list (000, section 2.2.19)

-- its first byte, and its words; the list's refusals
unfoldable pub part_cursor : List ℕ → Part → Cursor
part_cursor s p = cond (eqb (list_answer s) 0) (record { answer = 0; at = part_start s p; left = part_size s p }) (no_cursor (list_answer s))

abbrev pub no_step : ℕ → Step
no_step n = record { answer = n; from = 0; to = 0; left = 0 }

-- a binding that was met, or a refusal, as C takes it
abbrev pub step_of : Result Met Refusal → Step
step_of (Ok x) = record { answer = 0; from = x.place.start; to = x.place.end; left = x.left }
step_of (Err why) = no_step (refusal_number why)

-- the binding at x, of n words, as a step: its words are not left
abbrev pub step_to : Place → ℕ → Step
step_to x n = record { answer = 0; from = x.from; to = x.to; left = n - (x.to - x.from) / 2 }

unfoldable pub binding_step : List ℕ → Part → ℕ → ℕ → Step
binding_step s p at n = cond (eqb (binding_from s p at n).answer 0) (step_to (binding_from s p at n) n) (no_step (binding_from s p at n).answer)

abbrev pub step_place : Step → Place
step_place x = record { answer = x.answer; from = x.from; to = x.to }

abbrev pub walked_binding : List ℕ → Part → ℕ → Step
walked_binding s p = step_number (λ c. binding_step s p c.at c.left) (λ x. x.answer) (λ x. record { answer = 0; at = x.to; left = x.left }) (part_cursor s p)

-- a walk over a part of an accepted list meets its bindings 0, 1, 2, … exactly, and then 24
abbrev pub BindingsWalked : Type 0
BindingsWalked = (s : List ℕ) (p : Part) (k : ℕ) → list_answer s ≡ 0 → step_place (walked_binding s p k) ≡ binding_at s p k

-- ---- the properties of a context (000, section 2.2.20)

-- the first byte behind its head, and their number; the context's refusals
unfoldable pub context_cursor : List ℕ → Cursor
context_cursor s = cond (eqb (context_answer s) 0) (record { answer = 0; at = 48; left = field s 40 4 }) (no_cursor (context_answer s))

abbrev pub no_property_step : ℕ → PropertyStep
no_property_step n = record { answer = n; property = no_property; from = 0; to = 0; left = 0 }

-- a property that was met, or a refusal, as C takes it
abbrev pub property_step_of : Result (Property × Met) Refusal → PropertyStep
property_step_of (Ok x) = record { answer = 0; property = x.0; from = x.1.place.start; to = x.1.place.end; left = x.1.left }
property_step_of (Err why) = no_property_step (refusal_number why)

-- of the property that begins at the byte at, where n are left
unfoldable pub property_step_answer : List ℕ → ℕ → ℕ → ℕ
property_step_answer s at n =
    order (eqb n 0 gives 24 ∷ lacks s at 40 gives 13 ∷ lacks s (at + 40) (field s (at + 36) 4) gives 13 ∷ [])

abbrev pub property_met : List ℕ → ℕ → ℕ → PropertyStep
property_met s at n =
    record {
      answer = 0;
      property = record { clsid = guid_at s at; policy = guid_at s (at + 16); flags = field s (at + 32) 4 };
      from = at + 40;
      to = at + 40 + field s (at + 36) 4;
      left = n - 1;
    }

unfoldable pub property_step : List ℕ → ℕ → ℕ → PropertyStep
property_step s at n =
    cond (eqb (property_step_answer s at n) 0) (property_met s at n) (no_property_step (property_step_answer s at n))

abbrev pub walked_property : List ℕ → ℕ → PropertyStep
walked_property s = step_number (λ c. property_step s c.at c.left) (λ x. x.answer) (λ x. record { answer = 0; at = x.to; left = x.left }) (context_cursor s)

-- a step as what is read of property k by its number
abbrev pub property_place_of : PropertyStep → Place
property_place_of x = record { answer = x.answer; from = x.from; to = x.to }

abbrev pub property_read_of : PropertyStep → ReadProperty
property_read_of x = record { answer = x.answer; property = x.property }

-- a walk over the properties of an accepted context meets properties 0, 1, 2, … exactly, fields and data, and then 24
abbrev pub PropertiesWalked : Type 0
PropertiesWalked =
    (s : List ℕ) (k : ℕ)
    → context_answer s ≡ 0
    → (property_place_of (walked_property s k) ≡ property_place s k) × (property_read_of (walked_property s k) ≡ read_property s k)

-- ---- the extensions of a call header (000, sections 2.2.13.1 and 2.2.13.2)

abbrev pub no_extension_cursor : ℕ → ExtensionCursor
no_extension_cursor n = record { answer = n; pointer = 0; at = 0; left = 0 }

-- where a walk begins, or a refusal, as C takes it
abbrev pub extension_cursor_of : Result ExtensionWalk Refusal → ExtensionCursor
extension_cursor_of (Ok x) = record { answer = 0; pointer = x.pointer; at = x.at; left = x.left }
extension_cursor_of (Err why) = no_extension_cursor (refusal_number why)

-- the first pointer number, the first extension, and how many there are: none under a null pointer; their refusals
unfoldable pub extensions_cursor : List ℕ → ℕ → ExtensionCursor
extensions_cursor s at =
    cond (eqb (extensions_answer s at) 0)
    (cond (eqb (field s at 4) 0) (no_extension_cursor 0) (record { answer = 0; pointer = at + 20; at = extents_start s at; left = count_at s at }))
    (no_extension_cursor (extensions_answer s at))

-- of an ORPCTHIS: the header's refusals first
unfoldable pub this_cursor : List ℕ → ExtensionCursor
this_cursor s = cond (eqb (this_answer s) 0) (extensions_cursor s 28) (no_extension_cursor (this_answer s))

-- of the extension that begins at the byte at and its pointer number at p, where n are left
unfoldable pub extension_step_answer : List ℕ → ℕ → ℕ → ℕ → ℕ
extension_step_answer s p at n =
    order
    (eqb n 0 gives 24
    ∷ lacks s p 4 gives 13
    ∷ lacks s at 24 gives 13
    ∷ lacks s (at + 24) (rounded (size_at s at)) gives 13
    ∷ [])

abbrev pub extension_met : List ℕ → ℕ → ℕ → ℕ → ExtensionStep
extension_met s p at n =
    record {
      extension = record { answer = 0; pointer = field s p 4; id = guid_at s (at + 4); from = at + 24; to = at + 24 + size_at s at };
      pointer = p + 4;
      at = next_at s at;
      left = n - 1;
    }

-- an extension that was met, or a refusal, as C takes it
abbrev pub extension_step_of : Result (Found × ExtensionWalk) Refusal → ExtensionStep
extension_step_of (Ok x) = record { extension = extension_of (Ok x.0); pointer = x.1.pointer; at = x.1.at; left = x.1.left }
extension_step_of (Err why) = record { extension = no_extension (refusal_number why); pointer = 0; at = 0; left = 0 }

unfoldable pub extension_step : List ℕ → ℕ → ℕ → ℕ → ExtensionStep
extension_step s p at n =
    cond (eqb (extension_step_answer s p at n) 0)
    (extension_met s p at n)
    (record { extension = no_extension (extension_step_answer s p at n); pointer = 0; at = 0; left = 0 })

abbrev pub walked_extension : List ℕ → ExtensionCursor → ℕ → ExtensionStep
walked_extension s =
    step_number (λ c. extension_step s c.pointer c.at c.left) (λ x. x.extension.answer)
    (λ x. record { answer = 0; pointer = x.pointer; at = x.at; left = x.left })

-- a walk over the extensions of an accepted header meets extensions 0, 1, 2, … exactly, and then 24
abbrev pub ExtensionsWalked : Type 0
ExtensionsWalked =
    (s : List ℕ) (at k : ℕ) → extensions_answer s at ≡ 0 → (walked_extension s (extensions_cursor s at) k).extension ≡ extension_at s at k

abbrev pub ThisWalked : Type 0
ThisWalked = (s : List ℕ) (k : ℕ) → this_answer s ≡ 0 → (walked_extension s (this_cursor s) k).extension ≡ this_extension s k

-- ---- any numbers

-- a place that lies in s
abbrev pub Inside : List ℕ → Place → Type 0
Inside s x = (x.from ≤ x.to) × (x.to ≤ length s)

-- whatever numbers a step is asked for, what it answers lies inside; a refusal has zeros
pub record StepsInside : Type 0 where
  pub bindings : (s : List ℕ) (p : Part) (at n : ℕ) → Inside s (step_place (binding_step s p at n))
  pub properties : (s : List ℕ) (at n : ℕ) → Inside s (property_place_of (property_step s at n))
  pub extensions : (s : List ℕ) (p at n : ℕ) → Inside s (place_of (extension_step s p at n).extension)

-- so a walk from any numbers ends: an accepted step began where it was asked to, goes on behind that and inside, and less is left
abbrev pub GoesOn : List ℕ → ℕ → ℕ → ℕ → ℕ → Type 0
GoesOn s at n to left = (at < to) × (to ≤ length s) × (left < n)

pub record StepsEnd : Type 0 where
  pub bindings : (s : List ℕ) (p : Part) (at n : ℕ) → (binding_step s p at n).answer ≡ 0
      → ((binding_step s p at n).from ≡ at) × GoesOn s at n (binding_step s p at n).to (binding_step s p at n).left
  pub properties : (s : List ℕ) (at n : ℕ) → (property_step s at n).answer ≡ 0
      → GoesOn s at n (property_step s at n).to (property_step s at n).left
  pub extensions : (s : List ℕ) (p at n : ℕ) → (extension_step s p at n).extension.answer ≡ 0
      → GoesOn s p n (extension_step s p at n).pointer (extension_step s p at n).left
      × GoesOn s at n (extension_step s p at n).at (extension_step s p at n).left
