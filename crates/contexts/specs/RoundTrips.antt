-- What is to hold of reading and writing contexts, over their layout.
use Rattle.std.specs.Prelude.{ℕ, ◌^◌, ◌<◌, ◌≤◌, ◌≡◌, true, cond, List, [], ◌∷◌, ◌++◌, length, drop, get_or}
use Rattle.fields.specs.Fields.{Bytes, GuidFits}
use Rattle.bindings.specs.Bindings.{refusal, bytes_at}
use Rattle.contexts.specs.Contexts.{Held, is_property_flags, property_bytes, properties_bytes, context_bytes, context_at, properties_at}
use Rattle.contexts.specs.Contexts.{property_answer, properties_answer, context_answer, property_place, read_property}
use Rattle.contexts.specs.declared.Context.{Context}

-- a context whose numbers fit their widths
pub record Fits (c : Context) : Type 0 where
  pub id : GuidFits c.id
  pub reserved : c.reserved < 2 ^ 32
  pub marshal : c.marshal < 2 ^ 32
  pub count : c.count < 2 ^ 32
  pub frozen : c.frozen < 2 ^ 32

-- a property whose numbers fit their widths
pub record Narrow (h : Held) : Type 0 where
  pub clsid : GuidFits h.property.clsid
  pub policy : GuidFits h.property.policy
  pub flags : h.property.flags < 2 ^ 32
  pub size : length h.content < 2 ^ 32

-- a property that can be written
pub record Proper (h : Held) : Type 0 where
  pub narrow : Narrow h
  pub flags : is_property_flags h.property.flags ≡ true

pub data AllProper : List Held → Type 0 where
  none : AllProper []
  more : {h : Held} {hs : List Held} → Proper h → AllProper hs → AllProper (h ∷ hs)

-- bytes hold the context c and its properties hs
pub record HoldsContext (s : List ℕ) (c : Context) (hs : List Held) : Type 0 where
  pub context : context_at s ≡ c
  pub properties : properties_at c.count (drop 48 s) ≡ hs

-- what is written of a context and its properties is read as them
abbrev pub ContextWriteThenRead : Type 0
ContextWriteThenRead = (c : Context) (hs : List Held) → Fits c → AllProper hs → c.count ≡ length hs
    → (context_answer (context_bytes c (properties_bytes hs)) ≡ 0) × HoldsContext (context_bytes c (properties_bytes hs)) c hs

-- bytes that are read as a context are written of its fields and its properties again
abbrev pub ContextReadThenWrite : Type 0
ContextReadThenWrite = (s : List ℕ) → Bytes s → context_answer s ≡ 0
    → s ≡ context_bytes (context_at s) (properties_bytes (properties_at (context_at s).count (drop 48 s)))

-- what the writers refuse before 15 is what the reader would refuse of what they would write
pub record ContextWriterAsReader : Type 0 where
  pub property : (h : Held) (rest : List ℕ) → Narrow h
      → property_answer (property_bytes h.property h.content ++ rest) ≡ cond (is_property_flags h.property.flags) 0 14
  pub context : (c : Context) (ps : List ℕ) → Fits c → context_answer (context_bytes c ps) ≡ properties_answer c.count ps

-- property k is shown as h: its fields, and its data as a part of s
pub record Shows (s : List ℕ) (k : ℕ) (h : Held) : Type 0 where
  pub fields : read_property s k ≡ record { answer = 0; property = h.property }
  pub answer : (property_place s k).answer ≡ 0
  pub content : bytes_at s (property_place s k) ≡ h.content

-- property k of an accepted context is number k of those that are read; there is no other
pub record KShown (s : List ℕ) : Type 0 where
  pub shown : (k : ℕ) (h : Held) → k < (context_at s).count → Shows s k (get_or (properties_at (context_at s).count (drop 48 s)) k h)
  pub none : (k : ℕ) → (context_at s).count ≤ k → property_place s k ≡ refusal 24

abbrev pub PropertyK : Type 0
PropertyK = (s : List ℕ) → context_answer s ≡ 0 → KShown s
