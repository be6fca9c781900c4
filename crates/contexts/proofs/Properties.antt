-- Laws of properties in a row, and of what an answer 0 says.
use Prim.Native.Nat.{ℕ, suc, zero, ◌+◌, ◌-◌, ◌<◌, ◌≤◌}
use mathlib.Core.Path.{◌≡◌, refl, sym, ap, ◌∙◌}
use mathlib.Core.Bool.{true, not}
use mathlib.Core.List.{List}
use native.Mathlib.Omega.{arith}
use borrow.Author.Tests.{lt-ltb, le-ltb, ltb-false, not-false, eqb-true, eqb-false}
use lib.Dec.{eqb, ltb}
use lib.ListN.{length, take, drop, length-drop}
use Rattle.kinds.specs.Refusals.{differ, order}
use Rattle.kinds.proofs.Refusing.{by-test, ne-differ, eq-differ, differ-false, passed, passed_on, last_row}
use Rattle.fields.specs.Fields.{field, encode}
use Rattle.fields.proofs.Fields.{take_rest}
use Rattle.contexts.specs.Contexts.{is_property_flags, property_length, property_answer, properties_answer, extents_answer, head_answer}
use Rattle.contexts.specs.Contexts.{context_answer, content_place, property_place, head_bytes, write_property_answer, write_context_answer}
use Rattle.contexts.specs.declared.Context.{Context}
use Rattle.contexts.specs.declared.Property.{Property}
use Rattle.bindings.specs.declared.Place.{Place}
use Rattle.bindings.specs.Bindings.{Within}
use Rattle.bindings.specs.Bindings.{refusal}

-- ---- what an answer 0 says

-- the property at the front of t is accepted
pub record Accepted (t : List ℕ) : Type 0 where
  pub flags : is_property_flags (field t 32 4) ≡ true
  pub fixed : 40 ≤ length t
  pub whole : property_length t ≤ length t

pub accepted : (t : List ℕ) → property_answer t ≡ 0 → Accepted t
unfolding property_answer
accepted t done =
    let a = passed (ltb (length t) 36) 13 _ (omega arith) done in
    let b = passed (not (is_property_flags (field t 32 4))) 14 _ (omega arith) a.1 in
    let d = passed (ltb (length t) 40) 13 _ (omega arith) b.1 in
    let e = passed (ltb (length t) (property_length t)) 13 _ (omega arith) d.1 in
    record {
      flags = not-false _ b.0;
      fixed = ltb-false _ _ d.0;
      whole = ltb-false _ _ e.0;
    }

pub accept : (t : List ℕ) → is_property_flags (field t 32 4) ≡ true → property_length t ≤ length t → property_answer t ≡ 0
unfolding property_answer order
accept t f l =
    let a : 36 ≤ length t = omega arith in
    let b : 40 ≤ length t = omega arith in
    simp (le-ltb _ _ a, f, le-ltb _ _ b, le-ltb _ _ l)

-- the 48 bytes before the properties are accepted
pub record Headed (s : List ℕ) : Type 0 where
  pub major : field s 0 2 ≡ 1
  pub minor : field s 2 2 ≡ 1
  pub flags : field s 20 4 ≡ 2
  pub extents : field s 28 4 ≡ 0
  pub sizes : field s 32 4 ≡ 0
  pub fixed : 48 ≤ length s

pub headed : (s : List ℕ) → head_answer s ≡ 0 → Headed s
unfolding head_answer extents_answer
headed s done =
    let a = passed (ltb (length s) 2) 13 _ (omega arith) done in
    let b = passed (differ (field s 0 2) 1) 14 _ (omega arith) a.1 in
    let d = passed (ltb (length s) 4) 13 _ (omega arith) b.1 in
    let e = passed (differ (field s 2 2) 1) 14 _ (omega arith) d.1 in
    let f = passed (ltb (length s) 24) 13 _ (omega arith) e.1 in
    let g = passed (differ (field s 20 4) 2) 14 _ (omega arith) f.1 in
    let x = (passed_on (extents_answer s) _ g.1).0 in
    let h = passed (ltb (length s) 32) 13 _ (omega arith) x in
    let i = passed (differ (field s 28 4) 0) 14 _ (omega arith) h.1 in
    let j = passed (ltb (length s) 36) 13 _ (omega arith) i.1 in
    let k = passed (differ (field s 32 4) 0) 14 _ (omega arith) j.1 in
    let l = passed (ltb (length s) 48) 13 _ (omega arith) k.1 in
    record {
      major = differ-false _ _ b.0;
      minor = differ-false _ _ e.0;
      flags = differ-false _ _ g.0;
      extents = differ-false _ _ i.0;
      sizes = differ-false _ _ k.0;
      fixed = ltb-false _ _ l.0;
    }

pub head-accept : (s : List ℕ) → Headed s → head_answer s ≡ 0
unfolding head_answer extents_answer order
head-accept s h =
    let l = h.fixed in
    let a : 2 ≤ length s = omega arith in
    let b : 4 ≤ length s = omega arith in
    let d : 24 ≤ length s = omega arith in
    let e : 32 ≤ length s = omega arith in
    let f : 36 ≤ length s = omega arith in
    simp (le-ltb _ _ a, le-ltb _ _ b, le-ltb _ _ d, le-ltb _ _ e, le-ltb _ _ f, le-ltb _ _ l, h.major, h.minor, h.flags, h.extents, h.sizes)

-- ---- properties in a row

module _ (t : List ℕ) where
  next : (n : ℕ) → property_answer t ≡ 0 → properties_answer (suc n) t ≡ properties_answer n (drop (property_length t) t)
  unfolding properties_answer order
  next n e = simp (eq-differ _ _ e) (last_row _)

  stop : (n : ℕ) → (property_answer t ≡ 0 → ⊥) → properties_answer (suc n) t ≡ property_answer t
  unfolding properties_answer order
  stop n h = simp (ne-differ _ _ h)

  pub properties-next : (n : ℕ) → 0 < n → property_answer t ≡ 0 → properties_answer n t ≡ properties_answer (n - 1) (drop (property_length t) t)
  properties-next n h e = let k : n ≡ suc (n - 1) = omega arith in ap (λ (m : ℕ). properties_answer m t) k ∙ next (n - 1) e

  pub properties-stop : (n : ℕ) → 0 < n → (property_answer t ≡ 0 → ⊥) → properties_answer n t ≡ property_answer t
  properties-stop n h e = let k : n ≡ suc (n - 1) = omega arith in ap (λ (m : ℕ). properties_answer m t) k ∙ stop (n - 1) e

  pub properties-over : (n : ℕ) → n ≡ 0 → 0 < length t → properties_answer n t ≡ 14
  unfolding properties_answer order
  properties-over n z h = rw z (simp (lt-ltb _ _ h))

  pub properties-done : (n : ℕ) → n ≡ 0 → length t ≤ 0 → properties_answer n t ≡ 0
  unfolding properties_answer order
  properties-done n z h = rw z (simp (le-ltb _ _ h))

-- the first of accepted properties is accepted, and so are the others
pub properties-parts : (n : ℕ) (t : List ℕ) → 0 < n → properties_answer n t ≡ 0 → (property_answer t ≡ 0) × (properties_answer (n - 1) (drop (property_length t) t) ≡ 0)
unfolding properties_answer
properties-parts n t h done =
    let k : n ≡ suc (n - 1) = omega arith in
    let e : properties_answer (suc (n - 1)) t ≡ 0 = ap (λ (m : ℕ). properties_answer m t) (sym k) ∙ done in
    let a = passed_on (property_answer t) _ e in
    let b = passed_on (properties_answer (n - 1) (drop (property_length t) t)) _ a.1 in
    (a.0, b.0)

-- the first of n accepted properties from at on, by the size that is read, and the others
pub record Next (n : ℕ) (s : List ℕ) (at size : ℕ) : Type 0 where
  pub same : size ≡ field (drop at s) 36 4
  pub whole : at + (40 + size) ≤ length s
  pub rest : properties_answer (n - 1) (drop (property_length (drop at s)) (drop at s)) ≡ 0

pub next-property : (n : ℕ) (s : List ℕ) (at size : ℕ) → 0 < n → at ≤ length s → properties_answer n (drop at s) ≡ 0 → size ≡ field (take (length s - at) (drop at s)) 36 4
    → Next n s at size
next-property n s at size some room done e =
    let parts = properties-parts n (drop at s) some done in
    let whole = (accepted (drop at s) parts.0).whole in
    let k = length-drop at s in
    let same : size ≡ field (drop at s) 36 4 = rw (take_rest s at) at e in
    record { same = same; whole = omega arith; rest = parts.1 }

-- ---- where the data of property k stands

pub place_none : (n : ℕ) (t : List ℕ) (k at : ℕ) → n ≡ 0 → content_place n t k at ≡ refusal 24
unfolding content_place
place_none n t k at z = rw z

pub place_here : (n : ℕ) (t : List ℕ) (k at : ℕ) → 0 < n → k ≡ 0 → content_place n t k at ≡ record { answer = 0; from = at + 40; to = at + property_length t }
unfolding content_place
place_here n t k at h z = let m : n ≡ suc (n - 1) = omega arith in rw (m, z)

pub place-later : (n : ℕ) (t : List ℕ) (k at : ℕ) → 0 < n → 0 < k → content_place n t k at ≡ content_place (n - 1) (drop (property_length t) t) (k - 1) (at + property_length t)
unfolding content_place
place-later n t k at h l =
    let opened : (i j : ℕ) → n ≡ suc i → k ≡ suc j → content_place n t k at ≡ content_place i (drop (property_length t) t) j (at + property_length t) = λ i j d e. rw (d, e) in
    opened (n - 1) (k - 1) (omega arith) (omega arith)

-- ---- an accepted context

pub context-accepted : (s : List ℕ) → context_answer s ≡ 0 → (48 ≤ length s) × (properties_answer (field s 40 4) (drop 48 s) ≡ 0)
unfolding context_answer
context-accepted s done =
    let a = passed_on (head_answer s) _ done in
    ((headed s a.0).fixed, (passed_on (properties_answer (field s 40 4) (drop 48 s)) _ a.1).0)

-- where the data of one of accepted properties stands
placed : (n : ℕ) (t : List ℕ) (k at m : ℕ) → properties_answer n t ≡ 0 → at + length t ≤ m
    → Within m (content_place n t k at) × ((content_place n t k at).answer ≡ 0 → at + 40 ≤ (content_place n t k at).from)
unfolding content_place
placed zero t k at m done l = (omega arith, λ e. absurd (omega arith))
placed (suc n) t zero at m done l =
    let h = (accepted t (properties-parts (suc n) t (omega arith) done).0).whole in
    (omega arith, λ e. omega arith)
placed (suc n) t (suc k) at m done l =
    let parts = properties-parts (suc n) t (omega arith) done in
    let h = (accepted t parts.0).whole in
    let less : suc n - 1 ≡ n = omega arith in
    let rest : properties_answer n (drop (property_length t) t) ≡ 0 = rw less at parts.1 in
    let size = length-drop (property_length t) t in
    let i = placed n (drop (property_length t) t) k (at + property_length t) m rest (omega arith) in
    (i.0, λ e. let g = i.1 e in omega arith)

-- the place of a property's data lies in the context
pub property-within : (s : List ℕ) (k : ℕ) → Within (length s) (property_place s k)
unfolding property_place
property-within s k =
    by-test (Within (length s)) (eqb (context_answer s) 0) _ _
    (λ e.
    let a = context-accepted s (eqb-true _ _ e) in
    let fixed = a.0 in
    let size = length-drop 48 s in
    (placed (field s 40 4) (drop 48 s) k 48 (length s) a.1 (omega arith)).0)
    (λ e. omega arith)

-- and its fields lie before it
pub property-after : (s : List ℕ) (k : ℕ) → (property_place s k).answer ≡ 0 → 88 ≤ (property_place s k).from
unfolding property_place
property-after s k =
    by-test (λ (x : Place). x.answer ≡ 0 → 88 ≤ x.from) (eqb (context_answer s) 0) _ _
    (λ e.
    let a = context-accepted s (eqb-true _ _ e) in
    let fixed = a.0 in
    let size = length-drop 48 s in
    (placed (field s 40 4) (drop 48 s) k 48 (length s) a.1 (omega arith)).1)
    (λ e z. absurd (eqb-false _ _ e z))

-- ---- what can be written

pub record PropertyWritable (p : Property) (x : List ℕ) (n : ℕ) : Type 0 where
  pub flags : is_property_flags p.flags ≡ true
  pub small : length x ≤ 0xFFFFFFFF
  pub room : 40 + length x ≤ n

pub property-writable : (p : Property) (x : List ℕ) (n : ℕ) → write_property_answer p x n ≡ 0 → PropertyWritable p x n
unfolding write_property_answer
property-writable p x n done =
    let a = passed (not (is_property_flags p.flags)) 14 _ (omega arith) done in
    let b = passed (ltb 0xFFFFFFFF (length x)) 14 _ (omega arith) a.1 in
    let d = passed (ltb n (40 + length x)) 15 _ (omega arith) b.1 in
    record { flags = not-false _ a.0; small = ltb-false _ _ b.0; room = ltb-false _ _ d.0 }

pub context-room : (c : Context) (ps : List ℕ) (n : ℕ) → write_context_answer c ps n ≡ 0 → 48 + length ps ≤ n
unfolding write_context_answer
context-room c ps n done =
    let a = passed_on (properties_answer c.count ps) _ done in
    ltb-false _ _ (passed (ltb n (48 + length ps)) 15 _ (omega arith) a.1).0

pub length-head : (c : Context) → length (head_bytes c) ≡ 48
unfolding head_bytes encode
length-head c = refl
