-- The words that `is_part` accepts are exactly the layouts of proper bindings.
use Prim.Native.Nat.{ℕ, suc, zero, ◌<◌, ◌≤◌}
use mathlib.Core.Path.{◌≡◌, refl, sym, ap, ◌∙◌}
use mathlib.Core.Bool.{true}
use mathlib.Core.List.{List, [], ◌∷◌, ◌++◌, map, append_assoc}
use native.Mathlib.Omega.{arith}
use borrow.Author.Tests.{ne_eqb, eq-eqb, eqb-true}
use lib.ListN.{length, drop}
use lib.Seq.{drop-append_seam}
use Rattle.kinds.proofs.Refusing.{true-false}
use Rattle.bindings.specs.Bindings.{through_zero, first_binding, bindings_of, joined, same_words, is_part}
use Rattle.bindings.specs.Layout.{Binding, Nonzero, Proper, AllProper, second_words, binding_words, part_layout, IsLayout, LayoutPart, PartLayout}
use Rattle.bindings.specs.declared.Part.{Part}
use Rattle.bindings.specs.declared.Part.TheVariants.{Strings, Security}
use Rattle.bindings.proofs.Parts.{after, after-shorter, binding-front, bindings-end, bindings-more, part_none, part_end, part-more}

layout-more : (p : Part) (b : Binding) (bs : List Binding) → part_layout p (b ∷ bs) ≡ binding_words p b ++ part_layout p bs
unfolding part_layout joined
layout-more p b bs = append_assoc (binding_words p b) (joined (map (binding_words p) bs)) (0 ∷ [])

-- ---- layouts are parts

nonzero : (w : ℕ) → 0 < w → w ≡ 0 → ⊥
nonzero w h z = omega arith

through-name : (n rest : List ℕ) → Nonzero n → through_zero (n ++ (0 ∷ rest)) ≡ n ++ (0 ∷ [])
unfolding through_zero
through-name [] rest Nonzero.none = refl
through-name (w ∷ ws) rest (Nonzero.more h r) = rw (ne_eqb w 0 (nonzero w h), through-name ws rest r)

-- the first binding of words that begin with a head
first-words : (p : Part) (w v : ℕ) (xs : List ℕ) → first_binding p (w ∷ (second_words p v ++ xs)) ≡ w ∷ (second_words p v ++ through_zero xs)
unfolding first_binding
first-words Strings w v xs = refl
first-words Security w v xs = refl

-- and with a binding
first-binding : (p : Part) (b : Binding) (rest : List ℕ) → Proper b → first_binding p (binding_words p b ++ rest) ≡ binding_words p b
unfolding binding_words
first-binding p b rest h =
    let x = second_words p b.second in
    rw (append_assoc x (b.name ++ (0 ∷ [])) rest, append_assoc b.name (0 ∷ []) rest, first-words p b.head b.second (b.name ++ (0 ∷ rest)), through-name b.name rest h.name)

more-bindings : (p : Part) (b : Binding) (rest : List ℕ) → Proper b → let ws = binding_words p b ++ rest in bindings_of p ws ≡ first_binding p ws ∷ bindings_of p (after p ws)
unfolding binding_words
more-bindings p b rest h = bindings-more p b.head _ (nonzero b.head h.head)

layout-none : (p : Part) → bindings_of p (part_layout p []) ≡ []
unfolding part_layout joined
layout-none p = bindings-end p []

-- the bindings of a layout are those that it was made of
pub layout-bindings : (p : Part) (bs : List Binding) → AllProper bs → bindings_of p (part_layout p bs) ≡ map (binding_words p) bs
layout-bindings p [] AllProper.none = layout-none p
layout-bindings p (b ∷ bs) (AllProper.more h r) =
    rw (layout-more p b bs, more-bindings p b (part_layout p bs) h, first-binding p b (part_layout p bs) h, drop-append_seam (binding_words p b) (part_layout p bs), layout-bindings p bs r)

same-words : (ws : List ℕ) → same_words ws ws ≡ true
unfolding same_words
same-words [] = refl
same-words (w ∷ ws) = rw (eq-eqb w w refl) (same-words ws)

same_layout : (p : Part) (bs : List Binding) → same_words (part_layout p bs) (joined (map (binding_words p) bs) ++ (0 ∷ [])) ≡ true
unfolding part_layout
same_layout p bs = same-words (part_layout p bs)

pub layout-part : LayoutPart
unfolding is_part
layout-part p bs h = rw (layout-bindings p bs h) (same_layout p bs)

-- ---- a part is a layout

-- a text that is not the last of the words ends with its zero word
record IsText (xs : List ℕ) : Type 0 where
  name : List ℕ
  nonzeros : Nonzero name
  same : through_zero xs ≡ name ++ (0 ∷ [])

more-text : (w : ℕ) (xs : List ℕ) → 0 < w → IsText xs → IsText (w ∷ xs)
unfolding through_zero
more-text w xs h r =
    record {
      name = w ∷ r.name;
      nonzeros = Nonzero.more h r.nonzeros;
      same = rw (ne_eqb w 0 (nonzero w h), r.same);
    }

text : (xs : List ℕ) → (drop (length (through_zero xs)) xs ≡ [] → ⊥) → IsText xs
unfolding through_zero
text [] h = absurd (h refl)
text (zero ∷ xs) h = record { name = []; nonzeros = Nonzero.none; same = refl }
text (suc w ∷ xs) h =
    let l : 0 < suc w = omega arith in
    more-text (suc w) xs l (text xs (λ e. h (rw (ne_eqb (suc w) 0 (nonzero (suc w) l)) e)))

-- so does a binding
record IsBinding (p : Part) (ws : List ℕ) : Type 0 where
  binding : Binding
  proper : Proper binding
  same : first_binding p ws ≡ binding_words p binding

from-text : (p : Part) (w v : ℕ) (xs : List ℕ) → 0 < w → IsText xs → IsBinding p (w ∷ (second_words p v ++ xs))
unfolding binding_words
from-text p w v xs l t =
    record {
      binding = record { head = w; second = v; name = t.name };
      proper = record { head = l; name = t.nonzeros };
      same = rw (first-words p w v xs, t.same);
    }

is-binding : (p : Part) (w : ℕ) (ws : List ℕ) → 0 < w → (after p (w ∷ ws) ≡ [] → ⊥) → IsBinding p (w ∷ ws)
unfolding first_binding through_zero
is-binding Strings w ws l h = from-text Strings w 0 ws l (text ws h)
is-binding Security w [] l h = absurd (h refl)
is-binding Security w (v ∷ ws) l h = from-text Security w v ws l (text ws h)

no_part : (p : Part) (ws : List ℕ) → is_part p ws ≡ true → ws ≡ [] → ⊥
no_part p ws e z = true-false (sym e ∙ ap (is_part p) z ∙ part_none p)

-- the first binding and the layout of what it leaves
more-layout : (p : Part) (ws : List ℕ) → IsBinding p ws → IsLayout p (after p ws) → IsLayout p ws
more-layout p ws b r =
    record {
      bindings = b.binding ∷ r.bindings;
      proper = AllProper.more b.proper r.proper;
      same = sym (binding-front p ws) ∙ (rw (r.same, b.same) (sym (layout-more p b.binding r.bindings)));
    }

empty : (ws : List ℕ) → length ws ≡ 0 → ws ≡ []
empty [] e = refl
empty (w ∷ ws) e = absurd (omega arith)

-- n bounds the number of words
layout-up-to : (n : ℕ) (p : Part) (ws : List ℕ) → length ws ≤ n → is_part p ws ≡ true → IsLayout p ws
unfolding part_layout joined
layout-up-to zero p ws h e = absurd (no_part p ws e (empty ws (omega arith)))
layout-up-to (suc n) p [] h e = absurd (no_part p [] e refl)
layout-up-to (suc n) p (zero ∷ ws) h e =
    let z = eqb-true (length ws) 0 (sym (part_end p ws) ∙ e) in
    record { bindings = []; proper = AllProper.none; same = ap (λ (l : List ℕ). 0 ∷ l) (empty ws z) }
layout-up-to (suc n) p (suc w ∷ ws) h e =
    let l : 0 < suc w = omega arith in
    let q = after-shorter p (suc w) ws in
    let r : is_part p (after p (suc w ∷ ws)) ≡ true = sym (part-more p (suc w) ws (nonzero (suc w) l)) ∙ e in
    more-layout p (suc w ∷ ws) (is-binding p (suc w) ws l (no_part p (after p (suc w ∷ ws)) r))
    (layout-up-to n p (after p (suc w ∷ ws)) (omega arith) r)

pub part-layout : PartLayout
part-layout p ws e = let l : length ws ≤ length ws = omega arith in layout-up-to (length ws) p ws l e
