-- The list of the requested string bindings: it keeps the list rules, it is the stored list where nothing is dropped, and its bindings
-- are the requested ones and the whole security part.
use Prim.Native.Nat.{ℕ, suc, zero, ◌+◌, ◌-◌, ◌*◌, ◌<◌, ◌≤◌}
use mathlib.Core.Path.{◌≡◌, refl, sym, ap, ◌∙◌}
use mathlib.Core.Bool.{Bool, true, false}
use mathlib.Core.List.{List, [], ◌∷◌, ◌++◌, map}
use native.Mathlib.Omega.{arith}
use borrow.Author.Tests.{eqb-true}
use lib.Dec.{eqb}
use lib.ListN.{length, length-append}
use Rattle.kinds.proofs.Refusing.{by-test, true-false}
use Rattle.fields.specs.Fields.{Bytes}
use Rattle.lists.specs.Lists.{keep, some}
use Rattle.lists.proofs.Lists.{keep_all, keep-map, keep-none}
use Rattle.lists.proofs.Tests.{and_left, and_right}
use Rattle.bindings.specs.Bindings.{bindings_of, joined, same_words, is_part, is_bare, count, split, part_words, list_length, list_answer}
use Rattle.bindings.specs.Layout.{Binding, AllProper, binding_words, part_layout}
use Rattle.bindings.specs.ListBytes.{Words16, parts_bytes, of_part}
use Rattle.bindings.specs.Filter.{is_requested, requested, filtered, all_requested, FilteredKeeps, FilteredSame, FilteredNone}
use Rattle.bindings.specs.declared.Part.{Part}
use Rattle.bindings.specs.declared.Part.TheVariants.{Strings, Security}
use Rattle.bindings.proofs.Parts.{length-words, words-none, bindings-none}
use Rattle.bindings.proofs.ListAnswers.{bare, accepted}
use Rattle.bindings.proofs.Grammar.{layout-bindings, layout-part, part-layout}
use Rattle.bindings.proofs.ListBytes.{words-fit, field_bound, parts-words, parts-length, parts-accepted, list-remade, by_bool, same-fit}

-- ---- words of 16 bits

fit-left : (a b : List ℕ) → Words16 (a ++ b) → Words16 a
fit-left [] b h i = omega arith
fit-left (w ∷ a) b h zero = h 0
fit-left (w ∷ a) b h (suc i) = fit-left a b (λ j. h (suc j)) i

fit-right : (a b : List ℕ) → Words16 (a ++ b) → Words16 b
fit-right [] b h = h
fit-right (w ∷ a) b h = fit-right a b (λ j. h (suc j))

fit_append : (a b : List ℕ) → Words16 a → Words16 b → Words16 (a ++ b)
fit_append [] b f g i = g i
fit_append (w ∷ a) b f g zero = f 0
fit_append (w ∷ a) b f g (suc i) = fit_append a b (λ j. f (suc j)) g i

fit-zero : Words16 (0 ∷ [])
fit-zero zero = omega arith
fit-zero (suc i) = omega arith

-- ---- bindings that are kept

module _ (p : List ℕ → Bool) where
  kept-fit : (bs : List (List ℕ)) → Words16 (joined bs) → Words16 (joined (keep p bs))
  unfolding joined keep
  kept-fit [] h = h
  kept-fit (b ∷ bs) h =
      let r = kept-fit bs (fit-right b (joined bs) h) in
      by-test (λ (x : List (List ℕ)). Words16 (joined x)) (p b) (b ∷ keep p bs) (keep p bs)
      (λ e. fit_append b (joined (keep p bs)) (fit-left b (joined bs) h) r)
      (λ e. r)

  kept-length : (bs : List (List ℕ)) → length (joined (keep p bs)) ≤ length (joined bs)
  unfolding joined keep
  kept-length [] = omega arith
  kept-length (b ∷ bs) =
      let r = kept-length bs in
      by-test (λ (x : List (List ℕ)). length (joined x) ≤ length (b ++ joined bs)) (p b) (b ∷ keep p bs) (keep p bs)
      (λ e. omega (arith, length-append b (joined (keep p bs)), length-append b (joined bs)))
      (λ e. omega (arith, length-append b (joined bs)))

kept-proper : (p : Binding → Bool) (bs : List Binding) → AllProper bs → AllProper (keep p bs)
unfolding keep
kept-proper p [] AllProper.none = AllProper.none
kept-proper p (b ∷ bs) (AllProper.more h r) =
    by-test AllProper (p b) (b ∷ keep p bs) (keep p bs) (λ e. AllProper.more h (kept-proper p bs r)) (λ e. kept-proper p bs r)

-- the words of a part are its bindings in a row and a zero word
pub same_lists : (a b : List ℕ) → same_words a b ≡ true → a ≡ b
unfolding same_words
same_lists [] [] e = refl
same_lists [] (y ∷ b) e = absurd (true-false (sym e))
same_lists (x ∷ a) [] e = absurd (true-false (sym e))
same_lists (x ∷ a) (y ∷ b) e =
    let z = eqb-true x y (and_left (eqb x y) (same_words a b) e) in
    let r = same_lists a b (and_right (eqb x y) (same_words a b) e) in
    rw (z, r)

pub part-rows : (p : Part) (ws : List ℕ) → is_part p ws ≡ true → ws ≡ joined (bindings_of p ws) ++ (0 ∷ [])
unfolding is_part
part-rows p ws e = same_lists ws _ e

-- the kept bindings of a part in a row and a zero word are a part, and its bindings
module _ (p : Part) (f : List ℕ → Bool) (ws : List ℕ) (h : is_part p ws ≡ true) where
  kept-layout : keep f (bindings_of p ws) ≡ map (binding_words p) (keep (λ (b : Binding). f (binding_words p b)) (part-layout p ws h).bindings)
  kept-layout =
      let l = part-layout p ws h in
      ap (λ (x : List ℕ). keep f (bindings_of p x)) l.same ∙ (rw (layout-bindings p l.bindings l.proper) (keep-map f (binding_words p) l.bindings))

  pub kept-part : is_part p (joined (keep f (bindings_of p ws)) ++ (0 ∷ [])) ≡ true
  unfolding part_layout
  kept-part = let l = part-layout p ws h in rw kept-layout (layout-part p _ (kept-proper (λ (b : Binding). f (binding_words p b)) l.bindings l.proper))

  pub kept-bindings : bindings_of p (joined (keep f (bindings_of p ws)) ++ (0 ∷ [])) ≡ keep f (bindings_of p ws)
  unfolding part_layout
  kept-bindings = let l = part-layout p ws h in rw kept-layout (layout-bindings p _ (kept-proper (λ (b : Binding). f (binding_words p b)) l.bindings l.proper))

-- nothing is among no protocols
never : (bs : List (List ℕ)) → some (is_requested []) bs ≡ false
unfolding some
never [] = refl
never (b ∷ bs) = never bs

-- ---- the filtered list

module _ (protocols s : List ℕ) where
  pub filtered-bare : is_bare s ≡ true → filtered protocols s ≡ s
  unfolding filtered
  filtered-bare e = rw e

  pub filtered-parts : is_bare s ≡ false → filtered protocols s ≡ parts_bytes (joined (requested protocols (part_words s Strings)) ++ (0 ∷ [])) (part_words s Security)
  unfolding filtered
  filtered-parts e = rw e

  module _ (b : Bytes s) (done : list_answer s ≡ 0) where
    -- where nothing is dropped it is the stored list, the list without words included
    stored_same : all_requested protocols s ≡ true → filtered protocols s ≡ s
    unfolding requested
    stored_same all =
        by_bool (is_bare s) filtered-bare
        (λ e.
        let f = (accepted s done).held.part e in
        filtered-parts e
        ∙ (rw (keep_all (is_requested protocols) (bindings_of Strings (part_words s Strings)) all, ← part-rows Strings (part_words s Strings) (f Strings)) (sym (list-remade s b done))))

    module _ (e : is_bare s ≡ false) where
      is_strings : is_part Strings (part_words s Strings) ≡ true
      is_strings = (accepted s done).held.part e Strings

      kept_words : List ℕ
      kept_words = joined (requested protocols (part_words s Strings)) ++ (0 ∷ [])

      stored-fit : Words16 (joined (bindings_of Strings (part_words s Strings)))
      stored-fit = fit-left (joined (bindings_of Strings (part_words s Strings))) (0 ∷ []) (same-fit _ _ (part-rows Strings (part_words s Strings) is_strings) (words-fit s 4 (split s) b))

      kept-words-fit : Words16 kept_words
      unfolding kept_words requested
      kept-words-fit =
          fit_append (joined (keep (is_requested protocols) (bindings_of Strings (part_words s Strings)))) (0 ∷ [])
          (kept-fit (is_requested protocols) (bindings_of Strings (part_words s Strings)) stored-fit) fit-zero

      security-fit : Words16 (part_words s Security)
      security-fit = words-fit s (4 + 2 * split s) (count s - split s) b

      -- no more words than the stored list
      kept-few : length kept_words ≤ split s
      unfolding kept_words requested
      kept-few =
          let n = kept-length (is_requested protocols) (bindings_of Strings (part_words s Strings)) in
          let m : split s ≡ length (joined (bindings_of Strings (part_words s Strings)) ++ (0 ∷ [])) =
          sym (length-words s 4 (split s)) ∙ ap length (part-rows Strings (part_words s Strings) is_strings) in
          let k = simp length-append at m in
          simp length-append (omega arith)

      few_words : length kept_words + length (part_words s Security) ≤ count s
      few_words = let k = kept-few in let l = (accepted s done).held.below in omega (arith, length-words s (4 + 2 * split s) (count s - split s))

      few : length kept_words + length (part_words s Security) < 65536
      few = let k = few_words in let n = field_bound s 0 b in omega arith

      kept-accepted : list_answer (parts_bytes kept_words (part_words s Security)) ≡ 0
      unfolding kept_words requested
      kept-accepted =
          parts-accepted _ _ kept-words-fit security-fit few (kept-part Strings (is_requested protocols) (part_words s Strings) is_strings) ((accepted s done).held.part e Security)

      kept-parts : (p : Part) → part_words (parts_bytes kept_words (part_words s Security)) p ≡ of_part p kept_words (part_words s Security)
      kept-parts = parts-words kept_words (part_words s Security) kept-words-fit security-fit few

    -- it keeps the list rules
    kept-rules : list_answer (filtered protocols s) ≡ 0
    unfolding kept_words
    kept-rules =
        by_bool (is_bare s)
        (λ e. rw (filtered-bare e) done)
        (λ e. rw (filtered-parts e) (kept-accepted e))

    -- its string bindings are the requested ones, in stored order
    kept-strings : bindings_of Strings (part_words (filtered protocols s) Strings) ≡ requested protocols (part_words s Strings)
    unfolding kept_words requested keep
    kept-strings =
        by_bool (is_bare s)
        (λ e. let z = bare s e in rw (filtered-bare e, z.1, words-none s 4 0 refl, bindings-none Strings))
        (λ e. rw (filtered-parts e, kept-parts e Strings) (kept-bindings Strings (is_requested protocols) (part_words s Strings) (is_strings e)))

    -- its security part is the stored one
    kept-security : part_words (filtered protocols s) Security ≡ part_words s Security
    unfolding kept_words
    kept-security =
        by_bool (is_bare s)
        (λ e. ap (λ (x : List ℕ). part_words x Security) (filtered-bare e))
        (λ e. ap (λ (x : List ℕ). part_words x Security) (filtered-parts e) ∙ kept-parts e Security)

    -- it is no longer than the stored list
    pub filtered-shorter : length (filtered protocols s) ≤ length s
    unfolding kept_words list_length
    filtered-shorter =
        by_bool (is_bare s)
        (λ e. rw (filtered-bare e) (omega arith))
        (λ e. let w = (accepted s done).whole in let k = few_words e in rw (filtered-parts e) (omega (arith, parts-length (kept_words e) (part_words s Security))))

pub filtered-keeps : FilteredKeeps
filtered-keeps protocols s b done = record { rules = kept-rules protocols s b done; strings = kept-strings protocols s b done; security = kept-security protocols s b done }

pub filtered-same : FilteredSame
filtered-same = stored_same

pub filtered-none : FilteredNone
unfolding requested
filtered-none s b done = kept-strings [] s b done ∙ keep-none (is_requested []) (bindings_of Strings (part_words s Strings)) (never (bindings_of Strings (part_words s Strings)))
