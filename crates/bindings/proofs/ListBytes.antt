-- Bytes that are accepted as a list are exactly the bytes of proper bindings that fit 16 bits, or the list without words; and binding k
-- of them is the encoding of its words, at the place that the layout gives.
use Prim.Native.Nat.{ℕ, suc, zero, ◌+◌, ◌-◌, ◌*◌, ◌^◌, ◌<◌, ◌≤◌}
use mathlib.Core.Path.{◌≡◌, refl, sym, ap, ◌∙◌}
use mathlib.Core.Bool.{Bool, true, false}
use mathlib.Core.List.{List, [], ◌∷◌, ◌++◌, map, append_assoc, append-nil}
use native.Mathlib.Omega.{arith}
use borrow.Author.Tests.{eq-eqb, leb-true}
use lib.Dec.{leb}
use lib.ListN.{length, take, drop, get_or, length-append, length-drop, drop_of_length-le}
use lib.Seq.{take_at, drop_at, drop-drop, drop-cons}
use Rattle.kinds.proofs.Refusing.{by-test}
use Rattle.fields.specs.Fields.{bytes_number, encode, field, Bytes}
use Rattle.fields.proofs.Fields.{length-encode, field-as, field-then, field_next}
use Rattle.bindings.specs.Bindings.{words, bindings_of, joined, is_part, is_bare, count, split, part_start, part_words, two_parts, list_length, list_answer, refusal, place, binding_at}
use Rattle.bindings.specs.Layout.{Binding, binding_words, part_layout, IsLayout}
use Rattle.bindings.specs.ListBytes.{Words16, word_bytes, parts_bytes, bare_list, list_bytes, Listable, IsList, of_part, binding_start, Holds, ListsExactly, BindingK}
use Rattle.bindings.specs.declared.Part.{Part}
use Rattle.bindings.specs.declared.Part.TheVariants.{Strings, Security}
use Rattle.bindings.proofs.Parts.{length-words, words-none, bindings-none}
use Rattle.bindings.proofs.ListAnswers.{bare, parts_held, front-done, accepted, accept}
use Rattle.bindings.proofs.Grammar.{layout-bindings, layout-part, part-layout}

-- ---- words and their bytes

pub length-bytes : (ws : List ℕ) → length (word_bytes ws) ≡ 2 * length ws
unfolding word_bytes
length-bytes [] = refl
length-bytes (w ∷ ws) =
    let r = length-bytes ws in
    rw (length-append (encode 2 w) (word_bytes ws), length-encode 2 w) (omega arith)

pub bytes-append : (a b : List ℕ) → word_bytes (a ++ b) ≡ word_bytes a ++ word_bytes b
unfolding word_bytes
bytes-append [] b = refl
bytes-append (w ∷ a) b = rw (bytes-append a b) (sym (append_assoc (encode 2 w) (word_bytes a) (word_bytes b)))

-- words of 16 bits are read from their bytes
pub words-as : (ws s rest : List ℕ) (at : ℕ) → Words16 ws → drop at s ≡ word_bytes ws ++ rest → words s at (length ws) ≡ ws
unfolding words word_bytes
words-as [] s rest at h e = refl
words-as (w ∷ ws) s rest at h e =
    let l : w < 256 ^ 2 = let b = h 0 in omega arith in
    let n = length-encode 2 w in
    let f : drop at s ≡ encode 2 w ++ (word_bytes ws ++ rest) = e ∙ append_assoc (encode 2 w) (word_bytes ws) rest in
    let room : at + 2 ≤ length s = omega (arith, length-drop at s, ap length f, length-append (encode 2 w) (word_bytes ws ++ rest)) in
    let here : field s at 2 ≡ w = field-as s at 2 w (rw f (take_at (encode 2 w) (word_bytes ws ++ rest) 2 n)) room l in
    let past : drop (at + 2) s ≡ word_bytes ws ++ rest = sym (drop-drop 2 at s) ∙ (rw f (drop_at (encode 2 w) (word_bytes ws ++ rest) 2 n)) in
    rw (here, words-as ws s rest (at + 2) (λ i. h (suc i)) past)

-- and bytes are those of their words
pub bytes-then : (s : List ℕ) (at n : ℕ) → Bytes s → at + 2 * n ≤ length s → drop at s ≡ word_bytes (words s at n) ++ drop (at + 2 * n) s
unfolding words word_bytes
bytes-then s at zero b l = let z : at + 2 * 0 ≡ at = omega arith in rw z
bytes-then s at (suc n) b l =
    let r : at + 2 + 2 * n ≤ length s = omega arith in
    let q : at + 2 + 2 * n ≡ at + 2 * suc n = omega arith in
    field-then s at 2 _ b (omega arith) (rw q at (bytes-then s (at + 2) n b r))
    ∙ sym (append_assoc (encode 2 (field s at 2)) (word_bytes (words s (at + 2) n)) (drop (at + 2 * suc n) s))

-- a word that is read has 16 bits
pub field_bound : (s : List ℕ) (at : ℕ) → Bytes s → field s at 2 < 65536
unfolding field bytes_number
field_bound s at b =
    by-test (λ (n : ℕ). n < 65536) (leb (at + 2) (length s)) (bytes_number (take 2 (drop at s))) 0
    (λ e.
    let l : at + 2 ≤ length s = leb-true (at + 2) (length s) e in
    let x = b at in
    let y = b (suc at) in
    rw (drop-cons s at 0 (omega arith), drop-cons s (suc at) 0 (omega arith)) (omega arith))
    (λ e. omega arith)

pub words-fit : (s : List ℕ) (at n : ℕ) → Bytes s → Words16 (words s at n)
unfolding words
words-fit s at zero b i = omega arith
words-fit s at (suc n) b zero = field_bound s at b
words-fit s at (suc n) b (suc i) = words-fit s (at + 2) n b i

-- ---- the words of two parts, and the list of them

module _ (a b : List ℕ) where
  after-count : List ℕ
  after-count = encode 2 (length a) ++ (word_bytes a ++ word_bytes b)

  drop-two : drop 2 (parts_bytes a b) ≡ after-count
  unfolding parts_bytes after-count
  drop-two = drop_at (encode 2 (length a + length b)) _ 2 (length-encode 2 _)

  pub drop-four : drop 4 (parts_bytes a b) ≡ word_bytes a ++ word_bytes b
  unfolding after-count
  drop-four = sym (drop-drop 2 2 (parts_bytes a b)) ∙ (rw drop-two (drop_at (encode 2 (length a)) _ 2 (length-encode 2 _)))

  drop-strings : drop (4 + 2 * length a) (parts_bytes a b) ≡ word_bytes b
  drop-strings = sym (drop-drop (2 * length a) 4 (parts_bytes a b)) ∙ (rw drop-four (drop_at (word_bytes a) (word_bytes b) (2 * length a) (length-bytes a)))

  pub parts-length : length (parts_bytes a b) ≡ 4 + 2 * (length a + length b)
  unfolding parts_bytes
  parts-length =
      simp (length-append, length-encode, length-bytes) (omega arith)

  module _ (fa : Words16 a) (fb : Words16 b) (few : length a + length b < 65536) where
    pub parts-count : count (parts_bytes a b) ≡ length a + length b
    unfolding parts_bytes
    parts-count =
        let l = parts-length in
        field-as (parts_bytes a b) 0 2 (length a + length b) (take_at (encode 2 (length a + length b)) _ 2 (length-encode 2 _)) (omega arith) (omega arith)

    pub parts-split : split (parts_bytes a b) ≡ length a
    unfolding after-count
    parts-split =
        let l = parts-length in
        field-as (parts_bytes a b) 2 2 (length a) (rw drop-two (take_at (encode 2 (length a)) _ 2 (length-encode 2 _))) (omega arith) (omega arith)

    pub parts-words : (p : Part) → part_words (parts_bytes a b) p ≡ of_part p a b
    parts-words Strings = rw parts-split (words-as a (parts_bytes a b) (word_bytes b) 4 fa drop-four)
    parts-words Security =
        let n : length a + length b - length a ≡ length b = omega arith in
        rw (parts-split, parts-count, n) (words-as b (parts_bytes a b) [] (4 + 2 * length a) fb (drop-strings ∙ sym (append-nil (word_bytes b))))

    -- where both are parts, it is accepted
    pub parts-accepted : is_part Strings a ≡ true → is_part Security b ≡ true → list_answer (parts_bytes a b) ≡ 0
    unfolding list_length
    parts-accepted f g =
        let n = parts-count in
        let k = parts-split in
        let whole : length (parts_bytes a b) ≡ list_length (parts_bytes a b) = omega (arith, parts-length) in
        let below : split (parts_bytes a b) ≤ count (parts_bytes a b) = omega arith in
        accept (parts_bytes a b) whole
        (front-done (parts_bytes a b) (omega arith)
        (parts_held (parts_bytes a b) below (rw (parts-words Strings) f) (rw (parts-words Security) g)))

-- an accepted list is the list of the words of its parts, the list without words included
pub list-remade : (s : List ℕ) → Bytes s → list_answer s ≡ 0 → s ≡ parts_bytes (part_words s Strings) (part_words s Security)
unfolding parts_bytes list_length
list-remade s b done =
    let a = accepted s done in
    let w = a.whole in
    let h = a.held.below in
    let n : split s + (count s - split s) ≡ count s = omega arith in
    let m : length s ≤ 4 + 2 * split s + 2 * (count s - split s) = omega arith in
    let end : drop (4 + 2 * split s + 2 * (count s - split s)) s ≡ [] = drop_of_length-le s m in
    let back : drop (4 + 2 * split s) s ≡ word_bytes (part_words s Security) =
    bytes-then s (4 + 2 * split s) (count s - split s) b (omega arith) ∙ (rw end (append-nil _)) in
    let front : drop 4 s ≡ word_bytes (part_words s Strings) ++ word_bytes (part_words s Security) =
    bytes-then s 4 (split s) b (omega arith) ∙ (rw back) in
    rw (length-words s 4 (split s), length-words s (4 + 2 * split s) (count s - split s), n)
    (field_next s 0 2 2 _ b refl (omega arith) (field_next s 2 2 4 _ b refl (omega arith) front))

-- ---- accepted bytes are exactly the bytes of bindings that a list can hold, and the list without words

-- the list of bindings
module _ (strings security : List Binding) (h : Listable strings security) where
  pub made-words : (p : Part) → part_words (list_bytes strings security) p ≡ part_layout p (of_part p strings security)
  unfolding list_bytes
  made-words Strings = parts-words (part_layout Strings strings) (part_layout Security security) h.string_words h.security_words h.count Strings
  made-words Security = parts-words (part_layout Strings strings) (part_layout Security security) h.string_words h.security_words h.count Security

  pub made-split : split (list_bytes strings security) ≡ length (part_layout Strings strings)
  unfolding list_bytes
  made-split = parts-split (part_layout Strings strings) (part_layout Security security) h.string_words h.security_words h.count

  -- is accepted
  pub list-made : list_answer (list_bytes strings security) ≡ 0
  unfolding list_bytes
  list-made =
      parts-accepted (part_layout Strings strings) (part_layout Security security) h.string_words h.security_words h.count
      (layout-part Strings strings h.proper_strings) (layout-part Security security h.proper_security)

  -- and its bindings are those that it was made of
  pub made-bindings : (p : Part) → bindings_of p (part_words (list_bytes strings security) p) ≡ map (binding_words p) (of_part p strings security)
  made-bindings Strings = rw (made-words Strings) (layout-bindings Strings strings h.proper_strings)
  made-bindings Security = rw (made-words Security) (layout-bindings Security security h.proper_security)

pub by_bool : {P : Type 0} (b : Bool) → (b ≡ true → P) → (b ≡ false → P) → P
by_bool true f g = f refl
by_bool false f g = g refl

-- words of 16 bits, by what they are equal to
pub same-fit : (a b : List ℕ) → a ≡ b → Words16 a → Words16 b
same-fit a b e h i = rw (← e) (h i)

bare-accepted : list_answer bare_list ≡ 0
unfolding list_length field bytes_number two_parts
bare-accepted = accept bare_list refl (front-done bare_list (omega arith) refl)

pub list-accepted : (s : List ℕ) → IsList s → list_answer s ≡ 0
list-accepted s (IsList.bare e) = rw e bare-accepted
list-accepted s (IsList.made strings security h e) = rw e (list-made strings security h)

with-parts : (s : List ℕ) → Bytes s → list_answer s ≡ 0 → IsLayout Strings (part_words s Strings) → IsLayout Security (part_words s Security) → IsList s
unfolding list_bytes
with-parts s b done x y =
    let a = accepted s done in
    let n : length (part_words s Strings) + length (part_words s Security) ≡ count s = rw (length-words, length-words) (let l = a.held.below in omega arith) in
    let f = field_bound s 0 b in
    let few : length (part_words s Strings) + length (part_words s Security) < 65536 = omega arith in
    IsList.made x.bindings y.bindings
    record {
      proper_strings = x.proper;
      proper_security = y.proper;
      string_words = same-fit _ _ x.same (words-fit s 4 (split s) b);
      security_words = same-fit _ _ y.same (words-fit s (4 + 2 * split s) (count s - split s) b);
      count = rw (← x.same, ← y.same) few;
    }
    (list-remade s b done ∙ (rw (x.same, y.same)))

-- the list without words
bare-is : (s : List ℕ) → Bytes s → list_answer s ≡ 0 → is_bare s ≡ true → s ≡ bare_list
unfolding parts_bytes words word_bytes encode
bare-is s b done e =
    let z = bare s e in
    list-remade s b done ∙ (rw (z.0, z.1))

pub accepted-list : (s : List ℕ) → Bytes s → list_answer s ≡ 0 → IsList s
accepted-list s b done =
    let f = (accepted s done).held in
    by_bool (is_bare s)
    (λ e. IsList.bare (bare-is s b done e))
    (λ e. with-parts s b done (part-layout Strings (part_words s Strings) (f.part e Strings)) (part-layout Security (part_words s Security) (f.part e Security)))

-- ---- binding k

-- of bindings in a row
place-holds : (bs : List (List ℕ)) (s rest : List ℕ) (k at : ℕ) → drop at s ≡ word_bytes (joined bs) ++ rest → k < length bs
    → Holds s (place bs k at) (at + 2 * length (joined (take k bs))) (get_or bs k [])
unfolding place joined
place-holds [] s rest k at e h = absurd (omega arith)
place-holds (b ∷ bs) s rest zero at e h =
    let n : at + 2 * length b - at ≡ 2 * length b = omega arith in
    let z : at ≡ at + 2 * 0 = omega arith in
    let f : drop at s ≡ word_bytes b ++ (word_bytes (joined bs) ++ rest) = e ∙ (rw (bytes-append b (joined bs)) (append_assoc (word_bytes b) (word_bytes (joined bs)) rest)) in
    record {
      answer = refl;
      from = z;
      to = rw (← z);
      bytes = rw (n, f) (take_at (word_bytes b) _ (2 * length b) (length-bytes b));
    }
place-holds (b ∷ bs) s rest (suc k) at e h =
    let f : drop at s ≡ word_bytes b ++ (word_bytes (joined bs) ++ rest) = e ∙ (rw (bytes-append b (joined bs)) (append_assoc (word_bytes b) (word_bytes (joined bs)) rest)) in
    let past : drop (at + 2 * length b) s ≡ word_bytes (joined bs) ++ rest = sym (drop-drop (2 * length b) at s) ∙ (rw f (drop_at (word_bytes b) _ (2 * length b) (length-bytes b))) in
    let r = place-holds bs s rest k (at + 2 * length b) past (omega arith) in
    let n : at + 2 * length b + 2 * length (joined (take k bs)) ≡ at + 2 * length (b ++ joined (take k bs)) = omega (arith, length-append b (joined (take k bs))) in
    rw n at r

place-beyond : (bs : List (List ℕ)) (k at : ℕ) → length bs ≤ k → place bs k at ≡ refusal 24
unfolding place
place-beyond [] k at h = refl
place-beyond (b ∷ bs) zero at h = absurd (omega arith)
place-beyond (b ∷ bs) (suc k) at h = place-beyond bs k (at + 2 * length b) (omega arith)

module _ {A : Type 0} (f : A → List ℕ) where
  length-mapped : (l : List A) → length (map f l) ≡ length l
  length-mapped [] = refl
  length-mapped (a ∷ l) = ap suc (length-mapped l)

  take-mapped : (k : ℕ) (l : List A) → take k (map f l) ≡ map f (take k l)
  take-mapped zero l = refl
  take-mapped (suc k) [] = refl
  take-mapped (suc k) (a ∷ l) = ap (λ (t : List (List ℕ)). f a ∷ t) (take-mapped k l)

  get_or-mapped : (l : List A) (k : ℕ) (d : A) → k < length l → get_or (map f l) k [] ≡ f (get_or l k d)
  get_or-mapped [] k d h = absurd (omega arith)
  get_or-mapped (a ∷ l) zero d h = refl
  get_or-mapped (a ∷ l) (suc k) d h = get_or-mapped l k d (omega arith)

module _ (strings security : List Binding) (h : Listable strings security) where
  rows : Part → List (List ℕ)
  rows p = map (binding_words p) (of_part p strings security)

  -- the bytes of the bindings stand at the start of their part
  made-from : (p : Part) → drop (part_start (list_bytes strings security) p) (list_bytes strings security)
      ≡ word_bytes (joined (rows p)) ++ of_part p (word_bytes (0 ∷ []) ++ word_bytes (part_layout Security security)) (word_bytes (0 ∷ []))
  unfolding list_bytes rows part_layout
  made-from Strings =
      drop-four (part_layout Strings strings) (part_layout Security security) ∙ (rw (bytes-append (joined (map (binding_words Strings) strings)) (0 ∷ []), append_assoc))
  made-from Security =
      rw (made-split strings security h)
      (drop-strings (part_layout Strings strings) (part_layout Security security) ∙ bytes-append (joined (map (binding_words Security) security)) (0 ∷ []))

  made-place : (p : Part) (k : ℕ) → binding_at (list_bytes strings security) p k ≡ place (rows p) k (part_start (list_bytes strings security) p)
  unfolding binding_at rows
  made-place p k = rw (eq-eqb _ _ (list-made strings security h), made-bindings strings security h p)

  made-start : (p : Part) (k : ℕ) → part_start (list_bytes strings security) p + 2 * length (joined (take k (rows p))) ≡ binding_start p strings security k
  unfolding binding_start rows
  made-start Strings k = rw (take-mapped (binding_words Strings) k strings)
  made-start Security k = rw (made-split strings security h, take-mapped (binding_words Security) k security)

  -- binding k of the list is the encoding of its words, where the layout puts it
  pub made-binding : (p : Part) (k : ℕ) (d : Binding) → k < length (of_part p strings security)
      → Holds (list_bytes strings security) (binding_at (list_bytes strings security) p k) (binding_start p strings security k) (binding_words p (get_or (of_part p strings security) k d))
  unfolding rows
  made-binding p k d l =
      let n : k < length (rows p) = rw (length-mapped (binding_words p) (of_part p strings security)) l in
      rw (made-place p k, ← made-start p k, ← get_or-mapped (binding_words p) (of_part p strings security) k d l)
      (place-holds (rows p) (list_bytes strings security) _ k (part_start (list_bytes strings security) p) (made-from p) n)

  -- and there are no others
  pub made-beyond : (p : Part) (k : ℕ) → length (of_part p strings security) ≤ k → binding_at (list_bytes strings security) p k ≡ refusal 24
  unfolding rows
  made-beyond p k l =
      let n : length (rows p) ≤ k = rw (length-mapped (binding_words p) (of_part p strings security)) l in
      made-place p k ∙ place-beyond (rows p) k (part_start (list_bytes strings security) p) n

-- the list without words has no binding
pub bare-binding : (s : List ℕ) (p : Part) (k : ℕ) → list_answer s ≡ 0 → is_bare s ≡ true → binding_at s p k ≡ refusal 24
unfolding binding_at place
bare-binding s Strings k done e = let z = bare s e in rw (eq-eqb _ _ done, z.1, words-none s 4 0 refl, bindings-none Strings)
bare-binding s Security k done e = let z = bare s e in rw (eq-eqb _ _ done, z.0, z.1, words-none s (4 + 2 * 0) 0 refl, bindings-none Security)

-- ---- the statements

bare-true : is_bare bare_list ≡ true
unfolding field bytes_number
bare-true = refl

pub lists-exactly : ListsExactly
lists-exactly = record { accepted = list-accepted; is_list = accepted-list; remade = list-remade }

pub binding-k : BindingK
binding-k =
    record {
      shown = λ strings security h. made-binding strings security h;
      none = λ strings security h. made-beyond strings security h;
      bare = λ p k. bare-binding bare_list p k bare-accepted bare-true;
    }
