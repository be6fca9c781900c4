-- The binding list, DUALSTRINGARRAY (document 01, "Reference bytes"; 000, section 2.2.19): N and S, then N words, of which the first S
-- are the string part and the others the security part.
use Rattle.std.specs.Prelude.{ℕ, suc, zero, ◌+◌, ◌*◌, ◌-◌, ◌<◌, ◌≤◌, ◌≡◌, Bool, true, false, cond, not, ◌&&◌, ◌||◌, List, [], ◌∷◌, ◌++◌, length, take, drop, eqb, ltb, leb}
use Rattle.std.specs.Prelude.{Result, Ok, Err}
use Rattle.std.specs.declared.ops.Range.{Range}
use Rattle.kinds.specs.Answers.{refusal_number}
use Rattle.kinds.specs.Refusals.{◌gives◌, passes, order}
use Rattle.kinds.specs.declared.refusal.Refusal.{Refusal}
use Rattle.fields.specs.Fields.{field}
use Rattle.bindings.specs.declared.Part.{Part}
use Rattle.bindings.specs.declared.Part.TheVariants.{Strings, Security}
use Rattle.bindings.specs.declared.Place.{Place}

-- the n words from the byte at
unfoldable pub words : List ℕ → ℕ → ℕ → List ℕ
words s at zero = []
words s at (suc n) = field s at 2 ∷ words s (at + 2) n

-- ---- the grammar of a part

-- the words up to and with the first zero word
unfoldable pub through_zero : List ℕ → List ℕ
through_zero [] = []
through_zero (w ∷ ws) = w ∷ cond (eqb w 0) [] (through_zero ws)

-- none of the k words from at is zero
abbrev pub NoZero : List ℕ → ℕ → ℕ → Type 0
NoZero s at k = (j : ℕ) → j < k → field s (at + 2 * j) 2 ≡ 0 → ⊥

-- word i is the first zero word of the n words from at
pub record FirstZero (s : List ℕ) (at n i : ℕ) : Type 0 where
  pub within : i < n
  pub zero : field s (at + 2 * i) 2 ≡ 0
  pub before : NoZero s at i

-- the words of a binding before its address or name: a tower word; a service word and one word of any content
abbrev pub head_words : Part → ℕ
head_words Strings = 1
head_words Security = 2

-- the binding at the front of words: its head, then words up to and with a zero word
unfoldable pub first_binding : Part → List ℕ → List ℕ
first_binding p ws = take (head_words p) ws ++ through_zero (drop (head_words p) ws)

-- bindings in a row, up to a zero word where a tower or service word is due; at most n
unfoldable pub bindings_up_to : ℕ → Part → List ℕ → List (List ℕ)
bindings_up_to zero p ws = []
bindings_up_to (suc n) p [] = []
bindings_up_to (suc n) p (w ∷ ws) =
    cond (eqb w 0) [] (first_binding p (w ∷ ws) ∷ bindings_up_to n p (drop (length (first_binding p (w ∷ ws))) (w ∷ ws)))

-- the bindings of a part; it has no more of them than words
unfoldable pub bindings_of : Part → List ℕ → List (List ℕ)
bindings_of p ws = bindings_up_to (length ws) p ws

unfoldable pub joined : List (List ℕ) → List ℕ
joined [] = []
joined (b ∷ bs) = b ++ joined bs

unfoldable pub same_words : List ℕ → List ℕ → Bool
same_words [] [] = true
same_words [] (y ∷ ys) = false
same_words (x ∷ xs) [] = false
same_words (x ∷ xs) (y ∷ ys) = eqb x y && same_words xs ys

-- a part is bindings in a row and then one zero word, which is the part's last word
unfoldable pub is_part : Part → List ℕ → Bool
is_part p ws = same_words ws (joined (bindings_of p ws) ++ (0 ∷ []))

-- ---- a list

-- N and S
abbrev pub count : List ℕ → ℕ
count s = field s 0 2

abbrev pub split : List ℕ → ℕ
split s = field s 2 2

-- the first byte of a part, its number of words, and its words
abbrev pub part_start : List ℕ → Part → ℕ
part_start s Strings = 4
part_start s Security = 4 + 2 * split s

abbrev pub part_size : List ℕ → Part → ℕ
part_size s Strings = split s
part_size s Security = count s - split s

abbrev pub part_words : List ℕ → Part → List ℕ
part_words s p = words s (part_start s p) (part_size s p)

-- N and S are 0: two empty parts without a word, four bytes in all (document 02, request 2)
abbrev pub is_bare : List ℕ → Bool
is_bare s = eqb (count s) 0 && eqb (split s) 0

-- both parts are parts, and S is not above N; or there is no word at all
unfoldable pub two_parts : List ℕ → Bool
two_parts s = is_bare s || (leb (split s) (count s) && (is_part Strings (part_words s Strings) && is_part Security (part_words s Security)))

-- the length of the list at the front of s, in bytes
unfoldable pub list_length : List ℕ → ℕ
list_length s = 4 + 2 * count s

-- of the list at the front of s; the bytes after it are the caller's matter
unfoldable pub front_answer : List ℕ → ℕ
front_answer s = order (ltb (length s) 4 gives 13 ∷ ltb (length s) (list_length s) gives 13 ∷ not (two_parts s) gives 14 ∷ [])

-- of s as a whole list: bytes left over are 14
unfoldable pub list_answer : List ℕ → ℕ
list_answer s = order (passes (front_answer s) ∷ ltb (list_length s) (length s) gives 14 ∷ [])

-- ---- binding number k

abbrev pub refusal : ℕ → Place
refusal n = record { answer = n; from = 0; to = 0 }

-- a place that was found, or refused, as C takes it
abbrev pub placed : Result (Range ℕ) Refusal → Place
placed (Ok found) = record { answer = 0; from = found.start; to = found.end }
placed (Err why) = refusal (refusal_number why)

-- where binding k stands among bindings whose words begin at the byte at
unfoldable pub place : List (List ℕ) → ℕ → ℕ → Place
place [] k at = refusal 24
place (b ∷ bs) zero at = record { answer = 0; from = at; to = at + 2 * length b }
place (b ∷ bs) (suc k) at = place bs k (at + 2 * length b)

-- binding k of a part of a whole list: the list's refusals first, then 24
unfoldable pub binding_at : List ℕ → Part → ℕ → Place
binding_at s p k = cond (eqb (list_answer s) 0) (place (bindings_of p (part_words s p)) k (part_start s p)) (refusal (list_answer s))

-- the binding that begins the n words from at, where they are there
unfoldable pub binding_from : List ℕ → Part → ℕ → ℕ → Place
binding_from s p at n = cond (leb (at + 2 * n) (length s)) (place (bindings_of p (words s at n)) 0 at) (refusal 13)

-- a place lies within so many bytes
abbrev pub Within : ℕ → Place → Type 0
Within m x = (x.from ≤ x.to) × (x.to ≤ m)

-- the bytes of a place
abbrev pub bytes_at : List ℕ → Place → List ℕ
bytes_at s x = take (x.to - x.from) (drop x.from s)

-- a place of the bytes s, which begin in memory at start (a block and an offset), answered as a part: its bytes, and where it begins
pub record PartOf (s : List ℕ) (start : ℕ × ℕ) (x : Place) (begin : ℕ × ℕ) (part : List ℕ) : Type 0 where
  pub bytes : part ≡ bytes_at s x
  pub begins : begin ≡ (start.0, x.from + start.1)
