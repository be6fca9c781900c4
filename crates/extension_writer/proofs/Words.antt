-- The words and the data of an array describe it; words of the machine describe an array whose numbers fit.
use Prim.Native.Nat.{ℕ, suc, zero, ◌+◌, ◌*◌, ◌/◌, ◌%◌}
use mathlib.Core.Path.{◌≡◌, refl, ap, ◌∙◌}
use mathlib.Core.Bool.{true}
use mathlib.Core.List.{List, [], ◌∷◌}
use native.Mathlib.Omega.{arith}
use borrow.Author.Tests.{eq-eqb}
use lib.ListN.{length, get_or, drop, length-append}
use lib.Seq.{take-append_seam, drop-append_seam}
use Rattle.extensions.specs.Extensions.{Extent, Array}
use Rattle.extension_writer.specs.Writing.{described, given, sizes, agree, takes, words_of, contents_of}
use Rattle.extension_writer.specs.Statements.{AllFit, Words, WordsFit, ReadIsTaken}

-- ---- words of 64 bits

all_fit : (ws d : List ℕ) (i n : ℕ) → Words ws → AllFit (described ws d i n)
unfolding described
all_fit ws d i zero h = AllFit.none
all_fit ws d i (suc n) h = AllFit.more (h i) (h (i + 1)) (all_fit ws (drop (get_or ws (i + 3) 0) d) (i + 4) n h)

pub words-fit : WordsFit
unfolding given
words-fit header pointer ws d h p w = record { header = h; pointer = p; ids = all_fit ws d 0 (length ws / 4) w }

-- ---- the words of an array

-- four words before the others do not count from word 4 on
module _ (a b c e : ℕ) (ws : List ℕ) where
  shift : (i j : ℕ) → j ≡ 4 + i → get_or (a ∷ b ∷ c ∷ e ∷ ws) j 0 ≡ get_or ws i 0
  shift i j h = let k : j ≡ suc (suc (suc (suc i))) = omega arith in rw k

  described-on : (d : List ℕ) (i j n : ℕ) → j ≡ 4 + i → described (a ∷ b ∷ c ∷ e ∷ ws) d j n ≡ described ws d i n
  unfolding described
  described-on d i j zero h = refl
  described-on d i j (suc n) h =
      let size = shift (i + 3) (j + 3) (omega arith) in
      rw (shift (i + 2) (j + 2) (omega arith), shift i j h, shift (i + 1) (j + 1) (omega arith), size, described-on (drop (get_or ws (i + 3) 0) d) (i + 4) (j + 4) n (omega arith))

  sizes-on : (i j n : ℕ) → j ≡ 4 + i → sizes (a ∷ b ∷ c ∷ e ∷ ws) j n ≡ sizes ws i n
  unfolding sizes
  sizes-on i j zero h = refl
  sizes-on i j (suc n) h = rw (shift (i + 3) (j + 3) (omega arith), sizes-on (i + 4) (j + 4) n (omega arith))

length-words : (es : List Extent) → length (words_of es) ≡ 4 * length es
unfolding words_of
length-words [] = refl
length-words (e ∷ es) = let h = length-words es in omega arith

described-words : (es : List Extent) → described (words_of es) (contents_of es) 0 (length es) ≡ es
unfolding described words_of contents_of
described-words [] = refl
described-words (e ∷ es) =
    let on = described-on e.id.low e.id.high e.pointer (length e.content) (words_of es) (contents_of es) 0 4 (length es) refl in
    rw (take-append_seam e.content (contents_of es), drop-append_seam e.content (contents_of es)) (ap (λ (x : List Extent). e ∷ x) (on ∙ described-words es))

sizes-words : (es : List Extent) → sizes (words_of es) 0 (length es) ≡ length (contents_of es)
unfolding sizes words_of contents_of
sizes-words [] = refl
sizes-words (e ∷ es) =
    let on = sizes-on e.id.low e.id.high e.pointer (length e.content) (words_of es) 0 4 (length es) refl in
    let rest = sizes-words es in
    let all = length-append e.content (contents_of es) in
    omega arith

-- how many they are
count-words : (es : List Extent) → (length (words_of es) / 4 ≡ length es) × (length (words_of es) % 4 ≡ 0)
count-words es = let h = length-words es in (omega arith, omega arith)

pub agree-words : (es : List Extent) → agree (words_of es) (contents_of es) ≡ true
unfolding agree
agree-words es =
    let n = count-words es in
    rw (n.0, n.1, eq-eqb _ _ (sizes-words es))

pub given-words : (a : Array) → given a.header a.pointer (words_of a.extents) (contents_of a.extents) ≡ a
unfolding given
given-words a = rw ((count-words a.extents).0, described-words a.extents)

pub read-is-taken : ReadIsTaken
unfolding takes
read-is-taken a = record { same = given-words a; taken = λ w. rw (agree-words a.extents, given-words a) w }
