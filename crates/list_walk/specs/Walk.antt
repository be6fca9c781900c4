-- A walk over the words of a binding list, one word after the other, that says at the end whether they are two parts.
use Rattle.std.specs.Prelude.{ℕ, suc, ◌+◌, ◌*◌, ◌-◌, ◌/◌, ◌%◌, ◌<◌, ◌≡◌, Bool, cond, ◌&&◌, ◌||◌, List, [], ◌∷◌, eqb, ltb, leb}
use Rattle.bindings.specs.Bindings.{words, count, split, two_parts}
use Rattle.bindings.specs.declared.Part.{Part}
use Rattle.bindings.specs.declared.Part.TheVariants.{Strings, Security}

-- where a part's walk stands: a tower or service word is due; the word after a service word is due; in an address or a name; the
-- part's zero word has come; more words came after it, or the part was left before it
abbrev pub due : ℕ
due = 0

abbrev pub free : ℕ
free = 1

abbrev pub text : ℕ
text = 2

abbrev pub closed : ℕ
closed = 3

abbrev pub broken : ℕ
broken = 4

-- what comes after a tower or service word
abbrev pub opened : Part → ℕ
opened Strings = text
opened Security = free

-- one word more
unfoldable pub word_step : Part → ℕ → ℕ → ℕ
word_step p m w =
    cond (eqb m due) (cond (eqb w 0) closed (opened p))
    (cond (eqb m free) text
    (cond (eqb m text) (cond (eqb w 0) due text) broken))

unfoldable pub walk_part : Part → ℕ → List ℕ → ℕ
walk_part p m [] = m
walk_part p m (w ∷ ws) = walk_part p (word_step p m w) ws

-- word number k of a list whose security part begins at word v: there the string part has to be closed
abbrev pub part_of : ℕ → ℕ → Part
part_of v k = cond (ltb k v) Strings Security

abbrev pub entering : ℕ → ℕ → ℕ → ℕ
entering v k m = cond (eqb k v) (cond (eqb m closed) due broken) m

unfoldable pub list_step : ℕ → ℕ → ℕ → ℕ → ℕ
list_step v k m w = word_step (part_of v k) (entering v k m) w

unfoldable pub walk_list : ℕ → ℕ → ℕ → List ℕ → ℕ
walk_list v k m [] = m
walk_list v k m (w ∷ ws) = walk_list v (suc k) (list_step v k m w) ws

-- the n words of a list, walked to m, are two parts; or there is no word at all
abbrev pub both_closed : ℕ → ℕ → ℕ → Bool
both_closed n v m = (eqb n 0 && eqb v 0) || (ltb v n && eqb m closed)

-- the walk over a list's words decides its parts as `two_parts` does
abbrev pub PartsWalk : Type 0
PartsWalk = (s : List ℕ) → two_parts s ≡ both_closed (count s) (split s) (walk_list (split s) 0 0 (words s 4 (count s)))

-- ---- texts passed in blocks

-- r of the w words from word k leave the walk where it stands, and there are more
abbrev pub TextPassed : ℕ → ℕ → ℕ → List ℕ → ℕ → ℕ → ℕ → Type 0
TextPassed v k m s at w r = (r < w) × (walk_list v (k + r) m (words s (at + 2 * r) (w - r)) ≡ walk_list v k m (words s at w))

-- ---- a list whose bytes come one after the other

-- bytes are counted up to here: past the end of every list
abbrev pub limit : ℕ
limit = 131155

-- byte number j of a list with N = n and S = v completes word number (j - 5) / 2 with the byte before it
unfoldable pub next_mode : ℕ → ℕ → ℕ → ℕ → ℕ → ℕ → ℕ
next_mode n v j low m b =
    cond (leb 5 j && (eqb (j % 2) 1 && ltb ((j - 5) / 2) n)) (list_step v ((j - 5) / 2) m (low + 256 * b)) m

abbrev pub next_seen : ℕ → ℕ
next_seen seen = cond (ltb seen limit) (seen + 1) seen

-- the walk over the words of a list with N = n and S = v that begins at byte start
unfoldable pub mode_after : ℕ → ℕ → ℕ → ℕ → ℕ → ℕ → List ℕ → ℕ
mode_after n v start seen low m [] = m
mode_after n v start seen low m (b ∷ bs) = mode_after n v start (next_seen seen) b (next_mode n v (seen - start) low m b) bs
