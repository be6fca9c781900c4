-- What a list of adds or releases promises by the single calls that its items stand for. Statements only.
use Rattle.std.specs.Prelude.{ℕ, ◌%◌, ◌≤◌, ◌≡◌, true, cond, ◌||◌, List, [], ◌∷◌, ◌++◌, map, length, drop, eqb}
use Rattle.lists.specs.Lists.{every}
use Rattle.rules.specs.Entries.{Entries}
use Rattle.rules.specs.Calls.{Call, Counting, count_list}
use Rattle.rules.specs.Items.{item_size, item_count, items_of, item_call}
use Rattle.rules.specs.Rules.{number, next, results, accepted_reply}

-- calls done one after the other, a refused one leaving the entries: the entries after them, and their numbers
unfoldable pub calls_done : List Call → Entries → Entries
calls_done [] e = e
calls_done (c ∷ cs) e = calls_done cs (cond (eqb (number c e) 0) (next c e) e)

unfoldable pub call_numbers : List Call → Entries → List ℕ
call_numbers [] e = []
call_numbers (c ∷ cs) e = number c e ∷ call_numbers cs (cond (eqb (number c e) 0) (next c e) e)

-- the results and the live entries afterwards are those of the items done one by one from the left
pub record OneByOne (w : Counting) (c : ℕ) (s b : List ℕ) (e : Entries) : Type 0 where
  pub entries : next (count_list w c s b) e ≡ calls_done (map (item_call w c) (items_of s)) e
  pub bytes : (accepted_reply (count_list w c s b) e).buffer ≡ call_numbers (map (item_call w c) (items_of s)) e ++ drop (item_count s) b
  -- 6 and 8 belong to one item
  pub numbers : every (λ (n : ℕ). eqb n 0 || eqb n 6 || eqb n 8) (results (count_list w c s b) e).front ≡ true

-- an accepted list cut between items, each part with a buffer that has a byte for each of its items: both parts are accepted, and done
-- in turn they give the two result lists joined
pub record CutBetween (w : Counting) (c : ℕ) (s t b b₁ b₂ : List ℕ) (e : Entries) : Type 0 where
  pub first : number (count_list w c s b₁) e ≡ 0
  pub second : number (count_list w c t b₂) (next (count_list w c s b₁) e) ≡ 0
  pub entries : next (count_list w c (s ++ t) b) e ≡ next (count_list w c t b₂) (next (count_list w c s b₁) e)
  pub bytes : (results (count_list w c (s ++ t) b) e).front ≡ (results (count_list w c s b₁) e).front ++ (results (count_list w c t b₂) (next (count_list w c s b₁) e)).front

abbrev pub ListsOneByOne : Type 0
ListsOneByOne = (w : Counting) (c : ℕ) (s b : List ℕ) (e : Entries) → number (count_list w c s b) e ≡ 0 → OneByOne w c s b e

abbrev pub ListsCut : Type 0
ListsCut =
    (w : Counting) (c : ℕ) (s t b b₁ b₂ : List ℕ) (e : Entries)
    → number (count_list w c (s ++ t) b) e ≡ 0
    → length s % item_size ≡ 0
    → item_count s ≤ length b₁
    → item_count t ≤ length b₂
    → CutBetween w c s t b b₁ b₂ e
