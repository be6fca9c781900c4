-- The contract of every call on the table.
use Rattle.std.specs.Prelude.{ℕ, ◌≡◌, Bool, true, false, cond, ◌&&◌, ◌||◌, List, length, eqb}
use Rattle.rules.specs.Entries.{Entries}
use Rattle.rules.specs.Calls.{Call, starting, looking, editing, count_list, Reply}
use Rattle.rules.specs.Sound.{sound}
use Rattle.rules.specs.Rules.{number, next, refused_reply, reply}

-- what is lent to every call: the array's words and the store's bytes
pub record Memory : Type 0 where
  pub words : List ℕ
  pub store : List ℕ

-- 8,192 words and 8,192 bytes
abbrev pub right_lengths : Memory → Bool
right_lengths m = eqb (length m.words) 8192 && eqb (length m.store) 8192

-- as long as the array has words, and the store bytes
abbrev pub Whole : List ℕ → Type 0
Whole xs = length xs ≡ 8192

-- a reset and a load look at lengths only
abbrev pub lengths_only : Call → Bool
lengths_only (starting s) = true
lengths_only (looking l) = false
lengths_only (editing c) = false
lengths_only (count_list w c s b) = false

-- an accepted call leaves sound entries
abbrev pub Keeps : Type 0
Keeps = (c : Call) (e : Entries) → sound e ≡ true → number c e ≡ 0 → sound (next c e) ≡ true

-- view decodes the live entries; it is the table's
module _ (view : Memory → Entries) where
  unfoldable pub sound_memory : Memory → Bool
  sound_memory m = right_lengths m && sound (view m)

  -- answer 1 is not given
  unfoldable pub fit : Call → Memory → Bool
  fit c m = right_lengths m && (lengths_only c || sound (view m))

  -- 1 where a length is wrong or the table is not sound, else what the rules say
  unfoldable pub reply_to : Call → Memory → Reply
  reply_to c m = cond (fit c m) (reply c (view m)) (refused_reply 1 c (view m))

  -- m is sound: what a step is lent
  pub record SoundTable (m : Memory) : Type 0 where
    pub words : Whole m.words
    pub store : Whole m.store
    pub entries : sound (view m) ≡ true

  -- Of a step, which is a call on a sound memory m that is not judged again, and leaves m': its number and all that it answers or
  -- writes; a refused step leaves every word and byte; an accepted one leaves the live entries of the rules, which are sound (`keeps`).
  pub record Stepped (c : Call) (m : Memory) (r : Reply) (m' : Memory) : Type 0 where
    pub answered : r ≡ reply c (view m)
    pub kept : (r.number ≡ 0 → ⊥) → m' ≡ m
    pub became : r.number ≡ 0 → view m' ≡ next c (view m)

  -- Of a call that is lent m and leaves m': its number and all that it answers or writes, as an equality; a refused call leaves every
  -- word and byte; an accepted one leaves a sound table whose live entries are those of the rules.
  pub record Performed (c : Call) (m : Memory) (r : Reply) (m' : Memory) : Type 0 where
    pub answered : r ≡ reply_to c m
    pub kept : (r.number ≡ 0 → ⊥) → m' ≡ m
    pub sound_after : r.number ≡ 0 → sound_memory m' ≡ true
    pub became : r.number ≡ 0 → view m' ≡ next c (view m)
