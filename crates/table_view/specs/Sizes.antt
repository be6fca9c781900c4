-- The size of a set, by the ones of its member words. A statement only.
use Rattle.std.specs.Prelude.{ℕ, ◌+◌, ◌^◌, ◌≡◌, Bool, true, length, eqb, ltb}
use Rattle.std.specs.Int.Count.{ones}
use Rattle.lists.specs.Lists.{every, distinct, first_index}
use Rattle.rules.specs.Entries.{set_numbers}
use Rattle.rules.specs.Rules.{is_live_object, is_live_set, set_of}
use Rattle.rules.specs.Contract.{Memory}
use Rattle.table_view.specs.View.{view, sound_memory, members_at}

-- the words are of 64 bits, as those of every lent array are
abbrev pub words_fit : Memory → Bool
words_fit m = every (λ (w : ℕ). ltb w (2 ^ 64)) m.words

-- the ones of both member words of the live set s, summed
abbrev pub ones_of : Memory → ℕ → ℕ
ones_of m s =
    let r : ℕ = first_index (eqb s) (set_numbers (view m)) in
    ones (members_at m.words r).low + ones (members_at m.words r).high

-- the sum is the number of the set's members, which are live objects, each once
pub record Sized (m : Memory) (s : ℕ) : Type 0 where
  pub sum : ones_of m s ≡ length (set_of (view m) s).members
  pub live : every (is_live_object (view m)) (set_of (view m) s).members ≡ true
  pub once : distinct eqb (set_of (view m) s).members ≡ true

-- of every live set of a sound table
abbrev pub SetsSized : Type 0
SetsSized = (m : Memory) → words_fit m ≡ true → sound_memory m ≡ true → (s : ℕ) → is_live_set (view m) s ≡ true → Sized m s
