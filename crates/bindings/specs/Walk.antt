-- A walk over the bindings of a part in a list of bytes.
use Rattle.std.specs.Prelude.{ℕ, ◌+◌, ◌*◌, ◌-◌, ◌<◌, ◌≤◌, ◌≡◌, length, Option, Some, None}
use Rattle.std.specs.declared.ops.Range.{Range}
use Rattle.fields.specs.Fields.{field}
use Rattle.bindings.specs.Bindings.{words, first_binding}
use Rattle.bindings.specs.declared.Walk.{Walk}

-- how many words the next binding has
abbrev pub next_words : Walk → ℕ
next_words w = length (first_binding w.part (words w.s.now w.at w.left))

-- there is a next binding, and it stands at b; v is the walk behind it
pub record TakesBinding (w : Walk) (b : Range ℕ) (v : Walk) : Type 0 where
  pub some : 0 < w.left
  pub begins : field w.s.now w.at 2 ≡ 0 → ⊥
  pub most : next_words w ≤ w.left
  pub least : 0 < next_words w
  pub from : b.start ≡ w.at
  pub to : b.end ≡ w.at + 2 * next_words w
  pub bytes : v.s.now ≡ w.s.now
  pub part : v.part ≡ w.part
  pub at : v.at ≡ w.at + 2 * next_words w
  pub left : v.left ≡ w.left - next_words w

-- no words are left, or a zero word comes where a tower or service word is due
pub record EndsWalk (w v : Walk) : Type 0 where
  pub end : 0 < w.left → field w.s.now w.at 2 ≡ 0
  pub bytes : v.s.now ≡ w.s.now
  pub part : v.part ≡ w.part
  pub at : v.at ≡ w.at
  pub left : v.left ≡ w.left

abbrev pub GivesBinding : Walk → Option (Range ℕ) → Walk → Type 0
GivesBinding w None v = EndsWalk w v
GivesBinding w (Some b) v = TakesBinding w b v
