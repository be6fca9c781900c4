-- How a word of 16 bits is shown.
use Rattle.std.specs.Prelude.{ℕ, ◌/◌, ◌%◌, List, [], ◌∷◌, false, ◌&&◌, nat_eq, nat_lt, cond}
use Rattle.std.specs.Fmt.{digit_glyph}

-- \uXXXX
abbrev pub escaped : ℕ → List ℕ
escaped w = 92 ∷ 117 ∷ digit_glyph false (w / 4096) ∷ digit_glyph false (w / 256 % 16) ∷ digit_glyph false (w / 16 % 16) ∷ digit_glyph false (w % 16) ∷ []

-- nothing of a zero word; a backslash doubled, a printable ASCII character as it is, any other unit escaped
abbrev pub shown : ℕ → List ℕ
shown w = cond (nat_eq w 0) [] (cond (nat_eq w 92) (92 ∷ 92 ∷ []) (cond (nat_lt 31 w && nat_lt w 127) (w ∷ []) (escaped w)))
