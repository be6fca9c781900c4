-- Little-endian fields in lists of bytes (000, section 2.2; GUIDs: section 2.2.5).
use Rattle.std.specs.Prelude.{ℕ, suc, zero, ◌+◌, ◌*◌, ◌/◌, ◌%◌, ◌^◌, ◌<◌, Bool, true, cond, ◌&&◌, List, [], ◌∷◌, ◌++◌, length, get_or, take, drop, replicate, eqb, leb}
use Rattle.kinds.specs.declared.Guid.{Guid}

-- the number that bytes make, lowest byte first
unfoldable pub bytes_number : List ℕ → ℕ
bytes_number [] = 0
bytes_number (b ∷ bs) = b + 256 * bytes_number bs

-- the w bytes of a number, lowest byte first
unfoldable pub encode : ℕ → ℕ → List ℕ
encode zero n = []
encode (suc w) n = n % 256 ∷ encode w (n / 256)

-- the number in the w bytes from at; 0 where they are not all there
unfoldable pub field : List ℕ → ℕ → ℕ → ℕ
field s at w = cond (leb (at + w) (length s)) (bytes_number (take w (drop at s))) 0

-- s with the bytes b written from at, the rest kept; s where they do not fit
unfoldable pub written : List ℕ → ℕ → List ℕ → List ℕ
written s at b = cond (leb (at + length b) (length s)) (take at s ++ (b ++ drop (at + length b) s)) s

-- the bytes of a buffer after a writer's answer: b at its front where the answer is 0, else no change
abbrev pub stored : ℕ → List ℕ → List ℕ → List ℕ
stored n b s = cond (eqb n 0) (written s 0 b) s

-- n bytes of zero, and whether bytes are all zero
abbrev pub zeros : ℕ → List ℕ
zeros n = replicate n 0

unfoldable pub all_zero : List ℕ → Bool
all_zero [] = true
all_zero (b ∷ bs) = eqb b 0 && all_zero bs

-- a size rounded up to a multiple of 8; it does not wrap
abbrev pub rounded : ℕ → ℕ
rounded n = (n + 7) / 8 * 8

-- the largest size whose rounded size fits four bytes
abbrev pub longest : ℕ
longest = 0xFFFFFFF8

-- the identifier in the 16 bytes from at
abbrev pub guid_at : List ℕ → ℕ → Guid
guid_at s at = record { low = field s at 8; high = field s (at + 8) 8 }

-- the 16 bytes of an identifier
abbrev pub guid_bytes : Guid → List ℕ
guid_bytes g = encode 8 g.low ++ encode 8 g.high

-- each element is a byte
abbrev pub Bytes : List ℕ → Type 0
Bytes s = (i : ℕ) → get_or s i 0 < 256

-- both halves of an identifier fit their width, as the machine's numbers do
pub record GuidFits (g : Guid) : Type 0 where
  pub low : g.low < 2 ^ 64
  pub high : g.high < 2 ^ 64
