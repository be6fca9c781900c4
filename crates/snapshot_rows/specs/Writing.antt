-- Bytes that are written one after the other.
use Rattle.std.specs.Prelude.{ℕ, ◌+◌, ◌≤◌, ◌≡◌, List, length}
use Rattle.fields.specs.Fields.{written}

-- the buffer has room for bytes from a place on
abbrev pub Room : List ℕ → ℕ → List ℕ → Type 0
Room buffer at bytes = at + length bytes ≤ length buffer

-- the bytes are written from a place on, the rest of the buffer is kept, and end is the place behind them
pub record Wrote (buffer : List ℕ) (at : ℕ) (bytes after : List ℕ) (end : ℕ) : Type 0 where
  pub held : after ≡ written buffer at bytes
  pub ends : end ≡ at + length bytes
