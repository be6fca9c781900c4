use Prim.Native.Nat.{◌+◌, ◌*◌}
use mathlib.Core.Path.{◌≡◌}
use lib.ListN.{length, drop}
use Rattle.fields.specs.Fields.{written}
use Rattle.bindings.specs.ListBytes.{word_bytes}
use Rattle.list_writer.proofs.put_words.Given as goal

abbrev pub invariant-loop-i : goal.invariant-loop-i
invariant-loop-i l =
    (length l.buf ≡ length l.initial.buf)
    × (written l.buf (l.to + 2 * l.i) (word_bytes (drop l.i l.words)) ≡ written l.initial.buf l.to (word_bytes l.words))
