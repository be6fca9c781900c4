use Prim.Native.Nat.{◌+◌, ◌*◌, ◌≤◌}
use mathlib.Core.Path.{◌≡◌}
use lib.ListN.{length}
use Rattle.fields.specs.Fields.{written}
use Rattle.bindings.specs.Bindings.{words, joined}
use Rattle.bindings.specs.ListBytes.{word_bytes}
use Rattle.bindings.specs.Filter.{requested}
use Rattle.bindings.proofs.Walks.{StringsOf}
use Rattle.bindings.proofs.FilterLoops.{left_requested}
use Rattle.bindings.proofs.filter.put_requested.Given as goal

abbrev pub invariant-loop-binding : goal.invariant-loop-binding
invariant-loop-binding l =
    StringsOf l.s l.binding-iterator
    × (length l.buf ≡ length l.initial.buf)
    × (l.next + 2 * length (left_requested l.protocols l.s l.binding-iterator) ≤ length l.buf)
    × (written l.buf l.next (word_bytes (left_requested l.protocols l.s l.binding-iterator)) ≡ written l.initial.buf l.to (word_bytes (joined (requested l.protocols (words l.s l.at l.n)))))
