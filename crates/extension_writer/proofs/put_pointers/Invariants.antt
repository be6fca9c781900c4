use Rattle.std.proofs.Common.{◌≡◌, ◌≤◌, ◌+◌, ◌*◌, ◌/◌, true, [], length}
use Rattle.fields.specs.Fields.{written}
use Rattle.extensions.specs.Extensions.{pointers_bytes}
use Rattle.extension_writer.specs.Writing.{described, words_writable}
use Rattle.extension_writer.proofs.Entries.{Standing, at, left}
use Rattle.extension_writer.proofs.put_pointers.Given as goal

abbrev pub invariant-loop-entry : goal.invariant-loop-entry
invariant-loop-entry l =
    Standing l.entries l.entry-iterator.rest.now l.entry-iterator.size
    × (words_writable l.entries (at l.entries l.entry-iterator.rest.now) (left l.entry-iterator.rest.now) ≡ true)
    × (length l.buf ≡ length l.initial.buf)
    × (l.to + 4 * left l.entry-iterator.rest.now ≤ length l.buf)
    × (written l.buf l.to (pointers_bytes (described l.entries [] (at l.entries l.entry-iterator.rest.now) (left l.entry-iterator.rest.now)))
    ≡ written l.initial.buf l.at (pointers_bytes (described l.entries [] 0 (length l.entries / 4))))
