use Rattle.std.proofs.Common.{◌≡◌, ◌≤◌, ◌+◌, ◌/◌, true, length, drop}
use Rattle.fields.specs.Fields.{written}
use Rattle.extensions.specs.Extensions.{extents_bytes}
use Rattle.extension_writer.specs.Writing.{described, sizes, words_writable, extents_length}
use Rattle.extension_writer.proofs.Entries.{Standing, at, left}
use Rattle.extension_writer.proofs.put_extents.Given as goal

abbrev pub invariant-loop-entry : goal.invariant-loop-entry
invariant-loop-entry l =
    Standing l.entries l.entry-iterator.rest.now l.entry-iterator.size
    × (words_writable l.entries (at l.entries l.entry-iterator.rest.now) (left l.entry-iterator.rest.now) ≡ true)
    × (length l.buf ≡ length l.initial.buf)
    × (l.from + sizes l.entries (at l.entries l.entry-iterator.rest.now) (left l.entry-iterator.rest.now) ≤ length l.contents)
    × (l.to + extents_length l.entries (at l.entries l.entry-iterator.rest.now) (left l.entry-iterator.rest.now) ≤ length l.buf)
    × (written l.buf l.to (extents_bytes (described l.entries (drop l.from l.contents) (at l.entries l.entry-iterator.rest.now) (left l.entry-iterator.rest.now)))
    ≡ written l.initial.buf l.at (extents_bytes (described l.entries l.contents 0 (length l.entries / 4))))
