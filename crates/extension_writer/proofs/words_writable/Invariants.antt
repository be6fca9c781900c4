use Rattle.std.proofs.Common.{◌≡◌, ◌/◌, length}
use Rattle.extension_writer.specs.Writing.{words_writable}
use Rattle.extension_writer.proofs.Entries.{Standing, at, left}
use Rattle.extension_writer.proofs.words_writable.Given as goal

abbrev pub invariant-loop-entry : goal.invariant-loop-entry
invariant-loop-entry l =
    Standing l.entries l.entry-iterator.rest.now l.entry-iterator.size
    × (words_writable l.entries (at l.entries l.entry-iterator.rest.now) (left l.entry-iterator.rest.now) ≡ words_writable l.entries 0 (length l.entries / 4))
