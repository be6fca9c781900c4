use Rattle.std.proofs.Common.{◌≡◌, ◌≤◌, ◌+◌, ◌/◌, true, length}
use Rattle.extension_writer.specs.Writing.{words_writable, extents_length}
use Rattle.extension_writer.proofs.Entries.{Standing, at, left}
use Rattle.extension_writer.proofs.extents_length.Given as goal

abbrev pub invariant-loop-entry : goal.invariant-loop-entry
invariant-loop-entry l =
    Standing l.entries l.entry-iterator.rest.now l.entry-iterator.size
    × (words_writable l.entries (at l.entries l.entry-iterator.rest.now) (left l.entry-iterator.rest.now) ≡ true)
    × (l.total + extents_length l.entries (at l.entries l.entry-iterator.rest.now) (left l.entry-iterator.rest.now) ≡ extents_length l.entries 0 (length l.entries / 4))
    × (extents_length l.entries 0 (length l.entries / 4) ≤ 137438954240)
