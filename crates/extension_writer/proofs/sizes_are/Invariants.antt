use Rattle.std.proofs.Common.{◌≡◌, ◌+◌, ◌/◌, length}
use Rattle.extension_writer.specs.Writing.{sizes}
use Rattle.extension_writer.proofs.Entries.{Standing, at, left}
use Rattle.extension_writer.proofs.sizes_are.Given as goal

abbrev pub invariant-loop-entry : goal.invariant-loop-entry
invariant-loop-entry l =
    Standing l.entries l.entry-iterator.rest.now l.entry-iterator.size
    × (sizes l.entries 0 (length l.entries / 4) + l.rest ≡ l.len + sizes l.entries (at l.entries l.entry-iterator.rest.now) (left l.entry-iterator.rest.now))
