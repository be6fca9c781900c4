-- `resolving::resolve_filtered_step`: a few protocols are searched; too many are refused; others are marked.
use borrow.Author.Tests.{le-ltb}
use Rattle.bindings.proofs.Marks.{marks-none}
use Rattle.call_look.proofs.resolving.FilteredReplies.{too_many_lem}
use Rattle.call_look.proofs.resolving.resolve_filtered_step.Goals as goal

pub returns-then-protocols-gt-MOST_LISTED : goal.returns-then-protocols-gt-MOST_LISTED
returns-then-protocols-gt-MOST_LISTED c = search too_many_lem

pub mark_all-requires : goal.mark_all-requires
mark_all-requires c = marks-none

pub returns : goal.returns
returns c = c.resolve_marked.ensures _ (search le-ltb) (search)
