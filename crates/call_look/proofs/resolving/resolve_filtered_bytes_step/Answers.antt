-- `resolving::resolve_filtered_bytes_step`: too many protocols; else they are marked.
use Rattle.bindings.proofs.Marks.{marks-none}
use Rattle.call_look.proofs.resolving.FilteredReplies.{few_words, too-many-words}
use Rattle.call_look.proofs.resolving.resolve_filtered_bytes_step.Goals as goal

pub returns-then-protocols-gt-MOST_LISTED : goal.returns-then-protocols-gt-MOST_LISTED
returns-then-protocols-gt-MOST_LISTED c = search too-many-words

pub mark_all_bytes-requires : goal.mark_all_bytes-requires
mark_all_bytes-requires c = marks-none

pub returns : goal.returns
returns c = c.resolve_marked.ensures _ (search few_words) (search)
