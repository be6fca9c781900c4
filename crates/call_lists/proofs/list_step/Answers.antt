-- `call_lists::list_step`: the list is refused, or its items are done.
use Rattle.call_lists.proofs.Loop.{no-client, not-whole, too_many_lem, no_room}
use Rattle.call_lists.proofs.list_step.Goals as goal

pub returns-then-client-gt-LAST_CLIENT : goal.returns-then-client-gt-LAST_CLIENT
returns-then-client-gt-LAST_CLIENT c = search no-client

pub returns-then-items-ne0 : goal.returns-then-items-ne0
returns-then-items-ne0 c = search not-whole

pub returns-then-n-gt-MOST_LISTED : goal.returns-then-n-gt-MOST_LISTED
returns-then-n-gt-MOST_LISTED c = search too_many_lem

pub returns-then-buffer-n : goal.returns-then-buffer-n
returns-then-buffer-n c = search no_room
