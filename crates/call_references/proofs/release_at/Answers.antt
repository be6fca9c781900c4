-- `call_references::release_at`: a client that is none is refused, then a row that is not live; else the smaller numbers are taken, and an interface without references goes.
use Rattle.call_references.proofs.Releasing.{no-client, no-interface, counted-done, empty-done, Still, still}
use borrow.Author.Rules.{rules}
use Rattle.call_references.proofs.release_at.Goals as goal

pub returns-then-client-gt-LAST_CLIENT : goal.returns-then-client-gt-LAST_CLIENT
returns-then-client-gt-LAST_CLIENT c = search no-client

pub returns-then-interface_count-i : goal.returns-then-interface_count-i
returns-then-interface_count-i c = search no-interface

pub is_held-requires : goal.is_held-requires
is_held-requires c =
    let stored : Still c.args.i c.interface_counts-counts.result.object.0 c.set_counts.new.words = search still in
    (search rules, (stored).live)

pub returns-then-is_held : goal.returns-then-is_held
returns-then-is_held c = search counted-done

pub drop_interface-requires : goal.drop_interface-requires
drop_interface-requires c =
    let stored : Still c.args.i c.interface_counts-counts.result.object.0 c.set_counts.new.words = search still in
    let k = stored in (search rules, k.live, k.fine, k.members, k.serves)

pub returns : goal.returns
returns c = search empty-done
