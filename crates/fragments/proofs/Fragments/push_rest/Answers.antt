-- `Fragments::push_rest`: each part of the state, and the waiting buffer.
use Rattle.fragments.specs.Fragments.{Reading}
use Rattle.fragments.proofs.Rest.{rest_in, rest_after, rest-pushed}
use Rattle.fragments.proofs.Fragments.push_rest.Goals as goal

pub returns : goal.returns
unfolding rest_after rest_in
returns c =
    let form = c.form_of-form.ensures in
    let mode = rw form at c.walk_after-mode.ensures in
    let kept = rw form at c.kept_after.ensures in
    let over = rw form at c.over_after.ensures in
    let waiting = rw form at c.keep_all.ensures in
    let a = c.args in
    let r : Reading = record { state = a.self; waiting = a.waiting.now } in
    rw (rest-pushed a.bytes.now r c.requires)
    (rw (kept, c.seen_after.ensures, c.low_after.ensures, mode, over), waiting)
