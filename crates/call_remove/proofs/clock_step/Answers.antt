-- `call_remove::clock_step`: a time before the clock is refused; else the sets go, then the objects, and the counts fall.
use Rattle.table_view.proofs.Steps.{whole}
use Rattle.call_remove.proofs.Expiring.{clock-back, Ticked, ticked, settling-asked, Settled, settled, fewer-objects, fewer-interfaces, fewer-sets, clock-done}
use borrow.Author.Rules.{rules}
use Rattle.call_remove.proofs.clock_step.Goals as goal

pub clock-requires : goal.clock-requires
clock-requires c = search whole

pub returns-then-time-clock : goal.returns-then-time-clock
returns-then-time-clock c = search clock-back

pub object_count-objects-requires : goal.object_count-objects-requires
object_count-objects-requires c = search whole

pub interface_count-interfaces-requires : goal.interface_count-interfaces-requires
interface_count-interfaces-requires c = search whole

pub set_count-sets-requires : goal.set_count-sets-requires
set_count-sets-requires c = search whole

pub drop_sets-requires : goal.drop_sets-requires
drop_sets-requires c = search whole

pub set_clock-requires : goal.set_clock-requires
set_clock-requires c = let w = c.requires.words in search rules

pub remove_leaving-requires : goal.remove_leaving-requires
remove_leaving-requires c =
    let cleared : let a = c.args in Ticked a.words.now a.store.now a.time c.set_clock.new.words = ticked _ _ _ _ _ c.requires c.drop_sets.ensures c.set_clock.ensures in
    let k = cleared in let w = k.table.words in let q = settling-asked k in (search rules, q.0, q.1, q.2)

pub object_count-requires : goal.object_count-requires
object_count-requires c =
    let cleared : let a = c.args in Ticked a.words.now a.store.now a.time c.set_clock.new.words = ticked _ _ _ _ _ c.requires c.drop_sets.ensures c.set_clock.ensures in
    let gone : let a = c.args in Settled a.words.now a.store.now a.time c.remove_leaving.new.words = settled (cleared) _ c.remove_leaving.ensures in
    let w = (gone).table.words in search rules

pub overflow_sub-result : goal.overflow_sub-result
overflow_sub-result c =
    let cleared : let a = c.args in Ticked a.words.now a.store.now a.time c.set_clock.new.words = ticked _ _ _ _ _ c.requires c.drop_sets.ensures c.set_clock.ensures in
    let gone : let a = c.args in Settled a.words.now a.store.now a.time c.remove_leaving.new.words = settled (cleared) _ c.remove_leaving.ensures in
    fewer-objects (gone) (search) (search)

pub interface_count-requires : goal.interface_count-requires
interface_count-requires c =
    let cleared : let a = c.args in Ticked a.words.now a.store.now a.time c.set_clock.new.words = ticked _ _ _ _ _ c.requires c.drop_sets.ensures c.set_clock.ensures in
    let gone : let a = c.args in Settled a.words.now a.store.now a.time c.remove_leaving.new.words = settled (cleared) _ c.remove_leaving.ensures in
    let w = (gone).table.words in search rules

pub overflow_sub-result-2 : goal.overflow_sub-result-2
overflow_sub-result-2 c =
    let cleared : let a = c.args in Ticked a.words.now a.store.now a.time c.set_clock.new.words = ticked _ _ _ _ _ c.requires c.drop_sets.ensures c.set_clock.ensures in
    let gone : let a = c.args in Settled a.words.now a.store.now a.time c.remove_leaving.new.words = settled (cleared) _ c.remove_leaving.ensures in
    fewer-interfaces (gone) (search) (search)

pub set_count-requires : goal.set_count-requires
set_count-requires c =
    let cleared : let a = c.args in Ticked a.words.now a.store.now a.time c.set_clock.new.words = ticked _ _ _ _ _ c.requires c.drop_sets.ensures c.set_clock.ensures in
    let gone : let a = c.args in Settled a.words.now a.store.now a.time c.remove_leaving.new.words = settled (cleared) _ c.remove_leaving.ensures in
    let w = (gone).table.words in search rules

pub overflow_sub-result-3 : goal.overflow_sub-result-3
overflow_sub-result-3 c =
    let cleared : let a = c.args in Ticked a.words.now a.store.now a.time c.set_clock.new.words = ticked _ _ _ _ _ c.requires c.drop_sets.ensures c.set_clock.ensures in
    let gone : let a = c.args in Settled a.words.now a.store.now a.time c.remove_leaving.new.words = settled (cleared) _ c.remove_leaving.ensures in
    fewer-sets (gone) (search) (search)

pub returns : goal.returns
returns c =
    let cleared : let a = c.args in Ticked a.words.now a.store.now a.time c.set_clock.new.words = ticked _ _ _ _ _ c.requires c.drop_sets.ensures c.set_clock.ensures in
    let gone : let a = c.args in Settled a.words.now a.store.now a.time c.remove_leaving.new.words = settled (cleared) _ c.remove_leaving.ensures in
    search (clock-done (gone))
