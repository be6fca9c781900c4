-- `sections::put_entries`: one section after the other.
use Rattle.call_save.proofs.sections.SectionRows.{PartsLeft, left-2, left-4, room-numbers, room-exporters, room-objects, room-interfaces, room-sets, all-put}
use Rattle.call_save.proofs.sections.put_entries.Goals as goal

pub put_numbers-at-requires : goal.put_numbers-at-requires
put_numbers-at-requires c = search room-numbers

pub put_sorted-at-requires : goal.put_sorted-at-requires
put_sorted-at-requires c = search room-exporters

pub put_section-at-requires : goal.put_section-at-requires
put_section-at-requires c =
    let two : let a = c.args in PartsLeft 2 a.words.now a.store.now a.buffer.now c.put_sorted-at.new.buffer c.put_sorted-at.result = search left-2 in
    let k = two in search room-objects

pub put_sorted-at-requires-2 : goal.put_sorted-at-requires-2
put_sorted-at-requires-2 c =
    let two : let a = c.args in PartsLeft 2 a.words.now a.store.now a.buffer.now c.put_sorted-at.new.buffer c.put_sorted-at.result = search left-2 in
    let k = two in search room-interfaces

pub put_sorted-requires : goal.put_sorted-requires
put_sorted-requires c =
    let two : let a = c.args in PartsLeft 2 a.words.now a.store.now a.buffer.now c.put_sorted-at.new.buffer c.put_sorted-at.result = search left-2 in
    let four : let a = c.args in PartsLeft 4 a.words.now a.store.now a.buffer.now c.put_sorted-at-2.new.buffer c.put_sorted-at-2.result = left-4 _ _ _ _ _ (two) _ _ c.put_section-at.ensures _ _ c.put_sorted-at-2.ensures in
    let k = four in search room-sets

pub returns : goal.returns
returns c =
    let two : let a = c.args in PartsLeft 2 a.words.now a.store.now a.buffer.now c.put_sorted-at.new.buffer c.put_sorted-at.result = search left-2 in
    let four : let a = c.args in PartsLeft 4 a.words.now a.store.now a.buffer.now c.put_sorted-at-2.new.buffer c.put_sorted-at-2.result = left-4 _ _ _ _ _ (two) _ _ c.put_section-at.ensures _ _ c.put_sorted-at-2.ensures in
    let k = four in search all-put
