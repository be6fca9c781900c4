-- What a clause of soundness says of all entries of a kind, by the index of the row.
use Prim.Native.Nat.{ℕ}
use mathlib.Core.Path.{◌≡◌, sym, ap, ◌∙◌}
use mathlib.Core.Bool.{Bool, true, not}
use mathlib.Core.List.{List}
use mathlib.Core.Logic.{⊎_elim}
use native.Mathlib.Omega.{arith}
use borrow.Author.Tests.{lt-ltb, le-ltb}
use lib.Dec.{eqb, ltb}
use lib.ListN.{length, get_or, get_or-eq_default}
use Rattle.lists.specs.Lists.{every, among}
use Rattle.table_columns.specs.Members.{member_rows}
use Rattle.lists.proofs.Tests.{below_or_not}
use Rattle.lists.proofs.Lists.{every_map, every-ext, none-some}
use Rattle.lists.proofs.Distinct.{eqb-decides, same-comm, some_same}
use Rattle.table_columns.proofs.rows.Laws.{row_at-get_or}
use Rattle.rules.specs.Entries.{oids}
use Rattle.rules.specs.Rules.{no_object, no_interface}
use Rattle.table_view.proofs.LiveRows.{objects-length, interfaces-length}
use Rattle.table_view.proofs.Checks.{every_row, rows-checked, entries-checked}
use Rattle.table_view.proofs.MemberRows.{oids-length}
use Rattle.rules.specs.Sound.{held, heard_within, heard_recently, interfaces_held, set_members_live}
use Rattle.table_words.specs.Kinds.{set_kind}
use Rattle.table_view.specs.View.{object_count, interface_count, set_count, as_set, objects_of, interfaces_of, sets_of, memory, view, clock_of, members_at}

-- ---- objects

-- the object of row i was heard in time
abbrev pub heard_row : List ℕ → ℕ → Bool
heard_row ws i = heard_within (clock_of ws) (get_or (objects_of ws) i no_object)

-- every object was where every row was
pub heard-rows : (ws s : List ℕ) (n : ℕ) → n ≡ object_count ws → every_row n (heard_row ws) ≡ heard_recently (view (memory ws s))
heard-rows ws s n e = entries-checked (heard_within (clock_of ws)) no_object n (objects_of ws) (e ∙ sym (objects-length ws))

-- ---- interfaces

-- the interface of row i is held
abbrev pub held_row : List ℕ → ℕ → Bool
held_row ws i = held (get_or (interfaces_of ws) i no_interface)

-- every interface is held where every row is
pub held_rows : (ws s : List ℕ) (n : ℕ) → n ≡ interface_count ws → every_row n (held_row ws) ≡ interfaces_held (view (memory ws s))
held_rows ws s n e = entries-checked held no_interface n (interfaces_of ws) (e ∙ sym (interfaces-length ws))

-- ---- sets

-- what stands at j is among the elements where j is an index, if no element is 0
among-index : (xs : List ℕ) → every (λ x. not (eqb x 0)) xs ≡ true → (j : ℕ) → ltb j (length xs) ≡ among xs (get_or xs j 0)
among-index xs nonzero j =
    ⊎_elim
    (λ h. lt-ltb j (length xs) h ∙ sym (some_same eqb eqb-decides xs 0 j h))
    (λ h.
    let none : every (λ x. not (eqb 0 x)) xs ≡ true = every-ext _ _ (λ x. ap not (same-comm eqb eqb-decides 0 x)) xs ∙ nonzero in
    le-ltb j (length xs) h ∙ sym (rw (get_or-eq_default xs 0 h) (none-some (eqb 0) xs none)))
    (below_or_not j (length xs))

-- the members of the set of row i are below a number of rows
abbrev pub below_row : ℕ → List ℕ → ℕ → Bool
below_row objects ws i = every (λ j. ltb j objects) (member_rows (members_at ws i))

-- every member is live where every set's rows are below the number of objects, if no OID is 0
pub members-rows : (ws s : List ℕ) (n objects : ℕ) → n ≡ set_count ws → objects ≡ object_count ws → every (λ x. not (eqb x 0)) (oids (view (memory ws s))) ≡ true
    → every_row n (below_row objects ws) ≡ set_members_live (view (memory ws s))
unfolding sets_of
members-rows ws s n objects e o nonzero =
    let ids = oids (view (memory ws s)) in
    rows-checked _ (below_row objects ws) set_kind ws (as_set ids) n (set_count ws) e
    (λ i.
    let size : objects ≡ length ids = o ∙ sym (oids-length ws) in
    rw (row_at-get_or set_kind ws i 3 (omega arith), row_at-get_or set_kind ws i 4 (omega arith), size)
    (every-ext _ _ (among-index ids nonzero) _ ∙ sym (every_map (among ids) (λ j. get_or ids j 0) _)))
