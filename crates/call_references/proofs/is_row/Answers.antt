-- `call_references::is_row`: identifiers are distinct, so a row that has the IPID is the first that has it.
use Prim.Native.Nat.{ℕ, ◌<◌}
use mathlib.Core.Path.{◌≡◌, sym, ap, ◌∙◌}
use mathlib.Core.Bool.{Bool, true, true≢false}
use mathlib.Core.List.{List, map}
use native.Mathlib.Omega.{arith}
use borrow.Author.Tests.{le-ltb}
use lib.ListN.{length, get_or, length-map}
use Rattle.kinds.specs.declared.Guid.{Guid}
use Rattle.lists.specs.Lists.{first_index}
use Rattle.lists.specs.Guids.{same_guid}
use Rattle.lists.proofs.Guids.{guid-decides}
use Rattle.lists.proofs.Distinct.{first-same}
use Rattle.lists.proofs.Lists.{get_d_map}
use Rattle.rules.specs.Entries.{Interface, interface_row}
use Rattle.rules.specs.Rules.{no_interface}
use Rattle.rules.proofs.ByRow.{interfaces-distinct}
use Rattle.table_view.specs.View.{interface_count, interfaces_of, memory, view, Holds, SoundTable}
use Rattle.table_view.proofs.LiveRows.{interfaces-length}
use Rattle.call_references.proofs.is_row.Goals as goal

has-ipid : (ws t : List ℕ) (row : ℕ) (i : Guid) {n : ℕ} {g : Guid} {r : Bool} → SoundTable (memory ws t) → n ≡ interface_count ws → row < n
    → g ≡ (get_or (interfaces_of ws) row no_interface).ipid → r ≡ same_guid g i → r ≡ true → Holds (λ e. row ≡ interface_row e i) ws
has-ipid ws t row i h e b p q x s =
    let is : List Interface = interfaces_of ws in
    let f : Interface → Guid = λ (j : Interface). j.ipid in
    let l = interfaces-length ws in
    let in_is : row < length is = omega arith in
    let in_map : row < length (map f is) = rw (length-map is f) in_is in
    sym (first-same same_guid guid-decides (map f is) (f no_interface) row (interfaces-distinct (view (memory ws t)) h.entries) in_map)
    ∙ ap (λ (g : Guid). first_index (same_guid g) (map f is)) (get_d_map f is no_interface (f no_interface) row in_is ∙ sym p ∙ guid-decides.sound _ _ (sym q ∙ x))

pub returns-then-row-interface_count : goal.returns-then-row-interface_count
returns-then-row-interface_count c = search has-ipid

pub returns-else-row-interface_count : goal.returns-else-row-interface_count
returns-else-row-interface_count = (λ c t. absurd (true≢false (sym t ∙ le-ltb _ _ c.if-row-interface_count.false)))
