-- Adds and releases enter no interface, so the index of the IPIDs stays good; an IPID whose bucket has no number is unknown.
use Prim.Native.Nat.{ℕ, ◌<◌, ◌≤◌}
use mathlib.Core.Path.{◌≡◌, refl, ap, ◌∙◌}
use mathlib.Core.Bool.{Bool, true, false, not}
use mathlib.Core.List.{List}
use native.Mathlib.Omega.{arith}
use borrow.Author.Tests.{ltb-false}
use lib.Dec.{eqb}
use lib.ListN.{length, get_or, length-map}
use Rattle.kinds.specs.declared.Guid.{Guid}
use Rattle.kinds.proofs.Refusing.{by-test}
use Rattle.lists.specs.Lists.{every, some}
use Rattle.lists.specs.Guids.{same_guid}
use Rattle.lists.proofs.Guids.{guid-decides}
use Rattle.lists.proofs.Lists.{map-unread-at}
use Rattle.lists.proofs.First.{some_first, first-le}
use Rattle.lists.proofs.Distinct.{sublist-keep}
use Rattle.table_columns.specs.Buckets.{guid_bucket, Indexed}
use Rattle.table_columns.proofs.buckets.Absence.{each-absent}
use Rattle.rules.specs.Entries.{Interface, Entries, interface_ipids, interface_row}
use Rattle.rules.specs.Calls.{Counting, adding, releasing}
use Rattle.rules.specs.Items.{Item, item_call}
use Rattle.rules.specs.Sound.{held}
use Rattle.rules.specs.Rules.{increased, decreased, counted, item_done, number}
use Rattle.rules.specs.Contract.{Whole}
use Rattle.table_view.specs.View.{interface_count, interfaces_of, memory, view, ipids_of}
use Rattle.table_view.proofs.LiveRows.{interfaces-length}
use Rattle.call_lists.specs.Listing.{ItemStepped}

abbrev ipid_of : Interface → Guid
ipid_of i = i.ipid

ipids-length : (ws : List ℕ) → length (ipids_of ws) ≡ interface_count ws
ipids-length ws = length-map (interfaces_of ws) ipid_of ∙ interfaces-length ws

module _ (p : Guid → Bool) (i : Guid) (a b c : ℕ) (e : Entries) (h : every p (interface_ipids e) ≡ true) where
  -- what every IPID passes, every one that is left passes
  counted-kept : (w : Counting) → every p (interface_ipids (counted w c i a b e)) ≡ true
  counted-kept adding = ap (every p) (map-unread-at (λ (x : Interface). same_guid i x.ipid) (increased c a b) ipid_of (λ x. refl) e.interfaces) ∙ h
  counted-kept releasing =
      (sublist-keep ipid_of _ _).passes p
      ((sublist-keep ipid_of held _).passes p
      (ap (every p) (map-unread-at (λ (x : Interface). same_guid i x.ipid) (decreased c a b) ipid_of (λ x. refl) e.interfaces) ∙ h))

ipids-kept : (p : Guid → Bool) (w : Counting) (c : ℕ) (t : Item) (e : Entries) → every p (interface_ipids e) ≡ true → every p (interface_ipids (item_done w c t e)) ≡ true
ipids-kept p w c t e h =
    by-test (λ (f : Entries). every p (interface_ipids f) ≡ true) (eqb (number (item_call w c t) e) 0) (counted w c t.ipid t.public t.private e) e
    (λ u. counted-kept p t.ipid t.public t.private c e h w) (λ u. h)

pub indexed-next : {w : Counting} {c : ℕ} {t : Item} {ws ws' st : List ℕ} {r : ℕ} {rows : List ℕ} → ItemStepped w c t (memory ws st) r (memory ws' st)
    → Indexed guid_bucket rows (ipids_of ws) → Whole ws' × Indexed guid_bucket rows (ipids_of ws')
indexed-next {w} {c} {t} {ws} {ws'} {st} {r} {rows} s k =
    let p : Guid → Bool = λ (g : Guid). not (eqb (get_or rows (guid_bucket g) 0) 0) in
    (s.table.words, record { size = k.size; each = ap (λ (e : Entries). every p (interface_ipids e)) s.entries ∙ ipids-kept p w c t (view (memory ws st)) k.each })

-- an IPID whose bucket has no number has no row
pub unknown-row : (ws s : List ℕ) (i : Guid) {rows : List ℕ} {b n : ℕ} → Indexed guid_bucket rows (ipids_of ws) → (b ≡ guid_bucket i) × (b < 4096) → get_or rows b 0 ≡ 0 → n ≡ interface_count ws
    → n ≡ interface_row (view (memory ws s)) i
unknown-row ws s i {rows} {b} {n} m q f c =
    let xs : List Guid = ipids_of ws in
    let absent : some (same_guid i) xs ≡ false = each-absent guid_bucket (λ (k : ℕ). not (eqb k 0)) 0 same_guid guid-decides xs rows i m.each (rw (← q.0, f)) in
    let past : length xs ≤ interface_row (view (memory ws s)) i = ltb-false _ _ (some_first (same_guid i) xs ∙ absent) in
    let most : interface_row (view (memory ws s)) i ≤ length xs = first-le (same_guid i) xs in
    let l = ipids-length ws in
    omega arith
