-- The loop over a list's items, and the list's own refusals.
use Prim.Native.Nat.{ℕ, ◌+◌, ◌%◌, ◌<◌, ◌≤◌}
use mathlib.Core.Path.{◌≡◌, refl, sym, subst, ◌∙◌}
use mathlib.Core.List.{List}
use native.Mathlib.Omega.{arith}
use borrow.Author.Tests.{lt-ltb, le-ltb, eq-eqb, ne_eqb}
use lib.ListN.{length, get_or, set}
use Rattle.kinds.specs.Refusals.{order}
use Rattle.lists.proofs.Lists.{length-tabulate, get_d_tabulate}
use Rattle.rules.specs.Calls.{Call, Counting}
use Rattle.rules.specs.Items.{Item, item_at, item_count, items_of}
use Rattle.rules.specs.Rules.{refusals, number, next, results, refused_reply, accepted_reply}
use Rattle.rules.specs.Contract.{Memory}
use Rattle.rules.proofs.ListLoop.{no_item, Listed, listed-none, listed_next, listed-all}
use Rattle.table_view.specs.View.{view, SoundTable, Stepped, ipids_of}
use Rattle.table_view.proofs.Steps.{refused-step, accepted-step}
use Rattle.table_columns.specs.Buckets.{guid_bucket, Indexed}
use Rattle.call_lists.specs.Listing.{list_reply, ItemStepped, ListTaken}

items-length : (s : List ℕ) → length (items_of s) ≡ item_count s
unfolding items_of
items-length s = length-tabulate (item_count s) (item_at s)

items_at : (s : List ℕ) (k : ℕ) → k < item_count s → get_or (items_of s) k no_item ≡ item_at s k
unfolding items_of
items_at s k h = get_d_tabulate (item_count s) (item_at s) no_item k h

-- k items are done, the table is sound and its IPIDs have numbers
pub record Going (w : Counting) (c : ℕ) (s b₀ : List ℕ) (m₀ : Memory) (k : ℕ) (b rows : List ℕ) (m : Memory) : Type 0 where
  pub listed : Listed w c (items_of s) b₀ (view m₀) k b (view m)
  pub table : SoundTable m
  pub index : Indexed guid_bucket rows (ipids_of m.words)

module _ (w : Counting) (c : ℕ) (s b₀ : List ℕ) (m₀ : Memory) where
  pub going-none : (rows : List ℕ) → SoundTable m₀ → Indexed guid_bucket rows (ipids_of m₀.words) → Going w c s b₀ m₀ 0 b₀ rows m₀
  going-none rows t i = record { listed = listed-none w c (items_of s) b₀ (view m₀); table = t; index = i }

  module _ (k : ℕ) (b rows : List ℕ) (m : Memory) (g : Going w c s b₀ m₀ k b rows m) where
    -- one more
    pub going_next : (t : Item) (r : ℕ) (rows' : List ℕ) (m' : Memory) → k < item_count s → t ≡ item_at s k → ItemStepped w c t m r m' → ListTaken c s b₀
        → Indexed guid_bucket rows' (ipids_of m'.words) → Going w c s b₀ m₀ (k + 1) (set b k r) rows' m'
    going_next t r rows' m' h e p l x =
        let n = items-length s in
        let z = g.listed.size in
        let room = l.room in
        let q = subst (λ (i : Item). ItemStepped w c i m r m') (e ∙ sym (items_at s k h)) p in
        let j = listed_next w c (items_of s) b₀ (view m₀) k b (view m) g.listed (omega arith) (omega arith) in
        record { listed = rw (q.number, q.entries) j; table = p.table; index = x }

    pub going-within : k ≤ item_count s
    going-within = let l = items-length s in let w = g.listed.within in omega arith

    -- all are done
    pub going-all : (item_count s ≤ k) → ListTaken c s b₀ → Stepped (Call.count_list w c s b₀) m₀ (list_reply 0 b) m
    unfolding accepted_reply results next number refusals order
    going-all h l =
        let i = going-within in
        let n = items-length s in
        let e : k ≡ length (items_of s) = omega arith in
        let a = listed-all w c (items_of s) b₀ (view m₀) k b (view m) g.listed e in
        subst (λ (x : List ℕ). Stepped (Call.count_list w c s b₀) m₀ (list_reply 0 x) m) (sym a.1)
        (accepted-step 0
        (rw (le-ltb 7 c l.client, eq-eqb (length s % 24) 0 l.whole, le-ltb 65535 (item_count s) l.most, le-ltb (length b₀) (item_count s) l.room)) refl m a.0)

  -- the list is refused
  pub no-client : 7 < c → Stepped (Call.count_list w c s b₀) m₀ (list_reply 20 b₀) m₀
  unfolding refused_reply results number refusals order
  no-client h = refused-step 20 (rw (lt-ltb 7 c h)) (λ z. omega arith)

  module _ (client : c ≤ 7) where
    pub not-whole : (length s % 24 ≡ 0 → ⊥) → Stepped (Call.count_list w c s b₀) m₀ (list_reply 13 b₀) m₀
    unfolding refused_reply results number refusals order
    not-whole h = refused-step 13 (rw (le-ltb 7 c client, ne_eqb (length s % 24) 0 h)) (λ z. omega arith)

    module _ (whole : length s % 24 ≡ 0) where
      pub too_many_lem : 65535 < item_count s → Stepped (Call.count_list w c s b₀) m₀ (list_reply 10 b₀) m₀
      unfolding refused_reply results number refusals order
      too_many_lem h = refused-step 10 (rw (le-ltb 7 c client, eq-eqb (length s % 24) 0 whole, lt-ltb 65535 (item_count s) h)) (λ z. omega arith)

      pub no_room : item_count s ≤ 65535 → length b₀ < item_count s → Stepped (Call.count_list w c s b₀) m₀ (list_reply 15 b₀) m₀
      unfolding refused_reply results number refusals order
      no_room l h =
          refused-step 15 (rw (le-ltb 7 c client, eq-eqb (length s % 24) 0 whole, le-ltb 65535 (item_count s) l, lt-ltb (length b₀) (item_count s) h)) (λ z. omega arith)
