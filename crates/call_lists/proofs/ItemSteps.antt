-- A step of an item's call is the item done; its number is a byte.
use Prim.Native.Nat.{ℕ, ◌+◌, ◌-◌, ◌*◌, ◌<◌, ◌≤◌}
use mathlib.Core.Path.{◌≡◌, refl, sym, subst, ap, ◌∙◌}
use mathlib.Core.Bool.{Bool, true, false, cond, not, ◌||◌, true≢false}
use mathlib.Core.List.{List}
use mathlib.Core.Logic.{⊎_elim}
use native.Mathlib.Omega.{arith}
use native.Mathlib.Nat.{add-zero}
use borrow.Author.Tests.{eq-eqb, ne_eqb}
use lib.ListN.{length, take, drop, length-drop}
use lib.Seq.{length-take-le}
use Rattle.std.specs.Prelude.{Result, Ok, Err}
use Rattle.kinds.specs.Answers.{answer_number}
use Rattle.kinds.specs.declared.refusal.Refusal.{Refusal}
use Rattle.kinds.specs.Refusals.{order}
use Rattle.kinds.specs.declared.Guid.{Guid}
use Rattle.fields.specs.Fields.{bytes_number, field, guid_at}
use Rattle.fields.proofs.Fields.{field_in, part_of}
use Rattle.lists.proofs.Tests.{same_or_not}
use Rattle.rules.specs.Entries.{Entries, public_of, private_of}
use Rattle.rules.specs.Calls.{Counting, adding, releasing, Reply, numbered}
use Rattle.rules.specs.Items.{Item, item_at, item_call, item_count}
use Rattle.rules.specs.Rules.{is_live_interface, interface_of, passes_count, no_client, refusals, number, next}
use Rattle.rules.specs.Contract.{Memory}
use Rattle.rules.proofs.Stepping.{reply-number, step-sound}
use Rattle.rules.proofs.OneByOne.{item-done}
use Rattle.table_view.specs.View.{memory, view, SoundTable, Stepped}
use Rattle.call_references.specs.Replies.{release_reply, released}
use Rattle.call_references.specs.declared.Taken.{Taken}
use Rattle.call_lists.specs.Listing.{way_of, ItemStepped}

-- the numbers of an item are bytes
small : (a b c : Bool) → cond a 20 (cond b 6 (cond c 8 0)) < 256
small true b c = omega arith
small false true c = omega arith
small false false true = omega arith
small false false false = omega arith

item-byte : (w : Counting) (c : ℕ) (t : Item) (e : Entries) → number (item_call w c t) e < 256
unfolding number refusals order
item-byte adding c t e =
    small (no_client c) (not (is_live_interface e t.ipid))
    (passes_count (public_of (interface_of e t.ipid) + t.public) || passes_count (private_of c (interface_of e t.ipid) + t.private))
item-byte releasing c t e = small (no_client c) (not (is_live_interface e t.ipid)) false

pub item-stepped : (w : Counting) (c : ℕ) (t : Item) {m m' : Memory} {x : Reply} → SoundTable m → Stepped (item_call w c t) m x m'
    → length m'.words ≡ 8192 → length m'.store ≡ 8192 → ItemStepped w c t m x.number m'
item-stepped w c t {m} {m'} {x} s p words store =
    let n : x.number ≡ number (item_call w c t) (view m) = ap (λ (r : Reply). r.number) p.answered ∙ reply-number (item_call w c t) (view m) in
    record {
      number = n;
      byte = subst (λ (k : ℕ). k < 256) (sym n) (item-byte w c t (view m));
      entries =
          ⊎_elim
          (λ z. p.became z ∙ sym (item-done w c t (view m) ∙ ap (λ (b : Bool). cond b (next (item_call w c t) (view m)) (view m)) (eq-eqb _ 0 (sym n ∙ z))))
          (λ z. ap view (p.kept z) ∙ sym (item-done w c t (view m) ∙ ap (λ (b : Bool). cond b (next (item_call w c t) (view m)) (view m)) (ne_eqb _ 0 (λ y. z (n ∙ y)))))
          (same_or_not x.number 0);
      table = step-sound view (item_call w c t) m s p words store;
    }

-- an item given back or added
module _ (c : ℕ) (t : Item) (ws ws' st : List ℕ) (h : SoundTable (memory ws st)) (l : length ws' ≡ length ws) where
  pub item_back : (b : Bool) (x : Result Taken Refusal) → b ≡ true → Stepped (item_call releasing c t) (memory ws st) (release_reply (released x)) (memory ws' st)
      → ItemStepped (way_of b) c t (memory ws st) (answer_number x) (memory ws' st)
  item_back false x e r = absurd (true≢false (sym e))
  item_back true (Ok x) e r = item-stepped releasing c t h r (l ∙ h.words) h.store
  item_back true (Err why) e r = item-stepped releasing c t h r (l ∙ h.words) h.store

  pub item-added : (b : Bool) (n : ℕ) → b ≡ false → Stepped (item_call adding c t) (memory ws st) (numbered n) (memory ws' st)
      → ItemStepped (way_of b) c t (memory ws st) n (memory ws' st)
  item-added true n e r = absurd (true≢false e)
  item-added false n e r = item-stepped adding c t h r (l ∙ h.words) h.store

-- a number in a part of the bytes
part_field : (s : List ℕ) (at n k w : ℕ) → k + w ≤ n → at + n ≤ length s → field (take n (drop at s)) k w ≡ field s (at + k) w
part_field s at n k w h l =
    let d = length-drop at s in
    let z : length (take n (drop at s)) ≡ n = length-take-le n (drop at s) (omega arith) in
    field_in (take n (drop at s)) k w (omega arith)
    ∙ ap bytes_number (sym (part_of s (take n (drop at s)) at n k w refl h))
    ∙ sym (field_in s (at + k) w (omega arith))

-- the fields of item k, in its part of the bytes
module _ (s : List ℕ) (k : ℕ) (l : k < item_count s) where
  abbrev item_part : List ℕ
  item_part = take (24 * k + 24 - 24 * k) (drop (24 * k) s)

  pub part-item : {i : Guid} {p q : ℕ} → i ≡ guid_at item_part 0 → p ≡ field item_part 16 4 → q ≡ field item_part 20 4
      → record { ipid = i; public = p; private = q } ≡ item_at s k
  part-item a b c =
      let z : 24 * k + 24 - 24 * k ≡ 24 = omega arith in
      let f : (j w : ℕ) → j + w ≤ 24 → field item_part j w ≡ field s (24 * k + j) w = λ j w h. rw z (part_field s (24 * k) 24 j w h (omega arith)) in
      rw (a, b, c, f 0 8 (omega arith), f 8 8 (omega arith), f 16 4 (omega arith), f 20 4 (omega arith), add-zero (24 * k))
