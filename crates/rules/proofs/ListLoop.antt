-- The loop of a list call: items are done from the left, and the number of each stands in its byte.
use Prim.Native.Nat.{ℕ, suc, ◌+◌, ◌<◌, ◌≤◌}
use mathlib.Core.Path.{◌≡◌, refl, sym, ap, ◌∙◌}
use mathlib.Core.List.{List, [], ◌∷◌, ◌++◌, append-nil, append_assoc}
use native.Mathlib.Omega.{arith}
use native.Mathlib.Numerals.{add-one}
use lib.ListN.{length, get_or, set, take, drop, length-set, take-append-drop}
use lib.Seq.{drop-length, drop-cons, drop-drop, drop-set-lt, take-suc-set}
use Rattle.lists.specs.Guids.{nil}
use Rattle.rules.specs.Entries.{Entries}
use Rattle.rules.specs.Calls.{Counting}
use Rattle.rules.specs.Items.{Item, item_call}
use Rattle.rules.specs.Rules.{item_done, items_done, item_numbers, number, fronted}
use Rattle.rules.proofs.OneByOne.{length-numbers}

abbrev pub no_item : Item
no_item = record { ipid = nil; public = 0; private = 0 }

-- k items of ts are done: what is left from here comes to the whole
pub record Listed (w : Counting) (c : ℕ) (ts : List Item) (b₀ : List ℕ) (e₀ : Entries) (k : ℕ) (b : List ℕ) (e : Entries) : Type 0 where
  pub within : k ≤ length ts
  pub size : length b ≡ length b₀
  pub entries : items_done w c (drop k ts) e ≡ items_done w c ts e₀
  pub bytes : take k b ++ item_numbers w c (drop k ts) e ≡ item_numbers w c ts e₀
  pub rest : drop k b ≡ drop k b₀

module _ (w : Counting) (c : ℕ) (ts : List Item) (b₀ : List ℕ) (e₀ : Entries) where
  -- none is done
  pub listed-none : Listed w c ts b₀ e₀ 0 b₀ e₀
  listed-none = record { within = omega arith; size = refl; entries = refl; bytes = refl; rest = refl }

  module _ (k : ℕ) (b : List ℕ) (e : Entries) (l : Listed w c ts b₀ e₀ k b e) where
    -- one more: its number is written at k
    pub listed_next : k < length ts → k < length b
        → Listed w c ts b₀ e₀ (k + 1) (set b k (number (item_call w c (get_or ts k no_item)) e)) (item_done w c (get_or ts k no_item) e)
    unfolding items_done item_numbers
    listed_next h g =
        let t = get_or ts k no_item in
        let n = number (item_call w c t) e in
        let q : drop k ts ≡ t ∷ drop (suc k) ts = drop-cons ts k no_item h in
        rw (add-one k)
        (record {
          within = omega arith;
          size = length-set b k n ∙ l.size;
          entries = sym (ap (λ (us : List Item). items_done w c us e) q) ∙ l.entries;
          bytes =
              ap (λ (xs : List ℕ). xs ++ item_numbers w c (drop (suc k) ts) (item_done w c t e)) (take-suc-set b k n g)
              ∙ append_assoc (take k b) (n ∷ []) (item_numbers w c (drop (suc k) ts) (item_done w c t e))
              ∙ ap (λ (us : List Item). take k b ++ item_numbers w c us e) (sym q)
              ∙ l.bytes;
          rest = drop-set-lt (suc k) b k n (omega arith) ∙ later b ∙ ap (drop 1) l.rest ∙ sym (later b₀);
        })
      where
        later : (xs : List ℕ) → drop (suc k) xs ≡ drop 1 (drop k xs)
        later xs = cc (add-one k, drop-drop 1 k xs)

    -- all are done
    pub listed-all : k ≡ length ts → (e ≡ items_done w c ts e₀) × (b ≡ fronted (item_numbers w c ts e₀) b₀)
    unfolding items_done item_numbers
    listed-all h =
        let z : drop k ts ≡ [] = ap (λ (m : ℕ). drop m ts) h ∙ drop-length ts in
        let front : take k b ≡ item_numbers w c ts e₀ =
        sym (append-nil (take k b)) ∙ sym (ap (λ (us : List Item). take k b ++ item_numbers w c us e) z) ∙ l.bytes in (
          sym (ap (λ (us : List Item). items_done w c us e) z) ∙ l.entries,
          sym (take-append-drop k b)
              ∙ (λ u. front u ++ l.rest u)
              ∙ ap (λ (m : ℕ). item_numbers w c ts e₀ ++ drop m b₀) (h ∙ sym (length-numbers w c ts e₀)),
        )
