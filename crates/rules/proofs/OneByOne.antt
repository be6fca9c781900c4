-- A list of adds or releases by the single calls of its items, and cut between items.
use Prim.Native.Nat.{ℕ, zero, suc, ◌+◌, ◌*◌, ◌/◌, ◌%◌, ◌<◌, ◌≤◌}
use mathlib.Core.Path.{◌≡◌, refl, sym, ap, ◌∙◌}
use mathlib.Core.Bool.{Bool, true, false, cond, not, ◌||◌}
use mathlib.Core.List.{List, [], ◌∷◌, ◌++◌, map}
use mathlib.Core.Logic.{⊎_elim}
use native.Mathlib.Omega.{arith}
use borrow.Author.Tests.{eq-eqb, le-ltb, ltb-false, eqb-true, not-false, le-leb, lt-leb}
use lib.ListN.{length, take, drop, length-append}
use lib.Seq.{drop-append-add}
use lib.Dec.{eqb, leb}
use Rattle.kinds.specs.Refusals.{order}
use Rattle.kinds.proofs.Refusing.{passed}
use Rattle.fields.specs.Fields.{bytes_number, field}
use Rattle.fields.proofs.Fields.{field-front}
use Rattle.lists.specs.Lists.{every, tabulate}
use Rattle.lists.proofs.Tests.{below_or_not, and_intro}
use Rattle.lists.proofs.Lists.{length-tabulate, tabulate-ext}
use Rattle.rules.specs.Entries.{Entries, public_of, private_of}
use Rattle.rules.specs.Calls.{Counting, adding, releasing, count_list}
use Rattle.rules.specs.Items.{Item, item_at, item_count, items_of, item_call}
use Rattle.rules.specs.Rules.{is_live_interface, interface_of, passes_count, no_client, counted, item_done, items_done, item_numbers, refusals, number, next, results, accepted_reply}
use Rattle.rules.specs.OneByOne.{calls_done, call_numbers, ListsOneByOne, ListsCut}

-- ---- one by one

-- an item's rule is its call's
pub item-next : (w : Counting) (c : ℕ) (t : Item) (e : Entries) → counted w c t.ipid t.public t.private e ≡ next (item_call w c t) e
unfolding next
item-next adding c t e = refl
item-next releasing c t e = refl

pub item-done : (w : Counting) (c : ℕ) (t : Item) (e : Entries) → item_done w c t e ≡ cond (eqb (number (item_call w c t) e) 0) (next (item_call w c t) e) e
item-done w c t e = ap (λ (f : Entries). cond (eqb (number (item_call w c t) e) 0) f e) (item-next w c t e)

pub items-done : (w : Counting) (c : ℕ) (ts : List Item) (e : Entries) → items_done w c ts e ≡ calls_done (map (item_call w c) ts) e
unfolding items_done calls_done
items-done w c [] e = refl
items-done w c (t ∷ ts) e = ap (items_done w c ts) (item-done w c t e) ∙ items-done w c ts _

pub item-numbers : (w : Counting) (c : ℕ) (ts : List Item) (e : Entries) → item_numbers w c ts e ≡ call_numbers (map (item_call w c) ts) e
unfolding item_numbers call_numbers
item-numbers w c [] e = refl
item-numbers w c (t ∷ ts) e = ap (λ (l : List ℕ). number (item_call w c t) e ∷ l) (ap (item_numbers w c ts) (item-done w c t e) ∙ item-numbers w c ts _)

-- as many items as there are whole ones, and as many numbers
length-items : (s : List ℕ) → length (items_of s) ≡ item_count s
unfolding items_of
length-items s = length-tabulate (item_count s) (item_at s)

pub length-numbers : (w : Counting) (c : ℕ) (ts : List Item) (e : Entries) → length (item_numbers w c ts e) ≡ length ts
unfolding item_numbers
length-numbers w c [] e = refl
length-numbers w c (t ∷ ts) e = ap suc (length-numbers w c ts (item_done w c t e))

-- where the client is one, an item's number is 0, 6 or 8
abbrev item_number : ℕ → Bool
item_number n = eqb n 0 || eqb n 6 || eqb n 8

one_of_three : (a b : Bool) → item_number (cond a 6 (cond b 8 0)) ≡ true
one_of_three true b = refl
one_of_three false true = refl
one_of_three false false = refl

item-number : (w : Counting) (c : ℕ) (t : Item) (e : Entries) → no_client c ≡ false → item_number (number (item_call w c t) e) ≡ true
unfolding number refusals order
item-number adding c t e h =
    rw h
    (one_of_three (not (is_live_interface e t.ipid))
    (passes_count (public_of (interface_of e t.ipid) + t.public) || passes_count (private_of c (interface_of e t.ipid) + t.private)))
item-number releasing c t e h = rw h (one_of_three (not (is_live_interface e t.ipid)) false)

numbers-each : (w : Counting) (c : ℕ) (ts : List Item) (e : Entries) → no_client c ≡ false → every item_number (item_numbers w c ts e) ≡ true
unfolding item_numbers every
numbers-each w c [] e h = refl
numbers-each w c (t ∷ ts) e h = and_intro _ _ (item-number w c t e h) (numbers-each w c ts (item_done w c t e) h)

-- what an accepted list's refusals say
record Accepted (c : ℕ) (s b : List ℕ) : Type 0 where
  client : no_client c ≡ false
  whole : length s % 24 ≡ 0
  limit : item_count s ≤ 65535
  room : item_count s ≤ length b

accepted : (w : Counting) (c : ℕ) (s b : List ℕ) (e : Entries) → number (count_list w c s b) e ≡ 0 → Accepted c s b
unfolding number refusals
accepted w c s b e h =
    let x = passed _ 20 _ (omega arith) h in
    let y = passed _ 13 _ (omega arith) x.1 in
    let z = passed _ 10 _ (omega arith) y.1 in
    record {
      client = x.0;
      whole = eqb-true (length s % 24) 0 (not-false _ y.0);
      limit = ltb-false 65535 (item_count s) z.0;
      room = ltb-false (length b) (item_count s) (passed _ 15 _ (omega arith) z.1).0;
    }

accepts : (w : Counting) (c : ℕ) (s b : List ℕ) (e : Entries) → Accepted c s b → number (count_list w c s b) e ≡ 0
unfolding number refusals order
accepts w c s b e a = rw (a.client, eq-eqb (length s % 24) 0 a.whole, le-ltb 65535 (item_count s) a.limit, le-ltb (length b) (item_count s) a.room)

pub lists-one-by-one : ListsOneByOne
unfolding next accepted_reply results
lists-one-by-one w c s b e h =
    let n = length-numbers w c (items_of s) e ∙ length-items s in
    record {
      entries = items-done w c (items_of s) e;
      bytes = (λ u. item-numbers w c (items_of s) e u ++ drop (n u) b);
      numbers = numbers-each w c (items_of s) e (accepted w c s b e h).client;
    }

-- ---- cut between items

-- items in two parts
done-append : (w : Counting) (c : ℕ) (ts us : List Item) (e : Entries) → items_done w c (ts ++ us) e ≡ items_done w c us (items_done w c ts e)
unfolding items_done
done-append w c [] us e = refl
done-append w c (t ∷ ts) us e = done-append w c ts us (item_done w c t e)

numbers-append : (w : Counting) (c : ℕ) (ts us : List Item) (e : Entries) → item_numbers w c (ts ++ us) e ≡ item_numbers w c ts e ++ item_numbers w c us (items_done w c ts e)
unfolding items_done item_numbers
numbers-append w c [] us e = refl
numbers-append w c (t ∷ ts) us e = ap (λ (l : List ℕ). number (item_call w c t) e ∷ l) (numbers-append w c ts us (item_done w c t e))

-- a table in two parts
tabulate-append : {A : Type 0} (a b : ℕ) (f : ℕ → A) → tabulate (a + b) f ≡ tabulate a f ++ tabulate b (λ i. f (a + i))
unfolding tabulate
tabulate-append zero b f = let q : 0 + b ≡ b = omega arith in ap (λ (n : ℕ). tabulate n f) q ∙ tabulate-ext b f (λ i. f (0 + i)) (λ i h. let r : i ≡ 0 + i = omega arith in ap f r)
tabulate-append {A} (suc a) b f =
    let q : suc a + b ≡ suc (a + b) = omega arith in
    cc (q, tabulate-append a b (λ i. f (suc i)), tabulate-ext b (λ i. f (suc (a + i))) (λ i. f (suc a + i)) (λ i h. let r : suc (a + i) ≡ suc a + i = omega arith in ap f r))

-- a field behind the first bytes
pub field_back : (s t : List ℕ) (at w : ℕ) → field (s ++ t) (length s + at) w ≡ field t at w
unfolding field
field_back s t at w = λ u. cond (tests u) (bytes_number (take w (drop-append-add s t at u))) 0
  where
    tests : leb (length s + at + w) (length (s ++ t)) ≡ leb (at + w) (length t)
    tests =
        let l = length-append s t in
        ⊎_elim
        (λ (b : length t < at + w). lt-leb (length s + at + w) (length (s ++ t)) (omega arith) ∙ sym (lt-leb (at + w) (length t) b))
        (λ (b : at + w ≤ length t). le-leb (length s + at + w) (length (s ++ t)) (omega arith) ∙ sym (le-leb (at + w) (length t) b))
        (below_or_not (length t) (at + w))

-- the items of bytes in two parts, of which the first has whole items
items-append : (s t : List ℕ) → length s % 24 ≡ 0 → items_of (s ++ t) ≡ items_of s ++ items_of t
unfolding items_of
items-append s t h =
    let l = length-append s t in
    let q : length (s ++ t) / 24 ≡ length s / 24 + length t / 24 = omega arith in
    ap (λ (n : ℕ). tabulate n (item_at (s ++ t))) q
    ∙ tabulate-append (length s / 24) (length t / 24) (item_at (s ++ t))
    ∙ (λ u.
    tabulate-ext (length s / 24) (item_at (s ++ t)) (item_at s) before u
    ++ tabulate-ext (length t / 24) (λ i. item_at (s ++ t) (length s / 24 + i)) (item_at t) behind u)
  where
    before : (i : ℕ) → i < length s / 24 → item_at (s ++ t) i ≡ item_at s i
    before i b u =
        record {
          ipid = record { low = field-front s t (24 * i) 8 (omega arith) u; high = field-front s t (24 * i + 8) 8 (omega arith) u };
          public = field-front s t (24 * i + 16) 4 (omega arith) u;
          private = field-front s t (24 * i + 20) 4 (omega arith) u;
        }

    at_place : (i k w : ℕ) → field (s ++ t) (24 * (length s / 24 + i) + k) w ≡ field t (24 * i + k) w
    at_place i k w =
        let q : 24 * (length s / 24 + i) + k ≡ length s + (24 * i + k) = omega arith in
        cc (q, field_back s t (24 * i + k) w)

    first-place : (i w : ℕ) → field (s ++ t) (24 * (length s / 24 + i)) w ≡ field t (24 * i) w
    first-place i w =
        let q : 24 * (length s / 24 + i) ≡ length s + 24 * i = omega arith in
        cc (q, field_back s t (24 * i) w)

    behind : (i : ℕ) → i < length t / 24 → item_at (s ++ t) (length s / 24 + i) ≡ item_at t i
    behind i b u =
        record {
          ipid = record { low = first-place i 8 u; high = at_place i 8 8 u };
          public = at_place i 16 4 u;
          private = at_place i 20 4 u;
        }

pub lists-cut : ListsCut
unfolding next results
lists-cut w c s t b b₁ b₂ e h d r₁ r₂ =
    let a = accepted w c (s ++ t) b e h in
    let l = length-append s t in
    let i = items-append s t d in
    record {
      first = accepts w c s b₁ e (record { client = a.client; whole = d; limit = (let m = a.limit in omega arith); room = r₁ });
      second = accepts w c t b₂ _ (record { client = a.client; whole = (let m = a.whole in omega arith); limit = (let m = a.limit in omega arith); room = r₂ });
      entries = ap (λ (ts : List Item). items_done w c ts e) i ∙ done-append w c (items_of s) (items_of t) e;
      bytes = ap (λ (ts : List Item). item_numbers w c ts e) i ∙ numbers-append w c (items_of s) (items_of t) e;
    }
